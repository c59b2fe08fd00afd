-- `read_rest` meets its contract: the plate from what the steps give.
use mathlib.Core.Path.{◌≡◌, refl, sym, ap, subst, ◌∙◌}
use mathlib.Core.List.{[], ◌∷◌}
use Prim.Native.Nat.{ℕ, ◌+◌, ◌<◌}
use native.Mathlib.Omega.{arith}
use lib.ListN.{length}
use Rattle.std.proofs.Common.{Some}
use Rattle.finite.specs.Tables.{Table}
use Rattle.embedding.specs.Plates.{Plate, plate, darts, reach}
use Rattle.embedding.specs.Steps.{OrderRead}
use Rattle.embedding.specs.Meant.{place_in, StandFor, Accepted}
use Rattle.embedding.specs.Read.{Follows, FacesLabelled}
use Rattle.embedding.proofs.Counting.{few_most}
use Rattle.embedding.proofs.Holding.{stands-meant, held_stands, held_accepted}
use Rattle.embedding.proofs.Whole.{Early, early, ends_below, PastOrder, refused_15, no_fault, next_follows, next_one, sizes_first, faces_most}
use Rattle.embedding.proofs.reading.Lists.read_rest.Goals as goal
use Rattle.embedding.proofs.reading.Lists.read_rest.Goals.{Else-darts-from, After-faces-labelled, After-plate_sizes}

-- past 12
module _ (c : Else-darts-from) where
  abbrev p : Plate
  p = plate c.args.self.now.posts c.args.self.now.ends.now c.args.self.now.order.now c.args.self.now.outer

  first : Early c.args.self.now.posts
  first = early c.args.self.now.posts c.args.self.now.ends.now c.requires.early

  read : OrderRead c.args.self.now.posts c.args.self.now.ends.now c.args.self.now.order.now (Some c.in_ok-places.places)
  read = subst (OrderRead c.args.self.now.posts c.args.self.now.ends.now c.args.self.now.order.now) c.in_ok-places.ensures.ok_part c.read_order.ensures

  past_order : PastOrder p c.args.degrees
  past_order = record { past = c.requires; long = c.if-self-darts.false; parts = read.ok c.args.self.now.outer }

  places : Table 256 (place_in p) c.in_ok-places.places
  places = read.places c.args.self.now.outer

  inner : p.outer < darts p
  inner = omega (arith, c.if-darts-from.false, c.from.ensures)

-- the faces labelled
module _ (c : After-faces-labelled) where
  abbrev q : Plate
  q = plate c.args.self.now.posts c.args.self.now.ends.now c.args.self.now.order.now c.args.self.now.outer

  follows : PastOrder q c.args.degrees → Table 256 (place_in q) c.in_ok-places.places → Follows q (darts q) c.next_darts-next.result
  follows h t = next_follows h c.args.self.now.even c.args.self.now.short t c.next_darts-next.ensures

  labels : PastOrder q c.args.degrees → Table 256 (place_in q) c.in_ok-places.places → FacesLabelled q c.faces-labelled.result
  labels h t = c.faces-labelled.ensures q (follows h t)

  joined : length (reach q.posts q (0 ∷ [])) ≡ q.posts
  joined = sym (c.reach_count.ensures c.args.self.now.order.now c.args.self.now.outer) ∙ c.if-reach_count-self.false

pub invariant_of-ordered : goal.invariant_of-ordered
invariant_of-ordered c =
    let s = (goal.at.invariant_of-ordered c).Else-darts-from in
    record {
      some = (first s).some_post;
      few = (first s).posts_most;
      short = c.args.self.now.short;
      even = c.args.self.now.even;
      below = ends_below (p s) c.requires;
      four = few_most (first s).posts_most c.requires.few;
    }

pub invariant_of-faces : goal.invariant_of-faces
invariant_of-faces c =
    let s = (goal.at.invariant_of-faces c).Else-darts-from in
    record { few = c.args.self.now.short; one = next_one (past_order s) c.args.self.now.even c.args.self.now.short (places s) c.next_darts-next.ensures }

pub overflow_add-self : goal.overflow_add-self
overflow_add-self c =
    let s = (goal.at.overflow_add-self c).Else-darts-from in
    let l = (goal.at.overflow_add-self c).After-faces-labelled in
    omega (arith, (first s).posts_most, c.args.self.now.short, (labels l (past_order s) (places s)).count, faces_most (p s))

pub returns-then-self-labelled : goal.returns-then-self-labelled
returns-then-self-labelled c =
    let s = (goal.at.returns-then-self-labelled c).Else-darts-from in
    let l = (goal.at.returns-then-self-labelled c).After-faces-labelled in
    let n = c.args.self.now.posts in
    refused_15 (past_order s) (inner s) (joined l) (λ e. c.if-self-labelled.true (ap (λ (k : ℕ). n + k) (labels l (past_order s) (places s)).count ∙ e))

-- the plate
module _ (c : After-plate_sizes) where
  abbrev r : Plate
  r = plate c.args.self.now.posts c.args.self.now.ends.now c.args.self.now.order.now c.args.self.now.outer

  whole : Table 256 (place_in r) c.in_ok-places.places → Follows r (darts r) c.next_darts-next.result → FacesLabelled r c.faces-labelled.result
      → StandFor r c.args.self.now.posts (length c.args.self.now.ends.now) c.padded.result c.in_ok-places.places c.args.degrees c.args.self.now.outer c.next_darts-next.result c.faces-labelled.result.face c.faces-labelled.result.faces c.plate_sizes.result
  whole t f l =
      record {
        same_posts = refl;
        dart_count = refl;
        strip_ends = c.padded.ensures;
        four_places = t;
        post_degrees = c.requires.few.table;
        outer_dart = refl;
        next-darts = f.table;
        face_numbers = l.face;
        face_count = l.count;
        face_sizes = rw c.plate_sizes.ensures (sizes_first r l.sizes);
      }

  accepted : PastOrder r c.args.degrees → r.outer < darts r → length (reach r.posts r (0 ∷ [])) ≡ r.posts → FacesLabelled r c.faces-labelled.result → Accepted r
  accepted h i j l = record { no_fault = no_fault h i j (ap (λ (k : ℕ). c.args.self.now.posts + k) (sym l.count) ∙ c.if-self-labelled.false); even_darts = c.args.self.now.even }

pub invariant_of-result : goal.invariant_of-result
invariant_of-result c =
    let s = (goal.at.invariant_of-result c).Else-darts-from in
    let l = (goal.at.invariant_of-result c).After-faces-labelled in
    let e = (goal.at.invariant_of-result c).After-plate_sizes in
    let k = whole e (places s) (follows l (past_order s) (places s)) (labels l (past_order s) (places s)) in
    let a = accepted e (past_order s) (inner s) (joined l) (labels l (past_order s) (places s)) in
    record { stands = held_stands k a; accepted = held_accepted k a }

pub returns : goal.returns
returns c =
    let s = (goal.at.returns c).Else-darts-from in
    let l = (goal.at.returns c).After-faces-labelled in
    let e = (goal.at.returns c).After-plate_sizes in
    let k = whole e (places s) (follows l (past_order s) (places s)) (labels l (past_order s) (places s)) in
    let a = accepted e (past_order s) (inner s) (joined l) (labels l (past_order s) (places s)) in
    record { number = sym a.no_fault; plate = stands-meant k a }
