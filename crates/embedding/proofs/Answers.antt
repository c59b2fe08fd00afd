-- For readers of a plate: what a reading gives is determined, and what its faces are.
use mathlib.Core.Path.{◌≡◌, sym, ap, subst, ◌∙◌}
use mathlib.Core.HLevel.{is_prop→PathP}
use denote.Struct.Props.{props}
use Rattle.std.proofs.Common.{Result, Ok, Err}
use Rattle.refusals.specs.declared.Refusal.{Refusal}
use Rattle.embedding.specs.Meant.{place_in}
use Rattle.embedding.specs.Read.{Stands, Reads}
use Rattle.embedding.specs.declared.Plate.{Plate as Held}
use Rattle.finite.specs.Tables.{up_to}
use Rattle.finite.proofs.Tables.{table_only}
use mathlib.Core.Bool.{Bool, true, false}
use mathlib.Core.List.{List, [], ◌∷◌}
use mathlib.Core.Logic.{⊎_elim}
use Prim.Native.Nat.{ℕ, suc, ◌≤◌, ◌<◌}
use native.Mathlib.Omega.{arith}
use borrow.Author.Tests.{eq-eqb, ne_eqb}
use lib.ListN.{length, get_or}
use Rattle.finite.proofs.Members.{in_none, in_past}
use Rattle.finite.proofs.Tests.{equal_or_not}
use Rattle.embedding.specs.Plates.{is_in, Plate, darts, degree, after, faces}
use Rattle.embedding.specs.Meant.{lead, place_of, face_number, face_size, StandFor, held, Accepted}
use Rattle.embedding.proofs.Rotation.{Ordered}
use Rattle.embedding.proofs.Faces.{lead_in_faces}
use Rattle.embedding.proofs.Faultless.{Faultless}
use Rattle.embedding.proofs.Degrees.{darts_most}
use Rattle.refusals.proofs.Numbered.{some_number}
use Rattle.refusals.proofs.OneNumber.{same_refusal}

-- what a plate keeps has one proof
stand_prop : (p : Plate) (posts count : ℕ) (ends places degrees : List ℕ) (outer : ℕ) (next face : List ℕ) (face_total : ℕ) (sizes : List ℕ)
    → IsProp (StandFor p posts count ends places degrees outer next face face_total sizes)
stand_prop p posts count ends places degrees outer next face face_total sizes = hlevel props

accepted_prop : (p : Plate) → IsProp (Accepted p)
accepted_prop p = hlevel props

-- one value stands for a plate
module _ (p : Plate) (q r : Held) (s : Stands q p) (t : Stands r p) where
  posts : q.posts ≡ r.posts
  posts = s.same_posts ∙ sym t.same_posts

  count : q.darts ≡ r.darts
  count = s.dart_count ∙ sym t.dart_count

  ends : q.ends ≡ r.ends
  ends = table_only 256 (λ i. get_or p.ends i 0) q.ends r.ends s.strip_ends t.strip_ends

  places : q.places ≡ r.places
  places = table_only 256 (place_in p) q.places r.places s.four_places t.four_places

  degrees : q.degrees ≡ r.degrees
  degrees = table_only 64 (up_to p.posts (degree p)) q.degrees r.degrees s.post_degrees t.post_degrees

  outer : q.outer ≡ r.outer
  outer = s.outer_dart ∙ sym t.outer_dart

  next : q.next ≡ r.next
  next = table_only 256 (up_to (darts p) (after p)) q.next r.next s.next-darts t.next-darts

  face : q.face ≡ r.face
  face = table_only 256 (up_to (darts p) (face_number p)) q.face r.face s.face_numbers t.face_numbers

  face_total : q.faces ≡ r.faces
  face_total = s.face_count ∙ sym t.face_count

  sizes : q.sizes ≡ r.sizes
  sizes = table_only 66 (up_to (length (faces p)) (face_size p)) q.sizes r.sizes s.face_sizes t.face_sizes

  pub stands_only : q ≡ r
  stands_only = λ i. record {
    posts = posts i;
    darts = count i;
    ends = ends i;
    places = places i;
    degrees = degrees i;
    outer = outer i;
    next = next i;
    face = face i;
    faces = face_total i;
    sizes = sizes i;
    stands = is_prop→PathP (λ j. StandFor (held (posts j) (count j) (ends j) (places j) (degrees j) (outer j)) (posts j) (count j) (ends j) (places j) (degrees j) (outer j) (next j) (face j) (face_total j) (sizes j))
        (λ j. stand_prop (held (posts j) (count j) (ends j) (places j) (degrees j) (outer j)) (posts j) (count j) (ends j) (places j) (degrees j) (outer j) (next j) (face j) (face_total j) (sizes j)) q.stands r.stands i;
    accepted = is_prop→PathP (λ j. Accepted (held (posts j) (count j) (ends j) (places j) (degrees j) (outer j)))
        (λ j. accepted_prop (held (posts j) (count j) (ends j) (places j) (degrees j) (outer j))) q.accepted r.accepted i;
  }

-- one answer to a plate
pub reads_only : (p : Plate) (r s : Result Held Refusal) → Reads p r → Reads p s → r ≡ s
reads_only p (Ok q) (Ok r) h k = ap (λ (z : Held). Ok z) (stands_only p q r (subst (Stands q) h.plate q.stands) (subst (Stands r) k.plate r.stands))
reads_only p (Ok q) (Err e) h k = absurd (some_number e (k.number ∙ sym h.number))
reads_only p (Err e) (Ok q) h k = absurd (some_number e (h.number ∙ sym k.number))
reads_only p (Err e) (Err f) h k = ap (λ (z : Refusal). Err z) (same_refusal e f (h.number ∙ sym k.number))

-- a face's number leads back to its lowest dart
pub place_hit : (x y : ℕ) (ys : List ℕ) → x ≡ y → place_of x (y ∷ ys) ≡ 0
place_hit x y ys e = ap (λ (b : Bool). elim b as (λ b. ℕ) [ true ↦ 0 | false ↦ suc (place_of x ys) ]) (eq-eqb x y e)

pub place_miss : (x y : ℕ) (ys : List ℕ) → (x ≡ y → ⊥) → place_of x (y ∷ ys) ≡ suc (place_of x ys)
place_miss x y ys e = ap (λ (b : Bool). elim b as (λ b. ℕ) [ true ↦ 0 | false ↦ suc (place_of x ys) ]) (ne_eqb x y e)

pub place-in : (x : ℕ) (ys : List ℕ) → is_in x ys ≡ true → (place_of x ys < length ys) × (get_or ys (place_of x ys) 0 ≡ x)
place-in x [] e = absurd (in_none x e)
place-in x (y ∷ ys) e =
    ⊎_elim (λ q. (omega (arith, place_hit x y ys q), ap (λ (k : ℕ). get_or (y ∷ ys) k 0) (place_hit x y ys q) ∙ sym q))
    (λ q. let r = place-in x ys (in_past x y ys q e) in (omega (arith, place_miss x y ys q, r.0), ap (λ (k : ℕ). get_or (y ∷ ys) k 0) (place_miss x y ys q) ∙ r.1))
    (equal_or_not x y)

pub number_below : (p : Plate) → Ordered p → (d : ℕ) → d < darts p → face_number p d < length (faces p)
number_below p o d l = (place-in (lead p d) (faces p) (lead_in_faces p o d l)).0

pub number_lead : (p : Plate) → Ordered p → (d : ℕ) → d < darts p → get_or (faces p) (face_number p d) 0 ≡ lead p d
number_lead p o d l = (place-in (lead p d) (faces p) (lead_in_faces p o d l)).1

-- 66 sizes are enough
pub faces_fit : (p : Plate) → Faultless p → Ordered p → length (faces p) ≤ 66
faces_fit p f o = omega (arith, f.euler, f.posts_most, darts_most p f o)
