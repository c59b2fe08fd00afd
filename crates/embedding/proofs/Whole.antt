-- From the answers of the steps to the plate's fault, and to the plate.
use mathlib.Core.Path.{◌≡◌, refl, sym, ap, ap₂, subst, ◌∙◌}
use mathlib.Core.Bool.{true, ◌||◌, not}
use Rattle.std.proofs.Common.{Err}
use mathlib.Core.List.{List, [], ◌∷◌}
use Prim.Native.Nat.{ℕ, ◌+◌, ◌*◌, ◌/◌, ◌%◌, ◌≤◌, ◌<◌}
use native.Mathlib.Omega.{arith}
use borrow.Author.Tests.{eqb-false, eq-eqb, ne_eqb, ltb-false, lt-leb}
use lib.Dec.{eqb, ltb}
use lib.ListN.{length, get_or, take, drop, length-take, length-drop}
use lib.Seq.{get_or-take, get_or-drop, ext_get_or}
use Rattle.finite.specs.Tables.{Table, up_to}
use Rattle.finite.specs.Walks.{OneToOne}
use Rattle.finite.proofs.Members.{all_of}
use Rattle.finite.proofs.Pigeonhole.{at_most}
use Rattle.finite.proofs.Tables.{table_cong, up_below, up_cong}
use Rattle.finite.proofs.Tests.{or_left_false, or_right_false, first_none, first_some, when_none}
use Rattle.embedding.specs.Plates.{first_of, when, Plate, darts, twin, ends_at, part_of, all_below, parts_ok, last_of, just_before, after, faces, reach, connected, is_plane, plate_fault}
use Rattle.embedding.specs.Steps.{Few, after_in, next_of}
use Rattle.embedding.specs.Meant.{place_in}
use Rattle.embedding.specs.Pass.{strips_fault, early_fault, late_fault}
use Rattle.embedding.specs.Read.{Follows, face_size, Past, Reads}
use Rattle.refusals.specs.Numbers.{number_of}
use Rattle.refusals.specs.declared.Refusal.{Refusal}
use Rattle.refusals.specs.declared.Refusal.TheVariants.{NotPlane}
use Rattle.embedding.proofs.Faces.{faces_distinct, faces_below}
use Rattle.embedding.proofs.Counting.{few_at, few_most}
use Rattle.embedding.proofs.OnePass.{strips_none, fault_parts}
use Rattle.embedding.proofs.Rotation.{Ordered, length_part, leaves_below, twin_dart, after_below, after_one}

-- a refusal
refused : (p : Plate) (e : Refusal) → plate_fault p ≡ number_of e → Reads p (Err e)
refused p e h = record { number = sym h; plate = tt }

-- refusals 7 and 8 not met
pub record Early (n : ℕ) : Type 0 where
  pub some_post : 0 < n
  pub posts_most : n ≤ 64

pub early : (n : ℕ) (e : List ℕ) → early_fault n e ≡ 0 → Early n
early n e h =
    let t7 = when_none (eqb n 0 || ltb 64 n) 6 (first_none (when (eqb n 0 || ltb 64 n) 7) (when (eqb (length e) 0) 8) h).0 in
    record { some_post = let z = eqb-false n 0 (or_left_false (eqb n 0) (ltb 64 n) t7) in omega arith; posts_most = ltb-false 64 n (or_right_false (eqb n 0) (ltb 64 n) t7) }

module _ (p : Plate) (none : early_fault p.posts p.ends ≡ 0) where
  past_8 : plate_fault p ≡ first_of (strips_fault p) (late_fault p)
  past_8 = fault_parts p ∙ ap (λ (a : ℕ). first_of a (first_of (strips_fault p) (late_fault p))) none

  pub strips_refused : (e : Refusal) → number_of e ≡ strips_fault p → (number_of e ≡ 0 → ⊥) → Reads p (Err e)
  strips_refused e q n = refused p e (past_8 ∙ ap (λ (a : ℕ). first_of a (late_fault p)) (sym q) ∙ first_some (number_of e) (late_fault p) n)

-- refusals 7 to 11 not met
module _ (p : Plate) {degrees : List ℕ} (h : Past p.posts p.ends degrees) where
  late_is : plate_fault p ≡ late_fault p
  late_is = past_8 p h.early ∙ ap (λ (a : ℕ). first_of a (late_fault p)) (h.strips p.order p.outer)

  pub ends_below : all_below p.posts p.ends ≡ true
  ends_below = (strips_none p (h.strips p.order p.outer)).0

-- refusals 7 to 12 not met
pub record PastOrder (p : Plate) (degrees : List ℕ) : Type 0 where
  pub past : Past p.posts p.ends degrees
  pub long : length p.order ≡ darts p
  pub parts : true ≡ parts_ok p.posts 0 p

module _ {p : Plate} {degrees : List ℕ} (h : PastOrder p degrees) where
  module _ (inner : p.outer < darts p) where
    past_13 : plate_fault p ≡ first_of (when (not (connected p)) 14) (when (not (is_plane p)) 15)
    past_13 = late_is p h.past ∙ rw (eq-eqb (length p.order) (darts p) h.long, sym h.parts, lt-leb (darts p) p.outer inner)

    module _ (joined : length (reach p.posts p (0 ∷ [])) ≡ p.posts) where
      past_14 : plate_fault p ≡ when (not (is_plane p)) 15
      past_14 = past_13 ∙ rw (eq-eqb (length (reach p.posts p (0 ∷ []))) p.posts joined)

      pub refused_15 : (p.posts + length (faces p) ≡ darts p / 2 + 2 → ⊥) → Reads p (Err NotPlane)
      refused_15 q = refused p NotPlane (past_14 ∙ rw (ne_eqb (p.posts + length (faces p)) (darts p / 2 + 2) q))

      pub no_fault : p.posts + length (faces p) ≡ darts p / 2 + 2 → plate_fault p ≡ 0
      no_fault w = past_14 ∙ rw (eq-eqb (p.posts + length (faces p)) (darts p / 2 + 2) w)

-- the next darts, from the places and the degrees, are those of the plate
module _ {p : Plate} {degrees : List ℕ} (h : PastOrder p degrees) (even : darts p % 2 ≡ 0) (most : darts p ≤ 256) where
  few_posts : p.posts ≤ 64
  few_posts = (early p.posts p.ends h.past.early).posts_most

  few : Few p.posts p.ends degrees
  few = h.past.few

  in_order : Ordered p
  in_order = record { even = even; ends_below = ends_below p h.past; all_ordered = h.long; parts-ok = sym h.parts }

  module _ {places : List ℕ} (t : Table 256 (place_in p) places) where
    -- the places of a post hold its part
    pub part_held : (v : ℕ) → v < p.posts → take (get_or degrees v 0) (drop (4 * v) places) ≡ part_of p v
    part_held v l =
        ext_get_or 0 (take (get_or degrees v 0) (drop (4 * v) places)) (part_of p v)
        (omega (arith, size, length_part p in_order v, few_at few_posts few v l))
        (λ i k. get_or-take (get_or degrees v 0) (drop (4 * v) places) i 0 (omega (arith, size)) ∙ get_or-drop (4 * v) places i 0 ∙ here i (omega (arith, size, few_most few_posts few v)))
      where
        size : length (take (get_or degrees v 0) (drop (4 * v) places)) ≡ get_or degrees v 0
        size = omega (arith, length-take (get_or degrees v 0) (drop (4 * v) places), length-drop (4 * v) places, t.size, few_most few_posts few v, few_posts)

        here : (i : ℕ) → i < 4 → get_or places (4 * v + i) 0 ≡ get_or (part_of p v) i 0
        here i k =
            t.at (4 * v + i) (omega (arith, few_posts))
            ∙ ap₂ (λ (u j : ℕ). up_to p.posts (λ w. get_or (part_of p w) j 0) u) (quotient v i k) (remainder v i k)
            ∙ up_below p.posts (λ w. get_or (part_of p w) i 0) v l
          where
            quotient : (v i : ℕ) → i < 4 → (4 * v + i) / 4 ≡ v
            quotient v i k = omega arith

            remainder : (v i : ℕ) → i < 4 → (4 * v + i) % 4 ≡ i
            remainder v i k = omega arith

    after_held : (d : ℕ) → d < darts p → after_in p.ends places degrees d ≡ after p d
    after_held d l = ap (λ (ds : List ℕ). just_before (twin d) (last_of ds) ds) (part_held (ends_at p d) (leaves_below p in_order (twin d) (twin_dart p in_order d l)))

    module _ {next : List ℕ} (w : Table 256 (up_to (darts p) (after_in p.ends places degrees)) next) where
      next_held : Table 256 (up_to (darts p) (after p)) next
      next_held = table_cong 256 (up_to (darts p) (after_in p.ends places degrees)) (up_to (darts p) (after p)) next (λ d k. up_cong (darts p) (after_in p.ends places degrees) (after p) d (after_held d)) w

      pub next_follows : Follows p (darts p) next
      next_follows = record { many = refl; table = next_held }

      next_is : (d : ℕ) → d < darts p → next_of next d ≡ after p d
      next_is d l = next_held.at d (omega arith) ∙ up_below (darts p) (after p) d l

      pub next_one : OneToOne (next_of next) (darts p)
      next_one =
          record {
            below = λ d l. subst (λ (y : ℕ). y < darts p) (sym (next_is d l)) (after_below p in_order d l);
            one = λ c d l k q. after_one p in_order c d l k (sym (next_is c l) ∙ q ∙ next_is d k);
          }

pub sizes_first : (p : Plate) {all : List ℕ} → Table 256 (up_to (length (faces p)) (face_size p)) all → Table 66 (up_to (length (faces p)) (face_size p)) (take 66 all)
sizes_first p {all} t = record { size = omega (arith, length-take 66 all, t.size); at = λ i l. get_or-take 66 all i 0 l ∙ t.at i (omega arith) }

pub faces_most : (p : Plate) → length (faces p) ≤ darts p
faces_most p = at_most (darts p) (faces p) (faces_distinct p) (all_of (darts p) (faces p) (faces_below p))
