-- A strip from a post to itself has both its darts among the four of its post, and only such a dart comes straight back to itself. A plate's refusal without 10 is that with it, wherever that is not 10. Assumes nothing.
use mathlib.Core.Path.{◌≡◌, refl, sym, ap, subst, ◌∙◌}
use mathlib.Core.Bool.{Bool, true, false, ◌&&◌, ◌||◌, not}
use mathlib.Core.List.{List, ◌∷◌}
use Prim.Native.Nat.{ℕ, zero, suc, ◌+◌, ◌≤◌, ◌<◌}
use native.Mathlib.Omega.{arith}
use borrow.Author.Tests.{eq-eqb}
use lib.Dec.{eqb, ltb, leb}
use lib.ListN.{length}
use Rattle.finite.proofs.Tests.{when_of, fault-of}
use Rattle.embedding.specs.Plates.{first_of, when, is_in, all_below, Plate, darts, twin, leaves, ends_at, degree_from, part_of, over_four, parts_ok, after, connected, is_plane, plate_fault}
use Rattle.embedding.specs.Loops.{some_loop, plate_fault_before, TwoPlaces}
use Rattle.embedding.proofs.Degrees.{over_most}
use Rattle.embedding.proofs.Faultless.{Faultless}
use Rattle.embedding.proofs.Rotation.{Ordered, twin_dart, twin_differs, leaves_below, length_part, part_distinct, own_part, after_leaves}

-- it is counted twice at its post
pub counted_twice : (v : ℕ) (es : List ℕ) → degree_from v (v ∷ (v ∷ es)) ≡ 2 + degree_from v es
counted_twice v es = rw (eq-eqb v v refl) (omega arith)

module _ (p : Plate) (o : Ordered p) (d : ℕ) (l : d < darts p) where
  pub two_places : Faultless p → ends_at p d ≡ leaves p d → TwoPlaces p d
  two_places f e =
      record {
        own = own_part p o d l;
        twins = subst (λ (v : ℕ). is_in (twin d) (part_of p v) ≡ true) e (own_part p o (twin d) (twin_dart p o d l));
        apart = twin_differs d;
        once = part_distinct p o (leaves p d) (leaves_below p o d l);
        four_most = omega (arith, length_part p o (leaves p d), over_most p p.posts f.four_most (leaves p d) (leaves_below p o d l));
      }

  pub straight_back : after p d ≡ d → ends_at p d ≡ leaves p d
  straight_back e = sym (after_leaves p o d l) ∙ ap (leaves p) e

-- the fourth of five refusals does not matter where it is not given
without_fourth : (a b c d : ℕ) (t : Bool) → (first_of a (first_of b (first_of c (first_of (when t 10) d))) ≡ 10 → ⊥) → first_of a (first_of b (first_of c d)) ≡ first_of a (first_of b (first_of c (first_of (when t 10) d)))
without_fourth (suc a) b c d t n = refl
without_fourth zero (suc b) c d t n = refl
without_fourth zero zero (suc c) d t n = refl
without_fourth zero zero zero d true n = absurd (n refl)
without_fourth zero zero zero d false n = refl

pub same_fault : (p : Plate) → (plate_fault_before p ≡ 10 → ⊥) → plate_fault p ≡ plate_fault_before p
same_fault p = without_fourth (when (eqb p.posts 0 || ltb 64 p.posts) 7) (when (eqb (darts p) 0) 8) (when (not (all_below p.posts p.ends)) 9) _ (some_loop p.ends)

-- a plate is refused with 7 to 15 but 10: what holds of these numbers and of 0 holds of its fault
pub plate_number : (P : ℕ → Type 0) → ((n : ℕ) → n ≤ 15 → (n ≡ 10 → ⊥) → P n) → (p : Plate) → P (plate_fault p)
plate_number P few p =
    fault (eqb p.posts 0 || ltb 64 p.posts) 7 (few 7 (omega arith) (λ e. omega arith))
    (fault (eqb (darts p) 0) 8 (few 8 (omega arith) (λ e. omega arith))
    (fault (not (all_below p.posts p.ends)) 9 (few 9 (omega arith) (λ e. omega arith))
    (fault (over_four p.posts 0 p) 11 (few 11 (omega arith) (λ e. omega arith))
    (fault (not (eqb (length p.order) (darts p) && parts_ok p.posts 0 p)) 12 (few 12 (omega arith) (λ e. omega arith))
    (fault (leb (darts p) p.outer) 13 (few 13 (omega arith) (λ e. omega arith))
    (fault (not (connected p)) 14 (few 14 (omega arith) (λ e. omega arith))
    (when_of P none (not (is_plane p)) 15 (few 15 (omega arith) (λ e. omega arith)))))))))
  where
    none : P 0
    none = few 0 (omega arith) (λ e. omega arith)

    fault : (t : Bool) (n : ℕ) {r : ℕ} → P n → P r → P (first_of (when t n) r)
    fault = fault-of P none
