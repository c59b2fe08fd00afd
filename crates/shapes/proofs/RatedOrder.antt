-- Which shape comes first by limits and prices, as facts; of two shapes never both, so there is one best at most.
use mathlib.Core.Path.{◌≡◌, sym}
use mathlib.Core.Bool.{Bool, true, ◌&&◌, ◌||◌}
use mathlib.Core.Logic.{◌⊎◌, inl, inr, ⊎_elim}
use Prim.Native.Nat.{ℕ, ◌<◌}
use native.Mathlib.Omega.{arith}
use borrow.Author.Tests.{ltb-true, lt-ltb, eqb-true, eq-eqb}
use lib.Dec.{eqb, ltb}
use Rattle.finite.proofs.Tests.{or_cases, or_left, or_right, and_left, and_right, and_both}
use Rattle.embedding.specs.Plates.{Plate}
use Rattle.shapes.specs.Shapes.{cornered, Shape, bends, rights_of}
use Rattle.shapes.specs.Rates.{Rates, price, comes_first_by, BestBy}
use Rattle.shapes.proofs.Order.{ahead, ahead_once}

-- by a number, then by something else
abbrev pub Then : ℕ → ℕ → Type 0 → Type 0
Then x y P = (x < y) ⊎ ((x ≡ y) × P)

abbrev pub then_test : ℕ → ℕ → Bool → Bool
then_test x y b = ltb x y || (eqb x y && b)

pub then_from_test : (x y : ℕ) (b : Bool) → then_test x y b ≡ true → Then x y (b ≡ true)
then_from_test x y b e = ⊎_elim (λ l. inl (ltb-true x y l)) (λ l. inr (eqb-true x y (and_left (eqb x y) b l), and_right (eqb x y) b l)) (or_cases (ltb x y) (eqb x y && b) e)

pub test_from_then : (x y : ℕ) (b : Bool) → Then x y (b ≡ true) → then_test x y b ≡ true
test_from_then x y b (inl l) = or_left (ltb x y) (eqb x y && b) (lt-ltb x y l)
test_from_then x y b (inr (e, h)) = or_right (ltb x y) (eqb x y && b) (and_both (eqb x y) b (eq-eqb x y e) h)

pub then_once : {x y : ℕ} {P Q : Type 0} → (P → Q → ⊥) → Then x y P → Then y x Q → ⊥
then_once n (inl l) (inl k) = omega arith
then_once n (inl l) (inr (e, k)) = omega arith
then_once n (inr (e, l)) (inl k) = omega arith
then_once n (inr (e, l)) (inr (d, k)) = n l k

pub then_map : {x y : ℕ} {P Q : Type 0} → (P → Q) → Then x y P → Then x y Q
then_map f (inl l) = inl l
then_map f (inr (e, h)) = inr (e, f h)

module _ (p : Plate) (r : Rates) (s u : Shape) where
  abbrev pub by_counts : Bool
  by_counts = ahead (rights_of s.words) s.angles (rights_of u.words) u.angles

  abbrev pub First : Type 0
  First = Then (price r s) (price r u) (Then (cornered p s) (cornered p u) (Then (bends s) (bends u) (by_counts ≡ true)))

  pub first_facts : comes_first_by p r s u ≡ true → First
  first_facts e =
      then_map (λ e. then_map (then_from_test (bends s) (bends u) by_counts) (then_from_test (cornered p s) (cornered p u) (then_test (bends s) (bends u) by_counts) e))
      (then_from_test (price r s) (price r u) (then_test (cornered p s) (cornered p u) (then_test (bends s) (bends u) by_counts)) e)

  pub facts_first : First → comes_first_by p r s u ≡ true
  facts_first f =
      test_from_then (price r s) (price r u) (then_test (cornered p s) (cornered p u) (then_test (bends s) (bends u) by_counts))
      (then_map (λ f. test_from_then (cornered p s) (cornered p u) (then_test (bends s) (bends u) by_counts) (then_map (test_from_then (bends s) (bends u) by_counts) f)) f)

pub first_once : (p : Plate) (r : Rates) (s u : Shape) → comes_first_by p r s u ≡ true → comes_first_by p r u s ≡ true → ⊥
first_once p r s u a b =
    then_once (then_once (then_once (ahead_once (rights_of s.words) s.angles (rights_of u.words) u.angles))) (first_facts p r s u a) (first_facts p r u s b)

pub one_best_by : (p : Plate) (r : Rates) (s u : Shape) → BestBy p r s → BestBy p r u → s ≡ u
one_best_by p r s u b c = go (b.first u c.meets_all c.keeps_all (sym e)) (c.first s b.meets_all b.keeps_all e)
  where
    e : price r s ≡ price r u
    e = omega (arith, b.cheapest u c.meets_all c.keeps_all, c.cheapest s b.meets_all b.keeps_all)

    go : (u ≡ s) ⊎ (comes_first_by p r s u ≡ true) → (s ≡ u) ⊎ (comes_first_by p r u s ≡ true) → s ≡ u
    go (inl q) k = sym q
    go (inr a) (inl q) = q
    go (inr a) (inr k) = absurd (first_once p r s u a k)
