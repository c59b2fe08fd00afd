-- A list of distinct numbers below n has at most n of them, and has all if it has n.
use mathlib.Core.Path.{◌≡◌, refl, sym, subst, ◌∙◌}
use mathlib.Core.Bool.{Bool, true, false, ◌||◌}
use mathlib.Core.List.{List, [], ◌∷◌}
use Prim.Native.Nat.{ℕ, ◌+◌, ◌≤◌, ◌<◌}
use native.Mathlib.Omega.{arith}
use borrow.Author.Tests.{eqb-true, ltb-true}
use lib.Dec.{eqb, ltb}
use lib.ListN.{length}
use Rattle.finite.specs.Base.{when, is_in, distinct, all_below}
use Rattle.finite.proofs.Sums.{sum_below, sum_over, sum_cong, sum_none, sum_ones, sum_add, sum_le, sum_tight, sum_at, sum_over_ones}
use Rattle.finite.proofs.Tests.{and_left, and_right}
use Rattle.finite.proofs.Members.{distinct_head, distinct_rest}

pub when_or : (a b : Bool) (n : ℕ) → (a ≡ true → b ≡ false) → when (a || b) n ≡ when a n + when b n
when_or true b n h = rw (h refl) (omega arith)
when_or false b n h = omega arith

pub when_one : (b : Bool) → when b 1 ≤ 1
when_one true = omega arith
when_one false = omega arith

pub one_when : (b : Bool) → when b 1 ≡ 1 → b ≡ true
one_when true e = refl
one_when false e = absurd (omega arith)

-- a sum over distinct numbers below n is one over all numbers below n, those outside the list adding nothing
pub sum_over_members : (n : ℕ) (xs : List ℕ) → distinct xs ≡ true → all_below n xs ≡ true → (g : ℕ → ℕ) → sum_over xs g ≡ sum_below n (λ i. when (is_in i xs) (g i))
sum_over_members n [] d a g = sym (sum_none n)
sum_over_members n (x ∷ xs) d a g =
    let apart : (i : ℕ) → i < n → when (is_in i (x ∷ xs)) (g i) ≡ when (eqb i x) (g i) + when (is_in i xs) (g i) =
    λ i l. when_or (eqb i x) (is_in i xs) (g i) (λ e. subst (λ (k : ℕ). is_in k xs ≡ false) (sym (eqb-true i x e)) (distinct_head x xs d)) in
    omega (
      arith,
      sum_at n x g (ltb-true x n (and_left (ltb x n) (all_below n xs) a)),
      sum_over_members n xs (distinct_rest x xs d) (and_right (ltb x n) (all_below n xs) a) g,
      sum_add n (λ i. when (eqb i x) (g i)) (λ i. when (is_in i xs) (g i)),
      sum_cong n (λ i. when (is_in i (x ∷ xs)) (g i)) (λ i. when (eqb i x) (g i) + when (is_in i xs) (g i)) apart,
    )

module _ (n : ℕ) (xs : List ℕ) (d : distinct xs ≡ true) (a : all_below n xs ≡ true) where
  pub length_members : length xs ≡ sum_below n (λ i. when (is_in i xs) 1)
  length_members = sym (sum_over_ones xs) ∙ sum_over_members n xs d a (λ i. 1)

  pub at_most : length xs ≤ n
  at_most = omega (arith, length_members, sum_ones n, sum_le n (λ i. when (is_in i xs) 1) (λ i. 1) (λ i l. when_one (is_in i xs)))

  pub has_all : length xs ≡ n → (i : ℕ) → i < n → is_in i xs ≡ true
  has_all e i l =
      one_when (is_in i xs) (sum_tight n (λ i. when (is_in i xs) 1) (λ i. 1) (λ i l. when_one (is_in i xs)) (sym length_members ∙ e ∙ sym (sum_ones n)) i l)
