-- The digits of a number are right: they stand for it, and the first of several is not 0. Assumes nothing.
use mathlib.Core.Path.{◌≡◌, refl, sym, subst, ◌∙◌}
use mathlib.Core.Bool.{Bool, true, false}
use mathlib.Core.List.{List, [], ◌∷◌, ◌++◌}
use Prim.Native.Nat.{ℕ, zero, suc, ◌+◌, ◌-◌, ◌*◌, ◌/◌, ◌≤◌, ◌<◌}
use native.Mathlib.Omega.{arith}
use lib.Dec.{ltb}
use lib.ListN.{length, get_or, length-append, get_or-append}
use lib.Seq.{get_or-append-add}
use borrow.Author.Tests.{ltb-true, ltb-false}
use Rattle.shapes.proofs.Tables.{by_parts}
use Rattle.plates.specs.Listing.{digit, decimal, number_of, Decimal}
use Rattle.plates.proofs.ListingText.{decimal_one, decimal_more}

pub number_append : (acc : ℕ) (xs ys : List ℕ) → number_of acc (xs ++ ys) ≡ number_of (number_of acc xs) ys
number_append acc [] ys = refl
number_append acc (x ∷ xs) ys = number_append (10 * acc + (x - 48)) xs ys

one_right : (n : ℕ) → n < 10 → Decimal n (digit n ∷ [])
one_right n l = record {
  number = omega arith;
  digits = λ i h. let e : i ≡ 0 = omega arith in rw e (omega arith, omega arith);
  some = omega arith;
  no_zero = λ z. refl;
}

module _ (n : ℕ) (l : 10 ≤ n) (ds : List ℕ) (h : Decimal (n / 10) ds) where
  abbrev all : List ℕ
  all = ds ++ (digit n ∷ [])

  all_long : length all ≡ length ds + 1
  all_long = length-append ds (digit n ∷ [])

  first_same : get_or all 0 0 ≡ get_or ds 0 0
  first_same = get_or-append ds (digit n ∷ []) 0 0 (omega (arith, h.some))

  -- digits that stand for a number above 0 and begin with 0 are several, so the first of n / 10 is not 0
  not_zero : get_or ds 0 0 ≡ 48 → ⊥
  not_zero z = go ds h.number (h.no_zero z) z
    where
      go : (xs : List ℕ) → number_of 0 xs ≡ n / 10 → length xs ≡ 1 → get_or xs 0 0 ≡ 48 → ⊥
      go [] e k q = omega arith
      go (x ∷ []) e k q = omega (arith, e, q)
      go (x ∷ (y ∷ ys)) e k q = omega arith

  more_right : Decimal n all
  more_right = record {
    number = number_append 0 ds (digit n ∷ []) ∙ last (number_of 0 ds) h.number;
    digits = λ i k. by_parts (λ i. (48 ≤ get_or all i 0) × (get_or all i 0 ≤ 57)) (length ds) 1
        (λ i j. rw (get_or-append ds (digit n ∷ []) 0 i j) (h.digits i j))
        (λ i j. let e : i ≡ 0 = omega arith in rw (get_or-append-add ds (digit n ∷ []) i 0, e) (omega arith, omega arith)) i (omega (arith, all_long));
    some = omega (arith, all_long);
    no_zero = λ z. absurd (not_zero (sym first_same ∙ z));
  }
    where
      last : (m : ℕ) → m ≡ n / 10 → 10 * m + (digit n - 48) ≡ n
      last m e = omega arith

right_by : (k n : ℕ) → n < k → Decimal n (decimal n)
right_by zero n l = absurd (omega arith)
right_by (suc k) n l = go (ltb n 10) refl (right_by k (n / 10))
  where
    go : (b : Bool) → ltb n 10 ≡ b → (n / 10 < k → Decimal (n / 10) (decimal (n / 10))) → Decimal n (decimal n)
    go true e ih = let h = ltb-true n 10 e in subst (λ (ds : List ℕ). Decimal n ds) (sym (decimal_one n h)) (one_right n h)
    go false e ih = let h = ltb-false n 10 e in subst (λ (ds : List ℕ). Decimal n ds) (sym (decimal_more n h)) (more_right n h (decimal (n / 10)) (ih (omega arith)))

pub decimal_right : (n : ℕ) → Decimal n (decimal n)
decimal_right n = right_by (suc n) n (omega arith)
