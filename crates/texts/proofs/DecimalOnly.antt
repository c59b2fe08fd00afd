-- Digits without leading zeros are those of the number that they stand for: their last one is the number's,
-- and the others are those of its tenth. Assumes nothing.
use mathlib.Core.Path.{◌≡◌, sym, ap, subst, ◌∙◌}
use mathlib.Core.List.{List, [], ◌∷◌, ◌++◌}
use Prim.Native.Nat.{ℕ, zero, suc, ◌+◌, ◌-◌, ◌*◌, ◌/◌, ◌≤◌, ◌<◌}
use native.Mathlib.Omega.{arith}
use lib.ListN.{length, get_or, take}
use lib.Seq.{take-suc, take_all, get_or-take, length-take-le}
use Rattle.plates.specs.Listing.{digit, decimal, number_of}
use Rattle.plates.proofs.Decimals.{number_append}
use Rattle.plates.proofs.ListingText.{decimal_one, decimal_more}

-- one or more digits, the first of several not 0
pub record Digits (ds : List ℕ) : Type 0 where
  pub digits : (i : ℕ) → i < length ds → (48 ≤ get_or ds i 0) × (get_or ds i 0 ≤ 57)
  pub some : 1 ≤ length ds
  pub no_zero : get_or ds 0 0 ≡ 48 → length ds ≡ 1

-- a list as all but its last one, and that
all_but : (k : ℕ) (ds : List ℕ) → length ds ≡ suc k → ds ≡ take k ds ++ (get_or ds k 0 ∷ [])
all_but k ds e = sym (take_all (suc k) ds (omega arith)) ∙ take-suc ds k 0 (omega arith)

zero_first : (m : ℕ) → m ≡ 0 → get_or (decimal m) 0 0 ≡ 48
zero_first m e = ap (λ (l : List ℕ). get_or l 0 0) (decimal_one m (omega arith)) ∙ omega arith

-- digits in front of one more
module _ (k : ℕ) (ds : List ℕ) (e : length ds ≡ suc (suc k)) (h : Digits ds) where
  abbrev front : List ℕ
  front = take (suc k) ds

  abbrev x : ℕ
  x = get_or ds (suc k) 0

  front_long : length front ≡ suc k
  front_long = length-take-le (suc k) ds (omega arith)

  first_same : get_or front 0 0 ≡ get_or ds 0 0
  first_same = get_or-take (suc k) ds 0 0 (omega arith)

  not_zero : get_or front 0 0 ≡ 48 → ⊥
  not_zero z = omega (arith, h.no_zero (sym first_same ∙ z))

  front_digits : Digits front
  front_digits = record {
    digits = λ i l. subst (λ (y : ℕ). (48 ≤ y) × (y ≤ 57)) (sym (get_or-take (suc k) ds i 0 (omega (arith, front_long)))) (h.digits i (omega (arith, front_long)));
    some = omega (arith, front_long);
    no_zero = λ z. absurd (not_zero z);
  }

  number_is : number_of 0 ds ≡ 10 * number_of 0 front + (x - 48)
  number_is = ap (number_of 0) (all_but (suc k) ds e) ∙ number_append 0 front (x ∷ [])

  range : (48 ≤ x) × (x ≤ 57)
  range = h.digits (suc k) (omega arith)

  more : decimal (number_of 0 front) ≡ front → decimal (number_of 0 ds) ≡ ds
  more ih =
      let positive : number_of 0 front ≡ 0 → ⊥ = λ z. not_zero (ap (λ (l : List ℕ). get_or l 0 0) (sym ih) ∙ zero_first (number_of 0 front) z) in
      let big : 10 ≤ number_of 0 ds = omega (arith, number_is, positive) in
      let tenth : number_of 0 ds / 10 ≡ number_of 0 front = omega (arith, number_is, range.0, range.1) in
      let last-digit : digit (number_of 0 ds) ≡ x = omega (arith, number_is, range.0, range.1) in
      decimal_more (number_of 0 ds) big
      ∙ ap (λ (m : ℕ). decimal m ++ (digit (number_of 0 ds) ∷ [])) tenth
      ∙ ap (λ (l : List ℕ). l ++ (digit (number_of 0 ds) ∷ [])) ih
      ∙ ap (λ (y : ℕ). front ++ (y ∷ [])) last-digit
      ∙ sym (all_but (suc k) ds e)

only_by : (k : ℕ) (ds : List ℕ) → length ds ≡ suc k → Digits ds → decimal (number_of 0 ds) ≡ ds
only_by zero [] e h = absurd (omega arith)
only_by zero (x ∷ []) e h =
    let (lo, hi) = h.digits 0 (omega arith) in
    let q : digit (10 * 0 + (x - 48)) ≡ x = omega arith in
    decimal_one (10 * 0 + (x - 48)) (omega arith) ∙ ap (λ (y : ℕ). y ∷ []) q
only_by zero (x ∷ (y ∷ ys)) e h = absurd (omega arith)
only_by (suc k) ds e h = more k ds e h (only_by k (take (suc k) ds) (front_long k ds e h) (front_digits k ds e h))

pub decimal_only : (ds : List ℕ) → Digits ds → decimal (number_of 0 ds) ≡ ds
decimal_only ds h = let k = length ds - 1 in only_by k ds (omega (arith, h.some)) h
