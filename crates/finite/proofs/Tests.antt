-- Tests that are true or false: taken apart and put together, for two tests, for the first fault of several, and for all numbers in a row or all elements of a list.
use mathlib.Core.Path.{◌≡◌, refl, sym, ap, subst, ◌∙◌}
use mathlib.Core.Bool.{Bool, true, false, ◌&&◌, ◌||◌, not, true≢false, false≢true}
use mathlib.Core.List.{List, [], ◌∷◌}
use mathlib.Core.Logic.{◌⊎◌, inl, inr, ⊎_elim}
use Prim.Native.Nat.{ℕ, zero, suc, ◌+◌, ◌≤◌, ◌<◌}
use native.Mathlib.Nat.{le_of_suc-le-suc}
use native.Mathlib.Omega.{arith}
use borrow.Author.Tests.{eqb-true, eqb-false, eq-eqb}
use lib.Dec.{eqb}
use lib.ListN.{length, get_or}
use Rattle.finite.specs.Base.{first_of, when}

pub either : (b : Bool) → (b ≡ true) ⊎ (b ≡ false)
either true = inl refl
either false = inr refl

pub not_both : {b : Bool} → b ≡ true → b ≡ false → ⊥
not_both e f = true≢false (sym e ∙ f)

pub or_cases : (a b : Bool) → a || b ≡ true → (a ≡ true) ⊎ (b ≡ true)
or_cases true b e = inl refl
or_cases false b e = inr e

pub or_second : (a b : Bool) → a || b ≡ true → a ≡ false → b ≡ true
or_second true b e h = absurd (true≢false h)
or_second false b e h = e

pub or_left : (a b : Bool) → a ≡ true → a || b ≡ true
or_left true b e = refl
or_left false b e = absurd (false≢true e)

pub or_right : (a b : Bool) → b ≡ true → a || b ≡ true
or_right true b e = refl
or_right false b e = e

pub or_left_false : (a b : Bool) → a || b ≡ false → a ≡ false
or_left_false true b e = e
or_left_false false b e = refl

pub or_right_false : (a b : Bool) → a || b ≡ false → b ≡ false
or_right_false true b e = absurd (true≢false e)
or_right_false false b e = e

pub and_left : (a b : Bool) → a && b ≡ true → a ≡ true
and_left true b e = refl
and_left false b e = e

pub and_right : (a b : Bool) → a && b ≡ true → b ≡ true
and_right true b e = e
and_right false b e = absurd (false≢true e)

pub and_parts : (a b : Bool) → a && b ≡ true → (a ≡ true) × (b ≡ true)
and_parts a b e = (and_left a b e, and_right a b e)

pub and_both : (a b : Bool) → a ≡ true → b ≡ true → a && b ≡ true
and_both a b e f = rw (e, f)

pub and_assoc : (a b c : Bool) → a && (b && c) ≡ (a && b) && c
and_assoc true b c = refl
and_assoc false b c = refl

pub not_of_false : {b : Bool} → b ≡ false → not b ≡ true
not_of_false e = ap not e

-- two tests that are true together are the same
pub same_test : (a b : Bool) → (a ≡ true → b ≡ true) → (b ≡ true → a ≡ true) → a ≡ b
same_test true b f g = sym (f refl)
same_test false true f g = g refl
same_test false false f g = refl

pub not_true_false : (b : Bool) → (b ≡ true → ⊥) → b ≡ false
not_true_false true f = absurd (f refl)
not_true_false false f = refl

pub equal_or_not : (a b : ℕ) → (a ≡ b) ⊎ (a ≡ b → ⊥)
equal_or_not a b = ⊎_elim (λ e. inl (eqb-true a b e)) (λ e. inr (eqb-false a b e)) (either (eqb a b))

pub eqb_turned : (a b : ℕ) → eqb a b ≡ eqb b a
eqb_turned a b = same_test (eqb a b) (eqb b a) (λ e. eq-eqb b a (sym (eqb-true a b e))) (λ e. eq-eqb a b (sym (eqb-true b a e)))

-- the first of two faults is none only where both are, and the first where that is one; the second matters only where the first is none; of three it does not matter which two are put together; behind a last fault that is none nothing is added
pub first_none : (a b : ℕ) → first_of a b ≡ 0 → (a ≡ 0) × (b ≡ 0)
first_none zero b e = (refl, e)
first_none (suc a) b e = absurd (omega arith)

pub first_some : (a b : ℕ) → (a ≡ 0 → ⊥) → first_of a b ≡ a
first_some zero b n = absurd (n refl)
first_some (suc a) b n = refl

pub first_same : (a b c : ℕ) → (a ≡ 0 → b ≡ c) → first_of a b ≡ first_of a c
first_same zero b c h = h refl
first_same (suc a) b c h = refl

pub first_assoc : (a b c : ℕ) → first_of a (first_of b c) ≡ first_of (first_of a b) c
first_assoc zero b c = refl
first_assoc (suc a) b c = refl

pub first_last : (a : ℕ) → first_of a 0 ≡ a
first_last zero = refl
first_last (suc a) = refl

pub when_none : (t : Bool) (n : ℕ) → when t (suc n) ≡ 0 → t ≡ false
when_none true n e = absurd (omega arith)
when_none false n e = refl

-- what holds of none and of each fault in a row holds of the first
module _ (P : ℕ → Type 0) (none : P 0) where
  pub first-of : (a b : ℕ) → P a → P b → P (first_of a b)
  first-of zero b x y = y
  first-of (suc a) b x y = x

  pub when_of : (t : Bool) (n : ℕ) → P n → P (when t n)
  when_of true n x = x
  when_of false n x = none

  pub fault-of : (t : Bool) (n : ℕ) {r : ℕ} → P n → P r → P (first_of (when t n) r)
  fault-of t n {r} x y = first-of (when t n) r (when_of t n x) y

-- a test of n numbers from a on
module _ (F : ℕ → ℕ → Bool) (t : ℕ → Bool) (none : (a : ℕ) → F 0 a ≡ true) (more : (n a : ℕ) → F (suc n) a ≡ t a && F n (suc a)) where
  pub from_each : (n a : ℕ) → F n a ≡ true → (v : ℕ) → a ≤ v → v < a + n → t v ≡ true
  from_each zero a e v l k = absurd (omega arith)
  from_each (suc n) a e v l k =
      let both : t a && F n (suc a) ≡ true = sym (more n a) ∙ e in
      ⊎_elim (λ q. subst (λ (u : ℕ). t u ≡ true) (sym q) (and_left (t a) (F n (suc a)) both))
      (λ q. from_each n (suc a) (and_right (t a) (F n (suc a)) both) v (omega arith) (omega arith))
      (equal_or_not v a)

  pub each_from : (n a : ℕ) → ((v : ℕ) → a ≤ v → v < a + n → t v ≡ true) → F n a ≡ true
  each_from zero a h = none a
  each_from (suc n) a h = more n a ∙ and_both (t a) (F n (suc a)) (h a (omega arith) (omega arith)) (each_from n (suc a) (λ v l k. h v (omega arith) (omega arith)))

-- a test of the elements of a list
module _ (F : List ℕ → Bool) (t : ℕ → Bool) (none : F [] ≡ true) (more : (x : ℕ) (xs : List ℕ) → F (x ∷ xs) ≡ t x && F xs) where
  pub over_each : (xs : List ℕ) → F xs ≡ true → (i : ℕ) → i < length xs → t (get_or xs i 0) ≡ true
  over_each [] e i l = absurd (omega arith)
  over_each (x ∷ xs) e zero l = and_left (t x) (F xs) (sym (more x xs) ∙ e)
  over_each (x ∷ xs) e (suc i) l = over_each xs (and_right (t x) (F xs) (sym (more x xs) ∙ e)) i (le_of_suc-le-suc l)

  pub each_over : (xs : List ℕ) → ((i : ℕ) → i < length xs → t (get_or xs i 0) ≡ true) → F xs ≡ true
  each_over [] h = none
  each_over (x ∷ xs) h = more x xs ∙ and_both (t x) (F xs) (h 0 (omega arith)) (each_over xs (λ i l. h (suc i) (omega arith)))
