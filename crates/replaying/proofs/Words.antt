-- How long a text is that begins with a word; the space between two numbers, and the numbers, as code comes to them.
use mathlib.Core.Path.{◌≡◌, refl, ap, ap₂, ◌∙◌}
use mathlib.Core.Bool.{Bool, true, false, not, cond}
use mathlib.Core.List.{List, [], ◌∷◌}
use Prim.Native.Nat.{ℕ, suc, ◌+◌, ◌-◌, ◌≤◌}
use native.Mathlib.Omega.{arith}
use lib.Dec.{eqb, ltb}
use lib.ListN.{length, take, drop}
use Rattle.std.proofs.Common.{Option, Some, None, position}
use Rattle.std.specs.List.{position_or_len}
use Rattle.finite.specs.Base.{pick}
use Rattle.finite.proofs.Tests.{eqb_turned, and_right}
use Rattle.finite.proofs.Lent.{rest_lent}
use Rattle.embedding.specs.Read.{place_of}
use Rattle.embedding.specs.declared.journal.Step.{Step}
use Rattle.replaying.specs.Lines.{begins_with, number_in, join_of, join_in}

-- a text is no shorter than a word that it begins with
pub begins_long : (w s : List ℕ) → begins_with w s ≡ true → length w ≤ length s
begins_long [] s e = omega arith
begins_long (x ∷ w) [] e = let z : ◌≡◌ {A = ℕ} 0 1 = cc in absurd (omega arith)
begins_long (x ∷ w) (y ∷ s) e = omega (arith, begins_long w s (and_right (eqb x y) (begins_with w s) e))

-- the library's place of a space
place_is : (s : List ℕ) → position_or_len (λ (x : ℕ). eqb x 32) s ≡ place_of 32 s
place_is [] = refl
place_is (x ∷ s) = rw (eqb_turned x 32) (by (eqb 32 x) (place_is s))
  where
    by : (b : Bool) → position_or_len (λ (x : ℕ). eqb x 32) s ≡ place_of 32 s → cond (not b) (1 + position_or_len (λ (x : ℕ). eqb x 32) s) 0 ≡ elim b as (λ _. ℕ) [ true ↦ 0 | false ↦ suc (place_of 32 s) ]
    by true h = refl
    by false h = omega (arith, h)

-- the numbers of a join, by the place of the space
abbrev pub at_space : List ℕ → Option ℕ → Option Step
at_space s None = None
at_space s (Some k) = join_of (number_in (take k s)) (number_in (drop (k + 1) s))

joined : (s : List ℕ) {o : Option ℕ} → o ≡ position (λ (x : ℕ). eqb x 32) s → at_space s o ≡ join_in s
joined s {o} e = ap (at_space s) e ∙ ap (λ (k : ℕ). at_space s (cond (ltb k (length s)) (Some k) None)) (place_is s) ∙ by (ltb (place_of 32 s) (length s))
  where
    by : (b : Bool) → at_space s (cond b (Some (place_of 32 s)) None) ≡ pick b (join_of (number_in (take (place_of 32 s) s)) (number_in (drop (place_of 32 s + 1) s))) None
    by true = refl
    by false = refl

pub no_space : (s : List ℕ) → None ≡ position (λ (x : ℕ). eqb x 32) s → None ≡ join_in s
no_space s e = joined s e

pub two_numbers : (s : List ℕ) {k : ℕ} → Some k ≡ position (λ (x : ℕ). eqb x 32) s → {a b : Option ℕ} → a ≡ number_in (take k s) → b ≡ number_in (take (length s - (k + 1)) (drop (k + 1) s)) → join_of a b ≡ join_in s
two_numbers s {k} e p q = ap₂ join_of p (q ∙ ap number_in (rest_lent s (k + 1))) ∙ joined s e
