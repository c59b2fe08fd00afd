-- A list filled from the front.
use mathlib.Core.Path.{◌≡◌, ◌∙◌}
use mathlib.Core.List.{List}
use Prim.Native.Nat.{ℕ, ◌+◌, ◌<◌}
use native.Mathlib.Omega.{arith}
use borrow.Author.Count.{below_more}
use lib.ListN.{length, get_or, set}
use lib.Seq.{get_or-set_same, get_or-set_other}

-- a list that is f below i, with f i put at i
pub filled_more : (f : ℕ → ℕ) (xs : List ℕ) (i w : ℕ) → i < length xs → ((j : ℕ) → j < i → get_or xs j 0 ≡ f j) → w ≡ f i
    → (j : ℕ) → j < i + 1 → get_or (set xs i w) j 0 ≡ f j
filled_more f xs i w l old here =
    below_more (λ (j : ℕ). get_or (set xs i w) j 0 ≡ f j) i
    (λ j h. get_or-set_other xs i j w 0 (λ (e : j ≡ i). absurd (omega arith)) ∙ old j h)
    (get_or-set_same xs i w 0 l ∙ here)
