-- Arrays given by a function of their places.
use Rattle.std.specs.Prelude.{◌≡◌, List, ℕ, ◌<◌, ltb, length, get_or}
use Rattle.finite.specs.Base.{pick}

-- xs has n elements, the one at i being f i
pub record Table (n : ℕ) (f : ℕ → ℕ) (xs : List ℕ) : Type 0 where
  pub size : length xs ≡ n
  pub at : (i : ℕ) → i < n → get_or xs i 0 ≡ f i

-- f below k, and 0 from there on
abbrev pub up_to : ℕ → (ℕ → ℕ) → ℕ → ℕ
up_to k f i = pick (ltb i k) (f i) 0
