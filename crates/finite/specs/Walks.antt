-- Walks of a function on numbers below n.
use Rattle.std.specs.Prelude.{◌≡◌, true, false, List, [], ◌∷◌, ℕ, zero, suc, ◌<◌, eqb, ltb}
use Rattle.finite.specs.Base.{pick}

-- from d on, until the next would be s
abbrev pub walk : (ℕ → ℕ) → ℕ → ℕ → ℕ → List ℕ
walk f zero s d = []
walk f (suc k) s d = d ∷ elim (eqb (f d) s) [ true ↦ [] | false ↦ walk f k s (f d) ]

abbrev pub orbit : (ℕ → ℕ) → ℕ → ℕ → List ℕ
orbit f n d = walk f n d d

-- f is one to one below n
pub record OneToOne (f : ℕ → ℕ) (n : ℕ) : Type 0 where
  pub below : (i : ℕ) → i < n → f i < n
  pub one : (i j : ℕ) → i < n → j < n → f i ≡ f j → i ≡ j

-- the least of m and the list
abbrev pub lowest : ℕ → List ℕ → ℕ
lowest m [] = m
lowest m (x ∷ xs) = lowest (pick (ltb x m) x m) xs
