-- Directions of a plane map whose corners are quarter turns.
use Prim.Native.Nat.{ℕ, ◌-◌, ◌*◌}
pub use Rattle.maps.specs.Maps.{RightAngled}
use Rattle.maps.proofs.Directions.{Directed}

-- directions: 0 east, 1 south, 2 west, 3 north
abbrev pub Compass : (next angle : ℕ → ℕ) → ℕ → Type 0
Compass next angle m = Directed next (λ d. 6 - angle d) (2 * m)
