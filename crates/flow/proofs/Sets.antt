-- Sets of nodes as code keeps them.
use mathlib.Core.Path.{◌≡◌, refl}
use mathlib.Core.Bool.{Bool}
use mathlib.Core.List.{List, [], ◌∷◌, map}
use Prim.Native.Nat.{ℕ, zero, suc, ◌<◌}
use native.Mathlib.Nat.{le_of_suc-le-suc}
use native.Mathlib.Omega.{arith}
use lib.ListN.{length, get_or}
use Rattle.flow.specs.Network.{within}

-- the nodes whose number passes a test
pub within_map : (f : ℕ → Bool) (xs : List ℕ) (v : ℕ) → v < length xs → within (map f xs) v ≡ f (get_or xs v 0)
within_map f [] v l = absurd (omega arith)
within_map f (x ∷ xs) zero l = refl
within_map f (x ∷ xs) (suc v) l = within_map f xs v (le_of_suc-le-suc l)
