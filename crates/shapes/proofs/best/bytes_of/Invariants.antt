-- `bytes_of`: the places before i have their numbers, whatever numbers `at` gives.
use Prim.Native.Nat.{ℕ, ◌<◌}
use mathlib.Core.Path.{◌≡◌}
use Rattle.finite.specs.Tables.{Table, up_to}
use Rattle.shapes.proofs.best.bytes_of.Given as goal

abbrev pub invariant-loop-i : goal.invariant-loop-i
invariant-loop-i g l = (number : ℕ → ℕ) → ((i : ℕ) (r : ℕ) → i < l.n → goal.F-post g l.at i r → r ≡ number i) → Table 256 (up_to l.i number) l.bytes
