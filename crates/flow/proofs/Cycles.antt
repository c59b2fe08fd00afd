-- A unit goes round a cycle: by other arcs from the tail of an arc to its head, and off that arc.
use mathlib.Core.Path.{◌≡◌}
use mathlib.Core.Logic.{◌⊎◌, inl, inr}
use mathlib.Core.List.{List}
use Prim.Native.Nat.{ℕ, ◌-◌, ◌≤◌, ◌<◌}
use native.Mathlib.Omega.{arith}
use lib.ListN.{length, get_or, set}
use Rattle.residual.specs.Residual.{Balanced}
use Rattle.residual.proofs.Units.{units_at_fewer}
use Rattle.flow.specs.Network.{Network, Flow, Sound, unbounded}
use Rattle.flow.specs.Solver.{Bounded}
use Rattle.flow.proofs.Names.{arcs, tail, head, lower, upper}
use Rattle.flow.proofs.Starts.{bounded_set}

pub cycle_flow : (n : Network) → Sound n → (x x' : List ℕ) (k : ℕ) → k < arcs n → Flow n x → Bounded n x' → lower n k < get_or x' k 0
    → Balanced n.tails n.heads x x' (head n k) (tail n k) → Flow n (set x' k (get_or x' k 0 - 1))
cycle_flow n sound x x' k arc f b spare balanced =
    let some : 1 ≤ get_or x' k 0 = omega arith in
    let here : k < length x' = omega (arith, b.long) in
    let z = bounded_set n x' k (get_or x' k 0 - 1) b arc (omega arith) (fewer (b.below k arc)) in
    record {
      long = z.long;
      above = z.above;
      below = z.below;
      kept = λ v l.
          omega (
            arith,
            f.kept v l,
            balanced v,
            units_at_fewer n.tails x' k 1 v arc here some,
            units_at_fewer n.heads x' k 1 v (omega (arith, sound.heads_long)) here some,
          );
    }
  where
    fewer : (upper n k ≡ unbounded) ⊎ (get_or x' k 0 ≤ upper n k) → (upper n k ≡ unbounded) ⊎ (get_or x' k 0 - 1 ≤ upper n k)
    fewer (inl e) = inl e
    fewer (inr h) = inr (omega arith)
