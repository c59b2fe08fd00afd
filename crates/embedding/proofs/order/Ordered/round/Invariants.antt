-- `round` meets its contract.
use mathlib.Core.List.{List}
use Prim.Native.Nat.{ℕ, ◌+◌, ◌≤◌}
use lib.ListN.{drop}
use Rattle.embedding.specs.Steps.{Marks}
use Rattle.embedding.proofs.Pairs.{Rounding}
use Rattle.embedding.proofs.order.Ordered.round.Given as goal

abbrev pub invariant-loop-strip : goal.invariant-loop-strip
invariant-loop-strip l = record {
  joined : (m : List ℕ) → Marks m l.initial.s → Rounding l.strips m (drop l.strip-index l.strips) l.s;
  few : l.s.count ≤ l.initial.s.count + l.strip-index;
}
