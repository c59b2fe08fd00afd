-- `note_nodes`: the invariant is that the nodes below v are noted.
use Rattle.std.proofs.Common.{◌≡◌, ℕ, ◌<◌, length, get_or}
use Rattle.flow.specs.Nodes.{supplies_of, demands_of}
use Rattle.flow.proofs.start.note_nodes.Given as goal

abbrev pub invariant-loop-v : goal.invariant-loop-v
invariant-loop-v l =
    (length l.units.left.now ≡ length l.nodes) × ((u : ℕ) → u < l.v → get_or l.units.left.now u 0 ≡ get_or (supplies_of l.nodes) u 0)
    × (length l.units.lack.now ≡ length l.nodes) × ((u : ℕ) → u < l.v → get_or l.units.lack.now u 0 ≡ get_or (demands_of l.nodes) u 0)
