-- `send_from`: the invariant is what one arc keeps; the measure is `at`, since each arc comes before the last.
use Rattle.std.proofs.Common.{◌≤◌, length}
use Rattle.residual.specs.Graphs.{residual_on}
use Rattle.flow.proofs.Transfers.{Sending}
use Rattle.flow.proofs.direct.send_from.Given as goal

abbrev pub invariant-loop-at : goal.invariant-loop-at
invariant-loop-at l = Sending (residual_on l.graph l.initial.x l.pot) l.initial.units.left.now l.initial.units.lack.now l.x l.units.left.now l.units.lack.now × (l.at ≤ length l.graph.arcs.now)

abbrev pub decreases-loop-at : goal.decreases-loop-at
decreases-loop-at l = l.at
