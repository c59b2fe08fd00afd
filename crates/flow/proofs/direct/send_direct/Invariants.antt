-- `send_direct`: the invariant is what one node keeps.
use Rattle.residual.specs.Graphs.{residual_on}
use Rattle.flow.proofs.Transfers.{Sending}
use Rattle.flow.proofs.direct.send_direct.Given as goal

abbrev pub invariant-loop-v : goal.invariant-loop-v
invariant-loop-v l = Sending (residual_on l.graph l.initial.x l.pot) l.initial.units.left.now l.initial.units.lack.now l.x l.units.left.now l.units.lack.now
