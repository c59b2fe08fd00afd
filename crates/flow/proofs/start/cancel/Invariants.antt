-- `cancel`: the invariant is that the nodes below v have the differences, the others what they had.
use Rattle.std.proofs.Common.{◌-◌, get_or}
use Rattle.flow.proofs.Fills.{Filling}
use Rattle.flow.proofs.start.cancel.Given as goal

abbrev pub invariant-loop-v : goal.invariant-loop-v
invariant-loop-v l =
    (let left = l.initial.units.left.now in let lack = l.initial.units.lack.now in Filling (λ u. get_or left u 0 - get_or lack u 0) left l.v l.units.left.now × Filling (λ u. get_or lack u 0 - get_or left u 0) lack l.v l.units.lack.now)
