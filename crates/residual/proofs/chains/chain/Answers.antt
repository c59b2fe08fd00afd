-- `chain`: the invariant is that the arcs below a are linked at both ends.
use Rattle.std.proofs.Common.{arith}
use Rattle.residual.proofs.Chaining.{linking_done}
use Rattle.residual.proofs.chains.chain.Goals as goal

pub returns-clause-outs_linked : goal.returns-clause-outs_linked
returns-clause-outs_linked c = linking_done c.loop-a.invariant.0 (omega arith) (omega (arith, c.fill.ensures.len))

pub returns-clause-ins_linked : goal.returns-clause-ins_linked
returns-clause-ins_linked c = linking_done c.loop-a.invariant.1 (omega arith) (omega (arith, c.fill-2.ensures.len))
