-- `settle_arc`: the invariant is a cheapest flow that is first below k; the measure is what arc k carries.
use Rattle.std.proofs.Common.{get_or}
use Rattle.residual.specs.Graphs.{residual_on, Workspace}
use Rattle.flow.specs.Solver.{Settled}
use Rattle.flow.proofs.settle.settle_arc.Given as goal

abbrev pub invariant-loop-x : goal.invariant-loop-x
invariant-loop-x l = Settled (residual_on l.graph l.initial.x l.pot) l.k l.k l.x × Workspace l.graph.nodes l.space

abbrev pub decreases-loop-x : goal.decreases-loop-x
decreases-loop-x l = get_or l.x l.k 0
