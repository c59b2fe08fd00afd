-- `settle`: the invariant is a cheapest flow that is first below k.
use Rattle.residual.specs.Graphs.{residual_on, Workspace}
use Rattle.flow.specs.Solver.{Settled}
use Rattle.flow.proofs.settle.settle.Given as goal

abbrev pub invariant-loop-k : goal.invariant-loop-k
invariant-loop-k l = Settled (residual_on l.graph l.initial.x l.pot) 0 l.k l.x × Workspace l.graph.nodes l.space
