-- `reach_lacking`: the invariant is a search that reached no node that lacks something; the measure is how many nodes are left to reach.
use Rattle.std.proofs.Common.{None}
use Rattle.residual.specs.Residual.{unreached}
use Rattle.residual.specs.Graphs.{residual_on, Workspace}
use Rattle.flow.specs.Solver.{Explored}
use Rattle.flow.proofs.send.reach_lacking.Given as goal

abbrev pub invariant-loop-by : goal.invariant-loop-by
invariant-loop-by l = Explored (residual_on l.graph l.x l.pot) l.units.left.now l.units.lack.now l.space.dist.now l.space.via.now None × Workspace l.graph.nodes l.space

abbrev pub decreases-loop-by : goal.decreases-loop-by
decreases-loop-by l = unreached l.space.dist.now
