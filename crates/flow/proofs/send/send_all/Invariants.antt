-- `send_all`: the invariant is that `rest` units are left, with all that sending some of them asks for; the measure is `rest`.
use Rattle.std.proofs.Common.{◌≡◌}
use Rattle.residual.specs.Graphs.{residual_on}
use Rattle.residual.specs.Arcs.{tails_of, heads_of}
use Rattle.flow.specs.Network.{total}
use Rattle.flow.specs.Solver.{Carried, Loaded}
use Rattle.flow.proofs.send.send_all.Given as goal

abbrev pub invariant-loop-rest : goal.invariant-loop-rest
invariant-loop-rest l =
    Loaded (residual_on l.graph l.x l.pot) l.graph.nodes l.units l.space
    × Carried (tails_of l.graph.arcs.now) (heads_of l.graph.arcs.now) l.fn.x l.fn.units.left.now l.fn.units.lack.now l.x l.units.left.now l.units.lack.now
    × (total l.units.left.now ≡ l.rest)

abbrev pub decreases-loop-rest : goal.decreases-loop-rest
decreases-loop-rest l = l.rest
