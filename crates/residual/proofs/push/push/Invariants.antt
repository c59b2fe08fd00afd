-- `push`: the invariant is what the walk down to v has made of the flow; the measure is v's mark.
use Rattle.std.proofs.Common.{get_or}
use Rattle.residual.specs.Residual.{Walked}
use Rattle.residual.specs.Arcs.{tails_of, heads_of}
use Rattle.residual.proofs.push.push.Given as goal

abbrev pub invariant-loop-v : goal.invariant-loop-v
invariant-loop-v l = Walked (tails_of l.arcs) (heads_of l.arcs) l.space.dist.now l.space.via.now l.initial.x l.target l.x l.v

abbrev pub decreases-loop-v : goal.decreases-loop-v
decreases-loop-v l = get_or l.space.dist.now l.v 0
