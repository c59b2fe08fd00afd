-- `push`: the invariant is what the walk down to v has made of the flow; the measure is v's mark.
use Rattle.residual.specs.Arcs.{tails_of, heads_of}
use Rattle.residual.proofs.Walks.{step_walks}
use Rattle.residual.proofs.push.push.Goals as goal

pub loop-v-preserved : goal.loop-v-preserved
loop-v-preserved c =
    let a = c.args in
    (step_walks (tails_of a.arcs.now) (heads_of a.arcs.now) a.space.now.dist.now a.space.now.via.now a.x.now a.target c.requires.walkable c.loop-v.x c.loop-v.v c.loop-v.invariant c.loop-v-test.true c.shift-v.new.x c.shift-v.result (rw c.from.ensures at c.shift-v.ensures)).0
