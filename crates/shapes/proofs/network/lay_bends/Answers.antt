-- `lay_bends`: one strip's arcs more.
use native.Mathlib.Omega.{arith}
use Rattle.shapes.proofs.StripArcs.{strip_more, strips_done}
use Rattle.shapes.proofs.network.lay_bends.Goals as goal

pub loop-i-preserved : goal.loop-i-preserved
loop-i-preserved c = strip_more c.loop-i.i c.loop-i.invariant (omega (arith, c.loop-i-test.true, c.requires, c.loop-i.auto.arcs)) c.bend_arcs.ensures.0 c.bend_arcs.ensures.1

pub returns : goal.returns
returns c = strips_done c.args.q.now c.loop-i.i c.loop-i.auto.i-end c.loop-i-test.false c.loop-i.invariant
