-- `lay_corners`: one corner's arcs more.
use native.Mathlib.Omega.{arith}
use Rattle.shapes.proofs.Filled.{corners_more}
use Rattle.shapes.proofs.network.lay_corners.Goals as goal

pub loop-d-preserved : goal.loop-d-preserved
loop-d-preserved c = corners_more c.loop-d.invariant (omega arith) c.corner_arcs.ensures.0 c.corner_arcs.ensures.1
