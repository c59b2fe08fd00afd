-- `lay_nodes`: one node more.
use mathlib.Core.Path.{refl}
use native.Mathlib.Omega.{arith}
use Rattle.shapes.proofs.Filled.{begun_more}
use Rattle.shapes.proofs.network.lay_nodes.Goals as goal

pub loop-v-preserved : goal.loop-v-preserved
loop-v-preserved c = begun_more c.loop-v.invariant (omega arith) (rw (c.supply_of.ensures, c.demand_of.ensures, c.from-outer.ensures, c.face_node.ensures, c.from.ensures) refl)
