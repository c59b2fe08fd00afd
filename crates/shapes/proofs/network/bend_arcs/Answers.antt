-- `bend_arcs`: the second arc is the first turned round.
use Rattle.std.proofs.Common.{arith, ◌∙◌}
use Rattle.shapes.specs.Rates.{rates}
use Rattle.shapes.proofs.HeldPlate.{few_darts}
use Rattle.shapes.proofs.StripArcs.{strip_arcs}
use Rattle.shapes.proofs.network.bend_arcs.Goals as goal

pub overflow_add-i : goal.overflow_add-i
overflow_add-i c = omega (arith, c.requires, few_darts c.args.q.now)

pub overflow_add-i-2 : goal.overflow_add-i-2
overflow_add-i-2 c = omega (arith, c.requires, few_darts c.args.q.now)

pub overflow_add-i-3 : goal.overflow_add-i-3
overflow_add-i-3 c = omega (arith, c.requires, few_darts c.args.q.now)

pub returns : goal.returns
returns c = strip_arcs c.args.q.now (rates c.args.by.limits.now c.args.by.prices.now) c.args.i c.face_node.ensures c.face_node-2.ensures c.strip_most.ensures (c.from.ensures ∙ c.price_at.ensures.0)
