-- `arc_count`: three for each of 256 darts at most.
use Rattle.std.proofs.Common.{refl, arith}
use Rattle.shapes.proofs.HeldPlate.{few_darts}
use Rattle.shapes.proofs.network.arc_count.Goals as goal

pub overflow_add-result : goal.overflow_add-result
overflow_add-result c = omega (arith, few_darts c.args.q.now)

pub overflow_add-result-2 : goal.overflow_add-result-2
overflow_add-result-2 c = omega (arith, few_darts c.args.q.now)

pub returns : goal.returns
returns c = (refl, omega (arith, few_darts c.args.q.now))
