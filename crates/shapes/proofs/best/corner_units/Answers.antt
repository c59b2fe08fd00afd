-- `corner_units`: the two units stand behind those of the darts, and fit a byte.
use Rattle.std.proofs.Common.{arith}
use Rattle.shapes.proofs.Halves.{pair_behind}
use Rattle.shapes.proofs.best.corner_units.Goals as goal

pub overflow_add-result-2 : goal.overflow_add-result-2
overflow_add-result-2 c = omega (arith, pair_behind c.args.darts c.args.x.now c.args.d, c.requires.0.corners_fit c.args.d c.requires.1)

pub returns : goal.returns
returns c = (pair_behind c.args.darts c.args.x.now c.args.d, omega (arith, pair_behind c.args.darts c.args.x.now c.args.d, c.requires.0.corners_fit c.args.d c.requires.1))
