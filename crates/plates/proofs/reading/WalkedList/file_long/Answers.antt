-- `file_long`: there are at most 256 darts.
use native.Mathlib.Omega.{arith}
use Rattle.plates.proofs.HeldLists.{walked_few}
use Rattle.plates.proofs.Sums.{long_priced, long_plain}
use Rattle.plates.proofs.reading.WalkedList.file_long.Goals as goal

pub overflow_mul-plain : goal.overflow_mul-plain
overflow_mul-plain c = omega (arith, walked_few c.args.self.now)

pub overflow_add-plain : goal.overflow_add-plain
overflow_add-plain c = omega (arith, walked_few c.args.self.now)

pub overflow_add-result : goal.overflow_add-result
overflow_add-result c = omega (arith, walked_few c.args.self.now)

pub returns-in-Some : goal.returns-in-Some
returns-in-Some c = long_priced c.args.self.now c.in-Some.is

pub returns-in-None : goal.returns-in-None
returns-in-None c = long_plain c.args.self.now c.in-None.is
