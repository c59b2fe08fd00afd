-- `fields::walk` meets the fields of the file. The invariant: what is left to walk gives the file's answer.
use Rattle.std.proofs.Common.{length}
use Rattle.fields.proofs.Walked.{Going}
use Rattle.fields.proofs.walk.Given as goal

abbrev pub invariant-loop-rest : goal.invariant-loop-rest
invariant-loop-rest l = Going l.in_order l.shape l.s l.rest l.met l.lowest

abbrev pub decreases-loop-rest : goal.decreases-loop-rest
decreases-loop-rest l = length l.rest
