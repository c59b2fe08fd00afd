-- One digit more.
use Rattle.std.proofs.Common.{arith, ◌∙◌, sym}
use Rattle.console.proofs.Digits.{one_more}
use Rattle.console.proofs.decimal.Goals as goal

pub loop-digit-preserved : goal.loop-digit-preserved
loop-digit-preserved c = (
  omega arith,
  sym (one_more c.args.digits.now c.loop-digit.digit-index c.loop-digit.value (omega arith) (sym c.if-not-is_ascii_digit.ensures.value) c.min-value.result (omega arith)) ∙ c.loop-digit.invariant.1,
)
