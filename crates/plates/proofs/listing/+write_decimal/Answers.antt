-- The digits of n are those of n / 10 and one more.
use Rattle.std.proofs.Common.{arith}
use Rattle.plates.proofs.ListingText.{decimal_one_long, decimal_more_long, one_written, more_written}
use Rattle.plates.proofs.listing.+write_decimal.Goals as goal

pub returns-then-n-lt10 : goal.returns-then-n-lt10
returns-then-n-lt10 t c = one_written c.args.n c.args.at c.args.out.now (omega arith) (omega (arith, c.requires, decimal_one_long c.args.n (omega arith)))

pub returns : goal.returns
returns t c = more_written (omega arith) (omega (arith, c.requires)) (omega (arith, c.requires, decimal_more_long c.args.n (omega arith), c.write_decimal-behind.ensures.behind, c.write_decimal-behind.auto.out)) c.write_decimal-behind.ensures
