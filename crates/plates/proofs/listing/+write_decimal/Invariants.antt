-- The number falls at each call.
use Rattle.plates.proofs.listing.+write_decimal.Given as goal

abbrev pub decreases-write_decimal : goal.decreases-write_decimal
decreases-write_decimal l = l.n
