-- `plates::listing::write_numbered` writes a word and the number behind it.
use native.Mathlib.Omega.{arith}
use Rattle.fields.proofs.Puts.{written_then}
use Rattle.plates.proofs.ListingRows.{numbered_long}
use Rattle.plates.proofs.listing.write_numbered.Goals as goal

pub returns : goal.returns
returns c = written_then (omega (arith, c.requires, numbered_long c.args.word.now c.args.n)) c.put_text-digits.ensures c.write_decimal.ensures
