-- `plates::listing::write_dart` writes three words with their numbers.
use native.Mathlib.Omega.{arith}
use Rattle.fields.proofs.Puts.{written_then}
use Rattle.plates.specs.Listing.{dart_word}
use Rattle.plates.proofs.ListingRows.{numbered_long, dart_long}
use Rattle.plates.proofs.listing.write_dart.Goals as goal

pub returns : goal.returns
returns c =
    let long = dart_long c.args.dart c.args.right c.args.angle in
    let front = numbered_long dart_word c.args.dart in
    written_then (omega (arith, c.requires)) c.write_numbered-second.ensures
    (written_then (omega (arith, c.requires, c.write_numbered-second.ensures.behind, c.write_numbered-second.auto.out)) c.write_numbered-third.ensures c.write_line.ensures)
