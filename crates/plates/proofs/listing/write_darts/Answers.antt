-- `plates::listing::write_darts` writes the darts' lines in turn. The invariant: the lines of the darts passed stand one behind the other.
use Rattle.plates.proofs.ListingRows.{line_room, lines_more}
use Rattle.plates.proofs.listing.write_darts.Goals as goal

pub write_dart-next-requires : goal.write_dart-next-requires
write_dart-next-requires c = rw (c.from.ensures, c.from-in-loop-d.ensures) (line_room c.requires c.loop-d.invariant c.loop-d-test.true)

pub loop-d-preserved : goal.loop-d-preserved
loop-d-preserved c = lines_more c.requires c.loop-d.invariant c.loop-d-test.true (rw (c.from.ensures, c.from-in-loop-d.ensures) at c.write_dart-next.ensures) c.write_dart-next.auto.out
