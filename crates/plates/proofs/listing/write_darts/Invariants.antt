-- `plates::listing::write_darts` writes the darts' lines in turn. The invariant: the lines of the darts passed stand one behind the other.
use Rattle.plates.proofs.ListingRows.{LinesDone}
use Rattle.plates.proofs.listing.write_darts.Given as goal

abbrev pub invariant-loop-d : goal.invariant-loop-d
invariant-loop-d l = LinesDone l.counts.angles.now l.counts.rights.now l.initial.out l.at l.out l.next l.d
