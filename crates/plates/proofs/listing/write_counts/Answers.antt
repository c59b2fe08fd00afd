-- `write_counts` writes the two first lines and the darts' lines.
use Rattle.plates.proofs.ListingRows.{listing_written}
use Rattle.plates.proofs.listing.write_counts.Goals as goal

pub returns : goal.returns
returns c = listing_written c.args.revision c.args.counts.angles.now c.args.counts.rights.now c.requires c.total.ensures c.write_line-second.ensures c.write_line-second.auto.out c.write_line-third.ensures c.write_darts.ensures
