-- `list_counts` writes the text into a buffer and gives it.
use Rattle.plates.specs.Listing.{listing_text}
use Rattle.plates.specs.Answers.{listed_of}
use Rattle.plates.proofs.ListingSaid.{cut_gives, listing_said}
use Rattle.plates.proofs.reading.PlateList.list_counts.Goals as goal

pub returns : goal.returns
returns c =
    let given = listed_of c.give_text.result in
    let text = listing_text c.revision.result c.args.counts.angles.now c.args.counts.rights.now in
    listing_said c.args.self.now.accepted c.requires.best c.revision.result c.revision.ensures c.args.out.now c.give_text.new.out given (cut_gives text c.write_counts-long.ensures c.args.out.now c.give_text.new.out given c.give_text.ensures)
