-- What was written is within the memory, by the promise of `write_listing`.
use Rattle.std.proofs.Common.{rules}
use Rattle.plates.proofs.ListingFits.{listing_within}
use Rattle.listing.proofs.show.Goals as goal

pub print_answer-requires-clause-within : goal.print_answer-requires-clause-within
print_answer-requires-clause-within g c = λ out answer left long met. listing_within c.args.list.now out.now left.now answer (search rules)
