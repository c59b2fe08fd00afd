-- What was written is within the memory, by the promise of `write_listing`.
use Rattle.std.proofs.Common.{rules, take}
use Rattle.plates.proofs.ListingFits.{listing_within}
use Rattle.replaying.proofs.report.Goals as goal

pub print_answer-requires-clause-within : goal.print_answer-requires-clause-within
print_answer-requires-clause-within g c = λ out answer left long met. listing_within (take c.args.end.now.long c.args.end.now.list) out.now left.now answer (search rules)
