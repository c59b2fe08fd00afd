-- What was written is within the memory, by the promise of `write_text`.
use Rattle.std.proofs.Common.{rules, length}
use Rattle.plates.specs.Answers.{listed_of}
use Rattle.plates.proofs.ListingFits.{listed_within}
use Rattle.texts.proofs.Within.{text_within}
use Rattle.to_text.proofs.show.Goals as goal

pub print_answer-requires-clause-within : goal.print_answer-requires-clause-within
print_answer-requires-clause-within g c = λ out answer left long met.
    listed_within (length left.now) answer (text_within c.args.list.now c.args.shape.now out.now left.now (listed_of answer) (search rules))
