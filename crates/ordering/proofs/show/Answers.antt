-- What was written is within the memory, by the promise of `order_fields`.
use Rattle.std.proofs.Common.{rules}
use Rattle.fields.proofs.InOrder.{order_within}
use Rattle.ordering.proofs.show.Goals as goal

pub print_answer-requires-clause-within : goal.print_answer-requires-clause-within
print_answer-requires-clause-within g c = λ out answer left long met. order_within c.args.file.now out.now left.now answer (search rules)
