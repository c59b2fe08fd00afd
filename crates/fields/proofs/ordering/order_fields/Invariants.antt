-- `fields::ordering::order_fields` writes the slots in turn. The invariant: the fields of the slots passed stand one behind the other.
use Rattle.fields.specs.Files.{old_walk}
use Rattle.fields.specs.Rules.{first_tag}
use Rattle.fields.specs.Writing.{Written}
use Rattle.fields.specs.Ordering.{rising, bytes_in}
use Rattle.fields.proofs.ordering.order_fields.Given as goal

abbrev pub invariant-loop-slot : goal.invariant-loop-slot
invariant-loop-slot l = Written 0 (bytes_in (rising l.slot (first_tag l.shape) (old_walk l.shape l.fn.file).fields)) l.initial.out l.out l.at
