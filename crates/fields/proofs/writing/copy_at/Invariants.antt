-- `fields::writing::copy_at` puts the content. The invariant: the first i bytes of it are copied.
use Rattle.std.proofs.Common.{◌≡◌, length}
use lib.Seq.{paste}
use Rattle.fields.proofs.writing.copy_at.Given as goal

abbrev pub invariant-loop-i : goal.invariant-loop-i
invariant-loop-i l = (l.out ≡ paste l.initial.out l.at l.content l.i) × (length l.out ≡ length l.initial.out)
