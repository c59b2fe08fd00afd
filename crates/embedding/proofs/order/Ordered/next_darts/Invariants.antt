-- `next_darts` meets its contract: the darts before d have theirs.
use Rattle.finite.specs.Tables.{Table, up_to}
use Rattle.embedding.specs.Steps.{after_in}
use Rattle.embedding.proofs.order.Ordered.next_darts.Given as goal

abbrev pub invariant-loop-d : goal.invariant-loop-d
invariant-loop-d l = Table 256 (up_to l.d (after_in l.self.ends.now l.self.places l.self.degrees)) l.next
