-- `embedding::read_order` meets its contract.
use Prim.Native.Nat.{◌-◌}
use Rattle.embedding.proofs.Counting.{Gathering}
use Rattle.embedding.proofs.reading.Lists.read_order.Given as goal

abbrev pub invariant-loop-v : goal.invariant-loop-v
invariant-loop-v l = Gathering l.self.posts l.self.ends.now l.self.order.now l.v l.at l.rows

abbrev pub decreases-loop-v : goal.decreases-loop-v
decreases-loop-v l = l.self.posts - l.v
