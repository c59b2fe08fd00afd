-- `reach_count` meets its contract: rounds until one adds nothing, after which no round would.
use Prim.Native.Nat.{◌-◌}
use Rattle.embedding.proofs.Reaching.{Spreading}
use Rattle.embedding.proofs.order.Ordered.reach_count.Given as goal

abbrev pub invariant-loop-s : goal.invariant-loop-s
invariant-loop-s l = Spreading l.self.posts l.self.ends.now l.s

abbrev pub decreases-loop-s : goal.decreases-loop-s
decreases-loop-s l = l.self.posts - l.s.count
