-- `enqueue_sources`: the invariant is that the sources below v stand in the first `count` places.
use Rattle.std.proofs.Common.{◌≡◌}
use Rattle.residual.proofs.Chaining.{Lining}
use Rattle.residual.proofs.chains.enqueue_sources.Given as goal

abbrev pub invariant-loop-v : goal.invariant-loop-v
invariant-loop-v l = Lining l.initial.space.dist.now l.v l.count l.space.queue.now × (l.space.dist.now ≡ l.initial.space.dist.now) × (l.space.via.now ≡ l.initial.space.via.now)
