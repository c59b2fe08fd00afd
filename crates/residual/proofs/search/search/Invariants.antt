-- `search`: the invariant is that the nodes before place `next` are not wanted and lead to no new node; the measure is how many nodes have not been taken from the queue.
use Rattle.std.proofs.Common.{◌-◌, length}
use Rattle.residual.specs.Graphs.{lists_of}
use Rattle.residual.proofs.Queues.{Going}
use Rattle.residual.proofs.search.search.Given as goal

abbrev pub invariant-loop-next : goal.invariant-loop-next
invariant-loop-next l = Going (lists_of l.r) l.from l.initial.space.dist.now l.wanted l.next l.count l.space.dist.now l.space.via.now l.space.queue.now

abbrev pub decreases-loop-next : goal.decreases-loop-next
decreases-loop-next l = length l.initial.space.dist.now - l.next
