-- `fan`: the invariant is that the arcs at u from `at` on lead to no new node; the measure is `at`.
use Rattle.residual.specs.Residual.{near_ends}
use Rattle.residual.specs.Graphs.{lists_of}
use Rattle.residual.proofs.Queues.{Fan}
use Rattle.residual.proofs.search.fan.Given as goal

abbrev pub invariant-loop-at : goal.invariant-loop-at
invariant-loop-at l =
    Fan (lists_of l.r) l.from (near_ends l.on (lists_of l.r)) l.u l.count l.initial.space.dist.now l.initial.space.queue.now l.at l.next l.space.dist.now l.space.via.now l.space.queue.now

abbrev pub decreases-loop-at : goal.decreases-loop-at
decreases-loop-at l = l.at
