-- `search`: the invariant is that the nodes before place `next` are not wanted and lead to no new node; the measure is how many nodes have not been taken from the queue.
use Rattle.std.proofs.Common.{◌≡◌, ap, ℕ, ◌-◌, arith, length, get_or}
use Rattle.residual.proofs.Queues.{going_over, going_next}
use Rattle.residual.proofs.search.search.Goals as goal

pub loop-next-preserved : goal.loop-next-preserved
loop-next-preserved c =
    let wants : ℕ → ℕ = λ v. get_or c.args.wanted.now v 0 in
    let none : wants (get_or c.loop-next.space.queue.now c.loop-next.next 0) ≡ 0 = omega (arith, ap wants c.node_at-u.ensures) in
    let last : wants (get_or c.visit-count.new.space.queue.now (c.visit-count.result - 1) 0) ≡ 0 = omega (arith, ap wants c.node_at-newest.ensures) in
    going_next c.loop-next.invariant c.visit-count.ensures.further c.loop-next-test.true none (rw c.node_at-u.ensures at (c.visit-count.ensures.done last))

pub returns-clause-sought : goal.returns-clause-sought
returns-clause-sought c =
    let long : c.args.r.graph.nodes ≡ length c.loop-next.space.dist.now = omega (arith, c.loop-next.invariant.long, c.requires.workspace.dist_long) in
    going_over c.loop-next.invariant (rw long at c.args.r.shaped) c.loop-next-test.false
