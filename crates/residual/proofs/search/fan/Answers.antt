-- `fan`: the invariant is that the arcs at u from `at` on lead to no new node; the measure is `at`.
use Rattle.std.proofs.Common.{ap, ℕ, ◌<◌, arith, length, get_or}
use Rattle.residual.proofs.Steps.{near_long}
use Rattle.residual.proofs.Queues.{fan_arc, fan_over, fan_reach, fan_further, reach_place, newest}
use Rattle.residual.proofs.search.fan.Goals as goal
use Rattle.residual.proofs.search.fan.Goals.{In-Some, in-Some+else-wanted-v-gt0, in_default}

place : (c : In-Some) → c.loop-at.next < length c.loop-at.space.queue.now
place c =
    let arc = fan_arc (rw (← c.requires.dist_len) at c.links-links.ensures) (near_long c.args.on c.args.r.shaped) c.requires.standing.node c.loop-at.invariant c.loop-at-test.true in
    reach_place (omega arith) arc c.in-Some.ensures c.loop-at.invariant.further.underway

pub bounds-space-next : goal.bounds-space-next
bounds-space-next c = place c

pub returns-then-wanted-v-gt0-clause-further : goal.returns-then-wanted-v-gt0-clause-further
returns-then-wanted-v-gt0-clause-further c = fan_further (rw (← c.requires.dist_len) at c.links-links.ensures) (near_long c.args.on c.args.r.shaped) c.requires.standing.node c.loop-at.invariant c.loop-at-test.true c.in-Some.ensures

pub returns-then-wanted-v-gt0-clause-spent_at : goal.returns-then-wanted-v-gt0-clause-spent_at
returns-then-wanted-v-gt0-clause-spent_at c =
    let there = place (goal.at.returns-then-wanted-v-gt0-clause-spent_at c).In-Some in
    λ z. absurd (omega (arith, ap (λ (w : ℕ). get_or c.args.wanted.now w 0) (newest c.loop-at.space.queue.now c.loop-at.next c.in-Some.v there)))

pub loop-at-preserved : goal.loop-at-preserved
loop-at-preserved c =
    let near = near_long c.args.on c.args.r.shaped in
    let node = c.requires.standing.node in
    let some = c.loop-at-test.true in
    elim c.match-reached_by.branch [
      | in-Some+else-wanted-v-gt0 w ↦ rw (w.space-is, w.next-is, c.from-at-in-loop-at.ensures) (fan_reach (rw (← c.requires.dist_len) at c.links-links.ensures) near node c.loop-at.invariant some w.in-Some.ensures)
      | in_default w ↦ rw (w.space-is, w.next-is, c.from-at-in-loop-at.ensures) (fan_over (rw (← c.requires.dist_len) at c.links-links.ensures) near node c.loop-at.invariant some w.in_default.ensures)
    ]
