-- `gap_by`: the invariant is the gap over the arcs at u from `at` on; the measure is `at`.
use Rattle.residual.proofs.Steps.{near_long}
use Rattle.residual.proofs.Gaps.{lesser_none, closing_next, closing_done}
use Rattle.residual.proofs.prices.gap_by.Goals as goal
use Rattle.residual.proofs.prices.gap_by.Goals.{in-Some, in_default}

pub loop-at-preserved : goal.loop-at-preserved
loop-at-preserved c =
    let next = closing_next (rw (← c.requires.dist_len) at c.links-links.ensures) (near_long c.args.on c.args.r.shaped) c.requires.standing.node c.loop-at.invariant.0 c.loop-at-test.true in
    elim c.match-slack_at.branch [
      | in-Some w ↦ rw (w.best-is, c.from-at-in-loop-at.ensures) (next _ _ w.in-Some.ensures.slack w.lesser-best.ensures.lesser, w.lesser-best.ensures.positive)
      | in_default w ↦ rw (w.best-is, c.from-at-in-loop-at.ensures) (next _ _ w.in_default.ensures.slack lesser_none, c.loop-at.invariant.1)
    ]

pub returns-clause-closest : goal.returns-clause-closest
returns-clause-closest c = closing_done (rw (← c.requires.dist_len) at c.links-links.ensures) (near_long c.args.on c.args.r.shaped) c.requires.standing.node c.loop-at.invariant.0 c.args.r.shaped.within c.loop-at-test.false
