-- `reach_lacking`: the invariant is a search that reached no node that lacks something; the measure is how many nodes are left to reach.
use Rattle.std.proofs.Common.{None, Some, rules}
use Rattle.residual.specs.Graphs.{residual_on}
use Rattle.residual.specs.Prices.{Gap}
use Rattle.flow.proofs.Phases.{fewer_unreached, explored_again, stalled}
use Rattle.flow.proofs.send.reach_lacking.Goals as goal

pub returns-in_err-by-clause-phase : goal.returns-in_err-by-clause-phase
returns-in_err-by-clause-phase c =
    let none : Gap (residual_on c.args.graph c.args.x.now c.loop-by.pot) c.loop-by.space.dist.now 0 = search rules in
    rw c.from_residual.ensures (stalled _ _ _ _ _ c.loop-by.invariant.0 c.requires.left_nonzero none)

pub returns-in-Some-clause-phase : goal.returns-in-Some-clause-phase
returns-in-Some-clause-phase c = explored_again _ _ _ _ _ c.loop-by.invariant.0 _ c.in_ok-by.ensures.gap c.in_ok-by.ensures.positive _ c.raise.ensures _ _ (Some c.in-Some.v) c.in-Some.ensures.sought

pub loop-by-smaller : goal.loop-by-smaller
loop-by-smaller c = fewer_unreached _ _ _ _ _ c.loop-by.invariant.0 _ c.in_ok-by.ensures.gap c.in_ok-by.ensures.positive _ c.raise.ensures _ _ c.in_default.ensures.sought

pub loop-by-preserved : goal.loop-by-preserved
loop-by-preserved c = (explored_again _ _ _ _ _ c.loop-by.invariant.0 _ c.in_ok-by.ensures.gap c.in_ok-by.ensures.positive _ c.raise.ensures _ _ None c.in_default.ensures.sought, c.in_default.ensures.workspace)
