-- `gap`: the invariant is the gap over the arcs at the nodes below u.
use Rattle.std.proofs.Common.{arith, subst, ◌≡◌}
use Rattle.residual.specs.Residual.{Shaped}
use Rattle.residual.specs.Graphs.{lists_of}
use Rattle.residual.proofs.Gaps.{below_more, below_all}
use Rattle.residual.proofs.prices.gap.Goals as goal

pub loop-u-preserved : goal.loop-u-preserved
loop-u-preserved c = (below_more {r = lists_of c.args.r} c.loop-u.invariant.0 c.gap_at-best.ensures.closest, c.gap_at-best.ensures.positive)

pub returns-clause-gap : goal.returns-clause-gap
returns-clause-gap c =
    let r = lists_of c.args.r in
    let all : c.args.r.graph.nodes ≡ c.loop-u.u = omega arith in
    below_all {r = r} (subst (Shaped r) all c.args.r.shaped) c.loop-u.invariant.0
