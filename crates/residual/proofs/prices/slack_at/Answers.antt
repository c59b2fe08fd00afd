-- `slack_at`: the cost of the step and the potential of the arc's tail fit together.
use Rattle.std.proofs.Common.{true, arith}
use Rattle.residual.specs.Graphs.{lists_of}
use Rattle.residual.proofs.ArcLists.{cost_at, ends_long}
use Rattle.residual.proofs.Steps.{fits}
use Rattle.residual.proofs.prices.slack_at.Goals as goal

pub short_by-short-requires : goal.short_by-short-requires
short_by-short-requires c =
    let a = c.args in
    let arcs = a.r.graph.arcs.now in
    rw (cost_at arcs a.a) at (fits (lists_of a.r) a.dist.now a.u a.a a.on c.in_ok-v.v c.requires.a_value c.in_ok-v.ensures.at (omega (arith, ends_long true arcs, c.requires.a_in_bounds)) c.requires.sums)
