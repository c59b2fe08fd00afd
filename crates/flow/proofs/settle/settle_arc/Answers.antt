-- `settle_arc`: the invariant is a cheapest flow that is first below k; the measure is what arc k carries.
use Rattle.std.proofs.Common.{◌+◌, true, arith}
use Rattle.residual.specs.Residual.{tight}
use Rattle.residual.specs.Graphs.{residual_on}
use Rattle.residual.proofs.ArcLists.{cost_at, lower_at, ends_long}
use Rattle.flow.proofs.Settles.{workable_then, settled_join, settled_low, settled_frozen, settled_stuck, settled_round}
use Rattle.flow.proofs.settle.settle_arc.Goals as goal

pub returns-then-x-k-clause-settled : goal.returns-then-x-k-clause-settled
returns-then-x-k-clause-settled c =
    let arcs = c.args.graph.arcs.now in
    let w = c.requires.workable in
    settled_low _ c.args.k (omega (arith, ends_long true arcs)) w.capped w.priced (omega (arith, lower_at arcs c.args.k))

pub returns-then-not-is_tight-clause-settled : goal.returns-then-not-is_tight-clause-settled
returns-then-not-is_tight-clause-settled c =
    let arcs = c.args.graph.arcs.now in
    let w = c.requires.workable in
    settled_frozen _ c.args.k (omega (arith, ends_long true arcs)) w.capped w.priced (rw (c.near_end-tail.ensures, c.far_end-head.ensures, ← cost_at arcs c.args.k) at c.if-not-is_tight.ensures)

pub returns-in_default-clause-settled : goal.returns-in_default-clause-settled
returns-in_default-clause-settled c =
    let w = workable_then c.requires.workable c.loop-x.invariant.0 c.requires.workable.workspace c.requires.workable.wanted_long in
    let k = c.args.k in
    let g = c.in_default.ensures in
    settled_join _ k k (k + 1) _ _ c.loop-x.invariant.0
    (settled_stuck _ k (omega (arith, ends_long true c.args.graph.arcs.now)) _ _ _ (rw (← g.workspace.dist_long) at w.shaped) w.capped w.priced _ _ c.near_end-tail.ensures c.far_end-head.ensures c.mark_only.ensures.single _ g.augmented)

pub loop-x-preserved : goal.loop-x-preserved
loop-x-preserved c =
    let w = workable_then c.requires.workable c.loop-x.invariant.0 c.requires.workable.workspace c.requires.workable.wanted_long in
    let arcs = c.args.graph.arcs.now in
    let k = c.args.k in
    let g = c.in-Some.ensures in
    let even : tight (residual_on c.args.graph c.loop-x.x c.args.pot.now) k = rw (c.near_end-tail.ensures, c.far_end-head.ensures, ← cost_at arcs k) at c.if-not-is_tight.ensures in (
      settled_join _ k k k _ _ c.loop-x.invariant.0
          (settled_round _ k (omega (arith, ends_long true arcs)) _ _ _ (rw (← g.workspace.dist_long) at w.shaped) w.capped w.priced _ _ c.near_end-tail.ensures c.far_end-head.ensures c.mark_only.ensures.single _ _ g.augmented even (omega (arith, lower_at arcs k))),
      g.workspace,
    )

pub returns-clause-settled : goal.returns-clause-settled
returns-clause-settled c =
    let arcs = c.args.graph.arcs.now in
    let k = c.args.k in
    let w = c.requires.workable in
    settled_join _ k k (k + 1) _ _ c.loop-x.invariant.0 (settled_low _ k (omega (arith, ends_long true arcs)) w.capped c.loop-x.invariant.0.priced (omega (arith, lower_at arcs k)))
