-- `send_over`: the units that it sends are no more than the tail has left, the head lacks and the arc has room for.
use Rattle.std.proofs.Common.{◌+◌, ◌≤◌, ◌<◌, true, length, get_or, arith}
use Rattle.residual.specs.Residual.{tight}
use Rattle.residual.specs.Arcs.{tails_of, tops_of}
use Rattle.residual.specs.Graphs.{residual_on}
use Rattle.residual.proofs.ArcLists.{cost_at, top_at, ends_long}
use Rattle.flow.proofs.Transfers.{carried_over, eased_over}
use Rattle.flow.proofs.direct.send_over.Goals as goal
use Rattle.flow.proofs.direct.send_over.Goals.{After-min-sent}

module _ (c : After-min-sent) where
  arc : c.args.a < length (tails_of c.args.graph.arcs.now)
  arc = omega (arith, ends_long true c.args.graph.arcs.now)

  even : tight (residual_on c.args.graph c.args.x.now c.args.pot.now) c.args.a
  even = rw (c.near_end-t.ensures, c.far_end-h.ensures, ← cost_at c.args.graph.arcs.now c.args.a) at c.if-not-is_tight.ensures

  room : get_or c.args.x.now c.args.a 0 + c.min-sent.result ≤ get_or (tops_of c.args.graph.most c.args.graph.arcs.now) c.args.a 0
  room = omega (arith, top_at c.args.graph.most c.args.graph.arcs.now c.args.a (omega arith), c.requires.ready.shaped.within.below c.args.a arc)

pub returns-clause-carried : goal.returns-clause-carried
returns-clause-carried c =
    let p = (goal.at.returns-clause-carried c).After-min-sent in
    carried_over _ _ _ c.requires.ready c.args.a (arc p) _ _ c.near_end-t.ensures c.far_end-h.ensures (even p) c.min-sent.result (omega arith) (omega arith) (room p)

pub returns-clause-eased : goal.returns-clause-eased
returns-clause-eased c =
    let p = (goal.at.returns-clause-eased c).After-min-sent in
    eased_over _ _ _ c.requires.ready c.args.a (arc p) _ _ c.near_end-t.ensures c.far_end-h.ensures (even p) c.min-sent.result (omega arith) (omega arith) (room p)
