-- `link_arc`: arc a is linked behind those below it, if it can move.
use Rattle.std.proofs.Common.{arith}
use Rattle.residual.proofs.ArcLists.{lower_at, upper_at}
use Rattle.residual.proofs.Chaining.{linking_more, linking_fixed}
use Rattle.residual.proofs.chains.link_arc.Goals as goal

pub returns-then-arc : goal.returns-then-arc
returns-then-arc c = record { linking = linking_more c.requires.linking c.near_end-v.ensures c.leads_to-to.ensures (omega (arith, c.requires.node, c.near_end-v.ensures)) c.requires.a_in_bounds }

pub returns-else-arc : goal.returns-else-arc
returns-else-arc c =
    let a = c.args in
    record {
      linking = linking_fixed c.requires.linking c.near_end-v.ensures c.leads_to-to.ensures (omega (arith, c.requires.node, c.near_end-v.ensures)) c.requires.a_in_bounds
          (λ m. omega (arith, c.if-arc.false, lower_at a.arcs.now a.a, upper_at a.arcs.now a.a));
    }
