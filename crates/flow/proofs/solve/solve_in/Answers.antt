-- `solve_in`: from the start to the least flow or to a cut.
use Rattle.std.proofs.Common.{◌≡◌, sym, ◌∙◌, is_ok, arith}
use Rattle.flow.specs.Network.{excess}
use Rattle.flow.specs.Nodes.{network_from}
use Rattle.flow.proofs.Capping.{spread_total}
use Rattle.flow.proofs.Tops.{ready_arcs, capped_arcs, ended_arcs}
use Rattle.flow.proofs.solve.solve_in.Goals as goal
use Rattle.flow.proofs.solve.solve_in.Goals.{After-total_left-most}

-- what is left at first is the excess
left_first : (p : After-total_left-most) → p.total_left-most.result ≡ excess (network_from p.args.arcs.now p.args.nodes.now)
left_first p = p.total_left-most.ensures ∙ spread_total _ _ _ p.spread.ensures.spread

pub total_left-most-requires : goal.total_left-most-requires
total_left-most-requires c = omega (arith, spread_total _ _ _ c.spread.ensures.spread, c.requires.sound.few)

pub link-requires-clause-ready : goal.link-requires-clause-ready
link-requires-clause-ready c =
    let p = (goal.at.link-requires-clause-ready c).After-total_left-most in
    ready_arcs _ _ c.requires.sound _ (left_first p) _ _ c.spread.ensures.spread (sym c.total_left-most.ensures) _ _ c.spread.ensures.x_after c.requires.pot_zeros

pub link-requires-clause-capped : goal.link-requires-clause-capped
link-requires-clause-capped c =
    let p = (goal.at.link-requires-clause-capped c).After-total_left-most in
    capped_arcs _ _ c.requires.sound _ (left_first p) c.spread.new.x c.args.pot.now

pub returns : goal.returns
returns c =
    let p = (goal.at.returns c).After-total_left-most in
    ended_arcs _ _ c.requires.sound _ (left_first p) _ _ c.spread.ensures.spread (sym c.total_left-most.ensures) c.spread.new.x c.link.new.x c.spread.ensures.x_after (is_ok c.link.result) c.link.ensures
