-- Arcs that are held to the excess above their least: what they can take are caps, and the solver's start and end are those under caps.
use Rattle.std.proofs.Common.{◌≡◌, sym, ◌∙◌, Bool, List, [], ◌∷◌, ℕ, ◌+◌, ◌*◌, zero, suc, ◌≤◌, ◌<◌, min, length, get_or, arith}
use Rattle.std.proofs.lemmas.List.{length-map}
use Rattle.residual.specs.declared.arcs.Arc.{Arc}
use Rattle.residual.specs.Arcs.{tails_of, heads_of, lowers_of, uppers_of, costs_of, top_of, tops_of, residual_from}
use Rattle.flow.specs.declared.nodes.Node.{Node}
use Rattle.flow.specs.Network.{Network, Sound, Either, Best, NoFlow, total, excess, unbounded}
use Rattle.flow.specs.Nodes.{network_from}
use Rattle.flow.specs.Solver.{Caps, Capped, Spread, Zeros, Ready, Finished, Blocked, phase_most}
use Rattle.flow.proofs.Fills.{total_has}
use Rattle.flow.proofs.Capping.{ready_first, capped_bounds, ended}

tops_at : (e : ℕ) (arcs : List Arc) → ((a : ℕ) → a < length arcs → get_or (lowers_of arcs) a 0 + e ≤ unbounded)
    → (a : ℕ) → a < length arcs → get_or (tops_of e arcs) a 0 ≡ min (get_or (uppers_of arcs) a 0) (get_or (lowers_of arcs) a 0 + e)
tops_at e [] few a l = absurd (omega arith)
tops_at e (arc ∷ arcs) few zero l = omega (arith, few 0 (omega arith))
tops_at e (arc ∷ arcs) few (suc a) l = tops_at e arcs (λ b h. few (suc b) (omega arith)) a (omega arith)

module _ (arcs : List Arc) (nodes : List Node) (sound : Sound (network_from arcs nodes)) (e : ℕ) (is-excess : e ≡ excess (network_from arcs nodes)) where
  abbrev n : Network
  n = network_from arcs nodes

  caps : Caps (lowers_of arcs) (uppers_of arcs) e (tops_of e arcs)
  caps = record {
    long = length-map arcs (λ (arc : Arc). top_of e arc) ∙ sym (length-map arcs (λ (arc : Arc). arc.upper));
    at = λ a l. tops_at e arcs few a (omega (arith, length-map arcs (λ (arc : Arc). arc.upper)));
  }
    where
      few : (a : ℕ) → a < length arcs → get_or (lowers_of arcs) a 0 + e ≤ unbounded
      few a l = omega (arith, total_has (lowers_of arcs) a (omega (arith, length-map arcs (λ (arc : Arc). arc.lower))), sound.small, sound.few)

  module _ (left lack : List ℕ) (s : Spread n left lack) (all : total left ≡ e) where
    pub ready_arcs : (x pot : List ℕ) → x ≡ lowers_of arcs → Zeros (length nodes) pot → Ready (residual_from e arcs x pot) (phase_most * total left) left lack
    ready_arcs x pot is z =
        let zeros : Zeros (length n.supplies) pot = rw (length-map nodes (λ (node : Node). node.supply)) z in
        rw is (ready_first n sound e is-excess (tops_of e arcs) caps left lack s pot zeros all)

    pub ended_arcs : (x x' : List ℕ) → x ≡ lowers_of arcs → (b : Bool)
        → Either b (Finished (tails_of arcs) (heads_of arcs) (lowers_of arcs) (tops_of e arcs) (costs_of arcs) x left lack x') (Blocked (tails_of arcs) (heads_of arcs) (lowers_of arcs) (tops_of e arcs) (costs_of arcs) x left lack)
        → Either b (Best n x') (NoFlow n)
    ended_arcs = ended n sound e is-excess (tops_of e arcs) caps left lack s all

  pub capped_arcs : (x pot : List ℕ) → Capped (residual_from e arcs x pot)
  capped_arcs = capped_bounds n sound e is-excess (tops_of e arcs) caps
