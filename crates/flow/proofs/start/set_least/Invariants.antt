-- `set_least`: the invariant is that the arcs below a are set, and their least is added.
use Rattle.std.proofs.Common.{◌≡◌, ℕ, ◌<◌, get_or}
use Rattle.residual.specs.Arcs.{tails_of, heads_of, lowers_of}
use Rattle.flow.proofs.Fills.{Adding}
use Rattle.flow.proofs.start.set_least.Given as goal

abbrev pub invariant-loop-a : goal.invariant-loop-a
invariant-loop-a l =
    ((u : ℕ) → u < l.a → get_or l.x u 0 ≡ get_or (lowers_of l.arcs) u 0)
    × Adding (heads_of l.arcs) (lowers_of l.arcs) l.initial.units.left.now l.a l.units.left.now
    × Adding (tails_of l.arcs) (lowers_of l.arcs) l.initial.units.lack.now l.a l.units.lack.now
