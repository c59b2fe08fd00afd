-- `mark_sources`: the invariant is that the nodes below v have their marks.
use Rattle.std.proofs.Common.{◌≡◌, ℕ, ◌<◌, get_or}
use Rattle.residual.specs.Marks.{mark_of}
use Rattle.residual.proofs.marks.mark_sources.Given as goal

abbrev pub invariant-loop-v : goal.invariant-loop-v
invariant-loop-v l = (u : ℕ) → u < l.v → get_or l.dist u 0 ≡ mark_of (get_or l.left u 0)
