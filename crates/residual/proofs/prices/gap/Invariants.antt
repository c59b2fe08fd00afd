-- `gap`: the invariant is the gap over the arcs at the nodes below u.
use Rattle.std.proofs.Common.{unwrap_or}
use Rattle.residual.specs.Graphs.{lists_of}
use Rattle.residual.specs.Prices.{Closest, Positive}
use Rattle.residual.proofs.Gaps.{FromBelow}
use Rattle.residual.proofs.prices.gap.Given as goal

abbrev pub invariant-loop-u : goal.invariant-loop-u
invariant-loop-u l = Closest (lists_of l.r) l.space.dist.now (FromBelow (lists_of l.r) l.space.dist.now l.u) 0 (unwrap_or l.best 0) × Positive l.best
