-- `gap_by`: the invariant is the gap over the arcs at u from `at` on; the measure is `at`.
use Rattle.std.proofs.Common.{unwrap_or}
use Rattle.residual.specs.Residual.{near_ends}
use Rattle.residual.specs.Graphs.{lists_of}
use Rattle.residual.specs.Prices.{Positive}
use Rattle.residual.proofs.Gaps.{Closing}
use Rattle.residual.proofs.prices.gap_by.Given as goal

abbrev pub invariant-loop-at : goal.invariant-loop-at
invariant-loop-at l = Closing (lists_of l.r) l.dist (near_ends l.on (lists_of l.r)) l.u l.at (unwrap_or l.fn.most 0) (unwrap_or l.best 0) × Positive l.best

abbrev pub decreases-loop-at : goal.decreases-loop-at
decreases-loop-at l = l.at
