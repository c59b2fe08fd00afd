-- `gap_at`: the arcs out of u, then the arcs into it; a node that is not reached has none.
use Rattle.residual.proofs.Gaps.{from_both}
use Rattle.residual.proofs.prices.gap_at.Goals as goal

pub returns-clause-closest : goal.returns-clause-closest
returns-clause-closest c = from_both c.gap_by-on.ensures.closest c.gap_by.ensures.closest
