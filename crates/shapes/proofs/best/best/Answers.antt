-- `best`: no limits and no prices are fair, and then there is always a shape.
use Rattle.std.proofs.Common.{rules}
use Rattle.shapes.proofs.Results.{found_some, found_best}
use Rattle.shapes.proofs.best.best.Goals as goal

pub unwrap-requires : goal.unwrap-requires
unwrap-requires c =
    let found = found_some _ c.args.q.accepted _ c.best_by.ensures in
    rw found.1 (search rules)

pub returns : goal.returns
returns c = found_best _ _ (rw c.unwrap.ensures at c.best_by.ensures)
