-- `augment`: the tree of a search leads down to its source.
use Rattle.std.proofs.Common.{sym, ◌∙◌}
use Rattle.residual.specs.Graphs.{residual_on}
use Rattle.residual.proofs.ArcLists.{tops_fit}
use Rattle.residual.proofs.Walks.{walkable}
use Rattle.residual.proofs.push.augment.Goals as goal

pub push-requires-clause-walkable : goal.push-requires-clause-walkable
push-requires-clause-walkable c =
    let a = c.args in
    let s = c.search.ensures in
    walkable (residual_on a.graph a.x.now a.pot.now) a.from _ _ s.sought.rooted.tree (rw (sym s.workspace.dist_long) at c.requires.shaped) (s.workspace.via_long ∙ sym s.workspace.dist_long) (tops_fit a.graph.most a.graph.arcs.now)
