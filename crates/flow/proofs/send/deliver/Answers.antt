-- `deliver`: a unit goes along the tree, from a node that has one left to the target, which lacks one.
use Rattle.std.proofs.Common.{◌≡◌, sym, ◌∙◌, length}
use Rattle.std.proofs.lemmas.List.{length-map}
use Rattle.residual.specs.Graphs.{residual_on}
use Rattle.residual.specs.Marks.{mark_of}
use Rattle.residual.proofs.ArcLists.{tops_fit}
use Rattle.residual.proofs.Walks.{walkable, pushed}
use Rattle.flow.proofs.Phases.{carried, sent}
use Rattle.flow.proofs.send.deliver.Goals as goal

pub returns-clause-carried : goal.returns-clause-carried
returns-clause-carried c =
    let x = c.requires.explored in
    carried _ _ _ _ _ _ x _ _ (pushed _ 0 _ _ x.sought.rooted.tree _ _ _ c.push-source.ensures.walked c.push-source.ensures.result_value)

pub returns-clause-sent : goal.returns-clause-sent
returns-clause-sent c =
    let x = c.requires.explored in
    sent _ _ _ _ _ _ x _ _ (pushed _ 0 _ _ x.sought.rooted.tree _ _ _ c.push-source.ensures.walked c.push-source.ensures.result_value)

pub push-source-requires-clause-walkable : goal.push-source-requires-clause-walkable
push-source-requires-clause-walkable c =
    let a = c.args in
    let x = c.requires.explored in
    let long : length a.units.now.left.now ≡ length a.space.now.dist.now = sym (x.sought.rooted.long ∙ length-map a.units.now.left.now mark_of) in
    walkable (residual_on a.graph a.x.now a.pot.now) 0 _ _ x.sought.rooted.tree (rw long at x.ready.shaped) (x.sought.rooted.via_long ∙ sym x.sought.rooted.long) (tops_fit a.graph.most a.graph.arcs.now)
