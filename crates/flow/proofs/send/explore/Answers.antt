-- `explore`: what has something left is a source of the search, and what lacks something is wanted.
use Rattle.std.proofs.Common.{◌≤◌, length, arith}
use Rattle.residual.proofs.Sources.{marks_fresh}
use Rattle.flow.proofs.send.explore.Goals as goal

pub enqueue_sources-sources-requires-clause-fresh : goal.enqueue_sources-sources-requires-clause-fresh
enqueue_sources-sources-requires-clause-fresh c =
    let few : length c.args.units.now.left.now ≤ 255 = omega (arith, c.args.r.shaped.nodes_few) in
    rw c.mark_sources.ensures (marks_fresh c.args.units.now.left.now c.requires.left_nonzero few)

pub search-requires-clause-fresh : goal.search-requires-clause-fresh
search-requires-clause-fresh c =
    let few : length c.args.units.now.left.now ≤ 255 = omega (arith, c.args.r.shaped.nodes_few) in
    rw (c.enqueue_sources-sources.ensures.dist_after, c.mark_sources.ensures) (marks_fresh c.args.units.now.left.now c.requires.left_nonzero few)
