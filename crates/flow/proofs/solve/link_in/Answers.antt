-- `link_in`: the arcs that can move are linked however far they are held.
use Rattle.flow.proofs.solve.link_in.Goals as goal

pub invariant_of-graph-clause-by_tail : goal.invariant_of-graph-clause-by_tail
invariant_of-graph-clause-by_tail c = rw (c.links.ensures.last_is, c.links.ensures.before_is) (rw c.requires.outs_last_len at (c.chain.ensures.outs_linked.chain c.args.most))

pub invariant_of-graph-clause-by_head : goal.invariant_of-graph-clause-by_head
invariant_of-graph-clause-by_head c = rw (c.links-2.ensures.last_is, c.links-2.ensures.before_is) (rw c.requires.ins_last_len at (c.chain.ensures.ins_linked.chain c.args.most))
