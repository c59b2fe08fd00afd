-- `enqueue_sources`: the invariant is that the sources below v stand in the first `count` places.
use Rattle.std.proofs.Common.{◌≡◌, ◌∙◌, ap, List, ℕ, get_or, arith}
use Rattle.residual.proofs.Chaining.{lining_reach, lining_past, lining_done, fresh_new}
use Rattle.residual.proofs.chains.enqueue_sources.Goals as goal
use Rattle.residual.proofs.chains.enqueue_sources.Goals.{then-space-v-eq0, else-space-v-eq0}

pub loop-v-preserved : goal.loop-v-preserved
loop-v-preserved c =
    let l = c.loop-v in
    let node = c.loop-v-test.true in
    let same : get_or l.space.dist.now l.v 0 ≡ get_or c.args.space.now.dist.now l.v 0 = ap (λ (d : List ℕ). get_or d l.v 0) l.invariant.1 in
    elim c.if-space-v-eq0.branch [
      | then-space-v-eq0 w ↦ rw (w.space-is, w.count-is) (lining_reach l.invariant.0 node (omega (arith, same)), l.invariant.1, l.invariant.2)
      | else-space-v-eq0 w ↦ rw (w.space-is, w.count-is) (lining_past l.invariant.0 node (fresh_new c.args.space.now.dist.now l.v c.requires.fresh (λ z. w.if-space-v-eq0.false (same ∙ z))), l.invariant.1, l.invariant.2)
    ]

pub returns-clause-lined : goal.returns-clause-lined
returns-clause-lined c = let l = c.loop-v in lining_done l.invariant.0 (omega (arith, l.invariant.0.seen, c.loop-v-test.false))
