-- `reach_count` meets its contract: rounds until one adds nothing, after which no round would.
use Rattle.embedding.proofs.Reaching.{spreading_start, spreading_more, spreading_done, spread_most, counts_most}
use native.Mathlib.Omega.{arith}
use Rattle.embedding.proofs.order.Ordered.reach_count.Goals as goal

pub loop-s-init : goal.loop-s-init
loop-s-init c =
    let q = c.args.self.now in
    spreading_start q.posts q.ends.now q.some

pub round-requires : goal.round-requires
round-requires c = omega (arith, c.args.self.now.few, spread_most c.loop-s.invariant)

pub returns-then-s-before : goal.returns-then-s-before
returns-then-s-before c = spreading_done c.loop-s.invariant c.round.ensures c.args.self.now.below c.if-s-before.true

pub loop-s-smaller : goal.loop-s-smaller
loop-s-smaller c = omega (arith, c.if-s-before.false, counts_most c.loop-s.invariant c.round.ensures c.args.self.now.below)

pub loop-s-preserved : goal.loop-s-preserved
loop-s-preserved c = spreading_more c.loop-s.invariant c.round.ensures c.args.self.now.below c.if-s-before.false
