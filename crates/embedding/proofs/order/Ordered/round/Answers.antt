-- `round` meets its contract.
use native.Mathlib.Omega.{arith}
use Rattle.embedding.proofs.Pairs.{pair_posts, round_made}
use Rattle.embedding.proofs.order.Ordered.round.Goals as goal

pub join-requires : goal.join-requires
join-requires c =
    let q = c.args.self.now in
    let strips = c.as_chunks.ensures in
    let loop = c.loop-strip in
    let (a, b) = pair_posts q.posts _ q.ends.now strips.front strips.front_len c.loop-strip-test.true q.below c.from.ensures c.from-in-loop-strip.ensures in
    (omega (arith, a, q.few), omega (arith, b, q.few), omega (arith, c.requires, loop.invariant.few, c.loop-strip-test.true, strips.front_len, q.short))

pub returns : goal.returns
returns c = round_made _ _ c.as_chunks.ensures.front (omega (arith, c.loop-strip-test.false)) c.loop-strip.invariant.joined
