-- `post_at` meets its contract.
use lib.ListN.{get_or}
use native.Mathlib.Omega.{arith}
use Rattle.finite.proofs.Members.{all_in, get_d_in}
use Rattle.embedding.proofs.order.Ordered.post_at.Goals as goal

pub returns : goal.returns
returns c =
    let q = c.args.self.now in
    let e = q.ends.now in
    (c.from.ensures, omega (arith, c.from.ensures, all_in q.posts (get_or e c.args.i 0) e q.below (get_d_in e c.args.i c.requires)))
