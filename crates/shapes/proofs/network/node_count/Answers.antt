-- `node_count`: 64 posts and 66 faces at most.
use Rattle.std.proofs.Common.{refl, arith}
use Rattle.shapes.proofs.HeldPlate.{few_posts, few_faces}
use Rattle.shapes.proofs.network.node_count.Goals as goal

pub returns : goal.returns
returns c = (refl, omega (arith, few_posts c.args.q.now, few_faces c.args.q.now))
