-- `post_angles`: a dart's key is the post where it ends, its number its angle.
use Rattle.std.proofs.Common.{rules, get_or}
use Rattle.embedding.specs.Plates.{twin}
use Rattle.shapes.proofs.judge.post_angles.Goals as goal

pub returns : goal.returns
returns c = c.group_sum.ensures (λ d. get_or c.args.ends.by_dart.now (twin d) 0) (λ d. get_or c.args.angles.now d 0) (λ d r l e. search rules)
