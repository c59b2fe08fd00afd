-- `face_plus`: a dart's key is its face, its number its right bends and 2.
use Rattle.std.proofs.Common.{rules, get_or, ◌+◌}
use Rattle.shapes.proofs.judge.face_plus.Goals as goal

pub returns : goal.returns
returns c = c.group_sum.ensures (λ d. get_or c.args.face.by_dart.now d 0) (λ d. get_or c.args.rights.now d 0 + 2) (λ d r l e. search rules)
