-- `face_minus`: a dart's key is its face, its number its left bends and its angle.
use Rattle.std.proofs.Common.{rules, get_or, ◌+◌}
use Rattle.embedding.specs.Plates.{twin}
use Rattle.shapes.proofs.judge.face_minus.Goals as goal

pub returns : goal.returns
returns c =
    let a = c.args.counts in
    c.group_sum.ensures (λ d. get_or c.args.face.by_dart.now d 0) (λ d. get_or a.rights.now (twin d) 0 + get_or a.angles.now d 0) (λ d r l e. search rules)
