-- `one_face` meets its contract.
use Rattle.embedding.proofs.Refusing.{face_two}
use native.Mathlib.Omega.{arith}
use Rattle.embedding.proofs.Holding.{held_darts}
use Rattle.embedding.proofs.Plate.one_face.Goals as goal

pub bounds-self-d : goal.bounds-self-d
bounds-self-d c =
    let q = c.args.self in
    omega (arith, held_darts q.stands q.accepted)

pub bounds-self-e : goal.bounds-self-e
bounds-self-e c =
    let q = c.args.self in
    omega (arith, held_darts q.stands q.accepted)

pub returns-then-d-e : goal.returns-then-d-e
returns-then-d-e c =
    let (l, k, n) = c.if-d-e.true in
    face_two c.args.self c.args.d c.args.e l k n
