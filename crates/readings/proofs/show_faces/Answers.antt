-- A plate has at most 66 faces.
use native.Mathlib.Omega.{arith}
use Rattle.embedding.proofs.Holding.{held_faces}
use Rattle.readings.proofs.show_faces.Goals as goal

pub shared_ref_as_front-sizes : goal.shared_ref_as_front-sizes
shared_ref_as_front-sizes g c =
    let q = c.args.plate.now in
    omega (arith, held_faces q.stands q.accepted)
