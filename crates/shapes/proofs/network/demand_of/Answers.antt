-- `demand_of`: a face is one of 66, and has no more than 256 darts.
use Prim.Native.Nat.{◌-◌}
use native.Mathlib.Omega.{arith}
use Rattle.shapes.proofs.HeldPlate.{few_faces}
use Rattle.shapes.proofs.Laid.{held_size}
use Rattle.shapes.proofs.network.demand_of.Goals as goal

pub offset_bounds-q-v : goal.offset_bounds-q-v
offset_bounds-q-v c = omega (arith, few_faces c.args.q.now)

pub bounds-q-v : goal.bounds-q-v
bounds-q-v c = omega (arith, few_faces c.args.q.now)

pub overflow_mul-corners : goal.overflow_mul-corners
overflow_mul-corners c = omega (arith, held_size c.args.q.now (c.args.v - c.args.q.now.posts) (omega arith))

pub overflow_add-result : goal.overflow_add-result
overflow_add-result c = omega (arith, held_size c.args.q.now (c.args.v - c.args.q.now.posts) (omega arith))
