-- `hang_plate`: the lists made are those of the table, so that the plate read is its plate.
use mathlib.Core.Path.{◌≡◌, refl, sym}
use Prim.Native.Nat.{◌+◌}
use native.Mathlib.Omega.{arith}
use lib.ListN.{get_or}
use Rattle.embedding.specs.Edits.{hang, hang_fault}
use Rattle.embedding.specs.Read.{meant}
use Rattle.embedding.proofs.Refusing.{step_done}
use Rattle.embedding.proofs.Holding.{hang_listed}
use Rattle.embedding.proofs.Editing.{hang_room, hang_holds, hang_accepted}
use Rattle.embedding.proofs.Plate.hang_plate.Goals as goal

pub returns : goal.returns
returns c =
    let q = c.args.self in
    let p = meant q in
    let d = c.args.d in
    let t = c.twin_of-t in
    let none : hang_fault p d ≡ 0 = sym c.in_ok-check_hang.ensures in
    step_done none (hang_accepted p q.accepted d none (hang p d) (hang_holds p q.accepted d none)).0
    (c.read_more.ensures (hang p d) (omega (arith, q.stands.same_posts)) (sym q.stands.outer_dart)
    (hang_listed q.stands q.accepted d (omega (arith, (hang_room p d none).there, q.stands.dart_count)) t.result (get_or q.ends t.result 0) (q.darts + 1) (q.darts + 2) q.posts t.ensures refl (omega (arith, q.stands.dart_count)) (omega (arith, q.stands.dart_count)) q.stands.same_posts
    c.order-order.ensures c.put_before-with.ensures c.append-new_order.ensures c.append-new_ends.ensures))
