-- `join_plate`: the lists made are those of the table, so that the plate read is its plate.
use mathlib.Core.Path.{◌≡◌, sym}
use Prim.Native.Nat.{◌+◌, ◌%◌, ◌≤◌}
use native.Mathlib.Omega.{arith}
use Rattle.std.proofs.Common.{rules}
use Rattle.embedding.specs.Edits.{join, join_fault}
use Rattle.embedding.specs.Read.{meant}
use Rattle.embedding.proofs.Refusing.{step_done}
use Rattle.embedding.proofs.Holding.{join_listed}
use Rattle.embedding.proofs.Editing.{join_room, join_holds, join_accepted}
use Rattle.embedding.proofs.Plate.join_plate.Goals as goal

pub overflow_add-darts : goal.overflow_add-darts
overflow_add-darts c =
    let q = c.args.self in
    omega (arith, (join_room (meant q) c.args.d c.args.e (sym c.in_ok-check_join.ensures)).strips_few, q.stands.dart_count)

pub read_more-requires : goal.read_more-requires
read_more-requires c =
    let q = c.args.self in
    let room = join_room (meant q) c.args.d c.args.e (sym c.in_ok-check_join.ensures) in
    let few : q.darts ≤ 254 = omega (arith, room.strips_few, q.stands.dart_count, q.accepted.even_darts) in
    let even : q.darts % 2 ≡ 0 = omega (arith, q.stands.dart_count, q.accepted.even_darts) in
    (omega arith, omega arith, search rules, search rules)

pub returns : goal.returns
returns c =
    let q = c.args.self in
    let p = meant q in
    let d = c.args.d in
    let e = c.args.e in
    let t = c.twin_of-t in
    let u = c.twin_of-u in
    let none : join_fault p d e ≡ 0 = sym c.in_ok-check_join.ensures in
    let room = join_room p d e none in
    step_done none (join_accepted p q.accepted d e none (join p d e) (join_holds p q.accepted d e none)).0
    (c.read_more.ensures (join p d e) (sym q.stands.same_posts) (sym q.stands.outer_dart)
    (join_listed q.stands q.accepted d e (omega (arith, room.there, q.stands.dart_count)) (omega (arith, room.there_too, q.stands.dart_count)) t.result u.result (q.darts + 1) (q.darts + 2) t.ensures u.ensures (omega (arith, q.stands.dart_count)) (omega (arith, q.stands.dart_count))
    c.order-order.ensures c.put_before-half.ensures c.put_before-new_order.ensures c.append-new_ends.ensures))
