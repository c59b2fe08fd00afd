-- `split_plate`: the lists made are those of the table, so that the plate read is its plate.
use mathlib.Core.Path.{◌≡◌, refl, sym}
use Prim.Native.Nat.{◌+◌, ◌*◌}
use native.Mathlib.Omega.{arith}
use lib.ListN.{get_or}
use Rattle.embedding.specs.Edits.{split, split_fault}
use Rattle.embedding.specs.Read.{meant}
use Rattle.embedding.proofs.Refusing.{step_done}
use Rattle.embedding.proofs.Holding.{split_listed}
use Rattle.embedding.proofs.Editing.{split_room, split_holds, split_accepted}
use Rattle.embedding.proofs.Plate.split_plate.Goals as goal

pub returns : goal.returns
returns c =
    let q = c.args.self in
    let p = meant q in
    let t = c.args.strip in
    let none : split_fault p t ≡ 0 = sym c.in_ok-check_split.ensures in
    step_done none (split_accepted p q.accepted t none (split p t) (split_holds p q.accepted t none)).0
    (c.read_more.ensures (split p t) (omega (arith, q.stands.same_posts)) (sym q.stands.outer_dart)
    (split_listed q.stands q.accepted t (omega (arith, (split_room p t none).there, q.stands.dart_count)) (2 * t + 1) (q.darts + 1) (q.darts + 2) (get_or q.ends (2 * t + 1) 0) q.posts (omega arith) (omega (arith, q.stands.dart_count)) (omega (arith, q.stands.dart_count)) refl q.stands.same_posts
    c.order.ensures c.replace-renamed.ensures c.append-new_order.ensures c.append-new_ends.ensures))
