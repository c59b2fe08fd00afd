-- `fields::ordering::order_fields` writes the slots in turn. The invariant: the fields of the slots passed stand one behind the other.
use Rattle.std.proofs.Common.{arith, ◌≡◌}
use Rattle.fields.proofs.InOrder.{slot_passed, slot_fits, slot_put, order_short, order_given}
use Rattle.fields.proofs.ordering.order_fields.Goals as goal
use Rattle.fields.proofs.ordering.order_fields.Goals.{in-Some, in_default}

pub returns : goal.returns
returns c =
    let e : c.loop-slot.slot ≡ 8 = omega arith in
    order_given c.is_shape-shape.ensures c.in_ok-fields.ensures c.args.out.now _ _ c.if-out-file.false (rw e at c.loop-slot.invariant)

pub returns-then-out-file : goal.returns-then-out-file
returns-then-out-file c = order_short c.is_shape-shape.ensures c.in_ok-fields.ensures c.args.out.now c.if-out-file.true

pub write_field-at-requires : goal.write_field-at-requires
write_field-at-requires c = slot_fits c.in_ok-fields.ensures c.loop-slot.slot (omega arith) c.loop-slot.invariant c.in-Some.content c.in-Some.is c.if-out-file.false c.loop-slot.auto.out

pub loop-slot-preserved : goal.loop-slot-preserved
loop-slot-preserved c =
    let held = c.in_ok-fields.ensures in
    let i = c.loop-slot.slot in
    elim c.match-field.branch [
      | in-Some w ↦
          rw (w.out-is, w.at-is)
          (slot_put held i (omega arith) c.loop-slot.invariant w.in-Some.content w.in-Some.is _ (omega (arith, c.first_tag-tag.ensures)) w.write_field-at.ensures)
      | in_default w ↦ rw (w.out-is, w.at-is) (slot_passed held i (omega arith) c.loop-slot.invariant w.in_default.is)
    ]
