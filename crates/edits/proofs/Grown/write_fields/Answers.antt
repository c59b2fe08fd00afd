-- `edits::Grown::write_fields` writes the fields, each where the one before it ended.
use native.Mathlib.Omega.{arith}
use Rattle.edits.specs.Writes.{held}
use Rattle.edits.proofs.WriteLaws.{revision_long, ends_lent, order_lent, with_more_long, grown_long, fields_written}
use Rattle.edits.proofs.Grown.write_fields.Goals as goal

pub write_more-requires-clause-enough : goal.write_more-requires-clause-enough
write_more-requires-clause-enough c =
    let g = c.args.self.now in
    omega (
      arith,
      c.requires,
      grown_long g,
      revision_long g,
      ends_lent g,
      order_lent g c.order-order.ensures,
      with_more_long 7 g.limit (held g.list.fields.limits),
      c.write_field-second.ensures.behind,
      c.write_field-third.ensures.behind,
      c.write_field-fourth.ensures.behind,
      c.write_field-fifth.ensures.behind,
      c.write_field-sixth.ensures.behind,
      c.write_more-seventh.ensures.behind,
      c.write_field-second.auto.out,
      c.write_field-third.auto.out,
      c.write_field-fourth.auto.out,
      c.write_field-fifth.auto.out,
      c.write_field-sixth.auto.out,
      c.write_more-seventh.auto.out,
    )

pub returns : goal.returns
returns c = fields_written c.args.self.now c.order-order.ensures c.requires c.write_field-second.ensures c.write_field-second.auto.out c.write_field-third.ensures c.write_field-third.auto.out c.write_field-fourth.ensures c.write_field-fourth.auto.out c.write_field-fifth.ensures c.write_field-fifth.auto.out c.write_field-sixth.ensures c.write_field-sixth.auto.out c.write_more-seventh.ensures c.write_more-seventh.auto.out c.write_more.ensures
