-- `edits::write_more` writes nothing, or the limits or prices and one more as one field.
use mathlib.Core.Path.{refl, sym, subst}
use Rattle.fields.specs.Writing.{Written}
use Rattle.edits.specs.Writes.{held, with_more}
use Rattle.edits.proofs.WriteLaws.{more_front, more_written}
use Rattle.edits.proofs.write_more.Goals as goal

pub returns-in-Some : goal.returns-in-Some
returns-in-Some c =
    subst (λ o. Written c.args.at (with_more c.args.tag (held o) c.args.more) c.args.out.now c.write_field.new.out c.write_field.result) (sym c.in-Some.is)
    (more_written c.args.tag c.args.more c.in-Some.rates.now (more_front refl c.append-before.ensures c.append-all.ensures) c.write_field.ensures)
