-- The first entry that is refused decides.
use Rattle.std.proofs.Common.{rules, arith, ◌≡◌, ◌∙◌, Err, [], ap, take}
use Rattle.refusals.proofs.Numbered.{some_number}
use Rattle.book.specs.Entries.{entry_fault, entries_in}
use Rattle.book.proofs.Faults.{refused_at}
use Rattle.book.proofs.check_entries.Goals as goal

pub returns-in_err-check_entry : goal.returns-in_err-check_entry
returns-in_err-check_entry c =
    let refusal = c.in_err-check_entry.field-0.0 in
    let told : c.from_residual.result ≡ Err refusal = search rules in
    rw told (refused_at c.args.entries.now c.loop-i.i [] (omega arith) c.loop-i.invariant.before (c.in_err-check_entry.ensures ∙ ap (entry_fault (entries_in (take c.loop-i.i c.args.entries.now))) c.from-entry.ensures) (some_number refusal))
