-- `check_entry` gives the refusal of an entry behind entries without one, among which the latest revision is the current one.
use Rattle.std.proofs.Common.{◌∙◌, sym}
use Rattle.book.specs.Entries.{entries_in}
use Rattle.book.proofs.Scans.{latest_told}
use Rattle.book.proofs.Faults.{not_current, no_fault}
use Rattle.book.proofs.check_entry.Goals as goal

pub returns-then-entry-latest : goal.returns-then-entry-latest
returns-then-entry-latest c =
    not_current (entries_in c.args.before.now) c.args.entry c.requires.before c.if-entry-eq0.false
    (sym c.is_repeated.ensures ∙ c.if-is_repeated.false)
    (latest_told c.args.entry.model (entries_in c.args.before.now) c.latest_of.ensures c.unwrap_or-latest.ensures)
    c.if-entry-latest.true

pub returns : goal.returns
returns c =
    no_fault (entries_in c.args.before.now) c.args.entry c.requires.before c.if-entry-eq0.false
    (sym c.is_repeated.ensures ∙ c.if-is_repeated.false)
    (latest_told c.args.entry.model (entries_in c.args.before.now) c.latest_of.ensures c.unwrap_or-latest.ensures)
    c.if-entry-latest.false
