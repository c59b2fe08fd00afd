-- `is_repeated` saves the search where revisions rise and this one is above the last.
use Rattle.std.proofs.Common.{◌∙◌}
use Rattle.book.specs.Entries.{entries_in}
use Rattle.book.proofs.Scans.{listed_any}
use Rattle.book.proofs.Faults.{above_unlisted}
use Rattle.book.proofs.is_repeated.Goals as goal

pub returns-then-latest-entry : goal.returns-then-latest-entry
returns-then-latest-entry c = above_unlisted c.requires c.if-rising.true c.if-latest-entry.true

pub returns : goal.returns
returns c = c.is_listed.ensures ∙ listed_any c.args.entry.model c.args.entry.revision (entries_in c.args.before.now)
