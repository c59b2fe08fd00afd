-- The entries so far have no refusal, and whether they rise.
use Rattle.std.proofs.Common.{take}
use Rattle.book.specs.Entries.{entries_in, EntryRoom}
use Rattle.book.proofs.check_entries.Given as goal

abbrev pub invariant-loop-i : goal.invariant-loop-i
invariant-loop-i l = EntryRoom (entries_in (take l.i l.entries)) l.rising
