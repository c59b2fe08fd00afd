-- `texts::printing::write_entries` writes the entries of a plan in turn.
use Rattle.texts.proofs.PrintLaws.{entry_room, printing_more}
use Rattle.texts.proofs.printing.write_entries.Goals as goal

pub write_entry-at-requires : goal.write_entry-at-requires
write_entry-at-requires c = rw (c.word_of.ensures, c.from-d.ensures) (entry_room c.args.counts.counted c.requires c.loop-turn.invariant c.loop-turn-test.true)

pub loop-turn-preserved : goal.loop-turn-preserved
loop-turn-preserved c = printing_more c.args.counts.counted c.requires c.loop-turn.invariant c.loop-turn-test.true (rw (c.word_of.ensures, c.from-d.ensures) at c.write_entry-at.ensures) c.write_entry-at.auto.out
