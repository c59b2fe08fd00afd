-- `texts::printing::write_entries` writes the entries of a plan in turn.
use Rattle.texts.proofs.PrintLaws.{Printing}
use Rattle.texts.proofs.printing.write_entries.Given as goal

abbrev pub invariant-loop-turn : goal.invariant-loop-turn
invariant-loop-turn l = Printing l.counts.angles.now l.counts.rights.now l.plan l.initial.out l.out l.at l.turn-index
