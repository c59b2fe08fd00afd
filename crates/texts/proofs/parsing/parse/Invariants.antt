-- `texts::parsing::parse`: entry by entry; at the end, or at what is no entry, the answer.
use lib.ListN.{length}
use Rattle.texts.specs.Plan.{laid}
use Rattle.texts.specs.Parses.{left_seen}
use Rattle.texts.proofs.ParseLaws.{Parsing}
use Rattle.texts.proofs.parsing.parse.Given as goal

abbrev pub invariant-loop-rest : goal.invariant-loop-rest
invariant-loop-rest l = Parsing (laid l.plan) l.text l.counted (left_seen l.left) l.mixed l.closed l.rest

abbrev pub decreases-loop-rest : goal.decreases-loop-rest
decreases-loop-rest l = length l.rest
