-- `texts::planning::plan_of` lays the outer face, then the others in turn.
use Rattle.embedding.specs.Read.{meant}
use Rattle.texts.specs.Plan.{Laying}
use Rattle.texts.proofs.planning.plan_of.Given as goal

abbrev pub invariant-loop-k : goal.invariant-loop-k
invariant-loop-k l = Laying (meant l.plate) l.k l.plan
