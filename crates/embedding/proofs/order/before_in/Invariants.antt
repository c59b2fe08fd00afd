-- `before_in` meets its contract: what is left answers for the whole.
use mathlib.Core.Path.{◌≡◌}
use lib.ListN.{drop}
use Rattle.embedding.specs.Plates.{just_before, last_of}
use Rattle.embedding.proofs.order.before_in.Given as goal

abbrev pub invariant-loop-here : goal.invariant-loop-here
invariant-loop-here l = just_before l.x l.prev (drop l.here-index l.s) ≡ just_before l.x (last_of l.s) l.s
