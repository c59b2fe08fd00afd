-- `go_on` meets its contract: what is left, from the state so far, gives the state of all.
use mathlib.Core.Path.{◌≡◌}
use lib.ListN.{drop}
use Rattle.embedding.proofs.Pairs.{go_pairs}
use Rattle.embedding.proofs.strips.go_on.Given as goal

abbrev pub invariant-loop-strip : goal.invariant-loop-strip
invariant-loop-strip l = go_pairs l.posts l.r (drop l.strip-index l.strips) ≡ go_pairs l.posts l.initial.r l.strips
