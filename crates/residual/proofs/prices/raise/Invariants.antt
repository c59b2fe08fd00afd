-- `raise`: the invariant is the raise of the nodes below v.
use Rattle.residual.specs.Prices.{RaisedTo}
use Rattle.residual.proofs.prices.raise.Given as goal

abbrev pub invariant-loop-v : goal.invariant-loop-v
invariant-loop-v l = RaisedTo l.space.dist.now l.by l.initial.pot l.v l.pot
