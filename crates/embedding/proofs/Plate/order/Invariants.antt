-- `order`: the orders of the posts before v are laid out.
use Rattle.embedding.proofs.Fronted.{Laying}
use Rattle.embedding.proofs.Plate.order.Given as goal

abbrev pub invariant-loop-v : goal.invariant-loop-v
invariant-loop-v l = Laying l.self.places l.self.degrees l.v l.at l.all
