-- `label_face` meets its contract: the walk from dart d closes, and each of its darts is labelled.
use Prim.Native.Nat.{◌-◌}
use Rattle.embedding.proofs.Labelling.{Labelling}
use Rattle.embedding.proofs.labels.Walk.label_face.Given as goal

abbrev pub invariant-loop-at : goal.invariant-loop-at
invariant-loop-at l = Labelling l.self.next l.self.darts l.d l.number l.initial.face l.initial.met l.face l.met l.size l.at

abbrev pub decreases-loop-at : goal.decreases-loop-at
decreases-loop-at l = l.self.darts - l.size
