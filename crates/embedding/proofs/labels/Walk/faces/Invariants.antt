-- `faces` meets its contract: the faces led by darts below d are labelled.
use Rattle.embedding.specs.Plates.{Plate}
use Rattle.embedding.specs.Read.{Follows, Numbered, Fitting}
use Rattle.embedding.proofs.labels.Walk.faces.Given as goal

abbrev pub invariant-loop-d : goal.invariant-loop-d
invariant-loop-d l = ((p : Plate) → Follows p l.self.darts l.self.next → Numbered p l.d l.all.face l.all.met l.all.sizes l.all.faces) × Fitting l.d l.all
