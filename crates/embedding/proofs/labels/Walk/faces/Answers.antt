-- `faces` meets its contract: the faces led by darts below d are labelled.
use Rattle.embedding.proofs.Numbering.{numbered_none, numbered_all}
use native.Mathlib.Omega.{arith}
use Rattle.embedding.proofs.labels.Walk.faces.Goals as goal

pub loop-d-init : goal.loop-d-init
loop-d-init c = (λ p w. numbered_none p, omega arith)

pub returns : goal.returns
returns c =
    let q = c.args.self.now in
    let loop = c.loop-d in
    λ p w. numbered_all w q.few q.one loop.d (omega arith) (omega arith) loop.all (loop.invariant.0 p w)
