-- `label_next` meets its contract.
use Rattle.embedding.proofs.Numbering.{numbered_more, numbered_kept}
use Rattle.std.proofs.Common.{rules}
use native.Mathlib.Omega.{arith}
use Rattle.embedding.proofs.labels.Walk.label_next.Goals as goal

pub returns-then-all-d : goal.returns-then-all-d
returns-then-all-d c =
    let w = c.args.self.now in
    record {
      numbered = λ p f. numbered_kept f w.few w.one c.args.d c.requires.0 c.if-all-d.true;
      fitting = omega (arith, c.requires.1);
    }

pub returns : goal.returns
returns c =
    let w = c.args.self.now in
    let call = c.label_face in
    record {
      numbered = λ p f. numbered_more f w.few w.one c.args.d c.requires.0 c.requires.1 c.if-all-d.false (search rules) call.ensures;
      fitting = omega (arith, c.requires.1);
    }
