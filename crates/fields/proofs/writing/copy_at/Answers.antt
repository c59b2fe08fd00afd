-- `fields::writing::copy_at` puts the content. The invariant: the first i bytes of it are copied.
use Rattle.std.proofs.Common.{arith, ◌+◌, ◌∙◌, get_or}
use lib.ListN.{length-set}
use Rattle.fields.proofs.Puts.{paste_more}
use Rattle.fields.proofs.writing.copy_at.Goals as goal

pub loop-i-preserved : goal.loop-i-preserved
loop-i-preserved c =
    let a = c.args in
    let w = c.loop-i in (
      paste_more a.at w.i a.content.now a.out.now w.out w.invariant.0 (omega arith) (omega arith),
      length-set w.out (a.at + w.i) (get_or a.content.now w.i 0) ∙ w.invariant.1,
    )
