-- `all_leave`: the test of each dart is that of the definition.
use mathlib.Core.Path.{◌∙◌}
use mathlib.Core.Bool.{◌&&◌}
use lib.Dec.{eqb, ltb}
use lib.ListN.{length, get_or}
use Rattle.std.proofs.Common.{rules, tests}
use Rattle.std.proofs.lemmas.Iterator.{YieldsList-from_slice}
use Rattle.std.proofs.lemmas.Iterator.Search.{all_from_yields_List}
use Rattle.embedding.proofs.Words.{leave_all}
use Rattle.embedding.proofs.order.all_leave.Goals as goal

pub returns : goal.returns
returns c = λ n o x.
    let e = c.args.ends.now in
    let v = c.args.v in
    let s = c.args.s.now in
    all_from_yields_List (λ d. ltb d (length e) && eqb (get_or e d 0) v) _ _ c.all.result c.all.ensures.ran (YieldsList-from_slice s cc) (λ d b q k. search (rules, tests))
    ∙ leave_all n e o x v s
