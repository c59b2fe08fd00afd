-- `all_distinct`: the test of each place is that of the definition.
use mathlib.Core.Path.{◌∙◌}
use Rattle.std.proofs.Common.{rules, tests}
use Rattle.std.proofs.lemmas.Iterator.{YieldsList-from_slice}
use Rattle.std.proofs.lemmas.Iterator.Consumers.{YieldsList-from_enumerate}
use Rattle.std.proofs.lemmas.Iterator.Search.{all_from_yields_List}
use Rattle.embedding.proofs.Words.{not_behind, distinct_all}
use Rattle.embedding.proofs.order.all_distinct.Goals as goal

pub returns : goal.returns
returns c =
    let s = c.args.s.now in
    all_from_yields_List (not_behind s) _ _ c.all.result c.all.ensures.ran (YieldsList-from_enumerate (YieldsList-from_slice s cc) c.enumerate.ensures.count) (λ p b q k. search (rules, tests))
    ∙ distinct_all s
