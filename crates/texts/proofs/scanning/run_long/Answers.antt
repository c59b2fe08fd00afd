-- `texts::scanning::run_long`: what `take_while` takes.
use Rattle.std.proofs.Common.{◌∙◌, ◌&&◌, leb, rules, tests}
use Rattle.std.proofs.lemmas.Iterator.{YieldsList-from_slice}
use Rattle.std.proofs.lemmas.Iterator.Search.{YieldsList-from_take_while}
use Rattle.std.proofs.lemmas.Iterator.Consumers.{count_from_yields_List}
use Rattle.texts.proofs.ScanLaws.{run_taken}
use Rattle.texts.proofs.scanning.run_long.Goals as goal

pub returns-clause-run : goal.returns-clause-run
returns-clause-run c =
    let top = c.args.top in
    count_from_yields_List c.take_while.result c.count.result c.count.ensures.ran (YieldsList-from_take_while _ (λ x. leb 48 x && leb x top) (YieldsList-from_slice c.args.s.now cc) c.take_while.ensures.closure c.take_while.ensures.done (λ x b q k. search (rules, tests)))
    ∙ run_taken (λ x. leb 48 x && leb x top) c.args.s.now
