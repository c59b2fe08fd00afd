-- `all_four`: each post has 4.
use Rattle.std.proofs.Common.{rules, tests, refl, ◌∙◌, get_or}
use lib.Dec.{eqb}
use Rattle.shapes.specs.Judge.{all_four}
use Rattle.shapes.proofs.ListTests.{all_tried, all_upward}
use Rattle.shapes.proofs.judge.all_four.Goals as goal

pub returns : goal.returns
returns c =
    let four = λ (v : _). eqb (get_or c.args.sums v 0) 4 in
    all_tried four c.args.n c.all.result c.all.ensures.ran (λ x b q k. search (rules, tests))
    ∙ all_upward (λ n v. all_four n v c.args.sums) four (λ v. refl) (λ n v. refl) c.args.n 0
