-- `all_turn`: each face has its turns.
use Rattle.std.proofs.Common.{rules, tests, refl, ◌∙◌, get_or}
use lib.Dec.{eqb}
use Rattle.shapes.specs.Judge.{turns_ok, all_turn}
use Rattle.shapes.proofs.ListTests.{all_tried, all_upward}
use Rattle.shapes.proofs.judge.all_turn.Goals as goal

pub returns : goal.returns
returns c =
    let a = c.args in
    let turns = λ (k : _). turns_ok (eqb k a.outer) (get_or a.plus k 0) (get_or a.minus k 0) in
    all_tried turns a.n c.all.result c.all.ensures.ran (λ x b q k. search (rules, tests))
    ∙ all_upward (λ n k. all_turn n k a.outer a.plus a.minus) turns (λ k. refl) (λ n k. refl) a.n 0
