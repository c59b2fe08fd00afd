-- `texts::parsing::Counted::twins_agree`: each of the darts is turned at its twin.
use Rattle.std.proofs.Common.{rules, tests, refl, ◌∙◌, ◌&&◌, eqb, get_or}
use Rattle.shapes.proofs.ListTests.{all_tried, all_upward}
use Rattle.plates.specs.Plates.{twin}
use Rattle.texts.specs.Parses.{twin_counts}
use Rattle.texts.proofs.parsing.Counted.twins_agree.Goals as goal

pub returns : goal.returns
returns c =
    let r = c.args.self.now.rights in
    let l = c.args.self.now.lefts in
    let n = c.args.darts in
    let turned = λ (d : _). eqb (get_or r (twin d) 0) (get_or l d 0) && eqb (get_or l (twin d) 0) (get_or r d 0) in
    all_tried turned n c.all.result c.all.ensures.ran (λ x b q k. search (rules, tests))
    ∙ all_upward (λ k d. twin_counts k d r l) turned (λ d. refl) (λ k d. refl) n 0
