-- `angles_ok`: one test for all.
use Rattle.std.proofs.Common.{refl, ◌∙◌}
use Rattle.shapes.specs.Shapes.{angles_ok}
use Rattle.shapes.proofs.ListTests.{all_from_one}
use Rattle.shapes.proofs.judge.angles_ok.Goals as goal

pub returns : goal.returns
returns c = c.all_between.ensures ∙ all_from_one 4 angles_ok refl (λ x xs. refl) c.args.s.now
