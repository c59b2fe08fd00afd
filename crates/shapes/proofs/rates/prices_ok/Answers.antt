-- `prices_ok`: one test for all.
use Rattle.std.proofs.Common.{refl, ◌∙◌}
use Rattle.shapes.specs.Rates.{prices_ok}
use Rattle.shapes.proofs.ListTests.{all_from_one}
use Rattle.shapes.proofs.rates.prices_ok.Goals as goal

pub returns : goal.returns
returns c = c.all_between.ensures ∙ all_from_one 100 prices_ok refl (λ x xs. refl) c.args.prices.now
