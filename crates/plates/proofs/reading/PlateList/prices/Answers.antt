-- `prices`: the content of tag 08, nothing where it is absent.
use mathlib.Core.Path.{refl, ap, ◌∙◌}
use Rattle.plates.proofs.HeldLists.{contents_prices}
use Rattle.plates.proofs.reading.PlateList.prices.Goals as goal

pub returns : goal.returns
returns c = ap (λ b. b.now) c.unwrap_or.ensures ∙ contents_prices c.args.self.now.contents _ refl
