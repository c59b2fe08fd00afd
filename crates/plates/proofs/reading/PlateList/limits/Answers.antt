-- `limits`: the content of tag 07, nothing where it is absent.
use mathlib.Core.Path.{refl, ap, ◌∙◌}
use Rattle.plates.proofs.HeldLists.{contents_limits}
use Rattle.plates.proofs.reading.PlateList.limits.Goals as goal

pub returns : goal.returns
returns c = ap (λ b. b.now) c.unwrap_or.ensures ∙ contents_limits c.args.self.now.contents _ refl
