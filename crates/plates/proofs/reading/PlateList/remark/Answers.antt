-- `remark`: the content of tag 06, nothing where it is absent.
use mathlib.Core.Path.{refl, ap, ◌∙◌}
use Rattle.plates.proofs.HeldLists.{contents_remark}
use Rattle.plates.proofs.reading.PlateList.remark.Goals as goal

pub returns : goal.returns
returns c = ap (λ b. b.now) c.unwrap_or.ensures ∙ contents_remark c.args.self.now.contents _ refl
