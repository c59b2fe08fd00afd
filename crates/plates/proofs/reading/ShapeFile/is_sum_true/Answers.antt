-- `is_sum_true`: by whether the list has prices and the file a sum.
use Rattle.std.proofs.Common.{ap, ◌∙◌}
use Rattle.plates.specs.Shapes.{same}
use Rattle.plates.specs.Files.{four}
use Rattle.plates.proofs.Sums.{sum_said, sum_missing, sum_unasked}
use Rattle.plates.proofs.reading.ShapeFile.is_sum_true.Goals as goal

pub returns-in-Some-Some : goal.returns-in-Some-Some
returns-in-Some-Some c =
    sum_said c.args.self.now c.in-Some-Some.is-0 c.in-Some-Some.is-1
    (c.eq.ensures ∙ ap (same c.in-Some-Some.said.now) (c.four_bytes.ensures ∙ ap four c.price_of.ensures))

pub returns-in-Some-None : goal.returns-in-Some-None
returns-in-Some-None c = sum_missing c.args.self.now c.in-Some-None.is-0 c.in-Some-None.is-1

pub returns-in-None-Some : goal.returns-in-None-Some
returns-in-None-Some c = sum_unasked c.args.self.now c.in-None-Some.is-0 c.in-None-Some.is-1
