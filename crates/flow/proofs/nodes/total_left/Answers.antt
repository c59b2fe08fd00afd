-- `total_left`: the library's sum.
use Rattle.std.proofs.Common.{◌≡◌, ◌∙◌, ◌<◌, sum, arith, rules}
use Rattle.flow.proofs.Fills.{sum_total}
use Rattle.flow.proofs.nodes.total_left.Goals as goal

pub sum-requires-clause-fits : goal.sum-requires-clause-fits
sum-requires-clause-fits c =
    let few : sum c.args.units.now.left.now < 65536 = omega (arith, sum_total c.args.units.now.left.now) in
    search rules

pub returns : goal.returns
returns c =
    let told : c.sum.result ≡ sum c.args.units.now.left.now = search rules in
    told ∙ sum_total c.args.units.now.left.now
