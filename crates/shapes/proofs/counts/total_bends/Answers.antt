-- `total_bends`: the sum of the list.
use Rattle.std.proofs.Common.{rules, ◌≡◌, ◌∙◌, sum}
use Rattle.std.proofs.iter.runs.Made.{chains}
use Rattle.flow.proofs.Fills.{sum_total}
use Rattle.shapes.proofs.counts.total_bends.Goals as goal

pub returns : goal.returns
returns c =
    let told : c.sum.result ≡ sum c.args.rights.now = search (rules, chains) in
    told ∙ sum_total c.args.rights.now
