-- `mark_only`: before the one mark each node is unreached.
use Rattle.std.proofs.Common.{◌≡◌, length, replicate, arith, rules}
use Rattle.residual.proofs.Sources.{only_lined, all_unreached}
use Rattle.residual.proofs.marks.mark_only.Goals as goal

pub returns-clause-lined : goal.returns-clause-lined
returns-clause-lined c =
    let space = c.args.space.now in
    let filled : c.fill.new.self ≡ replicate (length space.dist.now) 255 = search rules in
    only_lined c.fill.new.self c.args.source (omega arith) (all_unreached _ filled) space.queue.now (omega arith)
