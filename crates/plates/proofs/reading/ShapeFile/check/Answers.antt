-- `check`: judged, then 22, 25, 39.
use Rattle.std.proofs.Common.{rules}
use Rattle.plates.proofs.CheckCounts.{file_judged, file_sound}
use Rattle.plates.proofs.reading.ShapeFile.check.Goals as goal

pub returns-in_err-judge : goal.returns-in_err-judge
returns-in_err-judge c = file_judged c.args.self.now (search rules) c.in_err-judge.ensures

pub returns : goal.returns
returns c = file_sound c.args.self.now c.judge.ensures (search rules) c.number-said.ensures c.total-bends.ensures (search rules) (search rules) c.limits_ok.ensures (search rules) c.is_sum_true.ensures (search rules)
