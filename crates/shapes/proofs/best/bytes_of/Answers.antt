-- `bytes_of`: the places before i have their numbers, whatever numbers `at` gives.
use Rattle.std.proofs.Common.{arith}
use Rattle.finite.proofs.Tables.{table_none, table_more}
use Rattle.shapes.proofs.best.bytes_of.Goals as goal

pub loop-i-init : goal.loop-i-init
loop-i-init g c = λ number told. table_none 256 number

pub loop-i-preserved : goal.loop-i-preserved
loop-i-preserved g c =
    let l = c.loop-i in
    λ number told. table_more 256 number l.bytes l.i _ (l.invariant number told) (omega (arith, c.requires.few)) (told l.i c.at.result (omega arith) c.at.ensures)
