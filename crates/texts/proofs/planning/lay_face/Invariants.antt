-- `texts::planning::lay_face` meets its contract: the walk from the first dart closes, and each of its darts is laid.
use Prim.Native.Nat.{◌-◌}
use lib.ListN.{length}
use Rattle.texts.proofs.LaidLaws.{Walking}
use Rattle.texts.proofs.planning.lay_face.Given as goal

abbrev pub invariant-loop-start : goal.invariant-loop-start
invariant-loop-start l = Walking l.plate.next l.plate.darts l.start l.initial.plan l.plan l.dart

abbrev pub decreases-loop-start : goal.decreases-loop-start
decreases-loop-start l = 256 - length l.plan
