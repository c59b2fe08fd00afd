-- `texts::planning::lay_face` meets its contract: the walk from the first dart closes, and each of its darts is laid.
use Rattle.std.proofs.Common.{ap, eqb, arith, length, ◌∷◌, []}
use lib.ListN.{length-append}
use Rattle.texts.proofs.LaidLaws.{walking_room}
use Rattle.texts.proofs.planning.lay_face.Goals as goal

pub push-requires : goal.push-requires
push-requires c = walking_room c.requires c.loop-start.invariant

pub loop-start-smaller : goal.loop-start-smaller
loop-start-smaller c =
    let q = c.loop-start.plan in
    omega (arith, walking_room c.requires c.loop-start.invariant, ap length c.push.ensures, length-append q (record { dart = c.loop-start.dart; last = eqb c.from-after.result c.args.start } ∷ []))
