-- `texts::planning::plan_of` lays the outer face, then the others in turn.
use Rattle.std.proofs.Common.{subst, sym, ◌+◌}
use Rattle.embedding.specs.Read.{meant}
use Rattle.texts.specs.Plan.{Laying}
use Rattle.texts.proofs.LayingLaws.{outer_fits, face_fits, face_same, face_more}
use Rattle.texts.proofs.planning.plan_of.Goals.{then-k-outer, else-k-outer}
use Rattle.texts.proofs.planning.plan_of.Goals as goal

pub lay_number-requires : goal.lay_number-requires
lay_number-requires c = outer_fits c.args.plate c.from-outer.ensures c.from.ensures _ c.new-plan.ensures

pub lay_number-requires-then-k-outer : goal.lay_number-requires-then-k-outer
lay_number-requires-then-k-outer c = face_fits c.args.plate c.from-outer.ensures c.from.ensures c.loop-k-test.true _ c.loop-k.invariant c.if-k-outer.true

pub loop-k-preserved : goal.loop-k-preserved
loop-k-preserved c =
    let laying = Laying (meant c.args.plate) (c.loop-k.k + 1) in
    elim c.if-k-outer.branch [
      | then-k-outer w ↦ subst laying (sym w.plan-is) (face_more c.args.plate c.from-outer.ensures c.from.ensures c.loop-k-test.true _ c.loop-k.invariant w.if-k-outer.true _ w.lay_number-then-k-outer.ensures)
      | else-k-outer w ↦ subst laying (sym w.plan-is) (face_same c.args.plate c.from-outer.ensures c.from.ensures c.loop-k-test.true _ c.loop-k.invariant w.if-k-outer.false)
    ]
