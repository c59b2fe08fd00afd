-- `faces_ok`: the sums are those of the plate that is held.
use mathlib.Core.Path.{◌∙◌}
use native.Mathlib.Omega.{arith}
use Rattle.shapes.proofs.HeldPlate.{few_faces, face_below}
use Rattle.shapes.proofs.Verdict.{faces_tested}
use Rattle.shapes.proofs.judge.faces_ok.Goals as goal

pub invariant_of-face-clause-below : goal.invariant_of-face-clause-below
invariant_of-face-clause-below c = face_below c.args.q

pub all_turn-requires : goal.all_turn-requires
all_turn-requires c = few_faces c.args.q

pub returns : goal.returns
returns c = c.all_turn.ensures ∙ faces_tested c.args.q _ c.requires _ (omega arith) _ _ _ c.face_plus-plus.ensures c.face_minus-minus.ensures (rw c.from.ensures at c.of-outer.ensures.0)
