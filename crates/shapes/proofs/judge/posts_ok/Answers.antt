-- `posts_ok`: the sums are those of the plate that is held.
use mathlib.Core.Path.{◌∙◌}
use Rattle.shapes.proofs.HeldPlate.{ends_below, few_angles}
use Rattle.shapes.proofs.Verdict.{posts_tested}
use Rattle.shapes.proofs.judge.posts_ok.Goals as goal

pub invariant_of-ends-clause-below : goal.invariant_of-ends-clause-below
invariant_of-ends-clause-below c = ends_below c.args.q

pub post_angles-requires : goal.post_angles-requires
post_angles-requires c = few_angles c.args.q _ c.requires

pub returns : goal.returns
returns c = c.all_four.ensures ∙ posts_tested c.args.q _ c.requires _ c.post_angles.ensures
