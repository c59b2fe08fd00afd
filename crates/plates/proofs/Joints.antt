-- A straight post stays straight, over lists: the theorems of the crate shapes at a list's plate, and P6, whose shape is a row of the table. Assumes nothing.
use mathlib.Core.Path.{refl}
use mathlib.Core.List.{[], ◌∷◌}
use Rattle.shapes.proofs.Joints.{straight_posts as plate_posts}
use Rattle.shapes.proofs.Tried.{table_best}
use Rattle.shapes.proofs.Unpriced.{best-by}
use Rattle.plates.specs.Files.{plate_of, limits_of}
use Rattle.plates.specs.Claims.{Best}
use Rattle.plates.specs.Joints.{joint_list, straight_shape, OneJoint, StraightPosts}
use Rattle.plates.proofs.Lists.{of_within}
use Rattle.plates.proofs.OneAnswer.{written_only}

joint_best : Best (plate_of joint_list) straight_shape
joint_best = table_best.1.1.1.1.1.0 refl

one_joint : OneJoint
one_joint = record {
  accepted = refl;
  both = (refl, refl, refl, refl);
  one_cornered = (refl, refl);
  plainly_first = refl;
  best = joint_best;
  written = λ o o' r l. written_only joint_list (2 ∷ 4 ∷ 4 ∷ 2 ∷ []) (0 ∷ 0 ∷ 0 ∷ 0 ∷ []) o o' r refl l (best-by joint_best) refl;
}

pub straight_posts : StraightPosts
straight_posts = record {
  in_parts = λ b e p s. let (to, from) = plate_posts.in_parts (plate_of b) (limits_of b) s in (λ h. to ((of_within b p s).0 h), λ h. (of_within b p s).1 (from h));
  kept = λ b e p s h k. (of_within b p s).1 (plate_posts.kept (plate_of b) (limits_of b) s h k);
  no_joint = λ b e p none s. let (to, from) = plate_posts.no_joint (plate_of b) none (limits_of b) s in (λ h. (of_within b p s).1 (to h), λ h. from ((of_within b p s).0 h));
  one_joint = one_joint;
}
