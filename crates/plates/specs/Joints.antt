-- A straight post stays straight, over lists: the best shape in the words of the request, which shapes stay the best, and P6.
use Rattle.std.specs.Prelude.{◌≡◌, true, false, List, [], ◌∷◌, ◌↔◌, ℕ, ◌≤◌, ◌<◌, length}
use Rattle.plates.specs.Plates.{degree}
use Rattle.plates.specs.Shapes.{Shape, meets, bends, cornered, shape_of}
use Rattle.plates.specs.Files.{list_fault, plate_of, limits_of, is_priced}
use Rattle.plates.specs.Claims.{Best, BestOf}
use Rattle.plates.specs.Says.{over, ShapeSays}
use Rattle.plates.specs.Answers.{Shaped, shaped}
pub use Rattle.shapes.specs.Joints.{plain_first, PlainBest, NoneStraighter, Straightest}

-- P6 with revision 7: two strips that meet at post 1; its shape without bends, straight there, and the one with a corner there
abbrev pub joint_list : List ℕ
joint_list = 1 ∷ 0 ∷ 2 ∷ 0 ∷ 7 ∷ 2 ∷ 0 ∷ 1 ∷ 3 ∷ 3 ∷ 0 ∷ 4 ∷ 0 ∷ 1 ∷ 1 ∷ 2 ∷ 4 ∷ 0 ∷ 4 ∷ 0 ∷ 1 ∷ 2 ∷ 3 ∷ 5 ∷ 0 ∷ 1 ∷ 1 ∷ []

abbrev pub joint_file : List ℕ
joint_file = 17 ∷ 0 ∷ 2 ∷ 0 ∷ 7 ∷ 18 ∷ 0 ∷ 2 ∷ 0 ∷ 0 ∷ 19 ∷ 0 ∷ 4 ∷ 2 ∷ 4 ∷ 4 ∷ 2 ∷ 20 ∷ 0 ∷ 4 ∷ 0 ∷ 0 ∷ 0 ∷ 0 ∷ []

abbrev pub straight_shape : Shape
straight_shape = shape_of (plate_of joint_list) (2 ∷ 4 ∷ 4 ∷ 2 ∷ []) (0 ∷ 0 ∷ 0 ∷ 0 ∷ [])

abbrev pub cornered_shape : Shape
cornered_shape = shape_of (plate_of joint_list) (1 ∷ 4 ∷ 4 ∷ 3 ∷ []) (0 ∷ 0 ∷ 0 ∷ 0 ∷ [])

pub record OneJoint : Type 0 where
  pub accepted : list_fault joint_list ≡ 0
  -- both shapes meet the conditions without a bend, one of them with a cornered post; that one comes first by document 01's order
  pub both : (meets (plate_of joint_list) straight_shape ≡ true) × (meets (plate_of joint_list) cornered_shape ≡ true) × (bends straight_shape ≡ 0) × (bends cornered_shape ≡ 0)
  pub one_cornered : (cornered (plate_of joint_list) straight_shape ≡ 0) × (cornered (plate_of joint_list) cornered_shape ≡ 1)
  pub plainly_first : plain_first cornered_shape straight_shape ≡ true
  pub best : Best (plate_of joint_list) straight_shape
  -- what shaping answers, and writes to any memory of 24 bytes or more
  pub written : (o o' : List ℕ) (r : Shaped) → 24 ≤ length o → ShapeSays joint_list o o' r → (o' ≡ over joint_file o) × (r ≡ shaped 0 24 0)

-- of lists without prices; of those with them Prices.in_parts tells
pub record StraightPosts : Type 0 where
  -- the best shape has the fewest bends, then the fewest cornered posts, then it is the first by document 01's order
  pub in_parts : (b : List ℕ) → list_fault b ≡ 0 → is_priced b ≡ false → (s : Shape) → BestOf b s ↔ Straightest (plate_of b) (limits_of b) s
  -- the best by document 01's order stays the best where no shape with as few bends has fewer cornered posts
  pub kept : (b : List ℕ) → list_fault b ≡ 0 → is_priced b ≡ false → (s : Shape) → PlainBest (plate_of b) (limits_of b) s → NoneStraighter (plate_of b) (limits_of b) s → BestOf b s
  -- on a plate without a post of exactly two strip ends nothing changes
  pub no_joint : (b : List ℕ) → list_fault b ≡ 0 → is_priced b ≡ false → ((v : ℕ) → v < (plate_of b).posts → degree (plate_of b) v ≡ 2 → ⊥) → (s : Shape) → PlainBest (plate_of b) (limits_of b) s ↔ BestOf b s
  pub one_joint : OneJoint
