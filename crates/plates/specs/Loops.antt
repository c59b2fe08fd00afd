-- Strips from a post to itself: their places and faces, and the plate with one post and one strip; 10 is never given, every list that was not refused with 10 is answered as before, and accepted lists keep their shapes.
use Rattle.std.specs.Prelude.{◌≡◌, Bool, true, false, List, [], ◌∷◌, ℕ, ◌+◌, ◌≤◌, ◌<◌, ltb, length}
use Rattle.plates.specs.Plates.{first_of, when, darts, leaves, ends_at, degree_from, after, face_of}
use Rattle.plates.specs.Shapes.{Shape, all_free, shape_of}
use Rattle.plates.specs.Files.{walk_all, fault_from, list_fault, plate_of, limits_of, is_priced}
use Rattle.plates.specs.Claims.{Best}
use Rattle.plates.specs.Says.{over, file_long, BestBytes, NoneKeeps, shape_fault, file_fault, check_fault, ShapeWith, ShapeSays, CheckWith, CheckSays}
use Rattle.plates.specs.Listing.{ListingWith, ListingSays}
use Rattle.plates.specs.Answers.{Shaped, Verdict, Listed, shaped}
pub use Rattle.embedding.specs.Loops.{some_loop, plate_fault_before, TwoPlaces}

-- the numbers of a list, of shaping and of checking with 10 in its place, as before such strips were accepted
abbrev pub list_fault_before : List ℕ → ℕ
list_fault_before s = fault_from plate_fault_before (walk_all false s)

abbrev pub shape_fault_before : Bool → List ℕ → List ℕ → ℕ
shape_fault_before none s o = first_of (list_fault_before s) (first_of (when none 24) (when (ltb (length o) (file_long s)) 16))

abbrev pub check_fault_before : List ℕ → List ℕ → ℕ
check_fault_before s t = first_of (list_fault_before s) (file_fault s t)

-- the promises by these numbers
abbrev pub ShapeSaysBefore : List ℕ → List ℕ → List ℕ → Shaped → Type 0
ShapeSaysBefore s o o' r = (none : Bool) × NoneKeeps none s × ShapeWith (shape_fault_before none s o) s o o' r

abbrev pub ListingSaysBefore : List ℕ → List ℕ → List ℕ → Listed → Type 0
ListingSaysBefore s o o' r = (none : Bool) × NoneKeeps none s × ListingWith (first_of (list_fault_before s) (when none 24)) s o o' r

-- each call's answer, and the lent memory after it, are those of before: for any lent memory and any shape file
pub record AsBefore (s : List ℕ) : Type 0 where
  pub number : list_fault s ≡ list_fault_before s
  pub written : (o o₁ o₂ : List ℕ) (r q : Shaped) → ShapeSaysBefore s o o₁ r → ShapeSays s o o₂ q → (o₁ ≡ o₂) × (r ≡ q)
  pub checked : (t : List ℕ) (r q : Verdict) → CheckWith (check_fault_before s t) s t r → CheckSays s t q → r ≡ q
  pub listed : (o o₁ o₂ : List ℕ) (r q : Listed) → ListingSaysBefore s o o₁ r → ListingSays s o o₂ q → (o₁ ≡ o₂) × (r ≡ q)

-- a list without limits and prices accepted before: accepted, with one best shape (`Best` names no refusal), and the same answers and bytes
pub record Kept (s : List ℕ) : Type 0 where
  pub accepted : list_fault s ≡ 0
  pub one_best : BestBytes s (λ a r b. (u : Shape) → Best (plate_of s) u → u ≡ shape_of (plate_of s) a r)
  -- any lent memory had an answer, and it is the one given
  pub some_answer : (o : List ℕ) → (o' : List ℕ) × (r : Shaped) × ShapeSaysBefore s o o' r
  pub answers : AsBefore s

-- one post, one strip, order (0, 1), outer dart 1, revision 7; its shape: three bends, all on dart 0, angles 1 and 3
abbrev pub loop_list : List ℕ
loop_list = 1 ∷ 0 ∷ 2 ∷ 0 ∷ 7 ∷ 2 ∷ 0 ∷ 1 ∷ 1 ∷ 3 ∷ 0 ∷ 2 ∷ 0 ∷ 0 ∷ 4 ∷ 0 ∷ 2 ∷ 0 ∷ 1 ∷ 5 ∷ 0 ∷ 1 ∷ 1 ∷ []

abbrev pub loop_file : List ℕ
loop_file = 17 ∷ 0 ∷ 2 ∷ 0 ∷ 7 ∷ 18 ∷ 0 ∷ 2 ∷ 0 ∷ 3 ∷ 19 ∷ 0 ∷ 2 ∷ 1 ∷ 3 ∷ 20 ∷ 0 ∷ 2 ∷ 3 ∷ 0 ∷ []

abbrev pub loop_shape : Shape
loop_shape = shape_of (plate_of loop_list) (1 ∷ 3 ∷ []) (3 ∷ 0 ∷ [])

pub record OneLoop : Type 0 where
  pub before : list_fault_before loop_list ≡ 10
  pub accepted : list_fault loop_list ≡ 0
  -- each dart is a face of its own
  pub inner : (after (plate_of loop_list) 0 ≡ 0) × (face_of (plate_of loop_list) 0 ≡ 0 ∷ [])
  pub outer : (after (plate_of loop_list) 1 ≡ 1) × (face_of (plate_of loop_list) 1 ≡ 1 ∷ [])
  pub best : Best (plate_of loop_list) loop_shape
  -- what shaping answers, and writes to any memory of 20 bytes or more
  pub written : (o o' : List ℕ) (r : Shaped) → 20 ≤ length o → ShapeSays loop_list o o' r → (o' ≡ over loop_file o) × (r ≡ shaped 0 20 3)

pub record ToItself : Type 0 where
  -- both darts of such a strip stand in its post's order, and it is counted twice there
  pub two_places : (s : List ℕ) (d : ℕ) → list_fault s ≡ 0 → d < darts (plate_of s) → ends_at (plate_of s) d ≡ leaves (plate_of s) d → TwoPlaces (plate_of s) d
  pub counted_twice : (v : ℕ) (es : List ℕ) → degree_from v (v ∷ (v ∷ es)) ≡ 2 + degree_from v es
  -- only its darts may be followed by themselves on their face
  pub straight_back : (s : List ℕ) (d : ℕ) → list_fault s ≡ 0 → d < darts (plate_of s) → after (plate_of s) d ≡ d → ends_at (plate_of s) d ≡ leaves (plate_of s) d
  pub one_loop : OneLoop
  -- no call gives 10
  pub never_ten : (none : Bool) (s o t : List ℕ) → (list_fault s ≡ 10 → ⊥) × (shape_fault none s o ≡ 10 → ⊥) × (check_fault s t ≡ 10 → ⊥)
  -- every list, accepted or refused, unless with 10, is answered as before
  pub as_before : (s : List ℕ) → (list_fault_before s ≡ 10 → ⊥) → AsBefore s
  -- lists accepted before keep their shapes; none of them had limits or prices
  pub kept : (s : List ℕ) → list_fault_before s ≡ 0 → all_free (limits_of s) ≡ true → is_priced s ≡ false → Kept s
