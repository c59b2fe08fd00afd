-- Case P1 of the paper by computation: its bytes are accepted, its shape's bytes are those printed there, and they are sound. Since that shape is the best, they are what is written. Assumes nothing.
use mathlib.Core.Path.{◌≡◌, refl}
use mathlib.Core.Bool.{true, false}
use mathlib.Core.List.{List, [], ◌∷◌}
use Prim.Native.Nat.{ℕ, ◌≤◌}
use lib.ListN.{length}
use Rattle.shapes.proofs.Tried.{table_best}
use Rattle.shapes.proofs.Unpriced.{best-by}
use Rattle.plates.specs.Shapes.{meets, shape_of}
use Rattle.plates.specs.Files.{walk_all, list_fault, plate_of, shape_bytes}
use Rattle.plates.specs.Claims.{Best}
use Rattle.plates.specs.Says.{over, check_fault, file_long, ShapeSays}
use Rattle.plates.specs.Answers.{Shaped, shaped}
use Rattle.plates.proofs.OneAnswer.{written_only}

abbrev list : List ℕ
list = 1 ∷ 0 ∷ 2 ∷ 0 ∷ 7 ∷ 2 ∷ 0 ∷ 1 ∷ 2 ∷ 3 ∷ 0 ∷ 4 ∷ 0 ∷ 1 ∷ 0 ∷ 1 ∷ 4 ∷ 0 ∷ 4 ∷ 0 ∷ 2 ∷ 1 ∷ 3 ∷ 5 ∷ 0 ∷ 1 ∷ 1 ∷ []

abbrev file : List ℕ
file = 17 ∷ 0 ∷ 2 ∷ 0 ∷ 7 ∷ 18 ∷ 0 ∷ 2 ∷ 0 ∷ 2 ∷ 19 ∷ 0 ∷ 4 ∷ 1 ∷ 3 ∷ 3 ∷ 1 ∷ 20 ∷ 0 ∷ 4 ∷ 0 ∷ 0 ∷ 0 ∷ 2 ∷ []

abbrev angles : List ℕ
angles = 1 ∷ 3 ∷ 3 ∷ 1 ∷ []

abbrev rights : List ℕ
rights = 0 ∷ 0 ∷ 0 ∷ 2 ∷ []

pub p1_accepted : list_fault list ≡ 0
p1_accepted = refl

pub p1_meets : meets (plate_of list) (shape_of (plate_of list) angles rights) ≡ true
p1_meets = refl

pub p1_file : shape_bytes (walk_all false list).fields (shape_of (plate_of list) angles rights) ≡ file
p1_file = refl

pub p1_long : file_long list ≡ 24
p1_long = refl

pub p1_sound : check_fault list file ≡ 0
p1_sound = refl

pub p1_best : Best (plate_of list) (shape_of (plate_of list) angles rights)
p1_best = table_best.0 refl

pub p1_written : (o o' : List ℕ) (r : Shaped) → 24 ≤ length o → ShapeSays list o o' r → (o' ≡ over file o) × (r ≡ shaped 0 24 2)
p1_written o o' r l = written_only list angles rights o o' r refl l (best-by p1_best) refl

-- P10: the empty list lacks its fields
pub empty_refused : list_fault [] ≡ 6
empty_refused = refl
