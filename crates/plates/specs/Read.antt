-- A shape file read for a list that passed the walk: its refusals before the verdict, or its fields.
use Rattle.std.specs.Prelude.{◌≡◌, true, false, ◌&&◌, not, List, ℕ, eqb, length}
use Rattle.fields.specs.Says.{ShapeFieldsOf}
use Rattle.fields.specs.declared.ShapeFields.{ShapeFields}
use Rattle.plates.specs.Plates.{first_of, when, darts}
use Rattle.plates.specs.Files.{content_of, walk_all, plate_of}
use Rattle.plates.specs.Says.{word, angles_in, rights_in}

-- those of its walk, 17, 18
abbrev pub shape_file_fault : List ℕ → List ℕ → ℕ
shape_file_fault s t =
    let p = plate_of s in
    let w = walk_all true t in
    first_of w.number
    (first_of (when (not (eqb (length (angles_in t)) (darts p) && eqb (length (rights_in t)) (darts p))) 17)
    (when (not (eqb (word (content_of 1 (walk_all false s).fields)) (word (content_of 17 w.fields)))) 18))

-- the fields of one that passed them, with an angle and right bends for each dart
pub record ShapeHeld (s t : List ℕ) (g : ShapeFields) : Type 0 where
  pub fields : ShapeFieldsOf (walk_all true t).fields g
  pub angles_many : length (angles_in t) ≡ darts (plate_of s)
  pub rights_many : length (rights_in t) ≡ darts (plate_of s)
