-- The plan of a plate's text: its darts in turn, and which of them end a line.
use Rattle.std.specs.Prelude.{◌≡◌, Bool, false, List, [], ◌∷◌, ◌++◌, ℕ, ◌+◌, ◌-◌, ◌≤◌, ◌<◌, length, get_or, take, drop, replicate}
use Rattle.finite.specs.Walks.{orbit, OneToOne}
use Rattle.embedding.specs.Steps.{next_of}
use Rattle.embedding.specs.Read.{lead, face_number}
use Rattle.plates.specs.Plates.{Plate, face_of, faces}
use Rattle.plates.specs.Text.{Entry, entry}
use Rattle.plates.specs.Lines.{without, line, lines, face_entries}
use Rattle.texts.specs.declared.planning.Turn.{Turn}

-- the word F d and the angle A d for each dart d
abbrev pub refill : (ℕ → List Bool) → (ℕ → ℕ) → List Entry → List Entry
refill F A [] = []
refill F A (e ∷ es) = entry e.dart (F e.dart) (A e.dart) e.ends ∷ refill F A es

-- turns, as entries without words and angles
abbrev pub laid : List Turn → List Entry
laid [] = []
laid (t ∷ ts) = entry t.dart [] 0 t.last ∷ laid ts

-- a place for a turn that is not laid
abbrev pub no_turn : Turn
no_turn = record { dart = 0; last = false }

-- of 256 places the first are laid, and the others are blank
pub record LaidIn (turns : List Turn) (count : ℕ) : Type 0 where
  pub most : count ≤ 256
  pub long : length turns ≡ 256
  pub behind : drop count turns ≡ replicate (256 - count) no_turn

-- room for the face of a dart
pub record FaceRoom (next : List ℕ) (n start : ℕ) (q : List Turn) : Type 0 where
  pub few : n ≤ 256
  pub below : start < n
  pub one : OneToOne (next_of next) n
  pub enough : length q + length (orbit (next_of next) n start) ≤ 256

-- that face laid
abbrev pub FaceLaid : List ℕ → ℕ → ℕ → List Turn → List Turn → Type 0
FaceLaid next n start q r = laid r ≡ laid q ++ line [] [] (orbit (next_of next) n start)

-- the number of a face, and room for its darts
pub record NumberFits (p : Plate) (number : ℕ) (q : List Turn) : Type 0 where
  pub there : number < length (faces p)
  pub enough : length q + length (face_of p (get_or (faces p) number 0)) ≤ 256

-- the face of that number laid
abbrev pub NumberLaid : Plate → ℕ → List Turn → List Turn → Type 0
NumberLaid p number q r = laid r ≡ laid q ++ line [] [] (face_of p (get_or (faces p) number 0))

-- the number of the outer face
abbrev pub OuterIs : Plate → ℕ → Type 0
OuterIs p outer = outer ≡ face_number p p.outer

-- the outer face and, of the first k faces, the others are laid
abbrev pub Laying : Plate → ℕ → List Turn → Type 0
Laying p k q = laid q ≡ lines p [] [] (lead p p.outer ∷ without (lead p p.outer) (take k (faces p)))

abbrev pub PlanHeld : Plate → List Turn → Type 0
PlanHeld p r = laid r ≡ face_entries p [] []
