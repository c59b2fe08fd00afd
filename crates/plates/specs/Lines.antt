-- The text of a plate's shape: per face a line, the outer face first and the others by smallest dart; a line starts at its face's smallest dart and goes round the face.
use Rattle.std.specs.Prelude.{◌≡◌, ◌↔◌, Bool, true, false, ◌&&◌, ◌||◌, List, [], ◌∷◌, ◌++◌, ℕ, zero, suc, ◌≤◌, ◌<◌, eqb, ltb, get_or}
pub use Rattle.embedding.specs.Read.{lead}
use Rattle.plates.specs.Plates.{Plate, pick, is_in, distinct, darts, face_of, faces}
use Rattle.plates.specs.Shapes.{rights, lefts, same_b, nth_w}
use Rattle.plates.specs.Text.{Entry, entry, text_of}

-- a list without a number
abbrev pub without : ℕ → List ℕ → List ℕ
without x [] = []
without x (y ∷ ys) = pick (eqb x y) (without x ys) (y ∷ without x ys)

-- the smallest darts of the faces: of all but the outer one, and of all in the text's sequence
abbrev pub others : Plate → List ℕ
others p = without (lead p p.outer) (faces p)

abbrev pub sequence : Plate → List ℕ
sequence p = lead p p.outer ∷ others p

-- the entries of one line, of all lines, of a shape
abbrev pub line : List ℕ → List (List Bool) → List ℕ → List Entry
line a ws [] = []
line a ws (d ∷ []) = entry d (nth_w ws d) (get_or a d 0) true ∷ []
line a ws (d ∷ (e ∷ ds)) = entry d (nth_w ws d) (get_or a d 0) false ∷ line a ws (e ∷ ds)

abbrev pub lines : Plate → List ℕ → List (List Bool) → List ℕ → List Entry
lines p a ws [] = []
lines p a ws (d ∷ ds) = line a ws (face_of p d) ++ lines p a ws ds

abbrev pub face_entries : Plate → List ℕ → List (List Bool) → List Entry
face_entries p a ws = lines p a ws (sequence p)

abbrev pub face_text : Plate → List ℕ → List (List Bool) → List ℕ
face_text p a ws = text_of (face_entries p a ws)

-- the darts of entries in turn
abbrev pub darts_of : List Entry → List ℕ
darts_of [] = []
darts_of (e ∷ es) = e.dart ∷ darts_of es

abbrev pub all_above : ℕ → List ℕ → Bool
all_above x [] = true
all_above x (y ∷ ys) = ltb x y && all_above x ys

abbrev pub ascending : List ℕ → Bool
ascending [] = true
ascending (x ∷ xs) = all_above x xs && ascending xs

-- document 02's sentences on the lines of a plate, whatever words and angles they have
pub record ByFaces (p : Plate) : Type 0 where
  -- the outer face first
  pub outer_first : is_in p.outer (face_of p (lead p p.outer)) ≡ true
  -- the others by smallest dart
  pub others_ascend : ascending (others p) ≡ true
  -- a line starts at its face's smallest dart
  pub starts : (d : ℕ) → is_in d (sequence p) ≡ true → get_or (face_of p d) 0 0 ≡ d
  pub smallest : (d x : ℕ) → is_in d (sequence p) ≡ true → is_in x (face_of p d) ≡ true → d ≤ x
  -- every dart of the plate once, and nothing else
  pub once : (a : List ℕ) (ws : List (List Bool)) → distinct (darts_of (face_entries p a ws)) ≡ true
  pub every : (a : List ℕ) (ws : List (List Bool)) (d : ℕ) → (is_in d (darts_of (face_entries p a ws)) ≡ true) ↔ (d < darts p)

-- the same darts, and the same ends of lines
abbrev pub same_faces : List Entry → List Entry → Bool
same_faces [] [] = true
same_faces [] (x ∷ xs) = false
same_faces (e ∷ es) [] = false
same_faces (e ∷ es) (x ∷ xs) = (eqb e.dart x.dart && same_b e.ends x.ends) && same_faces es xs

-- a word with both digits
abbrev pub is_mixed : List Bool → Bool
is_mixed w = ltb 0 (rights w) && ltb 0 (lefts w)

abbrev pub some_mixed : List Entry → Bool
some_mixed [] = false
some_mixed (e ∷ es) = is_mixed e.word || some_mixed es

-- word and angle of a dart, by its first entry; those of n darts from d on
abbrev pub word_of : ℕ → List Entry → List Bool
word_of d [] = []
word_of d (e ∷ es) = pick (eqb d e.dart) e.word (word_of d es)

abbrev pub angle_of : ℕ → List Entry → ℕ
angle_of d [] = 0
angle_of d (e ∷ es) = pick (eqb d e.dart) e.angle (angle_of d es)

abbrev pub words_by : ℕ → ℕ → List Entry → List (List Bool)
words_by zero d es = []
words_by (suc n) d es = word_of d es ∷ words_by n (suc d) es

abbrev pub angles_by : ℕ → ℕ → List Entry → List ℕ
angles_by zero d es = []
angles_by (suc n) d es = angle_of d es ∷ angles_by n (suc d) es

-- a strip that bends both ways, by the right bends of its two darts
abbrev pub both_ways : List ℕ → Bool
both_ways [] = false
both_ways (x ∷ []) = false
both_ways (x ∷ (y ∷ rs)) = (ltb 0 x && ltb 0 y) || both_ways rs
