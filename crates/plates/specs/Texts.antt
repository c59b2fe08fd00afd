-- What the two conversions promise: a shape file to its text, and a text back to a shape file; and what holds of both together.
use Rattle.std.specs.Prelude.{◌≡◌, Bool, true, false, ◌&&◌, not, List, [], ◌++◌, ℕ, zero, suc, ◌≤◌, ltb, length, take}
use Rattle.plates.specs.Answers.{Shaped, Listed}
use Rattle.plates.specs.Plates.{Plate, first_of, when, darts, faces}
use Rattle.plates.specs.Shapes.{twins_ok_from, posts_ok, faces_ok, rights_of, total, pair_sums, all_within, shape_of}
use Rattle.plates.specs.Files.{walk_all, list_fault, plate_of, limits_of, file_bytes, shape_bytes}
use Rattle.plates.specs.Claims.{BestOf}
use Rattle.plates.specs.Says.{over, all_bytes, file_long, angles_in, rights_in, check_fault, ShapeSays}
use Rattle.plates.specs.Grammar.{form_ok, entries_in, Exact}
use Rattle.plates.specs.Ordering.{field_of, bytes_in}
use Rattle.plates.specs.Lines.{ByFaces, face_entries, face_text, same_faces, some_mixed, words_by, angles_by, both_ways}

-- the text of the shape that a file t stores for a list s
abbrev pub file_text : List ℕ → List ℕ → List ℕ
file_text s t = face_text (plate_of s) (angles_in t) (shape_of (plate_of s) (angles_in t) (rights_in t)).words

-- the check's numbers, 31, 16
abbrev pub write_fault : List ℕ → List ℕ → List ℕ → ℕ
write_fault s t o =
    first_of (check_fault s t)
    (first_of (when (both_ways (rights_in t)) 31)
    (when (ltb (length o) (length (file_text s t))) 16))

abbrev pub WriteWith : ℕ → List ℕ → List ℕ → List ℕ → List ℕ → Listed → Type 0
WriteWith zero s t o o' r = (r.number ≡ 0) × (r.long ≡ length (file_text s t)) × (o' ≡ over (file_text s t) o)
WriteWith (suc f) s t o o' r = (r.number ≡ suc f) × (r.long ≡ 0) × (o' ≡ o)

abbrev pub WriteSays : List ℕ → List ℕ → List ℕ → List ℕ → Listed → Type 0
WriteSays s t o o' r = WriteWith (write_fault s t o) s t o o' r

-- the angles and words that a text gives
abbrev pub angles_read : List ℕ → List ℕ → List ℕ
angles_read s t = angles_by (darts (plate_of s)) 0 (entries_in t)

abbrev pub words_read : List ℕ → List ℕ → List (List Bool)
words_read s t = words_by (darts (plate_of s)) 0 (entries_in t)

-- against a plate and limits: 30 over the whole text, 31 over the whole text, 32, then 20, 21 and 25 as in the check
abbrev pub placed_fault : Plate → List ℕ → List ℕ → ℕ
placed_fault p ls t =
    let es = entries_in t in
    let a = angles_by (darts p) 0 es in
    let ws = words_by (darts p) 0 es in
    first_of (when (not (form_ok t)) 30)
    (first_of (when (some_mixed es) 31)
    (first_of (when (not (same_faces es (face_entries p [] []) && twins_ok_from (darts p) 0 ws)) 32)
    (first_of (when (not (posts_ok p.posts 0 p a)) 20)
    (first_of (when (not (faces_ok p a ws (faces p))) 21)
    (when (not (all_within ls (pair_sums (rights_of ws)))) 25)))))

-- the list's numbers before these
abbrev pub text_fault : List ℕ → List ℕ → ℕ
text_fault s t = first_of (list_fault s) (placed_fault (plate_of s) (limits_of s) t)

-- the shape file that a text gives, with the list's revision and, where the list has prices, their sum for the text's bends
abbrev pub bytes_read : List ℕ → List ℕ → List ℕ
bytes_read s t = file_bytes (walk_all false s).fields (angles_read s t) (rights_of (words_read s t))

abbrev pub read_fault : List ℕ → List ℕ → List ℕ → ℕ
read_fault s t o = first_of (text_fault s t) (when (ltb (length o) (file_long s)) 16)

abbrev pub ReadWith : ℕ → List ℕ → List ℕ → List ℕ → List ℕ → Shaped → Type 0
ReadWith zero s t o o' r = (r.number ≡ 0) × (r.long ≡ length (bytes_read s t)) × (r.bends ≡ total (rights_of (words_read s t))) × (o' ≡ over (bytes_read s t) o)
ReadWith (suc f) s t o o' r = (r.number ≡ suc f) × (r.long ≡ 0) × (r.bends ≡ 0) × (o' ≡ o)

abbrev pub ReadSays : List ℕ → List ℕ → List ℕ → List ℕ → Shaped → Type 0
ReadSays s t o o' r = ReadWith (read_fault s t o) s t o o' r

-- a text is accepted with the angles and right bends of the file that it was written from
pub record CameBack (s t : List ℕ) : Type 0 where
  pub no_fault : text_fault s (file_text s t) ≡ 0
  pub angles : angles_read s (file_text s t) ≡ angles_in t
  pub rights : rights_of (words_read s (file_text s t)) ≡ rights_in t

-- a file is sound, bends no strip both ways, and has the angles, the right bends and the text that it was written from
pub record WentBack (s t b : List ℕ) : Type 0 where
  pub no_fault : check_fault s b ≡ 0
  pub one_way : both_ways (rights_in b) ≡ false
  pub angles : angles_in b ≡ angles_read s t
  pub rights : rights_in b ≡ rights_of (words_read s t)
  pub text : file_text s b ≡ t

-- the remark of a shape file and the priced sum behind it as they stand there, or nothing
abbrev pub remark_in : List ℕ → List ℕ
remark_in t = bytes_in (field_of 21 (walk_all true t).fields)

abbrev pub sum_in : List ℕ → List ℕ
sum_in t = bytes_in (field_of 22 (walk_all true t).fields)

-- b is the file t without its remark; where t has none, it is t
pub record ButRemark (b t : List ℕ) : Type 0 where
  pub front : List ℕ
  pub whole : front ++ (remark_in t ++ sum_in t) ≡ t
  pub without : front ++ sum_in t ≡ b

-- how long a text is at most
pub record TextShort : Type 0 where
  -- of a sound file that bends no strip both ways
  pub written : (s t : List ℕ) → all_bytes t ≡ true → check_fault s t ≡ 0 → both_ways (rights_in t) ≡ false → length (file_text s t) ≤ 66962
  -- no longer one is accepted
  pub accepted : (s t : List ℕ) → text_fault s t ≡ 0 → length t ≤ 66962

pub record RoundTrips : Type 0 where
  -- a sound file that bends no strip both ways, to text and back
  pub to_and_back : (s t : List ℕ) → all_bytes t ≡ true → check_fault s t ≡ 0 → both_ways (rights_in t) ≡ false → CameBack s t
  -- an accepted text, back and to text
  pub back_and_to : (s t : List ℕ) → text_fault s t ≡ 0 → WentBack s t (bytes_read s t)
  -- the length of a written file is the one that 16 asks for
  pub bytes_long : (s t : List ℕ) → text_fault s t ≡ 0 → length (bytes_read s t) ≡ file_long s
  -- of a sound file that bends no strip both ways every byte comes back but for its remark; without one, the whole file
  pub byte_for_byte : (s t : List ℕ) → all_bytes s ≡ true → all_bytes t ≡ true → check_fault s t ≡ 0 → both_ways (rights_in t) ≡ false → ButRemark (bytes_read s (file_text s t)) t
  -- our own files, with the list that they were written from: byte for byte
  pub ours : (s a r : List ℕ) → list_fault s ≡ 0 → all_bytes s ≡ true → BestOf s (shape_of (plate_of s) a r) → rights_of (shape_of (plate_of s) a r).words ≡ r
      → let b = shape_bytes (walk_all false s).fields (shape_of (plate_of s) a r) in
      (check_fault s b ≡ 0) × (both_ways (rights_in b) ≡ false) × (text_fault s (file_text s b) ≡ 0) × (bytes_read s (file_text s b) ≡ b)

-- the same over the calls, whatever memory was lent to the first one
pub record Called : Type 0 where
  -- to text and back
  pub to_and_back : (s t o o' m m' : List ℕ) (w : Listed) (r : Shaped) → all_bytes t ≡ true → WriteSays s t o o' w → w.number ≡ 0 → file_long s ≤ length m → ReadSays s (take w.long o') m m' r
      → let b = take r.long m' in (r.number ≡ 0) × (check_fault s b ≡ 0) × (angles_in b ≡ angles_in t) × (rights_in b ≡ rights_in t)
  -- byte for byte, but for the file's remark
  pub byte_for_byte : (s t o o' m m' : List ℕ) (w : Listed) (r : Shaped) → all_bytes s ≡ true → all_bytes t ≡ true → WriteSays s t o o' w → w.number ≡ 0 → file_long s ≤ length m → ReadSays s (take w.long o') m m' r
      → ButRemark (take r.long m') t
  -- back and to text
  pub back_and_to : (s t o o' m m' : List ℕ) (r : Shaped) (w : Listed) → ReadSays s t o o' r → r.number ≡ 0 → length t ≤ length m → WriteSays s (take r.long o') m m' w → (w.number ≡ 0) × (take w.long m' ≡ t)
  -- a shape that was written, to text and back
  pub ours : (s o o' m m' n n' : List ℕ) (v : Shaped) (w : Listed) (r : Shaped) → all_bytes s ≡ true → ShapeSays s o o' v → v.number ≡ 0
      → 66962 ≤ length m → WriteSays s (take v.long o') m m' w → file_long s ≤ length n → ReadSays s (take w.long m') n n' r
      → (w.number ≡ 0) × (r.number ≡ 0) × (take r.long n' ≡ take v.long o')

-- document 02's sentences on texts
pub record FaceLists : Type 0 where
  pub form : Exact
  pub by_faces : (s : List ℕ) → list_fault s ≡ 0 → ByFaces (plate_of s)
  -- a sound file gets 31 exactly where its text would have a word with both digits
  pub mixed_words : (s t : List ℕ) → check_fault s t ≡ 0
      → let ws = (shape_of (plate_of s) (angles_in t) (rights_in t)).words in both_ways (rights_in t) ≡ some_mixed (face_entries (plate_of s) (angles_in t) ws)
  pub round_trips : RoundTrips
  pub called : Called
  pub short : TextShort
