-- What the public calls promise.
use Rattle.std.specs.Prelude.{◌≡◌, ◌↔◌, Bool, true, false, ◌&&◌, not, List, ℕ, zero, suc, ◌+◌, ◌*◌, ◌≤◌, eqb, ltb, length, take}
use Rattle.plates.specs.Plates.{pick, pick_t, first_of, when, darts, strips, faces}
use Rattle.plates.specs.Shapes.{meets, angles_ok, posts_ok, faces_ok, bends, total, same, rights_of, pair_sums, strip_bends, all_within, shape_of}
use Rattle.plates.specs.Files.{Field, Walk, has_tag, content_of, walk_all, four, list_fault, plate_in, plate_of, limits_of, prices_of, sum_of, shape_bytes}
use Rattle.plates.specs.Claims as C
use Rattle.plates.specs.Answers.{Shaped, Verdict}
pub use Rattle.fields.specs.Says.{word}
pub use Rattle.fields.specs.Writing.{over, all_bytes}

-- the length of a shape file that is written
abbrev pub file_long_in : List Field → ℕ
file_long_in fs = 16 + 4 * strips (plate_in fs) + when (has_tag 8 fs) 7

abbrev pub file_long : List ℕ → ℕ
file_long s = file_long_in (walk_all false s).fields

-- whether no shape keeps the limits of an accepted list
abbrev pub NoneKeeps : Bool → List ℕ → Type 0
NoneKeeps none s = list_fault s ≡ 0 → pick_t none (C.NoneWithin s) (C.SomeWithin s)

-- shaping: the list's numbers, 24 exactly where none does, 16
abbrev pub shape_fault : Bool → List ℕ → List ℕ → ℕ
shape_fault none s o = first_of (list_fault s) (first_of (when none 24) (when (ltb (length o) (file_long s)) 16))

-- the file of the best shape within the limits by the list's prices, whose angles and right bends are named
abbrev pub BestBytes : List ℕ → (List ℕ → List ℕ → List ℕ → Type 0) → Type 0
BestBytes s f =
    let p = plate_of s in
    (a : List ℕ) × (r : List ℕ) × C.BestOf s (shape_of p a r) × (rights_of (shape_of p a r).words ≡ r) × f a r (shape_bytes (walk_all false s).fields (shape_of p a r))

abbrev pub ShapeWith : ℕ → List ℕ → List ℕ → List ℕ → Shaped → Type 0
ShapeWith zero s o o' r = (r.number ≡ 0) × BestBytes s (λ a x b. (r.long ≡ length b) × (r.bends ≡ total x) × (o' ≡ over b o))
ShapeWith (suc f) s o o' r = (r.number ≡ suc f) × (r.long ≡ 0) × (r.bends ≡ 0) × (o' ≡ o)

abbrev pub ShapeSays : List ℕ → List ℕ → List ℕ → Shaped → Type 0
ShapeSays s o o' r = (none : Bool) × NoneKeeps none s × ShapeWith (shape_fault none s o) s o o' r

-- checking: the list's numbers, the shape file's of its walk, 17, 18, then 19 to 22, 25, 39
abbrev pub angles_in : List ℕ → List ℕ
angles_in t = content_of 19 (walk_all true t).fields

abbrev pub rights_in : List ℕ → List ℕ
rights_in t = content_of 20 (walk_all true t).fields

-- by the walk of the shape file, against the fields of its list, and behind its total's the one given
abbrev pub file_fault_by : List Field → Walk → ℕ → ℕ
file_fault_by fs w last =
    let p = plate_in fs in
    let a = content_of 19 w.fields in
    let r = content_of 20 w.fields in
    let ws = (shape_of p a r).words in
    first_of w.number
    (first_of (when (not (eqb (length a) (darts p) && eqb (length r) (darts p))) 17)
    (first_of (when (not (eqb (word (content_of 1 fs)) (word (content_of 17 w.fields)))) 18)
    (first_of (when (not (angles_ok a)) 19)
    (first_of (when (not (posts_ok p.posts 0 p a)) 20)
    (first_of (when (not (faces_ok p a ws (faces p))) 21)
    (first_of (when (not (eqb (word (content_of 18 w.fields)) (total r))) 22) last))))))

-- against a list with prices the sum in a shape file, field 16, is that for the file's own bends, in four bytes, so it is there; against any other list it is absent
abbrev pub sum_true_by : Bool → Bool → List ℕ → List ℕ → List ℕ → Bool
sum_true_by priced there ps r said = pick priced (same said (four (sum_of ps r))) (not there)

abbrev pub sum_true : List Field → List Field → Bool
sum_true fs gs = sum_true_by (has_tag 8 fs) (has_tag 22 gs) (content_of 8 fs) (content_of 20 gs) (content_of 22 gs)

-- behind the total's: a strip passes its limit, or the sum is not true
abbrev pub last_fault : List Field → Walk → ℕ
last_fault fs w = first_of (when (not (all_within (content_of 7 fs) (pair_sums (content_of 20 w.fields)))) 25) (when (not (sum_true fs w.fields)) 39)

abbrev pub file_fault : List ℕ → List ℕ → ℕ
file_fault s t = let fs = (walk_all false s).fields in let w = walk_all true t in file_fault_by fs w (last_fault fs w)

abbrev pub check_fault : List ℕ → List ℕ → ℕ
check_fault s t = first_of (list_fault s) (file_fault s t)

-- a sound verdict: the file's total, the fewest within the limits, for a list with prices the least sum, and whether angles and right bends are those written
abbrev pub CheckWith : ℕ → List ℕ → List ℕ → Verdict → Type 0
CheckWith zero s t r = (r.number ≡ 0) × (r.total ≡ total (rights_in t)) × BestBytes s (λ a x b. (r.fewest ≡ sum_of (prices_of s) x) × (r.ours ≡ (same a (angles_in t) && same x (rights_in t))))
CheckWith (suc f) s t r = (r.number ≡ suc f) × (r.total ≡ 0) × (r.fewest ≡ 0) × (r.ours ≡ false)

abbrev pub CheckSays : List ℕ → List ℕ → Verdict → Type 0
CheckSays s t r = CheckWith (check_fault s t) s t r

-- a written shape is sound for its list and reads back as the same angles and right bends
abbrev pub ReadsBack : Type 0
ReadsBack =
    (s a r : List ℕ) → list_fault s ≡ 0 → all_bytes s ≡ true → C.BestOf s (shape_of (plate_of s) a r) → rights_of (shape_of (plate_of s) a r).words ≡ r
    → let b = shape_bytes (walk_all false s).fields (shape_of (plate_of s) a r) in (check_fault s b ≡ 0) × (angles_in b ≡ a) × (rights_in b ≡ r) × (length b ≡ file_long s)

-- the check says sound exactly when the conditions hold for the file, revision and total are true, the limits are kept, and 39 isn't met: what that says of a list with prices and of one without is Prices.sum_there,
-- sum_absent and own
abbrev pub SoundExactly : Type 0
SoundExactly =
    (s t : List ℕ) → list_fault s ≡ 0 → (walk_all true t).number ≡ 0
    → let p = plate_of s in let x = shape_of p (angles_in t) (rights_in t) in let w = (walk_all true t).fields in
    (check_fault s t ≡ 0) ↔ ((length (rights_in t) ≡ darts p) × (meets p x ≡ true) × (word (content_of 17 w) ≡ word (content_of 1 (walk_all false s).fields)) × (word (content_of 18 w) ≡ bends x) × (all_within (limits_of s) (strip_bends x) ≡ true) × (sum_true (walk_all false s).fields w ≡ true))

pub record Demands : Type 0 where
  pub sound_exactly : SoundExactly
  pub all : C.Demands
  pub reads_back : ReadsBack

-- fields 02 to 05, 07 and 08 of two lists are the same: they differ in revision and remark at most
pub record SamePlate (s t : List ℕ) : Type 0 where
  pub posts : content_of 2 (walk_all false s).fields ≡ content_of 2 (walk_all false t).fields
  pub ends : content_of 3 (walk_all false s).fields ≡ content_of 3 (walk_all false t).fields
  pub order : content_of 4 (walk_all false s).fields ≡ content_of 4 (walk_all false t).fields
  pub outer : content_of 5 (walk_all false s).fields ≡ content_of 5 (walk_all false t).fields
  pub limits : content_of 7 (walk_all false s).fields ≡ content_of 7 (walk_all false t).fields
  pub prices : content_of 8 (walk_all false s).fields ≡ content_of 8 (walk_all false t).fields

-- such lists give the same total, angles and right bends
abbrev pub SameShape : Type 0
SameShape =
    (s t a r b q : List ℕ) → list_fault s ≡ 0 → SamePlate s t
    → C.BestOf s (shape_of (plate_of s) a r) → rights_of (shape_of (plate_of s) a r).words ≡ r
    → C.BestOf t (shape_of (plate_of t) b q) → rights_of (shape_of (plate_of t) b q).words ≡ q
    → (total r ≡ total q) × (a ≡ b) × (r ≡ q)

-- the verdict on a written shape: sound, its sum the least, and ours
abbrev pub WrittenVerdict : Type 0
WrittenVerdict =
    (s a r : List ℕ) (v : Verdict) → list_fault s ≡ 0 → C.BestOf s (shape_of (plate_of s) a r) → rights_of (shape_of (plate_of s) a r).words ≡ r
    → CheckSays s (shape_bytes (walk_all false s).fields (shape_of (plate_of s) a r)) v
    → (v.number ≡ 0) × (v.total ≡ total r) × (v.fewest ≡ sum_of (prices_of s) r) × (v.ours ≡ true)

-- the rest of the paper's sentences on files
pub record Files : Type 0 where
  pub same_shape : SameShape
  pub written_verdict : WrittenVerdict
  pub list_longest : (s : List ℕ) → list_fault s ≡ 0 → length s ≤ 876
  pub file_longest : (s : List ℕ) → list_fault s ≡ 0 → file_long s ≤ 535
  -- of longer input the first 879 bytes have the number of the whole
  pub front : (n : ℕ) (s t : List ℕ) → 879 ≤ n → (list_fault (take n s) ≡ list_fault s) × (check_fault (take n s) (take n t) ≡ check_fault s t)
  pub file-bytes : (s a r : List ℕ) → list_fault s ≡ 0 → all_bytes s ≡ true → C.BestOf s (shape_of (plate_of s) a r) → rights_of (shape_of (plate_of s) a r).words ≡ r
      → all_bytes (shape_bytes (walk_all false s).fields (shape_of (plate_of s) a r)) ≡ true
