-- Remarks, fields 06 of plate lists and 15 of shape files, over the calls: they are read and passed over, and no shape file is written with one.
use Rattle.std.specs.Prelude.{◌≡◌, true, false, List, [], ◌++◌, ◌↔◌, ℕ, ◌+◌, ◌*◌, length, take}
use Rattle.plates.specs.Answers.{Shaped, Verdict, Listed}
use Rattle.plates.specs.Plates.{pick, when, strips}
use Rattle.plates.specs.Shapes.{rights_of, shape_of}
use Rattle.plates.specs.Files.{Field, has_tag, content_of, walk_all, old_walk, field, list_fault, plate_of, is_priced, shape_bytes}
use Rattle.plates.specs.Claims.{BestOf}
use Rattle.plates.specs.Says.{all_bytes, check_fault, ShapeSays, CheckSays}
use Rattle.plates.specs.Listing.{ListingSays}
use Rattle.plates.specs.Ordering.{field_of, is_shape_file, ordered_bytes}
use Rattle.plates.specs.Texts.{file_text, bytes_read, WriteSays, ReadSays}
use Rattle.plates.specs.Journal.{Step, EditSays}
pub use Rattle.fields.specs.Remarks.{remark_tag, OnlyRemark, remarked, PassedOver}

-- two lists that every call answers alike, whatever memory is lent
pub record SameAnswers (s t : List ℕ) : Type 0 where
  pub number : list_fault s ≡ list_fault t
  pub shaped : (o o' : List ℕ) (r : Shaped) → ShapeSays s o o' r ↔ ShapeSays t o o' r
  pub checked : (u : List ℕ) (v : Verdict) → CheckSays s u v ↔ CheckSays t u v
  pub listed : (o o' : List ℕ) (w : Listed) → ListingSays s o o' w ↔ ListingSays t o o' w
  pub to_text : (u o o' : List ℕ) (w : Listed) → WriteSays s u o o' w ↔ WriteSays t u o o' w
  pub from_text : (u o o' : List ℕ) (r : Shaped) → ReadSays s u o o' r ↔ ReadSays t u o o' r
  pub edited : (u : Step) (o o' : List ℕ) (w : Listed) → EditSays s u o o' w ↔ EditSays t u o o' w

-- two shape files that get the same verdict and the same text against every list
pub record SameVerdicts (t u : List ℕ) : Type 0 where
  pub number : (s : List ℕ) → check_fault s t ≡ check_fault s u
  pub text : (s : List ℕ) → file_text s t ≡ file_text s u
  pub checked : (s : List ℕ) (v : Verdict) → CheckSays s t v ↔ CheckSays s u v
  pub to_text : (s o o' : List ℕ) (w : Listed) → WriteSays s t o o' w ↔ WriteSays s u o o' w

-- a file written for a list: it reads, has no remark, and its length is 16 + 4m, with prices 7 more
pub record NoRemark (s b : List ℕ) : Type 0 where
  pub reads : (walk_all true b).number ≡ 0
  pub no_remark : has_tag 21 (walk_all true b).fields ≡ false
  pub long : length b ≡ 16 + 4 * strips (plate_of s) + when (is_priced s) 7

-- the field that our files ended with before request E9, and before lists had prices: the list's remark, where it has one
abbrev pub remark_copied : List Field → List ℕ
remark_copied fs = pick (has_tag 6 fs) (field 21 (content_of 6 fs)) []

-- one of our older files: sound as b, the file of today, is, and to text and back it becomes b
pub record OlderFile (s b : List ℕ) : Type 0 where
  pub verdicts : SameVerdicts (b ++ remark_copied (walk_all false s).fields) b
  pub sound : check_fault s (b ++ remark_copied (walk_all false s).fields) ≡ 0
  pub back : bytes_read s (file_text s (b ++ remark_copied (walk_all false s).fields)) ≡ b

-- what request E9 asks; that the way back drops a remark is RoundTrips.byte-for-byte
pub record Remarks : Type 0 where
  -- the walk counts their length and passes over their content
  pub passed_over : PassedOver
  -- and so does every call
  pub lists : (s t : List ℕ) → OnlyRemark false s t → SameAnswers s t
  pub files : (t u : List ℕ) → OnlyRemark true t u → SameVerdicts t u
  -- lists that differ only in the remark give equal shape files byte by byte
  pub equal_files : (s t o o' m m' : List ℕ) (r q : Shaped) → OnlyRemark false s t → ShapeSays s o o' r → ShapeSays t m m' q → r.number ≡ 0 → q.number ≡ 0 → take r.long o' ≡ take q.long m'
  -- no written shape has one
  pub shaped : (s o o' : List ℕ) (r : Shaped) → ShapeSays s o o' r → r.number ≡ 0 → NoRemark s (take r.long o')
  pub from_text : (s t o o' : List ℕ) (r : Shaped) → ReadSays s t o o' r → r.number ≡ 0 → NoRemark s (take r.long o')
  -- a file put in order keeps its own
  pub kept : (s : List ℕ) → let k = is_shape_file s in (old_walk k s).number ≡ 0 → field_of (remark_tag k) (walk_all k (ordered_bytes s)).fields ≡ field_of (remark_tag k) (old_walk k s).fields
  -- our older files; without a remark in the list they are those of today
  pub older : (s a r : List ℕ) → list_fault s ≡ 0 → all_bytes s ≡ true → is_priced s ≡ false → BestOf s (shape_of (plate_of s) a r) → rights_of (shape_of (plate_of s) a r).words ≡ r
      → OlderFile s (shape_bytes (walk_all false s).fields (shape_of (plate_of s) a r))
  pub without : (s : List ℕ) → has_tag 6 (walk_all false s).fields ≡ false → remark_copied (walk_all false s).fields ≡ []
