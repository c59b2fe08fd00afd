-- Remarks, tag 06 of a plate list and 15 of a shape file: the walk counts their length and passes over their content.
use Rattle.std.specs.Prelude.{◌≡◌, Bool, ◌⊎◌, List, ◌++◌, ℕ, ◌≤◌, ◌<◌, length, get_or}
use Rattle.finite.specs.Base.{pick}
use Rattle.fields.specs.Files.{Field, last_tag, walk_all, field}
use Rattle.fields.specs.Ordering.{bytes_in, SameBesides}

abbrev pub remark_tag : Bool → ℕ
remark_tag is_shape = pick is_shape 21 6

-- two files that differ in the remark at most: the walk gives them the same number, and besides the remark the same fields
pub record OnlyRemark (is_shape : Bool) (s t : List ℕ) : Type 0 where
  pub number : (walk_all is_shape s).number ≡ (walk_all is_shape t).number
  pub besides : SameBesides (remark_tag is_shape) (walk_all is_shape s).fields (walk_all is_shape t).fields

-- a file with a remark of content c behind the fields fs, and any bytes y behind it
abbrev pub remarked : Bool → List Field → List ℕ → List ℕ → List ℕ
remarked is_shape fs c y = bytes_in fs ++ (field (remark_tag is_shape) c ++ y)

-- what request E9 asks of the walk
pub record PassedOver : Type 0 where
  -- a file with a remark of over 80 bytes is not taken
  pub counted : (k : Bool) (fs : List Field) (c y : List ℕ) → 80 < length c → (walk_all k (remarked k fs c y)).number ≡ 0 → ⊥
  -- another content, of whatever length up to 80, makes no other difference, be the file taken or refused
  pub replaced : (k : Bool) (fs : List Field) (c d y : List ℕ) → length c ≤ 80 → length d ≤ 80 → OnlyRemark k (remarked k fs c y) (remarked k fs d y)
  -- nor does the remark of a file that is taken, if it is taken out
  pub removed : (k : Bool) (fs : List Field) (c y : List ℕ) → (walk_all k (remarked k fs c y)).number ≡ 0 → OnlyRemark k (remarked k fs c y) (bytes_in fs ++ y)
  -- or put into one that is taken, in tag order
  pub added : (k : Bool) (fs : List Field) (c y : List ℕ) → length c ≤ 80 → last_tag fs < remark_tag k → (length y ≡ 0) ⊎ (remark_tag k < get_or y 0 0)
      → (walk_all k (bytes_in fs ++ y)).number ≡ 0 → OnlyRemark k (remarked k fs c y) (bytes_in fs ++ y)
