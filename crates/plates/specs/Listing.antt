-- The listing: "refused N", or the revision, the bends and a line for each dart, in ASCII codes.
use Rattle.std.specs.Prelude.{◌≡◌, Bool, true, false, List, [], ◌∷◌, ◌++◌, ℕ, zero, suc, ◌+◌, ◌-◌, ◌*◌, ◌/◌, ◌%◌, ◌≤◌, ◌<◌, ltb, length, get_or}
use Rattle.plates.specs.Answers.{Listed}
use Rattle.plates.specs.Plates.{pick, pick_t, first_of, when}
use Rattle.plates.specs.Shapes.{total, rights_of, shape_of}
use Rattle.plates.specs.Files.{content_of, walk_all, list_fault, plate_of}
use Rattle.plates.specs.Claims.{BestOf}
use Rattle.plates.specs.Says.{over, word, all_bytes, BestBytes, NoneKeeps}

-- the last digit of n
abbrev pub digit : ℕ → ℕ
digit n = 48 + n % 10

-- a decimal number, without leading zeros: the digits of n / 10, if there are any, then the last one; k is above n
abbrev pub digits_by : ℕ → ℕ → List ℕ
digits_by zero n = []
digits_by (suc k) n = pick (ltb n 10) [] (digits_by k (n / 10)) ++ (digit n ∷ [])

unfoldable pub decimal : ℕ → List ℕ
decimal n = digits_by (suc n) n

-- what says that these are the right digits: the number that digits stand for, the digits of n behind those of acc
abbrev pub number_of : ℕ → List ℕ → ℕ
number_of acc [] = acc
number_of acc (x ∷ xs) = number_of (10 * acc + (x - 48)) xs

pub record Decimal (n : ℕ) (ds : List ℕ) : Type 0 where
  pub number : number_of 0 ds ≡ n
  pub digits : (i : ℕ) → i < length ds → (48 ≤ get_or ds i 0) × (get_or ds i 0 ≤ 57)
  pub some : 1 ≤ length ds
  pub no_zero : get_or ds 0 0 ≡ 48 → length ds ≡ 1

-- the words, each with its spaces
-- "refused "
abbrev pub refused_word : List ℕ
refused_word = 114 ∷ 101 ∷ 102 ∷ 117 ∷ 115 ∷ 101 ∷ 100 ∷ 32 ∷ []

-- "revision "
abbrev pub revision_word : List ℕ
revision_word = 114 ∷ 101 ∷ 118 ∷ 105 ∷ 115 ∷ 105 ∷ 111 ∷ 110 ∷ 32 ∷ []

-- "bends "
abbrev pub bends_word : List ℕ
bends_word = 98 ∷ 101 ∷ 110 ∷ 100 ∷ 115 ∷ 32 ∷ []

-- "dart "
abbrev pub dart_word : List ℕ
dart_word = 100 ∷ 97 ∷ 114 ∷ 116 ∷ 32 ∷ []

-- " right "
abbrev pub right_word : List ℕ
right_word = 32 ∷ 114 ∷ 105 ∷ 103 ∷ 104 ∷ 116 ∷ 32 ∷ []

-- " angle "
abbrev pub angle_word : List ℕ
angle_word = 32 ∷ 97 ∷ 110 ∷ 103 ∷ 108 ∷ 101 ∷ 32 ∷ []

-- a word and a number, and the same as the end of a line
abbrev pub numbered : List ℕ → ℕ → List ℕ
numbered w n = w ++ decimal n

abbrev pub line : List ℕ → ℕ → List ℕ
line w n = numbered w n ++ (10 ∷ [])

abbrev pub refused_text : ℕ → List ℕ
refused_text n = line refused_word n

-- dart d, its right bends x and its angle y
abbrev pub dart_line : ℕ → ℕ → ℕ → List ℕ
dart_line d x y = numbered dart_word d ++ (numbered right_word x ++ line angle_word y)

-- the lines of the first n darts
abbrev pub dart_lines : ℕ → List ℕ → List ℕ → List ℕ
dart_lines zero a r = []
dart_lines (suc n) a r = dart_lines n a r ++ dart_line n (get_or r n 0) (get_or a n 0)

-- revision v, angles a, right bends r, one of each for each dart
abbrev pub listing_text : ℕ → List ℕ → List ℕ → List ℕ
listing_text v a r = line revision_word v ++ (line bends_word (total r) ++ dart_lines (length r) a r)

-- a text at the front of lent memory, of which the rest is untouched; n is its length
pub record TextWritten (t out out' : List ℕ) (n : ℕ) : Type 0 where
  pub bytes : out' ≡ over t out
  pub long : n ≡ length t

-- a text given: it stands at the front of the lent memory, or the memory is too short for it and stays as it is
abbrev pub Gives : List ℕ → List ℕ → List ℕ → Listed → Type 0
Gives t o o' r =
    pick_t (ltb (length o) (length t))
    ((r.number ≡ 16) × (r.long ≡ 0) × (o' ≡ o))
    ((r.number ≡ 0) × (r.long ≡ length t) × (o' ≡ over t o))

abbrev pub ListingWith : ℕ → List ℕ → List ℕ → List ℕ → Listed → Type 0
ListingWith zero s o o' r = BestBytes s (λ a x b. Gives (listing_text (word (content_of 1 (walk_all false s).fields)) a x) o o' r)
ListingWith (suc f) s o o' r = Gives (refused_text (suc f)) o o' r

-- 24 too, told whether no shape keeps the limits
abbrev pub listing_fault : Bool → List ℕ → ℕ
listing_fault none s = first_of (list_fault s) (when none 24)

abbrev pub ListingSays : List ℕ → List ℕ → List ℕ → Listed → Type 0
ListingSays s o o' r = (none : Bool) × NoneKeeps none s × ListingWith (listing_fault none s) s o o' r

-- no listing of an accepted list is longer than 6939 bytes
abbrev pub ListingShort : Type 0
ListingShort =
    (s a r : List ℕ) → list_fault s ≡ 0 → all_bytes s ≡ true → BestOf s (shape_of (plate_of s) a r) → rights_of (shape_of (plate_of s) a r).words ≡ r
    → length (listing_text (word (content_of 1 (walk_all false s).fields)) a r) ≤ 6939
