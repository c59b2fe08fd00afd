-- Which bytes are a text, and the entries that they stand for. `Exact` says that this is no more and no less than what `text_of` writes.
use Rattle.std.specs.Prelude.{◌≡◌, Bool, true, false, ◌&&◌, ◌||◌, not, List, [], ◌∷◌, ℕ, zero, suc, ◌-◌, eqb, ltb, leb, length, get_or, take, drop}
use Rattle.plates.specs.Plates.{pick}
use Rattle.plates.specs.Listing.{number_of}
use Rattle.plates.specs.Text.{Entry, entry, text_of, formed}

abbrev pub is_digit : ℕ → Bool
is_digit x = leb 48 x && leb x 57

abbrev pub is_bend : ℕ → Bool
is_bend x = leb 48 x && leb x 49

-- how many bytes from the front on pass a test
abbrev pub run_of : (ℕ → Bool) → List ℕ → ℕ
run_of t [] = 0
run_of t (x ∷ xs) = pick (t x) (suc (run_of t xs)) 0

-- past the end of a text all bytes are 0, which is none of its bytes
-- a number at the front, without leading zeros, and a space
abbrev pub number_long : List ℕ → ℕ
number_long s = run_of is_digit s

abbrev pub number_ok : List ℕ → Bool
number_ok s = let n = number_long s in ltb 0 n && ((eqb n 1 || not (eqb (get_or s 0 0) 48)) && eqb (get_or s n 0) 32)

-- a word at the front, 1 to 255 digits or -, and a space
abbrev pub bends : List ℕ → List Bool
bends [] = []
bends (x ∷ xs) = eqb x 48 ∷ bends xs

abbrev pub is_dash : List ℕ → Bool
is_dash s = eqb (get_or s 0 0) 45

abbrev pub word_long : List ℕ → ℕ
word_long s = pick (is_dash s) 1 (run_of is_bend s)

abbrev pub word_ok : List ℕ → Bool
word_ok s = let n = word_long s in ltb 0 n && (leb n 255 && eqb (get_or s n 0) 32)

abbrev pub word_in : List ℕ → List Bool
word_in s = bends (take (run_of is_bend s) s)

-- an angle at the front, 1 to 4, and a space or a line feed
abbrev pub angle_ok : List ℕ → Bool
angle_ok s = (leb 49 (get_or s 0 0) && leb (get_or s 0 0) 52) && (eqb (get_or s 1 0) 10 || eqb (get_or s 1 0) 32)

-- an entry at the front: what stands behind its number, and behind its word
abbrev pub from_word : List ℕ → List ℕ
from_word s = drop (suc (number_long s)) s

abbrev pub from_angle : List ℕ → List ℕ
from_angle s = drop (suc (word_long (from_word s))) (from_word s)

abbrev pub entry_ok : List ℕ → Bool
entry_ok s = number_ok s && (word_ok (from_word s) && angle_ok (from_angle s))

abbrev pub entry_in : List ℕ → Entry
entry_in s = entry (number_of 0 (take (number_long s) s)) (word_in (from_word s)) (get_or (from_angle s) 0 0 - 48) (eqb (get_or (from_angle s) 1 0) 10)

abbrev pub behind : List ℕ → List ℕ
behind s = drop 2 (from_angle s)

-- entry by entry, by a fuel above the length of s; b: the line before s is ended
abbrev pub form_from : ℕ → Bool → List ℕ → Bool
form_from zero b s = false
form_from (suc k) b s = pick (eqb (length s) 0) b (entry_ok s && form_from k (entry_in s).ends (behind s))

abbrev pub entries_from : ℕ → List ℕ → List Entry
entries_from zero s = []
entries_from (suc k) s = pick (eqb (length s) 0) [] (entry_in s ∷ entries_from k (behind s))

-- the bytes are lines of one or more entries each, and nothing else
abbrev pub form_ok : List ℕ → Bool
form_ok t = form_from (suc (length t)) true t

abbrev pub entries_in : List ℕ → List Entry
entries_in t = entries_from (suc (length t)) t

-- a text of this form is written from its entries, and entries that are written come back
pub record Exact : Type 0 where
  pub read : (t : List ℕ) → form_ok t ≡ true → (text_of (entries_in t) ≡ t) × (formed (entries_in t) ≡ true)
  pub back : (es : List Entry) → formed es ≡ true → (form_ok (text_of es) ≡ true) × (entries_in (text_of es) ≡ es)
