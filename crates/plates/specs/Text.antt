-- A text as its entries, in ASCII codes: dart, bend word and angle, one space between them, and a line feed behind the last entry of a line, one space behind any other.
use Rattle.std.specs.Prelude.{Bool, true, false, ◌&&◌, List, [], ◌∷◌, ◌++◌, ℕ, ◌+◌, leb, length}
use Rattle.plates.specs.Plates.{pick}
use Rattle.plates.specs.Listing.{decimal}

-- ends: this is the last entry of its line
pub record Entry : Type 0 where
  pub dart : ℕ
  pub word : List Bool
  pub angle : ℕ
  pub ends : Bool

abbrev pub entry : ℕ → List Bool → ℕ → Bool → Entry
entry d w a b = record { dart = d; word = w; angle = a; ends = b }

-- a bend: 0 right, 1 left
abbrev pub bend_digit : Bool → ℕ
bend_digit true = 48
bend_digit false = 49

abbrev pub bend_digits : List Bool → List ℕ
bend_digits [] = []
bend_digits (b ∷ bs) = bend_digit b ∷ bend_digits bs

-- a word: its digits, or - where it is empty
abbrev pub word_text : List Bool → List ℕ
word_text [] = 45 ∷ []
word_text (b ∷ bs) = bend_digits (b ∷ bs)

-- behind the word: a space, the angle, and a line feed or a space
abbrev pub angle_text : ℕ → Bool → List ℕ
angle_text a b = 32 ∷ ((48 + a) ∷ (pick b 10 32 ∷ []))

abbrev pub entry_text : Entry → List ℕ
entry_text e = decimal e.dart ++ (32 ∷ (word_text e.word ++ angle_text e.angle e.ends))

abbrev pub text_of : List Entry → List ℕ
text_of [] = []
text_of (e ∷ es) = entry_text e ++ text_of es

-- a word of at most 255 digits, and an angle of 1 to 4
abbrev pub entry_formed : Entry → Bool
entry_formed e = leb (length e.word) 255 && (leb 1 e.angle && leb e.angle 4)

abbrev pub all_formed : List Entry → Bool
all_formed [] = true
all_formed (e ∷ es) = entry_formed e && all_formed es

-- the last line is ended; b: the one before these entries is
abbrev pub closed : Bool → List Entry → Bool
closed b [] = b
closed b (e ∷ es) = closed e.ends es

-- lines of one or more entries each, and nothing else
abbrev pub formed : List Entry → Bool
formed es = all_formed es && closed true es
