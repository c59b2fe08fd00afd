-- Texts tried against P1 of document 01, each with the limits of its strips and its number.
use Rattle.std.specs.Prelude.{◌≡◌, Bool, true, ◌&&◌, List, [], ◌∷◌, ℕ, eqb}
use Rattle.plates.specs.Shapes.{rights_of}
use Rattle.plates.specs.Tried.{p1, given}
use Rattle.plates.specs.Grammar.{entries_in}
use Rattle.plates.specs.Lines.{face_text, words_by, angles_by}
use Rattle.plates.specs.Texts.{placed_fault}

pub record Row : Type 0 where
  pub limits : List ℕ
  pub text : List ℕ
  pub fault : ℕ

abbrev pub row : List ℕ → List ℕ → ℕ → Row
row ls t f = record { limits = ls; text = t; fault = f }

-- "1 - 3 2 11 3", "0 - 1 3 00 1"
abbrev pub p1_text : List ℕ
p1_text = 49 ∷ 32 ∷ 45 ∷ 32 ∷ 51 ∷ 32 ∷ 50 ∷ 32 ∷ 49 ∷ 49 ∷ 32 ∷ 51 ∷ 10 ∷ 48 ∷ 32 ∷ 45 ∷ 32 ∷ 49 ∷ 32 ∷ 51 ∷ 32 ∷ 48 ∷ 48 ∷ 32 ∷ 49 ∷ 10 ∷ []

-- no line, so none that is not of the form, and not the faces
abbrev pub no_text : Row
no_text = row [] ([]) 32

-- "1 - 3 2 11 3", "0 - 1 3 00 1", " ": a blank behind the last line
abbrev pub blank : Row
blank = row [] (49 ∷ 32 ∷ 45 ∷ 32 ∷ 51 ∷ 32 ∷ 50 ∷ 32 ∷ 49 ∷ 49 ∷ 32 ∷ 51 ∷ 10 ∷ 48 ∷ 32 ∷ 45 ∷ 32 ∷ 49 ∷ 32 ∷ 51 ∷ 32 ∷ 48 ∷ 48 ∷ 32 ∷ 49 ∷ 10 ∷ 32 ∷ []) 30

-- "1 - 3 2 11 3", "0 - 1 3 00 1": the last line is not ended
abbrev pub open_line : Row
open_line = row [] (49 ∷ 32 ∷ 45 ∷ 32 ∷ 51 ∷ 32 ∷ 50 ∷ 32 ∷ 49 ∷ 49 ∷ 32 ∷ 51 ∷ 10 ∷ 48 ∷ 32 ∷ 45 ∷ 32 ∷ 49 ∷ 32 ∷ 51 ∷ 32 ∷ 48 ∷ 48 ∷ 32 ∷ 49 ∷ []) 30

-- "01 - 3 2 11 3", "0 - 1 3 00 1": a leading zero
abbrev pub leading_zero : Row
leading_zero = row [] (48 ∷ 49 ∷ 32 ∷ 45 ∷ 32 ∷ 51 ∷ 32 ∷ 50 ∷ 32 ∷ 49 ∷ 49 ∷ 32 ∷ 51 ∷ 10 ∷ 48 ∷ 32 ∷ 45 ∷ 32 ∷ 49 ∷ 32 ∷ 51 ∷ 32 ∷ 48 ∷ 48 ∷ 32 ∷ 49 ∷ 10 ∷ []) 30

-- "1 - 3 2 10 3": a word with both digits, before the faces are compared
abbrev pub mixed : Row
mixed = row [] (49 ∷ 32 ∷ 45 ∷ 32 ∷ 51 ∷ 32 ∷ 50 ∷ 32 ∷ 49 ∷ 48 ∷ 32 ∷ 51 ∷ 10 ∷ []) 31

-- "1 - 3 2 10 3", "0": the same before a line that is not of the form
abbrev pub mixed_open : Row
mixed_open = row [] (49 ∷ 32 ∷ 45 ∷ 32 ∷ 51 ∷ 32 ∷ 50 ∷ 32 ∷ 49 ∷ 48 ∷ 32 ∷ 51 ∷ 10 ∷ 48 ∷ []) 30

-- "0 - 1 3 00 1", "1 - 3 2 11 3": the outer face is not first
abbrev pub inner_first : Row
inner_first = row [] (48 ∷ 32 ∷ 45 ∷ 32 ∷ 49 ∷ 32 ∷ 51 ∷ 32 ∷ 48 ∷ 48 ∷ 32 ∷ 49 ∷ 10 ∷ 49 ∷ 32 ∷ 45 ∷ 32 ∷ 51 ∷ 32 ∷ 50 ∷ 32 ∷ 49 ∷ 49 ∷ 32 ∷ 51 ∷ 10 ∷ []) 32

-- "2 11 3 1 - 3", "0 - 1 3 00 1": a line does not start at its smallest dart
abbrev pub later_start : Row
later_start = row [] (50 ∷ 32 ∷ 49 ∷ 49 ∷ 32 ∷ 51 ∷ 32 ∷ 49 ∷ 32 ∷ 45 ∷ 32 ∷ 51 ∷ 10 ∷ 48 ∷ 32 ∷ 45 ∷ 32 ∷ 49 ∷ 32 ∷ 51 ∷ 32 ∷ 48 ∷ 48 ∷ 32 ∷ 49 ∷ 10 ∷ []) 32

-- "1 - 3 2 1 3", "0 - 1 3 00 1": words that do not agree across a strip
abbrev pub one_side : Row
one_side = row [] (49 ∷ 32 ∷ 45 ∷ 32 ∷ 51 ∷ 32 ∷ 50 ∷ 32 ∷ 49 ∷ 32 ∷ 51 ∷ 10 ∷ 48 ∷ 32 ∷ 45 ∷ 32 ∷ 49 ∷ 32 ∷ 51 ∷ 32 ∷ 48 ∷ 48 ∷ 32 ∷ 49 ∷ 10 ∷ []) 32

-- "1 - 4 2 11 3", "0 - 1 3 00 1": angles at post 0
abbrev pub wide_angle : Row
wide_angle = row [] (49 ∷ 32 ∷ 45 ∷ 32 ∷ 52 ∷ 32 ∷ 50 ∷ 32 ∷ 49 ∷ 49 ∷ 32 ∷ 51 ∷ 10 ∷ 48 ∷ 32 ∷ 45 ∷ 32 ∷ 49 ∷ 32 ∷ 51 ∷ 32 ∷ 48 ∷ 48 ∷ 32 ∷ 49 ∷ 10 ∷ []) 20

-- "1 - 3 2 1 3", "0 - 1 3 0 1": turns of both faces
abbrev pub one_bend : Row
one_bend = row [] (49 ∷ 32 ∷ 45 ∷ 32 ∷ 51 ∷ 32 ∷ 50 ∷ 32 ∷ 49 ∷ 32 ∷ 51 ∷ 10 ∷ 48 ∷ 32 ∷ 45 ∷ 32 ∷ 49 ∷ 32 ∷ 51 ∷ 32 ∷ 48 ∷ 32 ∷ 49 ∷ 10 ∷ []) 21

-- the text of P1; one bend for strip 1
abbrev pub limited : Row
limited = row (2 ∷ 1 ∷ []) p1_text 25

-- the text of P1; two bends for it
abbrev pub within : Row
within = row (0 ∷ 2 ∷ []) p1_text 0

abbrev pub rows : List Row
rows = row [] p1_text 0 ∷ no_text ∷ blank ∷ open_line ∷ leading_zero ∷ mixed ∷ mixed_open ∷ inner_first ∷ later_start ∷ one_side ∷ wide_angle ∷ one_bend ∷ limited ∷ within ∷ []

abbrev pub rows_hold : List Row → Bool
rows_hold [] = true
rows_hold (r ∷ rs) = eqb (placed_fault p1.tried r.limits r.text) r.fault && rows_hold rs

pub record Worked : Type 0 where
  pub written : face_text p1.tried p1.angles (given p1).words ≡ p1_text
  pub angles_back : angles_by 4 0 (entries_in p1_text) ≡ p1.angles
  pub rights_back : rights_of (words_by 4 0 (entries_in p1_text)) ≡ p1.rights
  pub numbers : rows_hold rows ≡ true
