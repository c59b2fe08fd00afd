-- What the steps of reading a text give.
use Rattle.std.specs.Prelude.{◌≡◌, Bool, true, ◌&&◌, not, List, [], ◌∷◌, ℕ, zero, suc, ◌-◌, min, eqb, get_or, take, drop, Option, Some, None, Result, IfOk}
use Rattle.std.specs.Option.{option_map}
use denote.Ref.{Bor}
use Rattle.finite.specs.Tables.{Table}
use Rattle.refusals.specs.Numbers.{fault_of}
use Rattle.refusals.specs.declared.Refusal.{Refusal}
use Rattle.plates.specs.Plates.{pick, first_of, when, distinct, twin}
use Rattle.plates.specs.Shapes.{rights, lefts, same_b}
use Rattle.plates.specs.Listing.{number_of}
use Rattle.plates.specs.Text.{Entry}
use Rattle.plates.specs.Grammar.{number_long, number_ok, word_long, word_ok, word_in, angle_ok, from_word, entry_ok, entry_in, behind, form_ok, entries_in}
use Rattle.plates.specs.Lines.{some_mixed, same_faces, word_of, angle_of, darts_of}
use Rattle.texts.specs.Plan.{laid}
use Rattle.texts.specs.declared.planning.Turn.{Turn}
use Rattle.texts.specs.declared.entries.Word.{Word}
use Rattle.texts.specs.declared.entries.Entry.{Entry as Held}
use Rattle.texts.specs.declared.parsing.Counted.{Counted}

-- a number, told exactly below 1000: no plate has a dart above 255
abbrev pub capped : ℕ → ℕ
capped n = min n 1000

-- what is read at the front of a text: nothing, or a value and the rest of the text
abbrev pub space_read : List ℕ → Option (List ℕ)
space_read s = pick (eqb (get_or s 0 0) 32) (Some (drop 1 s)) None

abbrev pub number_read : List ℕ → Option (ℕ × List ℕ)
number_read s = pick (number_ok s) (Some (capped (number_of 0 (take (number_long s) s)), from_word s)) None

-- a word as the code holds it
abbrev pub bends_in : List Bool → Word
bends_in w = record { right = rights w; left = lefts w }

abbrev pub word_read : List ℕ → Option (Word × List ℕ)
word_read s = pick (word_ok s) (Some (bends_in (word_in s), drop (suc (word_long s)) s)) None

abbrev pub angle_read : List ℕ → Option (ℕ × Bool × List ℕ)
angle_read s = pick (angle_ok s) (Some (get_or s 0 0 - 48, eqb (get_or s 1 0) 10, drop 2 s)) None

-- an entry as the code holds it
abbrev pub held : Entry → Held
held x = record { dart = capped x.dart; word = bends_in x.word; angle = x.angle; last = x.ends }

abbrev pub entry_read : List ℕ → Option (Held × List ℕ)
entry_read s = pick (entry_ok s) (Some (held (entry_in s), behind s)) None

-- what is left of a plan behind entries that are its first ones, by dart and end of line
abbrev pub left_behind : List Entry → List Entry → Option (List Entry)
left_behind [] xs = Some xs
left_behind (e ∷ es) [] = None
left_behind (e ∷ es) (x ∷ xs) = pick (eqb e.dart x.dart && same_b e.ends x.ends) (left_behind es xs) None

-- the same, of turns that the code holds
abbrev pub left_seen : Option (Bor (List Turn)) → Option (List Entry)
left_seen r = option_map (λ s. laid s.now) r

-- by dart, the angles and the right and left bends of entries
pub record Tables (es : List Entry) (a r l : List ℕ) : Type 0 where
  pub angles : Table 256 (λ d. angle_of d es) a
  pub rights : Table 256 (λ d. rights (word_of d es)) r
  pub lefts : Table 256 (λ d. lefts (word_of d es)) l

abbrev pub TablesOf : List Entry → Counted → Type 0
TablesOf es c = Tables es c.angles c.rights c.lefts

pub record ReadSoFar (plan es : List Entry) (left : Option (List Entry)) (c : Counted) : Type 0 where
  pub left_is : left ≡ left_behind es plan
  pub tables : (xs : List Entry) → left ≡ Some xs → TablesOf es c

-- a plan has each of its darts once
abbrev pub IsPlan : List Entry → Type 0
IsPlan xs = distinct (darts_of xs) ≡ true

-- 30 over the whole text, 31 over the whole text, then the faces
abbrev pub entries_fault : List Entry → List ℕ → ℕ
entries_fault plan t =
    first_of (when (not (form_ok t)) 30)
    (first_of (when (some_mixed (entries_in t)) 31)
    (when (not (same_faces (entries_in t) plan)) 32))

pub record ParsedBy (plan : List Entry) (t : List ℕ) (r : Result Counted Refusal) : Type 0 where
  pub number : fault_of r ≡ entries_fault plan t
  pub tables : IfOk r (TablesOf (entries_in t))

-- n darts from d on have as many bends one way as their twins the other
abbrev pub twin_counts : ℕ → ℕ → List ℕ → List ℕ → Bool
twin_counts zero d r l = true
twin_counts (suc n) d r l = (eqb (get_or r (twin d) 0) (get_or l d 0) && eqb (get_or l (twin d) 0) (get_or r d 0)) && twin_counts n (suc d) r l
