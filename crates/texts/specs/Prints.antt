-- A text printed from a plan and counts.
use Rattle.std.specs.Prelude.{◌≡◌, Bool, true, false, List, ℕ, zero, suc, ◌+◌, ◌≤◌, ◌<◌, min, length, get_or}
use Rattle.plates.specs.Plates.{twin}
use Rattle.plates.specs.Shapes.{angles_ok, even_word}
use Rattle.plates.specs.Listing.{decimal}
use Rattle.plates.specs.Text.{Entry, entry, word_text, entry_text, text_of}
use Rattle.plates.specs.Lines.{both_ways}
use Rattle.texts.specs.Plan.{refill, laid}
use Rattle.texts.specs.declared.planning.Turn.{Turn}
use Rattle.texts.specs.declared.entries.Word.{Word}
use Rattle.texts.specs.declared.entries.Entry.{Entry as Held}

-- the word of a dart, from the right bends of all darts
abbrev pub count_word : List ℕ → ℕ → List Bool
count_word r d = even_word (get_or r d 0) (get_or r (twin d) 0)

abbrev pub count_entries : List ℕ → List ℕ → List Entry → List Entry
count_entries a r xs = refill (count_word r) (λ d. get_or a d 0) xs

-- the same, as the code holds it
abbrev pub bends_of : List ℕ → ℕ → Word
bends_of r d = record { right = get_or r d 0; left = get_or r (twin d) 0 }

-- how long an entry is, and those of the first n darts together
abbrev pub entry_long : List ℕ → ℕ → ℕ
entry_long r d = length (decimal d) + (length (word_text (count_word r d)) + 4)

abbrev pub long_up_to : ℕ → List ℕ → ℕ
long_up_to zero r = 0
long_up_to (suc n) r = long_up_to n r + entry_long r n

-- no strip bends both ways, and each angle is one
pub record Straight (a r : List ℕ) : Type 0 where
  pub one_way : both_ways r ≡ false
  pub angles-ok : angles_ok a ≡ true

-- an entry of the code, which has a word of one digit
abbrev pub entry_of : Held → Entry
entry_of e = entry e.dart (even_word e.word.right e.word.left) e.angle e.last

-- one entry, and room for it from a place on
pub record EntryRoom (e : Held) (at room : ℕ) : Type 0 where
  pub one_way : min e.word.right e.word.left ≡ 0
  pub angle_most : e.angle ≤ 4
  pub enough : at + length (entry_text (entry_of e)) ≤ room

-- a plan of these darts, and room for its text
pub record PrintRoom (ts : List Turn) (a r : List ℕ) (room : ℕ) : Type 0 where
  pub straight : Straight a r
  pub below : (i : ℕ) (t : Turn) → i < length ts → (get_or ts i t).dart < length r
  pub enough : length (text_of (count_entries a r (laid ts))) ≤ room
