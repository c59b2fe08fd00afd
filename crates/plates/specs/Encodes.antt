-- A shape file written into lent memory from given counts.
use Rattle.std.specs.Prelude.{◌≡◌, false, List, ℕ, ◌<◌, ltb, length}
use Rattle.plates.specs.Plates.{pick_t}
use Rattle.plates.specs.Shapes.{total}
use Rattle.plates.specs.Files.{walk_all, file_bytes}
use Rattle.plates.specs.Says.{over, file_long}
use Rattle.plates.specs.Answers.{Shaped}

-- an angle and right bends for each of so many darts, whose sum fits two bytes
pub record FileGiven (many : ℕ) (a r : List ℕ) : Type 0 where
  pub angles_many : length a ≡ many
  pub few : total r < 65536

-- the file stands at the front of the lent memory, of which the rest is untouched; n is its length
pub record FileWritten (s a r out out' : List ℕ) (n : ℕ) : Type 0 where
  pub bytes : out' ≡ over (file_bytes (walk_all false s).fields a r) out
  pub long : n ≡ file_long s
  pub size : n ≡ length (file_bytes (walk_all false s).fields a r)

-- the file of angles a and right bends r at the front of lent memory, or 16
abbrev pub FileSays : List ℕ → List ℕ → List ℕ → List ℕ → List ℕ → Shaped → Type 0
FileSays s a r o o' v =
    let b = file_bytes (walk_all false s).fields a r in
    pick_t (ltb (length o) (file_long s))
    ((v.number ≡ 16) × (v.long ≡ 0) × (v.bends ≡ 0) × (o' ≡ o))
    ((v.number ≡ 0) × (v.long ≡ length b) × (v.bends ≡ total r) × (o' ≡ over b o))
