-- What is written stands within the lent memory: by both promises its bytes are at the front of it. Assumes nothing.
use mathlib.Core.Path.{◌≡◌, ap}
use mathlib.Core.List.{List}
use Prim.Native.Nat.{ℕ, zero, suc, ◌≤◌}
use native.Mathlib.Omega.{arith}
use lib.ListN.{length, drop, length-append}
use Rattle.plates.specs.Answers.{Shaped}
use Rattle.plates.specs.Answers.{Listed}
use Rattle.plates.specs.Says.{over}
use Rattle.plates.specs.Texts.{file_text, bytes_read, write_fault, WriteWith, WriteSays, read_fault, ReadWith, ReadSays}

front_within : (n : ℕ) (b o o' : List ℕ) → n ≡ length b → o' ≡ over b o → n ≤ length o'
front_within n b o o' e h = omega (arith, e, ap length h, length-append b (drop (length b) o))

pub text_within : (s t o o' : List ℕ) (r : Listed) → WriteSays s t o o' r → r.long ≤ length o'
text_within s t o o' r h = go (write_fault s t o) h
  where
    go : (n : ℕ) → WriteWith n s t o o' r → r.long ≤ length o'
    go zero (a, b, c) = front_within r.long (file_text s t) o o' b c
    go (suc n) (a, b, c) = omega (arith, b)

pub file_within : (s t o o' : List ℕ) (r : Shaped) → ReadSays s t o o' r → r.long ≤ length o'
file_within s t o o' r h = go (read_fault s t o) h
  where
    go : (n : ℕ) → ReadWith n s t o o' r → r.long ≤ length o'
    go zero (a, b, c, d) = front_within r.long (bytes_read s t) o o' b d
    go (suc n) (a, b, c, d) = omega (arith, b)
