-- Bytes written into lent memory.
use Rattle.std.specs.Prelude.{◌≡◌, Bool, true, ◌&&◌, List, [], ◌∷◌, ◌++◌, ℕ, ◌+◌, ltb, length, take, drop}

-- out with the bytes from `at` on replaced by xs; those before and behind are untouched
abbrev pub put_at : ℕ → List ℕ → List ℕ → List ℕ
put_at at xs out = take at out ++ (xs ++ drop (at + length xs) out)

-- xs in place of the front of ys
abbrev pub over : List ℕ → List ℕ → List ℕ
over xs ys = xs ++ drop (length xs) ys

-- each element is a byte
abbrev pub all_bytes : List ℕ → Bool
all_bytes [] = true
all_bytes (b ∷ bs) = ltb b 256 && all_bytes bs

-- xs was put at `at`, which made out' of out, and next is the place behind it
pub record Written (at : ℕ) (xs out out' : List ℕ) (next : ℕ) : Type 0 where
  pub bytes : out' ≡ put_at at xs out
  pub behind : next ≡ at + length xs
