-- Marks of the nodes before a search, and the one node that it is for; lists of zeros.
use Rattle.std.specs.Prelude.{◌≡◌, List, map, ℕ, zero, suc, ◌<◌, length, get_or}

-- so many zeros
pub record Zeros (n : ℕ) (xs : List ℕ) : Type 0 where
  pub long : length xs ≡ n
  pub zero_at : (i : ℕ) → get_or xs i 0 ≡ 0

-- the marks before a search from the nodes that have something left
abbrev pub mark_of : ℕ → ℕ
mark_of zero = 255
mark_of (suc k) = 0

abbrev pub marks_of : List ℕ → List ℕ
marks_of left = map mark_of left

-- marks of one source
pub record Single (dist : List ℕ) (source : ℕ) : Type 0 where
  pub marked : get_or dist source 0 ≡ 0
  pub others : (v : ℕ) → v < length dist → (v ≡ source → ⊥) → get_or dist v 0 ≡ 255

-- one node is wanted
pub record Wants (wanted : List ℕ) (target : ℕ) : Type 0 where
  pub here : 0 < get_or wanted target 0
  pub only : (v : ℕ) → 0 < get_or wanted v 0 → v ≡ target
