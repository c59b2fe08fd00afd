-- What the code of the journal's steps keeps in arrays: lists at their front.
use Rattle.std.specs.Prelude.{◌≡◌, List, ◌++◌, ℕ, length, take}
use Rattle.embedding.specs.Plates.{Plate}

-- xs is an array of 256 that begins with l
pub record Front (l xs : List ℕ) : Type 0 where
  pub size : length xs ≡ 256
  pub front : take (length l) xs ≡ l

-- s written behind the first elements
abbrev pub Appended : ℕ → List ℕ → List ℕ → List ℕ → Type 0
Appended at s xs ys = (l : List ℕ) → Front l xs → length l ≡ at → Front (l ++ s) ys

-- what a plate p is read from: its lists at the front of arrays of k
pub record Listed (p : Plate) (k : ℕ) (ends order : List ℕ) : Type 0 where
  pub ends_front : Front p.ends ends
  pub ends_long : length p.ends ≡ k
  pub order_front : Front p.order order
  pub order_long : length p.order ≡ k
