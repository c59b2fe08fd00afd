-- Strips from a post to itself: the places they take, and the refusals of a plate while 10 was given for them.
use Rattle.std.specs.Prelude.{◌≡◌, Bool, true, false, ◌&&◌, ◌||◌, not, List, [], ◌∷◌, ℕ, ◌≤◌, eqb, ltb, leb, length}
use Rattle.embedding.specs.Plates.{first_of, when, is_in, all_below, distinct, Plate, darts, twin, leaves, part_of, over_four, parts_ok, connected, is_plane}

-- some strip joins a post to itself
abbrev pub some_loop : List ℕ → Bool
some_loop [] = false
some_loop (a ∷ []) = false
some_loop (a ∷ (b ∷ es)) = eqb a b || some_loop es

-- `plate_fault` with 10 in its place
abbrev pub plate_fault_before : Plate → ℕ
plate_fault_before p = let n = p.posts in first_of (when (eqb n 0 || ltb 64 n) 7) (first_of (when (eqb (darts p) 0) 8) (first_of (when (not (all_below n p.ends)) 9) (first_of (when (some_loop p.ends) 10) (first_of (when (over_four n 0 p) 11) (first_of (when (not (eqb (length p.order) (darts p) && parts_ok n 0 p)) 12) (first_of (when (leb (darts p) p.outer) 13) (first_of (when (not (connected p)) 14) (when (not (is_plane p)) 15))))))))

-- both darts of d's strip stand in the order of the post that d leaves, once each, among at most four
pub record TwoPlaces (p : Plate) (d : ℕ) : Type 0 where
  pub own : is_in d (part_of p (leaves p d)) ≡ true
  pub twins : is_in (twin d) (part_of p (leaves p d)) ≡ true
  pub apart : twin d ≡ d → ⊥
  pub once : distinct (part_of p (leaves p d)) ≡ true
  pub four_most : length (part_of p (leaves p d)) ≤ 4
