-- One pass over the strips: its state, one strip more, what is left, the answer; and a plate's fault from the answer of the pass and from what is tried before and after it.
use Rattle.std.specs.Prelude.{◌≡◌, Bool, false, ◌&&◌, ◌||◌, not, List, [], ◌∷◌, ◌++◌, ℕ, ◌+◌, ◌*◌, ◌%◌, ◌≤◌, eqb, ltb, leb, length, get_or, take, drop, set, replicate}
use Rattle.embedding.specs.Plates.{pick, first_of, when, all_below, over_four, Plate, darts, parts_ok, connected, is_plane}
use Rattle.embedding.specs.declared.strips.Strips.{Strips}

unfoldable pub no_strips : Strips
no_strips = record { stray = false; over = false; degrees = replicate 64 0 }

-- a strip end at v: a post below n gets one more, up to four
abbrev pub add_end : ℕ → ℕ → Strips → Strips
add_end n v s =
    record {
      stray = not (ltb v n) || s.stray;
      over = (ltb v n && not (ltb (get_or s.degrees v 0) 4)) || s.over;
      degrees = pick (ltb v n && ltb (get_or s.degrees v 0) 4) (set s.degrees v (get_or s.degrees v 0 + 1)) s.degrees;
    }

-- a strip from a to b: both its ends, also where they are one post
abbrev pub add_strip : ℕ → ℕ → ℕ → Strips → Strips
add_strip n a b s = add_end n b (add_end n a s)

-- the strips of a list, one after the other
abbrev pub go_on : ℕ → Strips → List ℕ → Strips
go_on n s [] = s
go_on n s (a ∷ []) = s
go_on n s (a ∷ (b ∷ es)) = go_on n (add_strip n a b s) es

abbrev pub state_of : ℕ → List ℕ → Strips
state_of n es = go_on n no_strips es

-- the pass stopped after k strips, and gone on with over the rest alone
abbrev pub stopped_after : ℕ → ℕ → List ℕ → Strips
stopped_after k n es = go_on n (state_of n (take (2 * k) es)) (drop (2 * k) es)

-- 9 or 11: 9 wins, whichever was met first
abbrev pub nine_first : Bool → Bool → ℕ
nine_first stray over = first_of (when stray 9) (when over 11)

abbrev pub answer_of : Strips → ℕ
answer_of s = nine_first s.stray s.over

-- the same of a plate, as `plate_fault` has it
abbrev pub strips_fault : Plate → ℕ
strips_fault p = nine_first (not (all_below p.posts p.ends)) (over_four p.posts 0 p)

-- 7 and 8, of n posts and the strip ends e
abbrev pub early_fault : ℕ → List ℕ → ℕ
early_fault n e = first_of (when (eqb n 0 || ltb 64 n) 7) (when (eqb (length e) 0) 8)

-- 12 to 15
abbrev pub late_fault : Plate → ℕ
late_fault p = first_of (when (not (eqb (length p.order) (darts p) && parts_ok p.posts 0 p)) 12) (first_of (when (leb (darts p) p.outer) 13) (first_of (when (not (connected p)) 14) (when (not (is_plane p)) 15)))

-- a plate's fault, 9 and 11 answered by the pass, stopped after k strips and gone on with
abbrev pub pass_fault : ℕ → Plate → ℕ
pass_fault k p = first_of (early_fault p.posts p.ends) (first_of (answer_of (stopped_after k p.posts p.ends)) (late_fault p))

-- r is s gone on with over the strips of rest; where s is the state after a front of whole strips, r is that after both
pub record GoneOn (n : ℕ) (s : Strips) (rest : List ℕ) (r : Strips) : Type 0 where
  pub steps : r ≡ go_on n s rest
  pub whole : (front : List ℕ) → length front % 2 ≡ 0 → s ≡ state_of n front → r ≡ state_of n (front ++ rest)

-- the answer to a state; where it is that of a plate's whole field, its 9 or 11
pub record Answered (s : Strips) (r : ℕ) : Type 0 where
  pub number : r ≡ answer_of s
  pub whole : (p : Plate) → p.posts ≤ 64 → darts p % 2 ≡ 0 → s ≡ state_of p.posts p.ends → r ≡ strips_fault p
