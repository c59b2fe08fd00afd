-- What the steps of reading a plate give.
use Rattle.std.specs.Prelude.{◌≡◌, Option, is_some, IfSome, Bool, false, ◌&&◌, ◌||◌, not, List, ◌∷◌, ℕ, ◌+◌, ◌*◌, ◌≤◌, ◌<◌, length, get_or, take, drop}
use Rattle.finite.specs.Tables.{Table, up_to}
use Rattle.finite.specs.Walks.{orbit}
use Rattle.embedding.specs.Plates.{pick, is_in, plate, twin, degree_from, distinct, all_leave, parts_ok, last_of, just_before, joins}
use Rattle.embedding.specs.Meant.{place_in}
use Rattle.embedding.specs.declared.reached.Seen.{Seen}

-- the degrees of n posts, none over four
pub record Few (n : ℕ) (e : List ℕ) (degrees : List ℕ) : Type 0 where
  pub table : Table 64 (up_to n (λ v. degree_from v e)) degrees
  pub most : (v : ℕ) → v < n → degree_from v e ≤ 4

-- a post's part of the order
pub record PostRead (e : List ℕ) (v : ℕ) (part : List ℕ) (r : Option (List ℕ)) : Type 0 where
  pub ok : (n : ℕ) (o : List ℕ) (x : ℕ) → is_some r ≡ all_leave (plate n e o x) v part && distinct part
  pub row : IfSome r (λ row. Table 4 (λ i. get_or part i 0) row)

pub record OrderRead (n : ℕ) (e o : List ℕ) (r : Option (List ℕ)) : Type 0 where
  pub ok : (x : ℕ) → is_some r ≡ parts_ok n 0 (plate n e o x)
  pub places : IfSome r (λ places. (x : ℕ) → Table 256 (place_in (plate n e o x)) places)

-- the dart after d, from the places and the degrees
abbrev pub after_in : List ℕ → List ℕ → List ℕ → ℕ → ℕ
after_in e places degrees d =
    let v = get_or e (twin d) 0 in
    let ds = take (get_or degrees v 0) (drop (4 * v) places) in
    just_before (twin d) (last_of ds) ds

-- posts seen, as marks and as a list
pub record Marks (l : List ℕ) (s : Seen) : Type 0 where
  pub size : length s.seen ≡ 64
  pub at : (v : ℕ) → v < 64 → get_or s.seen v false ≡ is_in v l
  pub count : s.count ≡ length l

-- one strip
abbrev pub join_one : ℕ → ℕ → List ℕ → List ℕ
join_one a b l = pick (is_in a l && not (is_in b l)) (b ∷ l) (pick (is_in b l && not (is_in a l)) (a ∷ l) l)

pub record Joined (a b : ℕ) (s r : Seen) : Type 0 where
  pub marks : (l : List ℕ) → Marks l s → Marks (join_one a b l) r
  pub most : r.count ≤ s.count + 1

pub record RoundMade (e : List ℕ) (s r : Seen) : Type 0 where
  pub marks : (l : List ℕ) → Marks l s → Marks (joins e l) r

-- the dart after x
abbrev pub next_of : List ℕ → ℕ → ℕ
next_of next x = get_or next x 0

-- the orbit of d labelled: face and met before, face' and met' after
pub record FaceLabelled (next : List ℕ) (n d number : ℕ) (face : List ℕ) (met : List Bool) (face' : List ℕ) (met' : List Bool) (size : ℕ) : Type 0 where
  pub face_at : (x : ℕ) → get_or face' x 0 ≡ pick (is_in x (orbit (next_of next) n d)) number (get_or face x 0)
  pub met_at : (x : ℕ) → get_or met' x false ≡ is_in x (orbit (next_of next) n d) || get_or met x false
  pub sized : size ≡ length (orbit (next_of next) n d)
