-- Plates: darts, faces, refusals 7 to 15.
use Rattle.std.specs.Prelude.{Bool, true, false, ◌&&◌, ◌||◌, not, List, [], ◌∷◌, ◌++◌, ℕ, zero, suc, ◌+◌, ◌/◌, eqb, ltb, leb, length, get_or, take, drop}
pub use Rattle.maps.specs.Maps.{twin}
pub use Rattle.finite.specs.Base.{pick, pick_t, first_of, when, is_in, all_below, distinct, last_of, is_lowest}

-- posts, strips as ends in a row (first, second), clockwise darts of all posts, the outer dart
pub record Plate : Type 0 where
  pub posts : ℕ
  pub ends : List ℕ
  pub order : List ℕ
  pub outer : ℕ

abbrev pub plate : ℕ → List ℕ → List ℕ → ℕ → Plate
plate n e o x = record { posts = n; ends = e; order = o; outer = x }

abbrev pub darts : Plate → ℕ
darts p = length p.ends

abbrev pub strips : Plate → ℕ
strips p = darts p / 2

-- dart 2i leaves the first post of strip i, dart 2i + 1 the second
abbrev pub leaves : Plate → ℕ → ℕ
leaves p d = get_or p.ends d 0

abbrev pub ends_at : Plate → ℕ → ℕ
ends_at p d = leaves p (twin d)

abbrev pub degree_from : ℕ → List ℕ → ℕ
degree_from v [] = 0
degree_from v (e ∷ es) = when (eqb v e) 1 + degree_from v es

abbrev pub degree : Plate → ℕ → ℕ
degree p v = degree_from v p.ends

-- a post's part of the order
abbrev pub before : Plate → ℕ → ℕ
before p zero = 0
before p (suc v) = degree p v + before p v

abbrev pub part_of : Plate → ℕ → List ℕ
part_of p v = take (degree p v) (drop (before p v) p.order)

-- 7 to 13; 10 is not given: a strip may join a post to itself, and takes two of its places
abbrev pub over_four : ℕ → ℕ → Plate → Bool
over_four zero v p = false
over_four (suc n) v p = ltb 4 (degree p v) || over_four n (suc v) p

abbrev pub all_leave : Plate → ℕ → List ℕ → Bool
all_leave p v [] = true
all_leave p v (d ∷ ds) = ltb d (darts p) && (eqb (leaves p d) v && all_leave p v ds)

abbrev pub parts_ok : ℕ → ℕ → Plate → Bool
parts_ok zero v p = true
parts_ok (suc n) v p = all_leave p v (part_of p v) && (distinct (part_of p v) && parts_ok n (suc v) p)

-- the dart after d on the face to its right: the one just before d's twin, clockwise, where d ends
abbrev pub just_before : ℕ → ℕ → List ℕ → ℕ
just_before x prev [] = prev
just_before x prev (y ∷ ys) = elim (eqb x y) [ true ↦ prev | false ↦ just_before x y ys ]

abbrev pub after : Plate → ℕ → ℕ
after p d = let ds = part_of p (ends_at p d) in just_before (twin d) (last_of ds) ds

-- a face from one of its darts, as its darts in walking order
abbrev pub walk_from : ℕ → Plate → ℕ → ℕ → List ℕ
walk_from zero p s d = []
walk_from (suc n) p s d = d ∷ elim (eqb (after p d) s) [ true ↦ [] | false ↦ walk_from n p s (after p d) ]

abbrev pub face_of : Plate → ℕ → List ℕ
face_of p d = walk_from (darts p) p d d

-- one dart for each face: its lowest
abbrev pub faces_from : ℕ → ℕ → Plate → List ℕ
faces_from zero d p = []
faces_from (suc n) d p = pick (is_lowest d (face_of p d)) (d ∷ []) [] ++ faces_from n (suc d) p

abbrev pub faces : Plate → List ℕ
faces p = faces_from (darts p) 0 p

-- connected: posts reached from post 0
abbrev pub joins : List ℕ → List ℕ → List ℕ
joins [] seen = seen
joins (a ∷ []) seen = seen
joins (a ∷ (b ∷ es)) seen = joins es (pick (is_in a seen && not (is_in b seen)) (b ∷ seen) (pick (is_in b seen && not (is_in a seen)) (a ∷ seen) seen))

abbrev pub reach : ℕ → Plate → List ℕ → List ℕ
reach zero p seen = seen
reach (suc n) p seen = reach n p (joins p.ends seen)

abbrev pub connected : Plate → Bool
connected p = eqb (length (reach p.posts p (0 ∷ []))) p.posts

abbrev pub is_plane : Plate → Bool
is_plane p = eqb (p.posts + length (faces p)) (strips p + 2)

abbrev pub plate_fault : Plate → ℕ
plate_fault p = let n = p.posts in first_of (when (eqb n 0 || ltb 64 n) 7) (first_of (when (eqb (darts p) 0) 8) (first_of (when (not (all_below n p.ends)) 9) (first_of (when (over_four n 0 p) 11) (first_of (when (not (eqb (length p.order) (darts p) && parts_ok n 0 p)) 12) (first_of (when (leb (darts p) p.outer) 13) (first_of (when (not (connected p)) 14) (when (not (is_plane p)) 15)))))))
