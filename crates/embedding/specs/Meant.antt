-- The plate that the fields of a plate as held stand for.
use Rattle.std.specs.Prelude.{◌≡◌, true, false, List, [], ◌∷◌, ℕ, suc, ◌*◌, ◌/◌, ◌%◌, eqb, length, get_or, take, drop}
use Rattle.finite.specs.Tables.{Table, up_to}
use Rattle.finite.specs.Walks.{lowest}
use Rattle.embedding.specs.Plates.{Plate, plate, darts, degree, part_of, after, face_of, faces, plate_fault}
use Rattle.embedding.specs.Edits.{laid}

-- the darts of post v, from places and degrees
abbrev pub row_in : List ℕ → List ℕ → ℕ → List ℕ
row_in places degrees v = take (get_or degrees v 0) (drop (4 * v) places)

-- the j-th dart of post v at 4 v + j
abbrev pub place_in : Plate → ℕ → ℕ
place_in p i = up_to p.posts (λ v. get_or (part_of p v) (i % 4) 0) (i / 4)

-- the lowest dart of d's face
abbrev pub lead : Plate → ℕ → ℕ
lead p d = lowest d (face_of p d)

-- where x stands first in the list
abbrev pub place_of : ℕ → List ℕ → ℕ
place_of x [] = 0
place_of x (y ∷ ys) = elim (eqb x y) [ true ↦ 0 | false ↦ suc (place_of x ys) ]

-- faces are numbered as their lowest darts stand in `faces`
abbrev pub face_number : Plate → ℕ → ℕ
face_number p d = place_of (lead p d) (faces p)

abbrev pub face_size : Plate → ℕ → ℕ
face_size p k = length (face_of p (get_or (faces p) k 0))

-- fields that stand for p: every one is determined, unused places are 0
pub record StandFor (p : Plate) (posts dart_number : ℕ) (ends places degrees : List ℕ) (outer : ℕ) (next face : List ℕ) (face_total : ℕ) (sizes : List ℕ) : Type 0 where
  pub same_posts : posts ≡ p.posts
  pub dart_count : dart_number ≡ darts p
  pub strip_ends : Table 256 (λ i. get_or p.ends i 0) ends
  pub four_places : Table 256 (place_in p) places
  pub post_degrees : Table 64 (up_to p.posts (degree p)) degrees
  pub outer_dart : outer ≡ p.outer
  pub next-darts : Table 256 (up_to (darts p) (after p)) next
  pub face_numbers : Table 256 (up_to (darts p) (face_number p)) face
  pub face_count : face_total ≡ length (faces p)
  pub face_sizes : Table 66 (up_to (length (faces p)) (face_size p)) sizes

-- the plate that they stand for
unfoldable pub held : (posts darts : ℕ) (ends places degrees : List ℕ) (outer : ℕ) → Plate
held posts darts ends places degrees outer = plate posts (take darts ends) (laid posts (row_in places degrees)) outer

-- a plate as an accepted list gives it: no fault, and two darts to a strip
pub record Accepted (p : Plate) : Type 0 where
  pub no_fault : plate_fault p ≡ 0
  pub even_darts : darts p % 2 ≡ 0
