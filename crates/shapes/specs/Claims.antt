-- The best shape of a plate: demand 3; the network.
use Rattle.std.specs.Prelude.{◌≡◌, ◌⊎◌, Bool, true, ◌&&◌, List, [], ◌∷◌, ℕ, zero, suc, ◌+◌, ◌*◌, ◌≤◌, eqb, leb, length, get_or}
pub use Rattle.embedding.specs.Read.{Accepted}
use Rattle.embedding.specs.Plates.{pick, when, is_in, Plate, darts, twin, ends_at, faces, face_of}
use Rattle.shapes.specs.Shapes.{Shape, meets, bends, comes_first, rights_of, total, shape_of}

-- a shape that stands against every other: with no more bends, and the same or first among equally many
pub record Best (p : Plate) (s : Shape) : Type 0 where
  pub meets_all : meets p s ≡ true
  pub fewest : (u : Shape) → meets p u ≡ true → bends s ≤ bends u
  pub first : (u : Shape) → meets p u ≡ true → bends u ≡ bends s → (u ≡ s) ⊎ (comes_first p s u ≡ true)

-- each accepted plate has one, with the words that a file's counts give
pub record Demand3 : Type 0 where
  pub some_best : (p : Plate) → Accepted p → (a : List ℕ) × (r : List ℕ) × Best p (shape_of p a r) × (rights_of (shape_of p a r).words ≡ r)
  pub one_best : (p : Plate) (s u : Shape) → Accepted p → Best p s → Best p u → s ≡ u

-- the network of 000: corners (angles) 1 to 4 units from posts to faces, units across strips (right bends) at cost 1
-- each post supplies 4; a face takes in its corners and what comes across, gives what goes across, and supplies 4 − 2k, − 4 − 2k if outer
abbrev pub corners_of : List ℕ → List ℕ → ℕ
corners_of [] cs = 0
corners_of (d ∷ ds) cs = get_or cs d 0 + corners_of ds cs

abbrev pub goes_out : List ℕ → List ℕ → ℕ
goes_out [] xs = 0
goes_out (d ∷ ds) xs = get_or xs d 0 + goes_out ds xs

abbrev pub comes_in : List ℕ → List ℕ → ℕ
comes_in [] xs = 0
comes_in (d ∷ ds) xs = get_or xs (twin d) 0 + comes_in ds xs

abbrev pub balanced : Plate → List ℕ → List ℕ → ℕ → Bool
balanced p cs xs d = let f = face_of p d in let k = 2 * length f in pick (is_in p.outer f) (eqb (goes_out f xs + (k + 4)) (corners_of f cs + comes_in f xs)) (eqb (goes_out f xs + k) (corners_of f cs + (comes_in f xs + 4)))

abbrev pub all_balanced : Plate → List ℕ → List ℕ → List ℕ → Bool
all_balanced p cs xs [] = true
all_balanced p cs xs (d ∷ ds) = balanced p cs xs d && all_balanced p cs xs ds

abbrev pub units_ok : List ℕ → Bool
units_ok [] = true
units_ok (c ∷ cs) = leb 1 c && (leb c 4 && units_ok cs)

abbrev pub corners_from : ℕ → ℕ → Plate → ℕ → List ℕ → ℕ
corners_from zero d p v cs = 0
corners_from (suc n) d p v cs = when (eqb (ends_at p d) v) (get_or cs d 0) + corners_from n (suc d) p v cs

abbrev pub posts_supply : ℕ → ℕ → Plate → List ℕ → Bool
posts_supply zero v p cs = true
posts_supply (suc n) v p cs = eqb (corners_from (darts p) 0 p v cs) 4 && posts_supply n (suc v) p cs

abbrev pub is_flow : Plate → List ℕ → List ℕ → Bool
is_flow p cs xs = eqb (length cs) (darts p) && (eqb (length xs) (darts p) && (units_ok cs && (posts_supply p.posts 0 p cs && all_balanced p cs xs (faces p))))

pub record Network (p : Plate) : Type 0 where
  pub flow_for : (s : Shape) → meets p s ≡ true → (cs xs : List ℕ) × (is_flow p cs xs ≡ true) × (total xs ≡ bends s)
  pub shape_for : (cs xs : List ℕ) → is_flow p cs xs ≡ true → (s : Shape) × (meets p s ≡ true) × (bends s ≡ total xs)

pub record Demands : Type 0 where
  pub network : (p : Plate) → Accepted p → Network p
  pub third : Demand3
