-- Limits and prices of bends by strip; which shape comes first by them; the best shape within the limits.
use Rattle.std.specs.Prelude.{◌≡◌, ◌⊎◌, Bool, true, ◌&&◌, ◌||◌, List, [], ◌∷◌, ℕ, ◌+◌, ◌*◌, ◌≤◌, eqb, ltb, leb, get_or, drop}
use Rattle.embedding.specs.Plates.{Plate}
use Rattle.shapes.specs.Shapes.{Shape, meets, bends, cornered, comes_first, rights_of, smaller, same, shape_of}
use Rattle.shapes.specs.Claims.{Accepted}

-- by strip the most bends, 255 or none given for no limit, and the price of a bend, 1 where none is given
pub record Rates : Type 0 where
  pub limits : List ℕ
  pub prices : List ℕ

abbrev pub rates : List ℕ → List ℕ → Rates
rates ls ps = record { limits = ls; prices = ps }

abbrev pub unrated : Rates
unrated = rates [] []

-- prices as a list may give them, 1 to 100
pub record Fair (r : Rates) : Type 0 where
  pub some_price : (i : ℕ) → 1 ≤ get_or r.prices i 1
  pub price_most : (i : ℕ) → get_or r.prices i 1 ≤ 100

abbrev pub prices_ok : List ℕ → Bool
prices_ok [] = true
prices_ok (q ∷ qs) = leb 1 q && (leb q 100 && prices_ok qs)

-- numbers two by two
abbrev pub pair_sums : List ℕ → List ℕ
pair_sums [] = []
pair_sums (a ∷ []) = a ∷ []
pair_sums (a ∷ (b ∷ xs)) = (a + b) ∷ pair_sums xs

-- bends of strips in turn: none passes its limit
abbrev pub all_within : List ℕ → List ℕ → Bool
all_within ls [] = true
all_within ls (b ∷ bs) = (leb 255 (get_or ls 0 255) || leb b (get_or ls 0 255)) && all_within (drop 1 ls) bs

-- limits that are none
abbrev pub all_free : List ℕ → Bool
all_free [] = true
all_free (l ∷ ls) = leb 255 l && all_free ls

-- bends of strips in turn times their prices, together
abbrev pub priced_sum : List ℕ → List ℕ → ℕ
priced_sum ps [] = 0
priced_sum ps (b ∷ bs) = get_or ps 0 1 * b + priced_sum (drop 1 ps) bs

-- the bends of each strip: the right bends of its two darts, a left bend of one being a right bend of the other
abbrev pub strip_bends : Shape → List ℕ
strip_bends s = pair_sums (rights_of s.words)

abbrev pub keeps : Rates → Shape → Bool
keeps r s = all_within r.limits (strip_bends s)

abbrev pub price : Rates → Shape → ℕ
price r s = priced_sum r.prices (strip_bends s)

-- the least priced sum first, then the fewest cornered posts, then document 01's order
abbrev pub comes_first_by : Plate → Rates → Shape → Shape → Bool
comes_first_by p r s u = let a = rights_of s.words in let b = rights_of u.words in
    ltb (price r s) (price r u) || (eqb (price r s) (price r u) && (
    ltb (cornered p s) (cornered p u) || (eqb (cornered p s) (cornered p u) && (
    ltb (bends s) (bends u) || (eqb (bends s) (bends u) && (smaller a b || (same a b && smaller s.angles u.angles)))))))

-- within the limits, and against every other shape within them no dearer, and the same or first among equally dear ones
pub record BestBy (p : Plate) (r : Rates) (s : Shape) : Type 0 where
  pub meets_all : meets p s ≡ true
  pub keeps_all : keeps r s ≡ true
  pub cheapest : (u : Shape) → meets p u ≡ true → keeps r u ≡ true → price r s ≤ price r u
  pub first : (u : Shape) → meets p u ≡ true → keeps r u ≡ true → price r u ≡ price r s → (u ≡ s) ⊎ (comes_first_by p r s u ≡ true)

-- with limits alone: the fewest bends of those within them, and the same or first among equally many
pub record BestWithin (p : Plate) (ls : List ℕ) (s : Shape) : Type 0 where
  pub meets_all : meets p s ≡ true
  pub keeps_all : all_within ls (strip_bends s) ≡ true
  pub fewest : (u : Shape) → meets p u ≡ true → all_within ls (strip_bends u) ≡ true → bends s ≤ bends u
  pub first : (u : Shape) → meets p u ≡ true → all_within ls (strip_bends u) ≡ true → bends u ≡ bends s → (u ≡ s) ⊎ (comes_first p s u ≡ true)

-- no shape keeps the limits
abbrev pub NoShape : Plate → Rates → Type 0
NoShape p r = (u : Shape) → meets p u ≡ true → keeps r u ≡ true → ⊥

-- where some shape keeps the limits there is a best one, with the words that a file's counts give, and it is the only one; without limits there always is
pub record DemandBy : Type 0 where
  pub some_best : (p : Plate) (r : Rates) → Accepted p → Fair r → (u : Shape) → meets p u ≡ true → keeps r u ≡ true → (a : List ℕ) × (x : List ℕ) × BestBy p r (shape_of p a x) × (rights_of (shape_of p a x).words ≡ x)
  pub one_best : (p : Plate) (r : Rates) (s u : Shape) → BestBy p r s → BestBy p r u → s ≡ u
  pub always_some : (p : Plate) (ps : List ℕ) → Accepted p → Fair (rates [] ps) → (a : List ℕ) × (x : List ℕ) × BestBy p (rates [] ps) (shape_of p a x) × (rights_of (shape_of p a x).words ≡ x)
