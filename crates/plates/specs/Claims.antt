-- The best shape of a list's plate within its limits, by its prices: demand 3; the network.
use Rattle.std.specs.Prelude.{◌≡◌, ◌↔◌, true, List, ℕ}
use Rattle.plates.specs.Shapes.{Shape, meets, rights_of, strip_bends, all_within, all_free, BestBy, shape_of}
use Rattle.plates.specs.Files.{list_fault, plate_of, limits_of, rates_of}
pub use Rattle.shapes.specs.Claims.{Best, corners_of, goes_out, comes_in, balanced, all_balanced, units_ok, corners_from, posts_supply, is_flow, Network}

-- of the shapes that keep the list's limits the best one by its prices; without them, where each bend costs 1, the one with fewest bends (Prices.as_unpriced)
abbrev pub BestOf : List ℕ → Shape → Type 0
BestOf b s = BestBy (plate_of b) (rates_of b) s

-- some shape meets the conditions and keeps the limits; none does
abbrev pub SomeWithin : List ℕ → Type 0
SomeWithin b = (u : Shape) × (meets (plate_of b) u ≡ true) × (all_within (limits_of b) (strip_bends u) ≡ true)

abbrev pub NoneWithin : List ℕ → Type 0
NoneWithin b = (u : Shape) → meets (plate_of b) u ≡ true → all_within (limits_of b) (strip_bends u) ≡ true → ⊥

-- a best shape with the words that a file's counts give
abbrev pub HasBest : List ℕ → Type 0
HasBest b = (a : List ℕ) × (r : List ℕ) × BestOf b (shape_of (plate_of b) a r) × (rights_of (shape_of (plate_of b) a r).words ≡ r)

-- the counts of the best shape
pub record BestCounts (b a r : List ℕ) : Type 0 where
  pub best : BestOf b (shape_of (plate_of b) a r)
  pub counts : rights_of (shape_of (plate_of b) a r).words ≡ r

-- each accepted list without limits has one, one with limits exactly where some shape keeps them, and it is the only one
pub record Demand3 : Type 0 where
  pub some_best : (b : List ℕ) → list_fault b ≡ 0 → all_free (limits_of b) ≡ true → HasBest b
  pub some_within : (b : List ℕ) → list_fault b ≡ 0 → HasBest b ↔ SomeWithin b
  pub one_best : (b : List ℕ) (s u : Shape) → list_fault b ≡ 0 → BestOf b s → BestOf b u → s ≡ u

pub record Demands : Type 0 where
  pub network : (b : List ℕ) → list_fault b ≡ 0 → Network (plate_of b)
  pub third : Demand3
