-- A straight post stays straight: the best shape within limits in the words of the request, and which shapes stay the best. A joint is a post with exactly two strip ends.
use Rattle.std.specs.Prelude.{◌≡◌, Bool, true, ◌&&◌, ◌||◌, List, ◌↔◌, ◌⊎◌, ℕ, ◌≤◌, ◌<◌, eqb, ltb}
use Rattle.embedding.specs.Plates.{Plate, degree}
use Rattle.shapes.specs.Shapes.{Shape, meets, bends, cornered, rights_of, smaller, same}
use Rattle.shapes.specs.Rates.{strip_bends, all_within, BestWithin}

-- document 01's order: bends, then right bends of darts in turn, then angles
abbrev pub plain_first : Shape → Shape → Bool
plain_first s u = let a = rights_of s.words in let b = rights_of u.words in ltb (bends s) (bends u) || (eqb (bends s) (bends u) && (smaller a b || (same a b && smaller s.angles u.angles)))

-- the best shape within limits by that order alone
pub record PlainBest (p : Plate) (ls : List ℕ) (s : Shape) : Type 0 where
  pub meets_all : meets p s ≡ true
  pub keeps_all : all_within ls (strip_bends s) ≡ true
  pub fewest : (u : Shape) → meets p u ≡ true → all_within ls (strip_bends u) ≡ true → bends s ≤ bends u
  pub first : (u : Shape) → meets p u ≡ true → all_within ls (strip_bends u) ≡ true → bends u ≡ bends s → (u ≡ s) ⊎ (plain_first s u ≡ true)

-- no shape within the limits with as many bends as s has fewer cornered posts
abbrev pub NoneStraighter : Plate → List ℕ → Shape → Type 0
NoneStraighter p ls s = (u : Shape) → meets p u ≡ true → all_within ls (strip_bends u) ≡ true → bends u ≡ bends s → cornered p s ≤ cornered p u

-- among the shapes with fewest bends none has fewer cornered posts, and among those with as many it is the first by document 01's order
pub record Straightest (p : Plate) (ls : List ℕ) (s : Shape) : Type 0 where
  pub meets_all : meets p s ≡ true
  pub keeps_all : all_within ls (strip_bends s) ≡ true
  pub fewest : (u : Shape) → meets p u ≡ true → all_within ls (strip_bends u) ≡ true → bends s ≤ bends u
  pub fewest_cornered : NoneStraighter p ls s
  pub first : (u : Shape) → meets p u ≡ true → all_within ls (strip_bends u) ≡ true → bends u ≡ bends s → cornered p u ≡ cornered p s → (u ≡ s) ⊎ (plain_first s u ≡ true)

pub record StraightPosts : Type 0 where
  -- the best shape is the one of the request
  pub in_parts : (p : Plate) (ls : List ℕ) (s : Shape) → BestWithin p ls s ↔ Straightest p ls s
  -- the best by document 01's order stays the best where no shape with as few bends has fewer cornered posts
  pub kept : (p : Plate) (ls : List ℕ) (s : Shape) → PlainBest p ls s → NoneStraighter p ls s → BestWithin p ls s
  -- on a plate without joints nothing changes
  pub no_joint : (p : Plate) → ((v : ℕ) → v < p.posts → degree p v ≡ 2 → ⊥) → (ls : List ℕ) (s : Shape) → PlainBest p ls s ↔ BestWithin p ls s
