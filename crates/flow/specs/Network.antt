-- Networks with bounded arcs; flows; the least flow; cuts that rule a flow out.
use Rattle.std.specs.Prelude.{◌≡◌, ◌⊎◌, Bool, true, false, ◌&&◌, not, List, [], ◌∷◌, ℕ, zero, suc, ◌+◌, ◌-◌, ◌*◌, ◌≤◌, ◌<◌, length, get_or}
pub use Rattle.finite.specs.Base.{when, total, smaller}
pub use Rattle.residual.specs.Residual.{units_at}

-- an upper bound that is none
abbrev pub unbounded : ℕ
unbounded = 65535

-- by arc: where it starts and ends, least and most units, what a unit costs; by node: units that start there, units that end there
pub record Network : Type 0 where
  pub tails : List ℕ
  pub heads : List ℕ
  pub lowers : List ℕ
  pub uppers : List ℕ
  pub costs : List ℕ
  pub supplies : List ℕ
  pub demands : List ℕ

abbrev pub network : List ℕ → List ℕ → List ℕ → List ℕ → List ℕ → List ℕ → List ℕ → Network
network ts hs ls us cs ss ds = record { tails = ts; heads = hs; lowers = ls; uppers = us; costs = cs; supplies = ss; demands = ds }

abbrev pub cost_of : List ℕ → List ℕ → ℕ
cost_of [] xs = 0
cost_of (c ∷ cs) [] = 0
cost_of (c ∷ cs) (x ∷ xs) = c * x + cost_of cs xs

pub record Flow (n : Network) (x : List ℕ) : Type 0 where
  pub long : length x ≡ length n.tails
  pub above : (a : ℕ) → a < length n.tails → get_or n.lowers a 0 ≤ get_or x a 0
  pub below : (a : ℕ) → a < length n.tails → (get_or n.uppers a 0 ≡ unbounded) ⊎ (get_or x a 0 ≤ get_or n.uppers a 0)
  pub kept : (v : ℕ) → v < length n.supplies → units_at n.tails x v + get_or n.demands v 0 ≡ units_at n.heads x v + get_or n.supplies v 0

-- cheapest, and first of the cheapest
pub record Least (n : Network) (x : List ℕ) : Type 0 where
  pub flow : Flow n x
  pub cheapest : (y : List ℕ) → Flow n y → cost_of n.costs x ≤ cost_of n.costs y
  pub first : (y : List ℕ) → Flow n y → cost_of n.costs y ≡ cost_of n.costs x → (y ≡ x) ⊎ (smaller x y ≡ true)

-- what a node has left over once each arc carries its least
abbrev pub excess_at : Network → ℕ → ℕ
excess_at n v = (get_or n.supplies v 0 + units_at n.heads n.lowers v) - (get_or n.demands v 0 + units_at n.tails n.lowers v)

abbrev pub excess_from : ℕ → ℕ → Network → ℕ
excess_from zero v n = 0
excess_from (suc k) v n = excess_at n v + excess_from k (suc v) n

abbrev pub excess : Network → ℕ
excess n = excess_from (length n.supplies) 0 n

-- a set of nodes, by membership; what it holds, and what may leave it or must enter it
abbrev pub within : List Bool → ℕ → Bool
within [] v = false
within (b ∷ bs) zero = b
within (b ∷ bs) (suc v) = within bs v

abbrev pub held : List Bool → List ℕ → ℕ
held [] xs = 0
held (b ∷ bs) [] = 0
held (b ∷ bs) (x ∷ xs) = when b x + held bs xs

-- over the arcs from a set to the rest, the sum of what is given by arc
abbrev pub crossing : List Bool → List ℕ → List ℕ → List ℕ → ℕ
crossing s [] hs xs = 0
crossing s (t ∷ ts) [] xs = 0
crossing s (t ∷ ts) (h ∷ hs) [] = 0
crossing s (t ∷ ts) (h ∷ hs) (x ∷ xs) = when (within s t && not (within s h)) x + crossing s ts hs xs

-- a set from which more must go out than can: no flow is there
pub record Cut (n : Network) (s : List Bool) : Type 0 where
  pub bounded : (a : ℕ) → a < length n.tails → within s (get_or n.tails a 0) ≡ true → within s (get_or n.heads a 0) ≡ false → get_or n.uppers a 0 ≡ unbounded → ⊥
  pub over : held s n.demands + crossing s n.tails n.heads n.uppers < held s n.supplies + crossing s n.heads n.tails n.lowers

-- what each cost is below
abbrev pub cost_most : ℕ
cost_most = 549755813888

-- a network as the solver takes it
pub record Sound (n : Network) : Type 0 where
  pub heads_long : length n.heads ≡ length n.tails
  pub lowers_long : length n.lowers ≡ length n.tails
  pub uppers_long : length n.uppers ≡ length n.tails
  pub costs_long : length n.costs ≡ length n.tails
  pub demands_long : length n.demands ≡ length n.supplies
  pub arcs_few : length n.tails ≤ 1024
  pub nodes_few : length n.supplies ≤ 255
  pub tails_in : (a : ℕ) → a < length n.tails → get_or n.tails a 0 < length n.supplies
  pub heads_in : (a : ℕ) → a < length n.tails → get_or n.heads a 0 < length n.supplies
  pub ordered : (a : ℕ) → a < length n.tails → get_or n.lowers a 0 ≤ get_or n.uppers a 0
  pub cheap : (a : ℕ) → a < length n.tails → get_or n.costs a 0 < cost_most
  pub even : total n.supplies ≡ total n.demands
  pub small : total n.supplies + total n.lowers < 8192
  pub few : excess n < 256

-- ---- the solver's answer

-- one of two facts, as a test tells
abbrev pub Either : Bool → Type 0 → Type 0 → Type 0
Either true first second = first
Either false first second = second

-- the first of the cheapest flows, with no arc far above its least
pub record Best (n : Network) (x : List ℕ) : Type 0 where
  pub least : Least n x
  pub near : (a : ℕ) → a < length n.tails → get_or x a 0 ≤ get_or n.lowers a 0 + excess n

-- a set of nodes that rules a flow out
pub record NoFlow (n : Network) : Type 0 where
  pub set : List Bool
  pub cut : Cut n set
