-- A search by a queue: the reached nodes stand in it in the order of their marks, and each is taken from it in turn, until a wanted node is reached.
use Rattle.std.specs.Prelude.{◌≡◌, Option, None, Some, IfSome, IfNone, List, ℕ, ◌≤◌, ◌<◌, length, get_or}
use Rattle.residual.specs.Residual.{Residual, Opens, Ranked, Rooted, ShutAt, Pushed, tail_of, head_of, tight, can_up, can_down, reached}
use Rattle.residual.specs.Chains.{Lined}

-- from node u arc a leads to no new node
pub record Spent (r : Residual) (dist : List ℕ) (u a : ℕ) : Type 0 where
  pub up : tail_of r a ≡ u → tight r a → can_up r a → reached dist (head_of r a)
  pub down : head_of r a ≡ u → tight r a → can_down r a → reached dist (tail_of r a)

-- what a step from u along arc a reaches: a new node, or none
abbrev pub Reach : Residual → List ℕ → ℕ → ℕ → Option ℕ → Type 0
Reach r dist u a None = Spent r dist u a
Reach r dist u a (Some v) = Opens r dist a v

-- so for each arc from `from` on whose end in `ends` is u; so for every arc from `from` on
abbrev pub SpentAt : Residual → ℕ → List ℕ → List ℕ → ℕ → Type 0
SpentAt r from ends dist u = (a : ℕ) → from ≤ a → a < length r.tails → get_or ends a 0 ≡ u → Spent r dist u a

abbrev pub Done : Residual → ℕ → List ℕ → ℕ → Type 0
Done r from dist u = (a : ℕ) → from ≤ a → a < length r.tails → Spent r dist u a

-- a node that is reached
pub record Standing (dist : List ℕ) (u : ℕ) : Type 0 where
  pub node : u < length dist
  pub marked : reached dist u

-- a tree whose `count` nodes stand in the queue, each mark below `count`
pub record Underway (r : Residual) (from count : ℕ) (dist via queue : List ℕ) : Type 0 where
  pub ranked : Ranked r from count dist via
  pub lined : Lined dist count queue
  pub via_long : length via ≡ length dist
  pub queue_long : length queue ≡ length dist

-- more nodes reached, behind those that stood in the queue
pub record Grown (count₀ : ℕ) (dist₀ queue₀ : List ℕ) (count : ℕ) (dist queue : List ℕ) : Type 0 where
  pub more : count₀ ≤ count
  pub long : length dist ≡ length dist₀
  pub kept : (v : ℕ) → reached dist₀ v → get_or dist v 0 ≡ get_or dist₀ v 0
  pub adds_none : (v : ℕ) → get_or dist v 0 ≡ 0 → get_or dist₀ v 0 ≡ 0
  pub front : (i : ℕ) → i < count₀ → get_or queue i 0 ≡ get_or queue₀ i 0

-- a search that went on
pub record Further (r : Residual) (from count₀ : ℕ) (dist₀ queue₀ : List ℕ) (count : ℕ) (dist via queue : List ℕ) : Type 0 where
  pub underway : Underway r from count dist via queue
  pub grown : Grown count₀ dist₀ queue₀ count dist queue

-- a reached node that is wanted
pub record Lacks (dist wanted : List ℕ) (v : ℕ) : Type 0 where
  pub node : v < length dist
  pub marked : reached dist v
  pub some : 0 < get_or wanted v 0

-- a tree from the sources with a wanted node, or a whole search that reaches none
pub record Sought (r : Residual) (from : ℕ) (start wanted dist via : List ℕ) (found : Option ℕ) : Type 0 where
  pub rooted : Rooted r from start dist via
  pub some : IfSome found (λ v. Lacks dist wanted v)
  pub closed : IfNone found ((a : ℕ) → from ≤ a → a < length r.tails → ShutAt r dist a)
  pub none : IfNone found ((u : ℕ) → u < length dist → reached dist u → get_or wanted u 0 ≡ 0)

-- a search from the sources for the target, and a push to it from a source if it was reached
pub record Augmented (r : Residual) (from : ℕ) (start : List ℕ) (target : ℕ) (x' dist via : List ℕ) (source : Option ℕ) : Type 0 where
  pub rooted : Rooted r from start dist via
  pub pushed : IfSome source (λ s. Pushed r from dist target x' s)
  pub closed : IfNone source ((a : ℕ) → from ≤ a → a < length r.tails → ShutAt r dist a)
  pub stuck : IfNone source ((x' ≡ r.x) × (255 ≤ get_or dist target 0))
