-- Potentials that price the residual arcs; the gap to the next tight arc that leaves the reached nodes; the raise by that gap.
use Rattle.std.specs.Prelude.{◌≡◌, ◌⊎◌, Option, IfSome, Bool, true, false, List, ℕ, ◌+◌, ◌-◌, ◌^◌, ◌≤◌, ◌<◌, leb, length, get_or}
use Rattle.finite.specs.Base.{when}
use Rattle.residual.specs.Residual.{Residual, tail_of, head_of, near_ends, can_up, can_down, UpBy, DownBy}

-- a unit's price at the end of arc a, by way of a, and as it stands
abbrev pub over : Residual → ℕ → ℕ
over r a = get_or r.costs a 0 + get_or r.pot (tail_of r a) 0

abbrev pub there : Residual → ℕ → ℕ
there r a = get_or r.pot (head_of r a) 0

-- no unit gets cheaper by a step along a residual arc
pub record Priced (r : Residual) : Type 0 where
  pub up : (a : ℕ) → a < length r.tails → can_up r a → there r a ≤ over r a
  pub down : (a : ℕ) → a < length r.tails → can_down r a → over r a ≤ there r a

abbrev pub Sums : Residual → Type 0
Sums r = (a : ℕ) → a < length r.tails → over r a < 2 ^ 64

-- arc a leaves the reached nodes, and is s short of tight
abbrev pub Leaves : Residual → List ℕ → ℕ → ℕ → Type 0
Leaves r dist a s = (UpBy r dist a (tail_of r a) (head_of r a) × (over r a ≡ there r a + s)) ⊎ (DownBy r dist a (tail_of r a) (head_of r a) × (there r a ≡ over r a + s))

-- for a step on, or back: the cost of its arc and the potential of the arc's tail fit together; how short of nothing the step's cost is
abbrev pub Fits : Bool → ℕ → ℕ → ℕ → Type 0
Fits true cost near far = cost + near < 2 ^ 64
Fits false cost near far = cost + far < 2 ^ 64

abbrev pub short : Bool → ℕ → ℕ → ℕ → ℕ
short true cost near far = cost + near - far
short false cost near far = near - (cost + far)

-- s is what arc a is short of tight where it leaves the reached nodes, and 0 elsewhere
pub record Slack (r : Residual) (dist : List ℕ) (a s : ℕ) : Type 0 where
  pub leaves : 0 < s → Leaves r dist a s
  pub only : (t : ℕ) → Leaves r dist a t → s ≡ t

-- a number above 0, if any
abbrev pub Positive : Option ℕ → Type 0
Positive n = IfSome n (λ k. 0 < k)

-- the lesser of two numbers, where 0 is none
pub record Lesser (m n r : ℕ) : Type 0 where
  pub one : (r ≡ m) ⊎ (r ≡ n)
  pub first : 0 < m → (0 < r) × (r ≤ m)
  pub second : 0 < n → (0 < r) × (r ≤ n)

-- arc a leaves the reached nodes, s short of tight, and has u for the end where a step on, or back, begins; or it leaves them by a step from u
abbrev pub LeavesBy : Residual → List ℕ → Bool → ℕ → ℕ → ℕ → Type 0
LeavesBy r dist on u a s = (get_or (near_ends on r) a 0 ≡ u) × Leaves r dist a s

abbrev pub LeavesFrom : Residual → List ℕ → ℕ → ℕ → ℕ → Type 0
LeavesFrom r dist u a s = ((tail_of r a ≡ u) × UpBy r dist a (tail_of r a) (head_of r a) × (over r a ≡ there r a + s)) ⊎ ((head_of r a ≡ u) × DownBy r dist a (tail_of r a) (head_of r a) × (there r a ≡ over r a + s))

-- g is the lesser of g₀ and of what the arcs that are so are short of tight; 0 is none
pub record Closest (r : Residual) (dist : List ℕ) (So : ℕ → ℕ → Type 0) (g₀ g : ℕ) : Type 0 where
  pub least : (a s : ℕ) → a < length r.tails → So a s → 0 < s → (0 < g) × (g ≤ s)
  pub kept : 0 < g₀ → (0 < g) × (g ≤ g₀)
  pub met : 0 < g → (g ≡ g₀) ⊎ ((a : ℕ) × (a < length r.tails) × Leaves r dist a g)

-- g is the least by which an arc that leaves the reached nodes is short of tight, and 0 where none is
pub record Gap (r : Residual) (dist : List ℕ) (g : ℕ) : Type 0 where
  pub least : (a s : ℕ) → a < length r.tails → Leaves r dist a s → 0 < s → (0 < g) × (g ≤ s)
  pub met : 0 < g → (a : ℕ) × (a < length r.tails) × Leaves r dist a g

-- each node below upto that is not reached costs so much more
pub record RaisedTo (dist : List ℕ) (by : ℕ) (pot : List ℕ) (upto : ℕ) (pot' : List ℕ) : Type 0 where
  pub long : length pot' ≡ length pot
  pub done : (v : ℕ) → v < upto → get_or pot' v 0 ≡ get_or pot v 0 + when (leb 255 (get_or dist v 0)) by
  pub rest : (v : ℕ) → upto ≤ v → get_or pot' v 0 ≡ get_or pot v 0

-- each node that is not reached costs so much more
pub record Raised (dist : List ℕ) (by : ℕ) (pot pot' : List ℕ) : Type 0 where
  pub long : length pot' ≡ length pot
  pub prices : (v : ℕ) → get_or pot' v 0 ≡ get_or pot v 0 + when (leb 255 (get_or dist v 0)) by
