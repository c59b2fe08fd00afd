-- The residual arcs of a flow under potentials; what a search over them finds, and what a push along its tree changes.
use Rattle.std.specs.Prelude.{◌≡◌, ◌⊎◌, Option, None, Some, Bool, true, false, List, [], ◌∷◌, ℕ, ◌+◌, ◌-◌, ◌≤◌, ◌<◌, eqb, leb, length, get_or, set}
use Rattle.finite.specs.Base.{when}

-- the units on the arcs whose end here is v
abbrev pub units_at : List ℕ → List ℕ → ℕ → ℕ
units_at [] xs v = 0
units_at (e ∷ es) [] v = 0
units_at (e ∷ es) (x ∷ xs) v = when (eqb e v) x + units_at es xs v

-- a test that tells whether a fact holds
abbrev pub Tells : Bool → Type 0 → Type 0
Tells true fact = fact
Tells false fact = fact → ⊥

-- arcs, a flow on them, and potentials of the nodes
pub record Residual : Type 0 where
  pub tails : List ℕ
  pub heads : List ℕ
  pub lowers : List ℕ
  pub uppers : List ℕ
  pub costs : List ℕ
  pub x : List ℕ
  pub pot : List ℕ

abbrev pub residual : List ℕ → List ℕ → List ℕ → List ℕ → List ℕ → List ℕ → List ℕ → Residual
residual ts hs ls us cs x p = record { tails = ts; heads = hs; lowers = ls; uppers = us; costs = cs; x = x; pot = p }

abbrev pub tail_of : Residual → ℕ → ℕ
tail_of r a = get_or r.tails a 0

abbrev pub head_of : Residual → ℕ → ℕ
head_of r a = get_or r.heads a 0

abbrev pub tight : Residual → ℕ → Type 0
tight r a = get_or r.costs a 0 + get_or r.pot (tail_of r a) 0 ≡ get_or r.pot (head_of r a) 0

abbrev pub can_up : Residual → ℕ → Type 0
can_up r a = get_or r.x a 0 < get_or r.uppers a 0

abbrev pub can_down : Residual → ℕ → Type 0
can_down r a = get_or r.lowers a 0 < get_or r.x a 0

-- units within the arcs' bounds
pub record Within (r : Residual) : Type 0 where
  pub above : (a : ℕ) → a < length r.tails → get_or r.lowers a 0 ≤ get_or r.x a 0
  pub below : (a : ℕ) → a < length r.tails → get_or r.x a 0 ≤ get_or r.uppers a 0

-- every list as long as its arcs or nodes, every end a node, and units within bounds
pub record Shaped (r : Residual) (nodes : ℕ) : Type 0 where
  pub heads_long : length r.heads ≡ length r.tails
  pub lowers_long : length r.lowers ≡ length r.tails
  pub uppers_long : length r.uppers ≡ length r.tails
  pub costs_long : length r.costs ≡ length r.tails
  pub x_long : length r.x ≡ length r.tails
  pub pot_long : length r.pot ≡ nodes
  pub arcs_few : length r.tails ≤ 1024
  pub nodes_few : nodes ≤ 255
  pub tails_in : (a : ℕ) → a < length r.tails → tail_of r a < nodes
  pub heads_in : (a : ℕ) → a < length r.tails → head_of r a < nodes
  pub within : Within r

-- A node's mark is below 255 once it is reached, and 0 at a source.
abbrev pub reached : List ℕ → ℕ → Type 0
reached dist v = get_or dist v 0 < 255

abbrev pub unreached : List ℕ → ℕ
unreached [] = 0
unreached (d ∷ ds) = when (leb 255 d) 1 + unreached ds

-- a step on from an arc's tail, or back from its head: where it begins and where it leads
abbrev pub near_ends : Bool → Residual → List ℕ
near_ends true r = r.tails
near_ends false r = r.heads

abbrev pub far_end : Bool → List ℕ → List ℕ → ℕ → ℕ
far_end true tails heads a = get_or heads a 0
far_end false tails heads a = get_or tails a 0

-- the room for it between an arc's bounds
abbrev pub Roomy : Bool → ℕ → ℕ → ℕ → Type 0
Roomy true units lower upper = units < upper
Roomy false units lower upper = lower < units

abbrev pub Room : Bool → Residual → ℕ → Type 0
Room on r a = Roomy on (get_or r.x a 0) (get_or r.lowers a 0) (get_or r.uppers a 0)

-- it costs nothing under the potentials of the node that it begins at and of the one that it leads to
abbrev pub Even : Bool → ℕ → ℕ → ℕ → Type 0
Even true cost near far = cost + near ≡ far
Even false cost near far = cost + far ≡ near

-- v is where a step along arc a leads; it is new, and there is room
pub record OpenAt (r : Residual) (dist : List ℕ) (on : Bool) (a v : ℕ) : Type 0 where
  pub at : v ≡ far_end on r.tails r.heads a
  pub node : v < length dist
  pub new : 255 ≤ get_or dist v 0
  pub room : Room on r a

-- where a step along arc a leads if that is new and there is room, or none
abbrev pub Open : Residual → List ℕ → Bool → ℕ → Option ℕ → Type 0
Open r dist on a None = Room on r a → reached dist (far_end on r.tails r.heads a)
Open r dist on a (Some v) = OpenAt r dist on a v

-- a step from a reached node to one that is not, over what is left between two bounds
pub record Ahead (near far low high : ℕ) : Type 0 where
  pub near_in : near < 255
  pub far_out : 255 ≤ far
  pub room : low < high

-- an arc between t and h leads a step up from t, or down from h
abbrev pub UpBy : Residual → List ℕ → ℕ → ℕ → ℕ → Type 0
UpBy r dist a t h = Ahead (get_or dist t 0) (get_or dist h 0) (get_or r.x a 0) (get_or r.uppers a 0)

abbrev pub DownBy : Residual → List ℕ → ℕ → ℕ → ℕ → Type 0
DownBy r dist a t h = Ahead (get_or dist h 0) (get_or dist t 0) (get_or r.lowers a 0) (get_or r.x a 0)

-- a leads on to v, from an end with a lower mark
pub record Enters (starts ends dist : List ℕ) (a v : ℕ) : Type 0 where
  pub at : get_or ends a 0 ≡ v
  pub nearer : get_or dist (get_or starts a 0) 0 < get_or dist v 0

-- a leads to v in the tree: on from its tail, or back from its head
pub record Link (r : Residual) (from : ℕ) (dist : List ℕ) (a v : ℕ) : Type 0 where
  pub late : from ≤ a
  pub arc : a < length r.tails
  pub even : tight r a
  pub way : (Enters r.tails r.heads dist a v × can_up r a) ⊎ (Enters r.heads r.tails dist a v × can_down r a)

abbrev pub Tree : Residual → ℕ → List ℕ → List ℕ → Type 0
Tree r from dist via = (v : ℕ) → 0 < get_or dist v 0 → reached dist v → Link r from dist (get_or via v 0) v

-- arc a reaches the node v, which is new
pub record Opens (r : Residual) (dist : List ℕ) (a v : ℕ) : Type 0 where
  pub node : v < length dist
  pub new : 255 ≤ get_or dist v 0
  pub even : tight r a
  pub way : ((head_of r a ≡ v) × can_up r a × reached dist (tail_of r a)) ⊎ ((tail_of r a ≡ v) × can_down r a × reached dist (head_of r a))

-- arc a reaches no new node
pub record ShutAt (r : Residual) (dist : List ℕ) (a : ℕ) : Type 0 where
  pub up : tight r a → reached dist (tail_of r a) → can_up r a → reached dist (head_of r a)
  pub down : tight r a → reached dist (head_of r a) → can_down r a → reached dist (tail_of r a)

-- a tree whose marks are below rank, with a mark left for every node to come
pub record Ranked (r : Residual) (from rank : ℕ) (dist via : List ℕ) : Type 0 where
  pub tree : Tree r from dist via
  pub below : (v : ℕ) → reached dist v → get_or dist v 0 < rank
  pub room : rank + unreached dist ≤ 255
  pub first : 0 < rank

-- the marks before a search: 0 at the sources and 255 elsewhere, with a source among at most 255 nodes
pub record Fresh (dist : List ℕ) : Type 0 where
  pub marks : (v : ℕ) → (get_or dist v 0 ≡ 0) ⊎ (get_or dist v 0 ≡ 255)
  pub some : unreached dist < length dist
  pub few : length dist ≤ 255

-- marks and arcs of a tree from the sources
pub record Rooted (r : Residual) (from : ℕ) (start dist via : List ℕ) : Type 0 where
  pub long : length dist ≡ length start
  pub via_long : length via ≡ length start
  pub keeps : (v : ℕ) → get_or start v 0 ≡ 0 → get_or dist v 0 ≡ 0
  pub adds_none : (v : ℕ) → get_or dist v 0 ≡ 0 → get_or start v 0 ≡ 0
  pub tree : Tree r from dist via

-- what a whole search makes of marks that are 0 at the sources and 255 elsewhere
pub record Searched (r : Residual) (from : ℕ) (start dist via : List ℕ) : Type 0 where
  pub rooted : Rooted r from start dist via
  pub closed : (a : ℕ) → from ≤ a → a < length r.tails → ShutAt r dist a

-- Marks and arcs by which a walk comes down from any reached node to a source, with a unit to add or to take away at each step.
pub record Walkable (tails heads x dist via : List ℕ) : Type 0 where
  pub heads_long : length heads ≡ length tails
  pub x_long : length x ≡ length tails
  pub via_long : length via ≡ length dist
  pub tails_in : (a : ℕ) → a < length tails → get_or tails a 0 < length dist
  pub heads_in : (a : ℕ) → a < length tails → get_or heads a 0 < length dist
  pub arcs_in : (v : ℕ) → 0 < get_or dist v 0 → reached dist v → get_or via v 0 < length tails
  pub way : (v : ℕ) → 0 < get_or dist v 0 → reached dist v
      → (Enters tails heads dist (get_or via v 0) v × (get_or x (get_or via v 0) 0 < 65535)) ⊎ (Enters heads tails dist (get_or via v 0) v × (0 < get_or x (get_or via v 0) 0))

-- one step of the walk, along arc a to v or back: what it makes of the flow, and the node that it comes to
pub record Up (tails heads x : List ℕ) (a v : ℕ) (x' : List ℕ) (u : ℕ) : Type 0 where
  pub at : get_or heads a 0 ≡ v
  pub flow : x' ≡ set x a (get_or x a 0 + 1)
  pub next : u ≡ get_or tails a 0

pub record Down (tails heads x : List ℕ) (a v : ℕ) (x' : List ℕ) (u : ℕ) : Type 0 where
  pub off : get_or heads a 0 ≡ v → ⊥
  pub flow : x' ≡ set x a (get_or x a 0 - 1)
  pub next : u ≡ get_or heads a 0

-- an arc that the walk has changed, on the way from a node with a mark above low
pub record Changed (tails heads dist via x x' : List ℕ) (low a : ℕ) : Type 0 where
  pub node : ℕ
  pub noted : get_or via node 0 ≡ a
  pub above : low < get_or dist node 0
  pub in_tree : reached dist node
  pub way : (Enters tails heads dist a node × (get_or x' a 0 ≡ get_or x a 0 + 1)) ⊎ (Enters heads tails dist a node × (get_or x a 0 ≡ get_or x' a 0 + 1))

-- a unit more to each end of what x' has of the walk from v to the target
abbrev pub Balanced : List ℕ → List ℕ → List ℕ → List ℕ → ℕ → ℕ → Type 0
Balanced tails heads x x' target v = (u : ℕ) → units_at tails x' u + units_at heads x u + when (eqb target u) 1 ≡ units_at tails x u + units_at heads x' u + when (eqb v u) 1

-- the walk from the target down to v has made x' of x
pub record Walked (tails heads dist via x : List ℕ) (target : ℕ) (x' : List ℕ) (v : ℕ) : Type 0 where
  pub long : length x' ≡ length x
  pub node : v < length dist
  pub in_tree : reached dist v
  pub arcs : (a : ℕ) → (get_or x' a 0 ≡ get_or x a 0) ⊎ Changed tails heads dist via x x' (get_or dist v 0) a
  pub balanced : Balanced tails heads x x' target v

-- what a push along the tree of a search has made of an arc
pub record Moved (r : Residual) (from : ℕ) (x' : List ℕ) (a : ℕ) : Type 0 where
  pub late : from ≤ a
  pub even : tight r a
  pub by_one : (get_or x' a 0 ≡ get_or r.x a 0 + 1) ⊎ (get_or r.x a 0 ≡ get_or x' a 0 + 1)
  pub above : get_or r.lowers a 0 ≤ get_or r.x a 0 → get_or r.lowers a 0 ≤ get_or x' a 0
  pub below : get_or r.x a 0 ≤ get_or r.uppers a 0 → get_or x' a 0 ≤ get_or r.uppers a 0

pub record Pushed (r : Residual) (from : ℕ) (dist : List ℕ) (target : ℕ) (x' : List ℕ) (source : ℕ) : Type 0 where
  pub long : length x' ≡ length r.x
  pub node : source < length dist
  pub source_mark : get_or dist source 0 ≡ 0
  pub arcs : (a : ℕ) → (get_or x' a 0 ≡ get_or r.x a 0) ⊎ Moved r from x' a
  pub balanced : Balanced r.tails r.heads r.x x' target source

-- the same arcs under other potentials, or with another flow
abbrev pub repriced : Residual → List ℕ → Residual
repriced r pot = residual r.tails r.heads r.lowers r.uppers r.costs r.x pot

abbrev pub reflowed : Residual → List ℕ → Residual
reflowed r x = residual r.tails r.heads r.lowers r.uppers r.costs x r.pot
