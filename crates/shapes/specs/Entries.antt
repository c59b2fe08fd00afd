-- The network's arcs and nodes from what a held plate has: the posts, the darts, the strip ends, each dart's face, each face's size.
use Rattle.std.specs.Prelude.{◌≡◌, Bool, List, ℕ, ◌+◌, ◌-◌, ◌*◌, ◌<◌, eqb, ltb, length, get_or}
use Rattle.embedding.specs.Plates.{pick, twin}
use Rattle.embedding.specs.declared.Plate.{Plate as Held}
use Rattle.residual.specs.declared.arcs.Arc.{Arc}
use Rattle.flow.specs.declared.nodes.Node.{Node}
use Rattle.shapes.specs.Rates.{Rates}
use Rattle.shapes.specs.NetworkOf.{bend_most, bend_cost}
pub use Rattle.residual.specs.Arcs.{no_arc}

-- the node of the face of dart d
abbrev pub node_at : ℕ → List ℕ → ℕ → ℕ
node_at posts face d = posts + get_or face d 0

-- the post where dart d ends, and whether it has exactly two strip ends
abbrev pub post_at : List ℕ → ℕ → ℕ
post_at ends d = get_or ends (twin d) 0

abbrev pub joint_at : List ℕ → List ℕ → ℕ → Bool
joint_at ends degrees d = eqb (get_or degrees (post_at ends d) 0) 2

-- the most units on the first and on the second arc of a corner
abbrev pub corner_most : Bool → Bool → ℕ
corner_most joint first = pick first (pick joint 2 4) (pick joint 1 0)

-- the outer face's node
abbrev pub outer_node : Held → ℕ
outer_node q = node_at q.posts q.face q.outer

-- what node v supplies and demands; `outer` is the outer face's node
abbrev pub supply_at : ℕ → ℕ → ℕ
supply_at outer v = pick (eqb v outer) 0 4

abbrev pub demand_at : ℕ → List ℕ → ℕ → ℕ → ℕ
demand_at posts sizes outer v = pick (ltb v posts) 0 (2 * get_or sizes (v - posts) 0 + pick (eqb v outer) 4 0)

-- the arc of dart d, from its face to its twin's
abbrev pub bend_arc : Held → Rates → ℕ → Arc
bend_arc q r d = record { tail = node_at q.posts q.face d; head = node_at q.posts q.face (twin d); lower = 0; upper = bend_most r.limits d; cost = bend_cost r.prices d }

-- the first or the second arc of its corner, from the post to the dart's face
abbrev pub corner_arc : Held → Bool → ℕ → Arc
corner_arc q first d = record { tail = post_at q.ends d; head = node_at q.posts q.face d; lower = pick first 1 0; upper = corner_most (joint_at q.ends q.degrees d) first; cost = pick first 0 65536 }

-- node v
abbrev pub node : Held → ℕ → Node
node q v = record { supply = supply_at (outer_node q) v; demand = demand_at q.posts q.sizes (outer_node q) v }

-- what stands for a node that is not there
abbrev pub no_node : Node
no_node = record { supply = 0; demand = 0 }

-- a list of n elements, those below k given by f
pub record Begun {A : Type 0} (none : A) (n : ℕ) (f : ℕ → A) (k : ℕ) (xs : List A) : Type 0 where
  pub size : length xs ≡ n
  pub below : (i : ℕ) → i < k → get_or xs i none ≡ f i

-- a list of the arcs of m darts: the darts' arcs as in ys, the two of each corner below k given by g and h
pub record CornersLaid (m : ℕ) (g h : ℕ → Arc) (k : ℕ) (ys xs : List Arc) : Type 0 where
  pub size : length xs ≡ length ys
  pub bend : (d : ℕ) → d < m → get_or xs d no_arc ≡ get_or ys d no_arc
  pub first : (d : ℕ) → d < k → get_or xs (m + d + d) no_arc ≡ g d
  pub second : (d : ℕ) → d < k → get_or xs (m + d + d + 1) no_arc ≡ h d

-- a list as long as the arcs of a held plate, and one as long as its nodes
abbrev pub ByArc : {A : Type 0} → Held → List A → Type 0
ByArc q xs = length xs ≡ q.darts + (q.darts + q.darts)

abbrev pub ByNode : {A : Type 0} → Held → List A → Type 0
ByNode q xs = length xs ≡ q.posts + q.faces
