-- The arcs at each node that can move, the last one first: for each node its last arc, and for each arc the one before it at the same node.
-- The queue of a search.
use Rattle.std.specs.Prelude.{◌≡◌, Bool, List, ℕ, ◌+◌, ◌-◌, ◌≤◌, ◌<◌, length, get_or}
use Rattle.residual.specs.declared.arcs.Arc.{Arc}
use Rattle.residual.specs.Arcs.{lowers_of, uppers_of, tops_of, ends_of, fars_of}
use Rattle.residual.specs.Residual.{Residual, near_ends, reached, unreached}

-- an arc whose bounds let it move
abbrev pub Movable : List ℕ → List ℕ → ℕ → Type 0
Movable lowers uppers a = get_or lowers a 0 < get_or uppers a 0

-- one more than the last arc below k that can move and whose end here is v, or 0 where there is none
pub record Last (ends lowers uppers : List ℕ) (v k at : ℕ) : Type 0 where
  pub below : at ≤ k
  pub here : 0 < at → get_or ends (at - 1) 0 ≡ v
  pub later : (b : ℕ) → b < k → get_or ends b 0 ≡ v → Movable lowers uppers b → b < at

-- by node its last arc, by arc the one before it at the same node, of those that can move
pub record Chain (ends lowers uppers : List ℕ) (nodes : ℕ) (last before : List ℕ) : Type 0 where
  pub last_long : length last ≡ nodes
  pub before_long : length before ≡ length ends
  pub last_at : (v : ℕ) → v < nodes → Last ends lowers uppers v (length ends) (get_or last v 0)
  pub before_at : (a : ℕ) → a < length ends → Last ends lowers uppers (get_or ends a 0) a (get_or before a 0)

-- those at the ends where steps on, or back, begin
abbrev pub ChainBy : Bool → Residual → ℕ → List ℕ → List ℕ → Type 0
ChainBy on r nodes last before = Chain (near_ends on r) r.lowers r.uppers nodes last before

-- the lists once the arcs below k are linked
pub record Chaining (ends lowers uppers : List ℕ) (nodes k : ℕ) (last before : List ℕ) : Type 0 where
  pub last_long : length last ≡ nodes
  pub before_long : length before ≡ length ends
  pub last_at : (v : ℕ) → v < nodes → Last ends lowers uppers v k (get_or last v 0)
  pub before_at : (a : ℕ) → a < k → Last ends lowers uppers (get_or ends a 0) a (get_or before a 0)

-- the arcs below k are linked where a step on, or back, begins, and where it leads is noted
pub record Linking (on : Bool) (arcs : List Arc) (nodes k : ℕ) (last before far : List ℕ) : Type 0 where
  pub chaining : Chaining (ends_of on arcs) (lowers_of arcs) (uppers_of arcs) nodes k last before
  pub far_long : length far ≡ length arcs
  pub far_at : (a : ℕ) → a < k → get_or far a 0 ≡ get_or (fars_of on arcs) a 0

-- all are, however far they are held
pub record Linked (on : Bool) (arcs : List Arc) (nodes : ℕ) (last before far : List ℕ) : Type 0 where
  pub chain : (most : ℕ) → Chain (ends_of on arcs) (lowers_of arcs) (tops_of most arcs) nodes last before
  pub far_is : far ≡ fars_of on arcs

-- the reached nodes stand in the first `count` places of the queue
pub record Lined (dist : List ℕ) (count : ℕ) (queue : List ℕ) : Type 0 where
  pub count_is : count + unreached dist ≡ length dist
  pub nodes : (i : ℕ) → i < count → (get_or queue i 0 < length dist) × reached dist (get_or queue i 0)
  pub places : (v : ℕ) → v < length dist → reached dist v → (i : ℕ) × (i < count) × (get_or queue i 0 ≡ v)
