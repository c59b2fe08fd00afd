-- Linking the arcs at each node one arc at a time, and lining up the reached nodes in a queue.
use mathlib.Core.Path.{◌≡◌, refl, sym, ap, ◌∙◌, subst}
use mathlib.Core.Logic.{⊎_elim}
use mathlib.Core.Bool.{Bool}
use mathlib.Core.List.{List, [], ◌∷◌}
use Prim.Native.Nat.{ℕ, ◌+◌, ◌-◌, ◌≤◌, ◌<◌}
use native.Mathlib.Decide.{ℕ_discrete}
use native.Mathlib.Omega.{arith}
use borrow.Author.Tests.{le-leb, lt-leb}
use borrow.Author.Count.{below_more}
use lib.Dec.{leb}
use lib.ListN.{length, get_or, set, length-set}
use lib.Seq.{get_or-set_same, get_or-set_other}
use Rattle.finite.proofs.Order.{Order, less, same, more, order}
use Rattle.finite.proofs.Sums.{sum_below, sum_more}
use Rattle.finite.specs.Base.{when}
use Rattle.residual.specs.Residual.{Fresh, reached, unreached}
use Rattle.residual.specs.declared.arcs.Arc.{Arc}
use Rattle.residual.specs.Arcs.{lowers_of, uppers_of, ends_of, fars_of}
use Rattle.residual.specs.Chains.{Movable, Last, Chain, Chaining, Linking, Linked, Lined}
use Rattle.residual.proofs.ArcLists.{tops_less, ends_long, fars_long}
use Rattle.residual.proofs.Fills.{filled_more}
use Rattle.std.proofs.lemmas.List.{ext_get_or}
use Rattle.residual.specs.Marks.{Zeros}
use Rattle.residual.proofs.Passes.{unreached_set}

-- ---- the arcs at each node

-- no arc is below 0
last_none : (ends lowers uppers : List ℕ) (v : ℕ) → Last ends lowers uppers v 0 0
last_none ends lowers uppers v = record { below = omega arith; here = λ h. absurd (omega arith); later = λ b h e m. absurd (omega arith) }

-- the next arc is the last one of the node that it has
last_here : (ends lowers uppers : List ℕ) (v k : ℕ) → get_or ends k 0 ≡ v → Last ends lowers uppers v (k + 1) (k + 1)
last_here ends lowers uppers v k e =
    let last : k + 1 - 1 ≡ k = omega arith in
    record { below = omega arith; here = λ h. ap (λ (b : ℕ). get_or ends b 0) last ∙ e; later = λ b h d m. h }

-- one that does not move, or is at another node, leaves it
last_past : (ends lowers uppers : List ℕ) (v k at : ℕ) → (get_or ends k 0 ≡ v → Movable lowers uppers k → ⊥) → Last ends lowers uppers v k at → Last ends lowers uppers v (k + 1) at
last_past ends lowers uppers v k at n l = record {
  below = omega (arith, l.below);
  here = l.here;
  later = λ b h. below_more (λ (b : ℕ). get_or ends b 0 ≡ v → Movable lowers uppers b → b < at) k l.later (λ e m. absurd (n e m)) b h;
}

pub chaining_start : (ends lowers uppers last before : List ℕ) (nodes : ℕ) → Zeros nodes last → length before ≡ length ends → Chaining ends lowers uppers (length last) 0 last before
chaining_start ends lowers uppers last before nodes z l = record {
  last_long = refl;
  before_long = l;
  last_at = λ v h. rw (z.zero_at v) (last_none ends lowers uppers v);
  before_at = λ a h. absurd (omega arith);
}

module _ {ends lowers uppers last before : List ℕ} {nodes k : ℕ} (c : Chaining ends lowers uppers nodes k last before) where
  -- what `Last` is at k + 1, for the node v of arc k and for the others
  last_more : (v : ℕ) → v ≡ get_or ends k 0 → v < nodes → (u : ℕ) → u < nodes → Last ends lowers uppers u (k + 1) (get_or (set last v (k + 1)) u 0)
  last_more v e l u h = elim (ℕ_discrete u v) [
    | yes q ↦ rw (q, get_or-set_same last v (k + 1) 0 (omega (arith, c.last_long))) (last_here ends lowers uppers v k (sym e))
    | no d ↦ rw (get_or-set_other last v u (k + 1) 0 d) (last_past ends lowers uppers u k (get_or last u 0) (λ q m. d (sym q ∙ sym e)) (c.last_at u h))
  ]

  before_more : (v : ℕ) → v ≡ get_or ends k 0 → v < nodes → k < length ends → (a : ℕ) → a < k + 1 → Last ends lowers uppers (get_or ends a 0) a (get_or (set before k (get_or last v 0)) a 0)
  before_more v e l h =
      below_more (λ (a : ℕ). Last ends lowers uppers (get_or ends a 0) a (get_or (set before k (get_or last v 0)) a 0)) k
      (λ a g. rw (get_or-set_other before k a (get_or last v 0) 0 (λ (q : a ≡ k). absurd (omega arith))) (c.before_at a g))
      (rw (get_or-set_same before k (get_or last v 0) 0 (omega (arith, c.before_long)), ← e) (c.last_at v l))

  pub chaining_more : (v : ℕ) → v ≡ get_or ends k 0 → v < nodes → k < length ends → Chaining ends lowers uppers nodes (k + 1) (set last v (k + 1)) (set before k (get_or last v 0))
  chaining_more v e l h = record {
    last_long = length-set last v (k + 1) ∙ c.last_long;
    before_long = length-set before k (get_or last v 0) ∙ c.before_long;
    last_at = last_more v e l;
    before_at = before_more v e l h;
  }

  -- arc k can not move
  pub chaining_fixed : (v : ℕ) → v ≡ get_or ends k 0 → v < nodes → k < length ends → (Movable lowers uppers k → ⊥) → Chaining ends lowers uppers nodes (k + 1) last (set before k (get_or last v 0))
  chaining_fixed v e l h n = record {
    last_long = c.last_long;
    before_long = length-set before k (get_or last v 0) ∙ c.before_long;
    last_at = λ u g. last_past ends lowers uppers u k (get_or last u 0) (λ q. n) (c.last_at u g);
    before_at = before_more v e l h;
  }

  pub chaining_done : k ≡ length ends → (n : ℕ) → nodes ≡ n → Chain ends lowers uppers n last before
  chaining_done e n all = record {
    last_long = c.last_long ∙ all;
    before_long = c.before_long;
    last_at = λ v h. rw (← e) (c.last_at v (omega (arith, all)));
    before_at = λ a h. c.before_at a (omega (arith, e));
  }

-- where fewer arcs can move, they are linked too
pub chain_fewer : {ends lowers uppers tops : List ℕ} {n : ℕ} {last before : List ℕ}
    → ((a : ℕ) → Movable lowers tops a → Movable lowers uppers a) → Chain ends lowers uppers n last before → Chain ends lowers tops n last before
chain_fewer {ends} {lowers} {uppers} {tops} fewer c = record {
  last_long = c.last_long;
  before_long = c.before_long;
  last_at = λ v h. last_fewer (c.last_at v h);
  before_at = λ a h. last_fewer (c.before_at a h);
}
  where
    last_fewer : {v k at : ℕ} → Last ends lowers uppers v k at → Last ends lowers tops v k at
    last_fewer l = record { below = l.below; here = l.here; later = λ b h e m. l.later b h e (fewer b m) }

-- ---- the links of arcs as the code holds them

pub linking_start : {on : Bool} {arcs : List Arc} {last before far : List ℕ} → Zeros (length last) last → length before ≡ length arcs → length far ≡ length arcs → Linking on arcs (length last) 0 last before far
linking_start {on} {arcs} {last} {before} z b f = record {
  chaining = chaining_start _ _ _ last before (length last) z (b ∙ sym (ends_long on arcs));
  far_long = f;
  far_at = λ a h. absurd (omega arith);
}

module _ {on : Bool} {arcs : List Arc} {nodes k : ℕ} {last before far : List ℕ} (l : Linking on arcs nodes k last before far) where
  module _ {v w : ℕ} (near : v ≡ get_or (ends_of on arcs) k 0) (to : w ≡ get_or (fars_of on arcs) k 0) (node : v < nodes) (arc : k < length arcs) where
    here : k < length (ends_of on arcs)
    here = omega (arith, arc, ends_long on arcs)

    linking_by : {last' : List ℕ} → Chaining (ends_of on arcs) (lowers_of arcs) (uppers_of arcs) nodes (k + 1) last' (set before k (get_or last v 0)) → Linking on arcs nodes (k + 1) last' (set before k (get_or last v 0)) (set far k w)
    linking_by c = record {
      chaining = c;
      far_long = length-set far k w ∙ l.far_long;
      far_at = filled_more (λ a. get_or (fars_of on arcs) a 0) far k w (omega (arith, arc, l.far_long)) l.far_at to;
    }

    pub linking_more : Linking on arcs nodes (k + 1) (set last v (k + 1)) (set before k (get_or last v 0)) (set far k w)
    linking_more = linking_by (chaining_more l.chaining v near node here)

    -- arc k can not move
    pub linking_fixed : (Movable (lowers_of arcs) (uppers_of arcs) k → ⊥) → Linking on arcs nodes (k + 1) last (set before k (get_or last v 0)) (set far k w)
    linking_fixed n = linking_by (chaining_fixed l.chaining v near node here n)

  pub linking_done : k ≡ length arcs → {n : ℕ} → nodes ≡ n → Linked on arcs n last before far
  linking_done e {n} all = record {
    chain = λ most. chain_fewer (λ a m. omega (arith, m, tops_less most arcs a)) (chaining_done l.chaining (omega (arith, e, ends_long on arcs)) n all);
    far_is = ext_get_or 0 far (fars_of on arcs) (omega (arith, l.far_long, fars_long on arcs)) (λ i h. l.far_at i (omega (arith, h, e, l.far_long)));
  }

-- ---- the arcs at one node, from the last down

-- the arcs at u that can move, from `at` on, are so; below `at` the next is at - 1
pub record Downward (ends lowers uppers : List ℕ) (u at : ℕ) (So : ℕ → Type 0) : Type 0 where
  pub below : at ≤ length ends
  pub here : 0 < at → get_or ends (at - 1) 0 ≡ u
  pub done : (a : ℕ) → a < length ends → at ≤ a → get_or ends a 0 ≡ u → Movable lowers uppers a → So a

module _ {ends lowers uppers last before : List ℕ} {nodes u : ℕ} (chain : Chain ends lowers uppers nodes last before) (node : u < nodes) where
  pub down_start : (So : ℕ → Type 0) → Downward ends lowers uppers u (get_or last u 0) So
  down_start So =
      let l = chain.last_at u node in
      record { below = l.below; here = l.here; done = λ a h g e m. absurd (omega (arith, l.later a h e m)) }

  module _ {at : ℕ} {So : ℕ → Type 0} (d : Downward ends lowers uppers u at So) (some : 0 < at) where
    down_arc : at - 1 < length ends
    down_arc = omega (arith, d.below)

    pub down_less : get_or before (at - 1) 0 < at
    down_less = omega (arith, (chain.before_at (at - 1) down_arc).below)

    -- the arc before at - 1 at u is the next
    pub down_next : (Such : ℕ → Type 0) → ((a : ℕ) → So a → Such a) → Such (at - 1) → Downward ends lowers uppers u (get_or before (at - 1) 0) Such
    down_next Such keeps here =
        let l = chain.before_at (at - 1) down_arc in
        record { below = omega (arith, down_less, d.below); here = λ h. l.here h ∙ d.here some; done = λ b h g e m. go b h g e m (order b (at - 1)) }
      where
        go : (b : ℕ) → b < length ends → get_or before (at - 1) 0 ≤ b → get_or ends b 0 ≡ u → Movable lowers uppers b → Order b (at - 1) → Such b
        go b h g e m (less k) = absurd (omega (arith, (chain.before_at (at - 1) down_arc).later b k (e ∙ sym (d.here some)) m))
        go b h g e m (same q) = subst Such (sym q) here
        go b h g e m (more k) = keeps b (d.done b h (omega arith) e m)

-- ---- the queue

-- the nodes not reached, as a sum over all
unreached_sum : (d : List ℕ) → unreached d ≡ sum_below (length d) (λ i. when (leb 255 (get_or d i 0)) 1)
unreached_sum [] = refl
unreached_sum (m ∷ d) = omega (arith, unreached_sum d)

-- v put behind the first places, which hold those with P: then they hold those with Q, which are v and those with P
module _ (P Q : ℕ → Type 0) (count v : ℕ) (queue : List ℕ) (fits : count < length queue) where
  nodes_more : ((u : ℕ) → P u → Q u) → Q v → ((i : ℕ) → i < count → P (get_or queue i 0)) → (i : ℕ) → i < count + 1 → Q (get_or (set queue count v) i 0)
  nodes_more keeps new all =
      below_more (λ (i : ℕ). Q (get_or (set queue count v) i 0)) count
      (λ i h. rw (get_or-set_other queue count i v 0 (λ (e : i ≡ count). absurd (omega arith))) (keeps (get_or queue i 0) (all i h)))
      (rw (get_or-set_same queue count v 0 fits) new)

  places_more : ((u : ℕ) → (u ≡ v → ⊥) → Q u → P u) → ((u : ℕ) → P u → (i : ℕ) × (i < count) × (get_or queue i 0 ≡ u))
      → (u : ℕ) → Q u → (i : ℕ) × (i < count + 1) × (get_or (set queue count v) i 0 ≡ u)
  places_more old all u q = elim (ℕ_discrete u v) [
    | yes e ↦ (count, omega arith, get_or-set_same queue count v 0 fits ∙ sym e)
    | no n ↦ let (i, l, p) = all u (old u n q) in (i, omega (arith, l), get_or-set_other queue count i v 0 (λ (e : i ≡ count). absurd (omega (arith, l))) ∙ p)
  ]

-- a new node that gets a mark stands behind the others
pub lined_more : (dist queue : List ℕ) (count v m : ℕ) → Lined dist count queue → v < length dist → 255 ≤ get_or dist v 0 → m < 255 → count < length queue
    → Lined (set dist v m) (count + 1) (set queue count v)
lined_more dist queue count v m l node new low fits = record {
  count_is = omega (arith, length-set dist v m, unreached_set dist v m node new low, l.count_is);
  nodes = nodes_more (Stands dist) (Stands (set dist v m)) count v queue fits keeps marked l.nodes;
  places = λ u h r. places_more (Stands dist) (Stands (set dist v m)) count v queue fits old (λ w s. l.places w s.0 s.1) u (h, r);
}
  where
    Stands : List ℕ → ℕ → Type 0
    Stands d u = (u < length d) × reached d u

    keeps : (u : ℕ) → Stands dist u → Stands (set dist v m) u
    keeps u s = (omega (arith, length-set dist v m, s.0), omega (arith, s.1, get_or-set_other dist v u m 0 (λ e. absurd (omega (arith, s.1, ap (λ (w : ℕ). get_or dist w 0) e)))))

    marked : Stands (set dist v m) v
    marked = (omega (arith, length-set dist v m), omega (arith, get_or-set_same dist v m 0 node))

    old : (u : ℕ) → (u ≡ v → ⊥) → Stands (set dist v m) u → Stands dist u
    old u n s = (omega (arith, length-set dist v m, s.0), omega (arith, s.1, get_or-set_other dist v u m 0 n))

-- where the marks are 0 and 255, one that is not 0 is 255
pub fresh_new : (dist : List ℕ) (v : ℕ) → Fresh dist → (get_or dist v 0 ≡ 0 → ⊥) → 255 ≤ get_or dist v 0
fresh_new dist v f n = ⊎_elim (λ e. absurd (n e)) (λ e. omega arith) (f.marks v)

-- the queue once the nodes below v are looked at
pub record Lining (dist : List ℕ) (v count : ℕ) (queue : List ℕ) : Type 0 where
  pub long : length queue ≡ length dist
  pub seen : v ≤ length dist
  pub counted : count + sum_below v (λ i. when (leb 255 (get_or dist i 0)) 1) ≡ v
  pub nodes : (i : ℕ) → i < count → (get_or queue i 0 < v) × reached dist (get_or queue i 0)
  pub places : (u : ℕ) → (u < v) × reached dist u → (i : ℕ) × (i < count) × (get_or queue i 0 ≡ u)

pub lining_start : (dist queue : List ℕ) → length queue ≡ length dist → Lining dist 0 0 queue
lining_start dist queue l = record { long = l; seen = omega arith; counted = refl; nodes = λ i h. absurd (omega arith); places = λ u s. absurd (omega (arith, s.0)) }

module _ {dist queue : List ℕ} {v count : ℕ} (l : Lining dist v count queue) where
  pub lining_reach : v < length dist → reached dist v → Lining dist (v + 1) (count + 1) (set queue count v)
  lining_reach node r = record {
    long = length-set queue count v ∙ l.long;
    seen = omega arith;
    counted = omega (arith, sum_more v (λ i. when (leb 255 (get_or dist i 0)) 1), l.counted, none);
    nodes = nodes_more (λ u. (u < v) × reached dist u) (λ u. (u < v + 1) × reached dist u) count v queue fits (λ u s. (omega (arith, s.0), s.1)) (omega arith, r) l.nodes;
    places = places_more (λ u. (u < v) × reached dist u) (λ u. (u < v + 1) × reached dist u) count v queue fits (λ u n s. (omega (arith, s.0, n), s.1)) l.places;
  }
    where
      fits : count < length queue
      fits = omega (arith, l.long, l.counted)

      none : when (leb 255 (get_or dist v 0)) 1 ≡ 0
      none = rw (lt-leb 255 (get_or dist v 0) r) refl

  pub lining_past : v < length dist → 255 ≤ get_or dist v 0 → Lining dist (v + 1) count queue
  lining_past node new = record {
    long = l.long;
    seen = omega arith;
    counted = omega (arith, sum_more v (λ i. when (leb 255 (get_or dist i 0)) 1), l.counted, one);
    nodes = λ i h. (omega (arith, (l.nodes i h).0), (l.nodes i h).1);
    places = λ u s. l.places u (below_more (λ (w : ℕ). reached dist w → w < v) v (λ w h _. h) (λ r. absurd (omega arith)) u s.0 s.1, s.1);
  }
    where
      one : when (leb 255 (get_or dist v 0)) 1 ≡ 1
      one = rw (le-leb 255 (get_or dist v 0) new) refl

  pub lining_done : v ≡ length dist → Lined dist count queue
  lining_done e = record {
    count_is = omega (arith, l.counted, unreached_sum dist, ap (λ (n : ℕ). sum_below n (λ i. when (leb 255 (get_or dist i 0)) 1)) e);
    nodes = λ i h. (omega (arith, e, (l.nodes i h).0), (l.nodes i h).1);
    places = λ u h r. l.places u (omega (arith, e), r);
  }
