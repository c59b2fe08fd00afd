-- A search by a queue: a node that is reached goes behind the queue; an arc that leads to no new node never does later;
-- when the queue is empty, no arc leads further.
use mathlib.Core.Path.{◌≡◌, refl, sym, ap, ◌∙◌, subst}
use Rattle.std.proofs.Common.{None, Some}
use mathlib.Core.Logic.{⊎_elim}
use mathlib.Core.List.{List}
use Prim.Native.Nat.{ℕ, ◌+◌, ◌-◌, ◌≤◌, ◌<◌}
use native.Mathlib.Nat.{le_refl}
use native.Mathlib.Decide.{ℕ_discrete, dec_lt}
use native.Mathlib.Omega.{arith}
use borrow.Author.Count.{below_more}
use lib.ListN.{length, get_or, set, length-set}
use lib.Seq.{get_or-set_same, get_or-set_other}
use Rattle.residual.specs.Residual.{Residual, Within, Shaped, Opens, Fresh, Rooted, Searched, tail_of, head_of, reached}
use Rattle.residual.specs.Chains.{Movable, Chain, Lined}
use Rattle.residual.specs.Searches.{Spent, SpentAt, Done, Standing, Underway, Grown, Further, Sought}
use Rattle.residual.proofs.Passes.{kept, mark_left, unreached_set, ranked_reach, fresh_ranked}
use Rattle.residual.proofs.Chaining.{Downward, down_start, down_less, down_next, lined_more}

-- ---- arcs that lead to no new node

pub spent_kept : {r : Residual} {dist dist' : List ℕ} {u a : ℕ} → ((v : ℕ) → reached dist v → reached dist' v) → Spent r dist u a → Spent r dist' u a
spent_kept {r = r} {a = a} k s = record { up = λ e t c. k (head_of r a) (s.up e t c); down = λ e t c. k (tail_of r a) (s.down e t c) }

-- an arc that can not move leads nowhere
spent_fixed : {r : Residual} {dist : List ℕ} {u a : ℕ} → Within r → a < length r.tails → (Movable r.lowers r.uppers a → ⊥) → Spent r dist u a
spent_fixed {a = a} w arc n = record {
  up = λ e t c. absurd (n (omega (arith, w.above a arc)));
  down = λ e t c. absurd (n (omega (arith, w.below a arc)));
}

-- ---- more nodes reached

grown_none : (count : ℕ) (dist queue : List ℕ) → Grown count dist queue count dist queue
grown_none count dist queue = record { more = le_refl count; long = refl; kept = λ v h. refl; adds_none = λ v e. e; front = λ i h. refl }

module _ {count₀ : ℕ} {dist₀ queue₀ : List ℕ} {count : ℕ} {dist queue : List ℕ} (g : Grown count₀ dist₀ queue₀ count dist queue) where
  pub grown_reached : (v : ℕ) → reached dist₀ v → reached dist v
  grown_reached v h = omega (arith, g.kept v h)

  pub grown_join : {count' : ℕ} {dist' queue' : List ℕ} → Grown count dist queue count' dist' queue' → Grown count₀ dist₀ queue₀ count' dist' queue'
  grown_join h = record {
    more = omega (arith, g.more, h.more);
    long = h.long ∙ g.long;
    kept = λ v in'. h.kept v (grown_reached v in') ∙ g.kept v in';
    adds_none = λ v e. g.adds_none v (h.adds_none v e);
    front = λ i l. h.front i (omega (arith, g.more)) ∙ g.front i l;
  }

-- arc a reaches the new node v, which goes behind the queue
module _ {r : Residual} {from a v count : ℕ} {dist via queue : List ℕ} (late : from ≤ a) (arc : a < length r.tails) (o : Opens r dist a v) (w : Underway r from count dist via queue) where
  pub reach_mark : count < 255
  reach_mark = mark_left dist v count o.node o.new w.ranked.room

  pub reach_place : count < length queue
  reach_place = omega (arith, unreached_set dist v 0 o.node o.new (omega arith), w.lined.count_is, w.queue_long)

  reach_underway : Underway r from (count + 1) (set dist v count) (set via v a) (set queue count v)
  reach_underway = record {
    ranked = ranked_reach r from a count v dist via late arc o (omega (arith, w.via_long, o.node)) w.ranked;
    lined = lined_more dist queue count v count w.lined o.node o.new reach_mark reach_place;
    via_long = length-set via v a ∙ w.via_long ∙ sym (length-set dist v count);
    queue_long = length-set queue count v ∙ w.queue_long ∙ sym (length-set dist v count);
  }

  marked : get_or (set dist v count) v 0 ≡ count
  marked = get_or-set_same dist v count 0 o.node

  reach_grown : Grown count dist queue (count + 1) (set dist v count) (set queue count v)
  reach_grown = record {
    more = omega arith;
    long = length-set dist v count;
    kept = kept dist v count o.new;
    adds_none = λ u e. elim (ℕ_discrete u v) [
      | yes h ↦ absurd (omega (arith, w.ranked.first, marked, ap (λ (z : ℕ). get_or (set dist v count) z 0) h))
      | no n ↦ sym (get_or-set_other dist v u count 0 n) ∙ e
    ];
    front = λ i l. get_or-set_other queue count i v 0 (λ e. absurd (omega arith));
  }

  -- both of its ends are reached then
  reach_spent : (u : ℕ) → Spent r (set dist v count) u a
  reach_spent u = record { up = λ e t c. there; down = λ e t c. here }
    where
      at : (z : ℕ) → z ≡ v → reached (set dist v count) z
      at z e = omega (arith, ap (λ (y : ℕ). get_or (set dist v count) y 0) e, marked, reach_mark)

      old : (z : ℕ) → reached dist z → reached (set dist v count) z
      old z h = omega (arith, kept dist v count o.new z h)

      there : reached (set dist v count) (head_of r a)
      there = ⊎_elim (λ y. at (head_of r a) y.0) (λ y. old (head_of r a) y.2) o.way

      here : reached (set dist v count) (tail_of r a)
      here = ⊎_elim (λ y. old (tail_of r a) y.2) (λ y. at (tail_of r a) y.0) o.way

-- ---- the arcs at node u, from the last down

-- those from `at` on lead to no new node
pub record Fan (r : Residual) (from : ℕ) (ends : List ℕ) (u count₀ : ℕ) (dist₀ queue₀ : List ℕ) (at count : ℕ) (dist via queue : List ℕ) : Type 0 where
  pub further : Further r from count₀ dist₀ queue₀ count dist via queue
  pub down : Downward ends r.lowers r.uppers u at (λ a. from ≤ a → Spent r dist u a)

module _ {r : Residual} {from : ℕ} {ends : List ℕ} {nodes u : ℕ} {last before : List ℕ} (chain : Chain ends r.lowers r.uppers nodes last before) (long : length ends ≡ length r.tails) (node : u < nodes) where
  pub fan_start : {count : ℕ} {dist via queue : List ℕ} → Underway r from count dist via queue → Fan r from ends u count dist queue (get_or last u 0) count dist via queue
  fan_start {count = count} {dist = dist} {queue = queue} w =
      record { further = record { underway = w; grown = grown_none count dist queue }; down = down_start chain node (λ a. from ≤ a → Spent r dist u a) }

  module _ {count₀ : ℕ} {dist₀ queue₀ : List ℕ} {at count : ℕ} {dist via queue : List ℕ} (f : Fan r from ends u count₀ dist₀ queue₀ at count dist via queue) (some : from < at) where
    abbrev a : ℕ
    a = at - 1

    pub fan_arc : a < length r.tails
    fan_arc = omega (arith, f.down.below)

    pub fan_less : get_or before a 0 < at
    fan_less = down_less chain node f.down (omega arith)

    pub fan_over : Spent r dist u a → Fan r from ends u count₀ dist₀ queue₀ (get_or before a 0) count dist via queue
    fan_over s = record { further = f.further; down = down_next chain node f.down (omega arith) (λ a. from ≤ a → Spent r dist u a) (λ b h. h) (λ late. s) }

    module _ {v : ℕ} (o : Opens r dist a v) where
      pub fan_further : Further r from count₀ dist₀ queue₀ (count + 1) (set dist v count) (set via v a) (set queue count v)
      fan_further = record {
        underway = reach_underway (omega arith) fan_arc o f.further.underway;
        grown = grown_join f.further.grown
            (reach_grown (omega arith) fan_arc o f.further.underway);
      }

      pub fan_reach : Fan r from ends u count₀ dist₀ queue₀ (get_or before a 0) (count + 1) (set dist v count) (set via v a) (set queue count v)
      fan_reach = record {
        further = fan_further;
        down = down_next chain node f.down (omega arith) (λ a. from ≤ a → Spent r (set dist v count) u a)
            (λ b h late. spent_kept (grown_reached (reach_grown (omega arith) fan_arc o f.further.underway)) (h late))
            (λ late. reach_spent (omega arith) fan_arc o f.further.underway u);
      }

  pub fan_done : {count₀ : ℕ} {dist₀ queue₀ : List ℕ} {at count : ℕ} {dist via queue : List ℕ} → Within r → Fan r from ends u count₀ dist₀ queue₀ at count dist via queue → at ≤ from → SpentAt r from ends dist u
  fan_done within f h a late arc e = elim (dec_lt (get_or r.lowers a 0) (get_or r.uppers a 0)) [
    | yes m ↦ f.down.done a (omega arith) (omega arith) e m late
    | no n ↦ spent_fixed within arc n
  ]

-- the node that the queue got last is the one that was reached last
pub newest : (queue : List ℕ) (count v : ℕ) → count < length queue → get_or (set queue count v) (count + 1 - 1) 0 ≡ v
newest queue count v h = rw (native_less count) (get_or-set_same queue count v 0 h)
  where
    native_less : (n : ℕ) → n + 1 - 1 ≡ n
    native_less n = omega arith

-- ---- the arcs out of u, then those into it

module _ {r : Residual} {from count₀ : ℕ} {dist₀ queue₀ : List ℕ} {count : ℕ} {dist via queue : List ℕ} (f : Further r from count₀ dist₀ queue₀ count dist via queue) where
  -- the node that stands last in the queue
  pub newest_node : Standing dist (get_or queue (count - 1) 0)
  newest_node = let (node, marked) = f.underway.lined.nodes (count - 1) (omega (arith, f.underway.ranked.first)) in record { node = node; marked = marked }

  pub standing_on : {u : ℕ} → Standing dist₀ u → Standing dist u
  standing_on {u = u} s = record { node = omega (arith, s.node, f.grown.long); marked = grown_reached f.grown u s.marked }

  module _ {count' : ℕ} {dist' via' queue' : List ℕ} (g : Further r from count dist queue count' dist' via' queue') where
    pub further_join : Further r from count₀ dist₀ queue₀ count' dist' via' queue'
    further_join = record { underway = g.underway; grown = grown_join f.grown g.grown }

    pub done_both : {u : ℕ} → SpentAt r from r.tails dist u → SpentAt r from r.heads dist' u → Done r from dist' u
    done_both out in' a late arc = record { up = λ e. (spent_kept {dist' = dist'} (grown_reached g.grown) (out a late arc e)).up e; down = λ e. (in' a late arc e).down e }

-- ---- the queue, node by node

-- the nodes before place `next` are not wanted, and lead to no new node
pub record Going (r : Residual) (from : ℕ) (start wanted : List ℕ) (next count : ℕ) (dist via queue : List ℕ) : Type 0 where
  pub underway : Underway r from count dist via queue
  pub long : length dist ≡ length start
  pub keeps : (v : ℕ) → get_or start v 0 ≡ 0 → get_or dist v 0 ≡ 0
  pub adds_none : (v : ℕ) → get_or dist v 0 ≡ 0 → get_or start v 0 ≡ 0
  pub past : next ≤ count
  pub done : (i : ℕ) → i < next → Done r from dist (get_or queue i 0)
  pub clear : (i : ℕ) → i < next → get_or wanted (get_or queue i 0) 0 ≡ 0

-- the sources, before the first step
pub going_start : (r : Residual) (from : ℕ) {dist : List ℕ} (wanted via : List ℕ) {count : ℕ} {queue : List ℕ} → Fresh dist → Lined dist count queue → length via ≡ length dist → length queue ≡ length dist → Going r from dist wanted 0 count dist via queue
going_start r from {dist = dist} wanted via f l v q =
    let k = fresh_ranked r from dist via f in
    record {
      underway = record {
        ranked = record {
          tree = k.tree;
          below = λ u h. omega (arith, k.below u h, f.some, l.count_is);
          room = omega (arith, l.count_is, f.few);
          first = omega (arith, f.some, l.count_is);
        };
        lined = l;
        via_long = v;
        queue_long = q;
      };
      long = refl;
      keeps = λ u e. e;
      adds_none = λ u e. e;
      past = omega arith;
      done = λ i h. absurd (omega arith);
      clear = λ i h. absurd (omega arith);
    }

module _ {r : Residual} {from : ℕ} {start wanted : List ℕ} {next count : ℕ} {dist via queue : List ℕ} (g : Going r from start wanted next count dist via queue) where
  pub going_node : (i : ℕ) → i < count → Standing dist (get_or queue i 0)
  going_node i h = let (node, marked) = g.underway.lined.nodes i h in record { node = node; marked = marked }

  pub going_rooted : Rooted r from start dist via
  going_rooted = record { long = g.long; via_long = g.underway.via_long ∙ g.long; keeps = g.keeps; adds_none = g.adds_none; tree = g.underway.ranked.tree }

  -- a wanted node stands in the queue
  pub going_found : (v i : ℕ) → v ≡ get_or queue i 0 → i < count → 0 < get_or wanted v 0 → Sought r from start wanted dist via (Some v)
  going_found v i e l h =
      let n = going_node i l in
      record {
        rooted = going_rooted;
        some = record { node = subst (λ (z : ℕ). z < length dist) (sym e) n.node; marked = subst (reached dist) (sym e) n.marked; some = h };
        closed = tt;
        none = tt;
      }

  -- the queue is empty
  pub going_over : Shaped r (length dist) → count ≤ next → Sought r from start wanted dist via None
  going_over s h = record {
    rooted = going_rooted;
    some = tt;
    closed = λ a late arc. record {
      up = λ t near room. let (i, l, e) = g.underway.lined.places (tail_of r a) (s.tails_in a arc) near in (g.done i (omega arith) a late arc).up (sym e) t room;
      down = λ t near room. let (i, l, e) = g.underway.lined.places (head_of r a) (s.heads_in a arc) near in (g.done i (omega arith) a late arc).down (sym e) t room;
    };
    none = λ u node in'. let (i, l, e) = g.underway.lined.places u node in' in subst (λ (z : ℕ). get_or wanted z 0 ≡ 0) e (g.clear i (omega arith));
  }

  module _ {count' : ℕ} {dist' via' queue' : List ℕ} (f : Further r from count dist queue count' dist' via' queue') where
    in_front : (i : ℕ) → i < next → get_or queue i 0 ≡ get_or queue' i 0
    in_front i l = sym (f.grown.front i (omega (arith, g.past)))

    -- the search went on
    pub going_on : Going r from start wanted next count' dist' via' queue'
    going_on = record {
      underway = f.underway;
      long = f.grown.long ∙ g.long;
      keeps = λ v e. f.grown.kept v (omega (arith, g.keeps v e)) ∙ g.keeps v e;
      adds_none = λ v e. g.adds_none v (f.grown.adds_none v e);
      past = omega (arith, g.past, f.grown.more);
      done = λ i l. subst (Done r from dist') (in_front i l)
          (λ a late arc. spent_kept (grown_reached f.grown) (g.done i l a late arc));
      clear = λ i l. subst (λ (z : ℕ). get_or wanted z 0 ≡ 0) (in_front i l) (g.clear i l);
    }

    -- the next node is not wanted, and leads to no new node
    pub going_next : next < count → get_or wanted (get_or queue next 0) 0 ≡ 0 → Done r from dist' (get_or queue next 0) → Going r from start wanted (next + 1) count' dist' via' queue'
    going_next l none d =
        let e : get_or queue next 0 ≡ get_or queue' next 0 = sym (f.grown.front next l) in
        record {
          underway = f.underway;
          long = going_on.long;
          keeps = going_on.keeps;
          adds_none = going_on.adds_none;
          past = omega (arith, f.grown.more);
          done = below_more (λ (i : ℕ). Done r from dist' (get_or queue' i 0)) next going_on.done (subst (Done r from dist') e d);
          clear = below_more (λ (i : ℕ). get_or wanted (get_or queue' i 0) 0 ≡ 0) next going_on.clear (subst (λ (z : ℕ). get_or wanted z 0 ≡ 0) e none);
        }

-- a search that reaches no wanted node is whole
pub searched_whole : {r : Residual} {from : ℕ} {start wanted dist via : List ℕ} → Sought r from start wanted dist via None → Searched r from start dist via
searched_whole s = record { rooted = s.rooted; closed = s.closed }
