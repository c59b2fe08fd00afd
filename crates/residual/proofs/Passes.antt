-- A pass of the search keeps the tree, and marks one node less for each step of its rank.
use mathlib.Core.Path.{◌≡◌, refl, sym, ap, ◌∙◌, subst}
use mathlib.Core.Logic.{inl, inr, ⊎_elim}
use mathlib.Core.List.{List, [], ◌∷◌}
use Prim.Native.Nat.{ℕ, zero, suc, ◌+◌, ◌≤◌, ◌<◌}
use native.Mathlib.Nat.{not-suc-le-zero, le_of_suc-le-suc}
use native.Mathlib.Decide.{ℕ_discrete}
use native.Mathlib.Omega.{arith}
use borrow.Author.Tests.{le-leb, lt-leb}
use borrow.Author.Count.{below_more}
use lib.ListN.{length, get_or, set, length-set}
use lib.Seq.{get_or-set_same, get_or-set_other}
use Rattle.residual.specs.Residual.{Residual, Opens, ShutAt, Link, Enters, Tree, Ranked, Fresh, Searched, tail_of, head_of, unreached, reached}

-- a node that is marked is one less to reach
pub unreached_set : (d : List ℕ) (i m : ℕ) → i < length d → 255 ≤ get_or d i 0 → m < 255 → unreached (set d i m) + 1 ≡ unreached d
unreached_set [] i m h new low = absurd (not-suc-le-zero h)
unreached_set (e ∷ d) zero m h new low = rw (lt-leb 255 m low, le-leb 255 e new) (omega arith)
unreached_set (e ∷ d) (suc i) m h new low = omega (arith, unreached_set d i m (le_of_suc-le-suc h) new low)

-- where a node is new and each such node has a mark left, the next mark is below 255
pub mark_left : (dist : List ℕ) (v rank : ℕ) → v < length dist → 255 ≤ get_or dist v 0 → rank + unreached dist ≤ 255 → rank < 255
mark_left dist v rank node new room = omega (arith, unreached_set dist v 0 node new (omega arith))

-- a mark on a new node leaves the marks of the reached ones
module _ (dist : List ℕ) (v m : ℕ) (new : 255 ≤ get_or dist v 0) where
  pub kept : (u : ℕ) → reached dist u → get_or (set dist v m) u 0 ≡ get_or dist u 0
  kept u h = get_or-set_other dist v u m 0 (λ e. absurd (omega (arith, ap (λ (w : ℕ). get_or dist w 0) e)))

-- arc a reaches the new node v, which gets the mark rank
module _ (r : Residual) (from a rank v : ℕ) (dist via : List ℕ) (late : from ≤ a) (arc : a < length r.tails) (o : Opens r dist a v) (via-in : v < length via) where
  abbrev dist' : List ℕ
  dist' = set dist v rank

  abbrev via' : List ℕ
  via' = set via v a

  marked : get_or dist' v 0 ≡ rank
  marked = get_or-set_same dist v rank 0 o.node

  same : (u : ℕ) → reached dist u → get_or dist' u 0 ≡ get_or dist u 0
  same = kept dist v rank o.new

  nearer : ((u : ℕ) → reached dist u → get_or dist u 0 < rank) → (u : ℕ) → reached dist u → get_or dist' u 0 < get_or dist' v 0
  nearer below u h = omega (arith, same u h, marked, below u h)

  link_new : ((u : ℕ) → reached dist u → get_or dist u 0 < rank) → Link r from dist' a v
  link_new below =
      record {
        late = late;
        arc = arc;
        even = o.even;
        way = ⊎_elim
            (λ w. inl (record { at = w.0; nearer = nearer below (tail_of r a) w.2 }, w.1))
            (λ w. inr (record { at = w.0; nearer = nearer below (head_of r a) w.2 }, w.1))
            o.way;
      }

  enters_old : (starts ends : List ℕ) (u b : ℕ) → reached dist u → Enters starts ends dist b u → Enters starts ends dist' b u
  enters_old starts ends u b h e = record { at = e.at; nearer = omega (arith, e.nearer, same (get_or starts b 0) (omega (arith, e.nearer)), same u h) }

  link_old : (u b : ℕ) → reached dist u → Link r from dist b u → Link r from dist' b u
  link_old u b h l =
      record {
        late = l.late;
        arc = l.arc;
        even = l.even;
        way = ⊎_elim (λ w. inl (enters_old r.tails r.heads u b h w.0, w.1)) (λ w. inr (enters_old r.heads r.tails u b h w.0, w.1)) l.way;
      }

  at_other : (u : ℕ) → (u ≡ v → ⊥) → get_or dist' u 0 ≡ get_or dist u 0
  at_other u n = get_or-set_other dist v u rank 0 n

  grown : Ranked r from rank dist via → Tree r from dist' via'
  grown k u pos in' =
      elim (ℕ_discrete u v) [
        | yes e ↦ subst (λ (w : ℕ). Link r from dist' (get_or via' w 0) w) (sym e) (rw (get_or-set_same via v a 0 via-in) (link_new k.below))
        | no n ↦ rw (get_or-set_other via v u a 0 n) (link_old u (get_or via u 0) (omega (arith, at_other u n)) (k.tree u (omega (arith, at_other u n)) (omega (arith, at_other u n))))
      ]

  pub ranked_reach : Ranked r from rank dist via → Ranked r from (rank + 1) dist' via'
  ranked_reach k =
      record {
        tree = grown k;
        below = λ u h. elim (ℕ_discrete u v) [
          | yes e ↦ omega (arith, marked, ap (λ (w : ℕ). get_or dist' w 0) e)
          | no n ↦ omega (arith, at_other u n, k.below u (omega (arith, at_other u n)))
        ];
        room = omega (arith, unreached_set dist v rank o.node o.new (mark_left dist v rank o.node o.new k.room), k.room);
        first = omega arith;
      }

-- what a pass over the arcs from `from` to `upto` makes of rank₀ and dist₀
pub record Passed (r : Residual) (from upto rank₀ : ℕ) (dist₀ : List ℕ) (rank : ℕ) (dist via : List ℕ) : Type 0 where
  pub ranked : Ranked r from rank dist via
  pub long : length dist ≡ length dist₀
  pub via_long : length via ≡ length dist₀
  pub keeps : (v : ℕ) → get_or dist₀ v 0 ≡ 0 → get_or dist v 0 ≡ 0
  pub adds_none : (v : ℕ) → get_or dist v 0 ≡ 0 → get_or dist₀ v 0 ≡ 0
  pub more : rank₀ ≤ rank
  pub count : rank + unreached dist ≡ rank₀ + unreached dist₀
  pub shut : rank ≡ rank₀ → (a : ℕ) → from ≤ a → a < upto → ShutAt r dist a

module _ (r : Residual) (from rank₀ : ℕ) (dist₀ : List ℕ) where
  pub pass_start : (via : List ℕ) → length via ≡ length dist₀ → Ranked r from rank₀ dist₀ via → Passed r from from rank₀ dist₀ rank₀ dist₀ via
  pass_start via l k =
      record {
        ranked = k;
        long = refl;
        via_long = l;
        keeps = λ v e. e;
        adds_none = λ v e. e;
        more = omega arith;
        count = refl;
        shut = λ _ a h g. absurd (omega arith);
      }

  module _ (a rank : ℕ) (dist via : List ℕ) (p : Passed r from a rank₀ dist₀ rank dist via) where
    pub pass_end : (n : ℕ) → n ≤ a → Passed r from n rank₀ dist₀ rank dist via
    pass_end n h =
        record {
          ranked = p.ranked;
          long = p.long;
          via_long = p.via_long;
          keeps = p.keeps;
          adds_none = p.adds_none;
          more = p.more;
          count = p.count;
          shut = λ e b l g. p.shut e b l (omega arith);
        }

    pub pass_over : ShutAt r dist a → Passed r from (a + 1) rank₀ dist₀ rank dist via
    pass_over s =
        record {
          ranked = p.ranked;
          long = p.long;
          via_long = p.via_long;
          keeps = p.keeps;
          adds_none = p.adds_none;
          more = p.more;
          count = p.count;
          shut = λ e b h g. below_more (λ (k : ℕ). from ≤ k → ShutAt r dist k) a (λ k g l. p.shut e k l g) (λ _. s) b g h;
        }

    pub pass_reach : (v : ℕ) → from ≤ a → a < length r.tails → Opens r dist a v → Passed r from (a + 1) rank₀ dist₀ (rank + 1) (set dist v rank) (set via v a)
    pass_reach v late arc o =
        let via-in : v < length via = omega (arith, p.via_long, p.long, o.node) in
        record {
          ranked = ranked_reach r from a rank v dist via late arc o via-in p.ranked;
          long = length-set dist v rank ∙ p.long;
          via_long = length-set via v a ∙ p.via_long;
          keeps = λ u e. same r from a rank v dist via late arc o via-in u (omega (arith, p.keeps u e)) ∙ p.keeps u e;
          adds_none = λ u e. elim (ℕ_discrete u v) [
            | yes w ↦ absurd (omega (arith, p.ranked.first, marked r from a rank v dist via late arc o via-in, ap (λ (w : ℕ). get_or (set dist v rank) w 0) w))
            | no n ↦ p.adds_none u (sym (get_or-set_other dist v u rank 0 n) ∙ e)
          ];
          more = omega (arith, p.more);
          count = omega (arith, p.count, unreached_set dist v rank o.node o.new (mark_left dist v rank o.node o.new p.ranked.room));
          shut = λ e. absurd (omega (arith, p.more));
        }

pub fresh_ranked : (r : Residual) (from : ℕ) (dist via : List ℕ) → Fresh dist → Ranked r from 1 dist via
fresh_ranked r from dist via f =
    record {
      tree = λ v pos in'. absurd (⊎_elim (λ e. omega arith) (λ e. omega arith) (f.marks v));
      below = λ v h. ⊎_elim (λ e. omega arith) (λ e. absurd (omega arith)) (f.marks v);
      room = omega (arith, f.some, f.few);
      first = omega arith;
    }

-- one pass after others
module _ (r : Residual) (from n rank₀ rank rank' : ℕ) (dist₀ dist dist' via via' : List ℕ) (p : Passed r from from rank₀ dist₀ rank dist via) (q : Passed r from n rank dist rank' dist' via') where
  pub pass_join : Passed r from from rank₀ dist₀ rank' dist' via'
  pass_join =
      record {
        ranked = q.ranked;
        long = q.long ∙ p.long;
        via_long = q.via_long ∙ p.long;
        keeps = λ v e. q.keeps v (p.keeps v e);
        adds_none = λ v e. p.adds_none v (q.adds_none v e);
        more = omega (arith, p.more, q.more);
        count = q.count ∙ p.count;
        shut = λ _ a h g. absurd (omega arith);
      }

  pub pass_last : n ≡ length r.tails → rank' ≡ rank → Searched r from dist₀ dist' via'
  pass_last l e =
      record {
        rooted = record { long = pass_join.long; via_long = pass_join.via_long; keeps = pass_join.keeps; adds_none = pass_join.adds_none; tree = q.ranked.tree };
        closed = λ a h g. q.shut e a h (omega arith);
      }
