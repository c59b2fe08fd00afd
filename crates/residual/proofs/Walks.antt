-- The walk of a push down the tree: it changes no arc twice, and moves one unit.
use mathlib.Core.Path.{◌≡◌, refl, sym, ap, ◌∙◌, subst, subst₂}
use mathlib.Core.Logic.{◌⊎◌, inl, inr, ⊎_elim}
use mathlib.Core.List.{List}
use Prim.Native.Nat.{ℕ, ◌+◌, ◌-◌, ◌≤◌, ◌<◌}
use native.Mathlib.Decide.{ℕ_discrete}
use native.Mathlib.Omega.{arith}
use lib.ListN.{length, get_or, set, length-set}
use lib.Seq.{get_or-set_same, get_or-set_other}
use Rattle.residual.proofs.Units.{units_at_more, units_at_fewer}
use Rattle.residual.specs.Residual.{Residual, Shaped, Enters, Link, Tree, Walkable, Up, Down, Changed, Balanced, Walked, Moved, Pushed, reached}

-- the mark at an end
abbrev mark : List ℕ → ℕ → ℕ
mark dist v = get_or dist v 0

-- an arc leads to one node of the tree
same_way : (s e dist : List ℕ) (b n v : ℕ) → Enters s e dist b n → Enters s e dist b v → mark dist v < mark dist n → ⊥
same_way s e dist b n v p q h = omega (arith, ap (mark dist) p.at, ap (mark dist) q.at)

cross_way : (s e dist : List ℕ) (b n v : ℕ) → Enters s e dist b n → Enters e s dist b v → mark dist v < mark dist n → ⊥
cross_way s e dist b n v p q h = omega (arith, p.nearer, q.nearer, ap (mark dist) p.at, ap (mark dist) q.at)

one_way : (s e dist : List ℕ) (b v : ℕ) → Enters s e dist b v → Enters e s dist b v → ⊥
one_way s e dist b v p q = omega (arith, p.nearer, ap (mark dist) q.at)

module _ (tails heads dist via x : List ℕ) (target : ℕ) where
  pub walk_start : target < length dist → reached dist target → Walked tails heads dist via x target x target
  walk_start h g = record { long = refl; node = h; in_tree = g; arcs = λ a. inl refl; balanced = λ u. refl }

  module _ (k : Walkable tails heads x dist via) (x' : List ℕ) (v : ℕ) (w : Walked tails heads dist via x target x' v) (pos : 0 < mark dist v) where
    abbrev b : ℕ
    b = get_or via v 0

    arc_in : b < length tails
    arc_in = k.arcs_in v pos w.in_tree

    b_in : b < length x'
    b_in = omega (arith, arc_in, w.long, k.x_long)

    -- the arc to v has not been changed yet
    untouched : get_or x' b 0 ≡ get_or x b 0
    untouched =
        ⊎_elim
        (λ e. e)
        (λ c. absurd
        (⊎_elim
        (λ p. ⊎_elim (λ q. same_way tails heads dist b c.node v p.0 q.0 c.above) (λ q. cross_way tails heads dist b c.node v p.0 q.0 c.above) (k.way v pos w.in_tree))
        (λ p. ⊎_elim (λ q. cross_way heads tails dist b c.node v p.0 q.0 c.above) (λ q. same_way heads tails dist b c.node v p.0 q.0 c.above) (k.way v pos w.in_tree))
        c.way))
        (w.arcs b)

    -- which way the arc to v leads
    way_up : get_or heads b 0 ≡ v → Enters tails heads dist b v × (get_or x' b 0 < 65535)
    way_up at = ⊎_elim (λ q. (q.0, omega (arith, untouched, q.1))) (λ q. absurd (omega (arith, q.0.nearer, ap (mark dist) at))) (k.way v pos w.in_tree)

    way_down : (get_or heads b 0 ≡ v → ⊥) → Enters heads tails dist b v × (0 < get_or x' b 0)
    way_down off = ⊎_elim (λ q. absurd (off q.0.at)) (λ q. (q.0, omega (arith, untouched, q.1))) (k.way v pos w.in_tree)

    module _ (m u : ℕ) (lower : mark dist u < mark dist v) where
      abbrev x'' : List ℕ
      x'' = set x' b m

      changed_b : get_or x'' b 0 ≡ m
      changed_b = get_or-set_same x' b m 0 b_in

      later : (a : ℕ) → (a ≡ b → ⊥) → (get_or x' a 0 ≡ get_or x a 0) ⊎ Changed tails heads dist via x x' (mark dist v) a → (get_or x'' a 0 ≡ get_or x a 0) ⊎ Changed tails heads dist via x x'' (mark dist u) a
      later a n = ⊎_elim
          (λ e. inl (get_or-set_other x' b a m 0 n ∙ e))
          (λ c. inr (record {
            node = c.node;
            noted = c.noted;
            above = omega (arith, c.above);
            in_tree = c.in_tree;
            way = ⊎_elim (λ q. inl (q.0, get_or-set_other x' b a m 0 n ∙ q.1)) (λ q. inr (q.0, q.1 ∙ ap (λ (y : ℕ). y + 1) (sym (get_or-set_other x' b a m 0 n)))) c.way;
          }))

      arcs_next : (Enters tails heads dist b v × (m ≡ get_or x b 0 + 1)) ⊎ (Enters heads tails dist b v × (get_or x b 0 ≡ m + 1)) → (a : ℕ) → (get_or x'' a 0 ≡ get_or x a 0) ⊎ Changed tails heads dist via x x'' (mark dist u) a
      arcs_next way a =
          elim (ℕ_discrete a b) [
            | yes e ↦ subst (λ (c : ℕ). (get_or x'' c 0 ≡ get_or x c 0) ⊎ Changed tails heads dist via x x'' (mark dist u) c) (sym e)
                (inr (record {
                  node = v;
                  noted = refl;
                  above = lower;
                  in_tree = w.in_tree;
                  way = ⊎_elim (λ q. inl (q.0, changed_b ∙ q.1)) (λ q. inr (q.0, q.1 ∙ ap (λ (y : ℕ). y + 1) (sym changed_b))) way;
                }))
            | no n ↦ later a n (w.arcs a)
          ]

    -- the balance after a step: x' is x'' with a unit less, or more, on the arc
    heads_in_b : b < length heads
    heads_in_b = omega (arith, arc_in, k.heads_long)

    balanced_up : get_or heads b 0 ≡ v → Balanced tails heads x (set x' b (get_or x' b 0 + 1)) target (get_or tails b 0)
    balanced_up at q =
        omega (
          arith,
          w.balanced q,
          units_at_more tails x' b 1 q arc_in b_in,
          rw at at (units_at_more heads x' b 1 q heads_in_b b_in),
        )

    balanced_down : get_or tails b 0 ≡ v → 0 < get_or x' b 0 → Balanced tails heads x (set x' b (get_or x' b 0 - 1)) target (get_or heads b 0)
    balanced_down at some q =
        omega (
          arith,
          w.balanced q,
          rw at at (units_at_fewer tails x' b 1 q arc_in b_in some),
          units_at_fewer heads x' b 1 q heads_in_b b_in some,
        )

    -- what a step asks for, and the walk after it, down to a node with a lower mark
    pub step_asks : (b < length tails) × (get_or heads b 0 ≡ v → get_or x' b 0 < 65535) × ((get_or heads b 0 ≡ v → ⊥) → 0 < get_or x' b 0)
    step_asks = (arc_in, (λ at. (way_up at).1), (λ off. (way_down off).1))

    module _ (y : List ℕ) (u : ℕ) where
      up : Up tails heads x' b v y u → Walked tails heads dist via x target y u × (mark dist u < mark dist v)
      up s =
          let e = way_up s.at in (
            subst₂ (Walked tails heads dist via x target) (sym s.flow) (sym s.next)
                (record {
                  long = length-set x' b _ ∙ w.long;
                  node = k.tails_in b arc_in;
                  in_tree = omega (arith, e.0.nearer, w.in_tree);
                  arcs = arcs_next (get_or x' b 0 + 1) (get_or tails b 0) e.0.nearer (inl (e.0, ap (λ (n : ℕ). n + 1) untouched));
                  balanced = balanced_up s.at;
                }),
            omega (arith, e.0.nearer, ap (mark dist) s.next),
          )

      down : Down tails heads x' b v y u → Walked tails heads dist via x target y u × (mark dist u < mark dist v)
      down s =
          let e = way_down s.off in (
            subst₂ (Walked tails heads dist via x target) (sym s.flow) (sym s.next)
                (record {
                  long = length-set x' b _ ∙ w.long;
                  node = k.heads_in b arc_in;
                  in_tree = omega (arith, e.0.nearer, w.in_tree);
                  arcs = arcs_next (get_or x' b 0 - 1) (get_or heads b 0) e.0.nearer (inr (e.0, omega (arith, untouched, e.1)));
                  balanced = balanced_down e.0.at e.1;
                }),
            omega (arith, e.0.nearer, ap (mark dist) s.next),
          )

      pub step_walks : Up tails heads x' b v y u ⊎ Down tails heads x' b v y u → Walked tails heads dist via x target y u × (mark dist u < mark dist v)
      step_walks = ⊎_elim up down

-- The tree of a search can be walked, and the walk down to a source is a push.
module _ (r : Residual) (from : ℕ) (dist via : List ℕ) (tree : Tree r from dist via) where
  pub walkable : Shaped r (length dist) → length via ≡ length dist → ((a : ℕ) → get_or r.uppers a 0 ≤ 65535) → Walkable r.tails r.heads r.x dist via
  walkable s l fits =
      record {
        heads_long = s.heads_long;
        x_long = s.x_long;
        via_long = l;
        tails_in = s.tails_in;
        heads_in = s.heads_in;
        arcs_in = λ v pos h. (tree v pos h).arc;
        way = λ v pos h. ⊎_elim (λ q. inl (q.0, omega (arith, q.1, fits (get_or via v 0)))) (λ q. inr (q.0, omega (arith, q.1))) (tree v pos h).way;
      }

  module _ (x' : List ℕ) (low : ℕ) where
    moved : (a : ℕ) → Changed r.tails r.heads dist via r.x x' low a → Moved r from x' a
    moved a c =
        let pos : 0 < mark dist c.node = omega (arith, c.above) in
        let l : Link r from dist a c.node = subst (λ (b : ℕ). Link r from dist b c.node) c.noted (tree c.node pos c.in_tree) in
        let n = c.node in
        ⊎_elim
        (λ p. ⊎_elim
        (λ q. record { late = l.late; even = l.even; by_one = inl p.1; above = λ h. omega (arith, p.1); below = λ h. omega (arith, p.1, q.1) })
        (λ q. absurd (one_way r.tails r.heads dist a n p.0 q.0))
        l.way)
        (λ p. ⊎_elim
        (λ q. absurd (one_way r.heads r.tails dist a n p.0 q.0))
        (λ q. record { late = l.late; even = l.even; by_one = inr p.1; above = λ h. omega (arith, p.1, q.1); below = λ h. omega (arith, p.1) })
        l.way)
        c.way

  pub pushed : (x' : List ℕ) (target source : ℕ) → Walked r.tails r.heads dist via r.x target x' source → mark dist source ≡ 0 → Pushed r from dist target x' source
  pushed x' target source w e =
      record {
        long = w.long;
        node = w.node;
        source_mark = e;
        arcs = λ a. ⊎_elim (λ h. inl h) (λ c. inr (moved x' (mark dist source) a c)) (w.arcs a);
        balanced = w.balanced;
      }
