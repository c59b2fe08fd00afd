-- The gap over the arcs that leave the reached nodes, and the raise by it.
use mathlib.Core.Path.{◌≡◌, refl, sym, ap, ◌∙◌, subst}
use mathlib.Core.Logic.{◌⊎◌, inl, inr, ⊎_elim}
use mathlib.Core.Bool.{true, false}
use mathlib.Core.List.{List}
use Prim.Native.Nat.{ℕ, ◌+◌, ◌-◌, ◌≤◌, ◌<◌}
use native.Mathlib.Decide.{ℕ_discrete, dec_lt}
use native.Mathlib.Nat.{add-zero}
use borrow.Author.Tests.{le-leb, lt-leb}
use borrow.Author.Count.{below_more as one_more}
use native.Mathlib.Omega.{arith}
use lib.ListN.{length, get_or, set, length-set, get_or-eq_default}
use lib.Seq.{get_or-set_same, get_or-set_other}
use Rattle.residual.specs.Residual.{Residual, Shaped, Within, tail_of, head_of}
use Rattle.residual.specs.Chains.{Movable, Chain}
use Rattle.residual.specs.Prices.{Leaves, LeavesBy, LeavesFrom, Slack, Lesser, Closest, Gap, RaisedTo, Raised}
use Rattle.residual.proofs.Chaining.{Downward, down_start, down_next}

-- ---- the least that arcs are short of tight

module _ {r : Residual} {dist : List ℕ} where
  -- no arc is so
  closest_none : (So : ℕ → ℕ → Type 0) (g : ℕ) → ((a s : ℕ) → So a s → ⊥) → Closest r dist So g g
  closest_none So g n = record { least = λ a s h w. absurd (n a s w); kept = λ pos. (pos, omega arith); met = λ pos. inl refl }

  -- arcs of two sorts, one after the other
  closest_join : {So Such : ℕ → ℕ → Type 0} (Both : ℕ → ℕ → Type 0) {g₀ g₁ g₂ : ℕ} → Closest r dist So g₀ g₁ → Closest r dist Such g₁ g₂ → ((a s : ℕ) → Both a s → So a s ⊎ Such a s) → Closest r dist Both g₀ g₂
  closest_join Both {g₀} {g₁} {g₂} c d both = record {
    least = λ a s h w pos. ⊎_elim (λ u. after (c.least a s h u pos)) (λ u. d.least a s h u pos) (both a s w);
    kept = λ pos. after (c.kept pos);
    met = λ pos. ⊎_elim
        (λ e. ⊎_elim (λ q. inl (e ∙ q)) (λ w. inr (w.0, w.1, subst (Leaves r dist w.0) (sym e) w.2)) (c.met (omega arith)))
        inr
        (d.met pos);
  }
    where
      after : {s : ℕ} → (0 < g₁) × (g₁ ≤ s) → (0 < g₂) × (g₂ ≤ s)
      after old = let new = d.kept old.0 in (new.0, omega (arith, old.1, new.1))

-- a number and none
pub lesser_none : {m : ℕ} → Lesser m 0 m
lesser_none = record { one = inl refl; first = λ pos. (pos, omega arith); second = λ pos. absurd (omega arith) }

-- ---- over the arcs at u, from the last down

-- those from `at` on are short by g at least
pub record Closing (r : Residual) (dist ends : List ℕ) (u at g₀ g : ℕ) : Type 0 where
  pub down : Downward ends r.lowers r.uppers u at (λ a. (s : ℕ) → Leaves r dist a s → 0 < s → (0 < g) × (g ≤ s))
  pub kept : 0 < g₀ → (0 < g) × (g ≤ g₀)
  pub met : 0 < g → (g ≡ g₀) ⊎ ((a : ℕ) × (a < length r.tails) × Leaves r dist a g)

module _ {r : Residual} {dist ends : List ℕ} {nodes u : ℕ} {last before : List ℕ} (chain : Chain ends r.lowers r.uppers nodes last before) (long : length ends ≡ length r.tails) (node : u < nodes) where
  pub closing_start : (g : ℕ) → Closing r dist ends u (get_or last u 0) g g
  closing_start g = record { down = down_start chain node (λ a. (s : ℕ) → Leaves r dist a s → 0 < s → (0 < g) × (g ≤ s)); kept = λ pos. (pos, omega arith); met = λ pos. inl refl }

  module _ {at g₀ g : ℕ} (c : Closing r dist ends u at g₀ g) where
    pub closing_next : 0 < at → (s m : ℕ) → Slack r dist (at - 1) s → Lesser g s m → Closing r dist ends u (get_or before (at - 1) 0) g₀ m
    closing_next some s m q l = record {
      down = down_next chain node c.down some (λ a. (s : ℕ) → Leaves r dist a s → 0 < s → (0 < m) × (m ≤ s)) (λ a old t w pos. after (old t w pos)) here;
      kept = λ pos. after (c.kept pos);
      met = λ pos. ⊎_elim
          (λ e. ⊎_elim (λ k. inl (e ∙ k)) (λ w. inr (w.0, w.1, subst (Leaves r dist w.0) (sym e) w.2)) (c.met (omega arith)))
          (λ e. inr (at - 1, omega (arith, c.down.below), subst (Leaves r dist (at - 1)) (sym e) (q.leaves (omega arith))))
          l.one;
    }
      where
        after : {t : ℕ} → (0 < g) × (g ≤ t) → (0 < m) × (m ≤ t)
        after old = let new = l.first old.0 in (new.0, omega (arith, old.1, new.1))

        here : (t : ℕ) → Leaves r dist (at - 1) t → 0 < t → (0 < m) × (m ≤ t)
        here t w pos =
            let e : s ≡ t = q.only t w in
            let new = l.second (omega (arith, e)) in
            (new.0, omega (arith, new.1, e))

    -- an arc that leaves the reached nodes can move
    pub closing_done : Within r → at ≤ 0 → Closest r dist (λ a s. (get_or ends a 0 ≡ u) × Leaves r dist a s) g₀ g
    closing_done within none = record {
      least = λ a s h w. c.down.done a (omega arith) (omega arith) w.0 (moves a s h w.1) s w.1;
      kept = c.kept;
      met = c.met;
    }
      where
        moves : (a s : ℕ) → a < length r.tails → Leaves r dist a s → Movable r.lowers r.uppers a
        moves a s h = ⊎_elim (λ w. omega (arith, w.0.room, within.above a h)) (λ w. omega (arith, w.0.room, within.below a h))

-- ---- over the nodes

-- an arc that a step from a node below u leads along
abbrev pub FromBelow : Residual → List ℕ → ℕ → ℕ → ℕ → Type 0
FromBelow r dist u a s = (w : ℕ) × (w < u) × LeavesFrom r dist w a s

module _ {r : Residual} {dist : List ℕ} where
  -- u is not reached
  pub from_none : (u g : ℕ) → 255 ≤ get_or dist u 0 → Closest r dist (LeavesFrom r dist u) g g
  from_none u g far = closest_none (LeavesFrom r dist u) g
      (λ a s. ⊎_elim
      (λ w. omega (arith, w.1.near_in, ap (λ (v : ℕ). get_or dist v 0) w.0))
      (λ w. omega (arith, w.1.near_in, ap (λ (v : ℕ). get_or dist v 0) w.0)))

  pub from_both : {u g₀ g₁ g₂ : ℕ} → Closest r dist (LeavesBy r dist true u) g₀ g₁ → Closest r dist (LeavesBy r dist false u) g₁ g₂ → Closest r dist (LeavesFrom r dist u) g₀ g₂
  from_both {u = u} c d = closest_join (LeavesFrom r dist u) c d (λ a s. ⊎_elim (λ w. inl (w.0, inl (w.1, w.2))) (λ w. inr (w.0, inr (w.1, w.2))))

  pub below_none : Closest r dist (FromBelow r dist 0) 0 0
  below_none = closest_none (FromBelow r dist 0) 0 (λ a s w. omega (arith, w.1))

  pub below_more : {u g₁ g₂ : ℕ} → Closest r dist (FromBelow r dist u) 0 g₁ → Closest r dist (LeavesFrom r dist u) g₁ g₂ → Closest r dist (FromBelow r dist (u + 1)) 0 g₂
  below_more {u = u} c d = closest_join (FromBelow r dist (u + 1)) c d both
    where
      both : (a s : ℕ) → FromBelow r dist (u + 1) a s → FromBelow r dist u a s ⊎ LeavesFrom r dist u a s
      both a s (w, l, k) = elim (ℕ_discrete w u) [
        | yes e ↦ inr (subst (λ (v : ℕ). LeavesFrom r dist v a s) e k)
        | no n ↦ inl (w, omega (arith, n), k)
      ]

  pub below_all : {u g : ℕ} → Shaped r u → Closest r dist (FromBelow r dist u) 0 g → Gap r dist g
  below_all {g = g} s c = record {
    least = λ a t h w. ⊎_elim
        (λ k. c.least a t h (tail_of r a, s.tails_in a h, inl (refl, k.0, k.1)))
        (λ k. c.least a t h (head_of r a, s.heads_in a h, inr (refl, k.0, k.1)))
        w;
    met = λ pos. ⊎_elim (λ e. absurd (omega arith)) (λ w. w) (c.met pos);
  }

-- ---- the raise

module _ (dist : List ℕ) (by : ℕ) (pot : List ℕ) where
  pub raise_none : RaisedTo dist by pot 0 pot
  raise_none = record { long = refl; done = λ v h. absurd (omega arith); rest = λ v h. refl }

  module _ (v : ℕ) (pot' : List ℕ) (p : RaisedTo dist by pot v pot') where
    pub raise_over : get_or dist v 0 < 255 → RaisedTo dist by pot (v + 1) pot'
    raise_over low =
        record {
          long = p.long;
          done = one_more _ v p.done (rw (lt-leb 255 (get_or dist v 0) low) (p.rest v (omega arith) ∙ sym (add-zero _)));
          rest = λ u h. p.rest u (omega arith);
        }

    pub raise_one : v < length pot' → 255 ≤ get_or dist v 0 → RaisedTo dist by pot (v + 1) (set pot' v (get_or pot' v 0 + by))
    raise_one node new =
        record {
          long = length-set pot' v _ ∙ p.long;
          done = one_more _ v
              (λ u h. get_or-set_other pot' v u _ 0 (λ e. absurd (omega arith)) ∙ p.done u h)
              (rw (le-leb 255 (get_or dist v 0) new) (get_or-set_same pot' v _ 0 node ∙ ap (λ (q : ℕ). q + by) (p.rest v (omega arith))));
          rest = λ u h. get_or-set_other pot' v u _ 0 (λ e. absurd (omega arith)) ∙ p.rest u (omega arith);
        }

    pub raise_all : length dist ≤ v → Raised dist by pot pot'
    raise_all all =
        record {
          long = p.long;
          prices = λ u. elim (dec_lt u v) [
            | yes h ↦ p.done u h
            | no n ↦ rw (get_or-eq_default dist 0 {n = u} (omega (arith, n))) (p.rest u (omega (arith, n)) ∙ sym (add-zero _))
          ];
        }
