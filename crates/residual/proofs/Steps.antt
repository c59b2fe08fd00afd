-- A step along one arc: what the tests on it tell of the search and of the gap.
use mathlib.Core.Path.{◌≡◌, refl, sym, ap, subst}
use Rattle.std.proofs.Common.{None, Some}
use mathlib.Core.Logic.{◌⊎◌, inl, inr, ⊎_elim}
use mathlib.Core.Bool.{Bool, true, false}
use mathlib.Core.List.{List}
use Prim.Native.Nat.{ℕ, ◌<◌}
use native.Mathlib.Omega.{arith}
use lib.ListN.{length, get_or}
use Rattle.residual.specs.Residual.{Residual, Shaped, near_ends, far_end, Room, Even, OpenAt, tight, reached}
use Rattle.residual.specs.Searches.{Spent, Reach, Standing}
use Rattle.residual.specs.Prices.{short, Fits, Sums, Slack}

-- each end of every arc has its place
pub near_long : {r : Residual} {nodes : ℕ} (on : Bool) → Shaped r nodes → length (near_ends on r) ≡ length r.tails
near_long true s = refl
near_long false s = s.heads_long

-- u is reached, and the step begins there
module _ (r : Residual) (dist : List ℕ) (u a : ℕ) where
  spent_near : (on : Bool) → get_or (near_ends on r) a 0 ≡ u → reached dist u → (tight r a → Room on r a → reached dist (far_end on r.tails r.heads a)) → Spent r dist u a
  spent_near true e h f = record { up = λ _ t room. f t room; down = λ _ t room. subst (reached dist) (sym e) h }
  spent_near false e h f = record { up = λ _ t room. subst (reached dist) (sym e) h; down = λ _ t room. f t room }

  -- the arc is tight exactly if the step costs nothing
  to_even : (on : Bool) (v : ℕ) → get_or (near_ends on r) a 0 ≡ u → v ≡ far_end on r.tails r.heads a → tight r a → Even on (get_or r.costs a 0) (get_or r.pot u 0) (get_or r.pot v 0)
  to_even true v e q t = omega (arith, t, ap (λ (w : ℕ). get_or r.pot w 0) e, ap (λ (w : ℕ). get_or r.pot w 0) q)
  to_even false v e q t = omega (arith, t, ap (λ (w : ℕ). get_or r.pot w 0) e, ap (λ (w : ℕ). get_or r.pot w 0) q)

  of_even : (on : Bool) (v : ℕ) → get_or (near_ends on r) a 0 ≡ u → v ≡ far_end on r.tails r.heads a → Even on (get_or r.costs a 0) (get_or r.pot u 0) (get_or r.pot v 0) → tight r a
  of_even true v e q t = omega (arith, t, ap (λ (w : ℕ). get_or r.pot w 0) e, ap (λ (w : ℕ). get_or r.pot w 0) q)
  of_even false v e q t = omega (arith, t, ap (λ (w : ℕ). get_or r.pot w 0) e, ap (λ (w : ℕ). get_or r.pot w 0) q)

  module _ (on : Bool) (e : get_or (near_ends on r) a 0 ≡ u) (s : Standing dist u) where
    -- it leads to no new node
    pub reach_shut : (Room on r a → reached dist (far_end on r.tails r.heads a)) → Reach r dist u a None
    reach_shut shut = spent_near on e s.marked (λ t room. shut room)

    module _ (v : ℕ) (o : OpenAt r dist on a v) where
      -- the arc is not tight
      pub reach_loose : (Even on (get_or r.costs a 0) (get_or r.pot u 0) (get_or r.pot v 0) → ⊥) → Reach r dist u a None
      reach_loose n = spent_near on e s.marked (λ t room. absurd (n (to_even on v e o.at t)))

      -- it leads to a new node
      pub reach_new : Even on (get_or r.costs a 0) (get_or r.pot u 0) (get_or r.pot v 0) → Reach r dist u a (Some v)
      reach_new even = record { node = o.node; new = o.new; even = of_even on v e o.at even; way = way on e o }
        where
          way : (on : Bool) → get_or (near_ends on r) a 0 ≡ u → OpenAt r dist on a v
              → ((get_or r.heads a 0 ≡ v) × (get_or r.x a 0 < get_or r.uppers a 0) × reached dist (get_or r.tails a 0)) ⊎ ((get_or r.tails a 0 ≡ v) × (get_or r.lowers a 0 < get_or r.x a 0) × reached dist (get_or r.heads a 0))
          way true e k = inl (sym k.at, k.room, subst (reached dist) (sym e) s.marked)
          way false e k = inr (sym k.at, k.room, subst (reached dist) (sym e) s.marked)

  -- how short of tight the arc is
  pub fits : (on : Bool) (v : ℕ) → get_or (near_ends on r) a 0 ≡ u → v ≡ far_end on r.tails r.heads a → a < length r.tails → Sums r → Fits on (get_or r.costs a 0) (get_or r.pot u 0) (get_or r.pot v 0)
  fits true v e q l sums = omega (arith, sums a l, ap (λ (w : ℕ). get_or r.pot w 0) e)
  fits false v e q l sums = omega (arith, sums a l, ap (λ (w : ℕ). get_or r.pot w 0) q)

  pub slack_shut : (on : Bool) → get_or (near_ends on r) a 0 ≡ u → reached dist u → (Room on r a → reached dist (far_end on r.tails r.heads a)) → Slack r dist a 0
  slack_shut true e h f = record {
    leaves = λ l. absurd (omega arith);
    only = λ t. ⊎_elim (λ w. absurd (omega (arith, f w.0.room, w.0.far_out))) (λ w. absurd (omega (arith, h, w.0.far_out, ap (λ (z : ℕ). get_or dist z 0) e)));
  }
  slack_shut false e h f = record {
    leaves = λ l. absurd (omega arith);
    only = λ t. ⊎_elim (λ w. absurd (omega (arith, h, w.0.far_out, ap (λ (z : ℕ). get_or dist z 0) e))) (λ w. absurd (omega (arith, f w.0.room, w.0.far_out)));
  }

  pub slack_open : (on : Bool) (v s : ℕ) → get_or (near_ends on r) a 0 ≡ u → reached dist u → OpenAt r dist on a v → s ≡ short on (get_or r.costs a 0) (get_or r.pot u 0) (get_or r.pot v 0) → Slack r dist a s
  slack_open true v s e h o q =
      let near = ap (λ (z : ℕ). get_or dist z 0) e in
      let far = ap (λ (z : ℕ). get_or dist z 0) o.at in
      let low = ap (λ (z : ℕ). get_or r.pot z 0) e in
      let high = ap (λ (z : ℕ). get_or r.pot z 0) o.at in
      record {
        leaves = λ l. inl (record { near_in = omega (arith, near); far_out = omega (arith, far, o.new); room = o.room }, omega (arith, low, high));
        only = λ t. ⊎_elim (λ w. omega (arith, w.1, low, high)) (λ w. absurd (omega (arith, near, w.0.far_out)));
      }
  slack_open false v s e h o q =
      let near = ap (λ (z : ℕ). get_or dist z 0) e in
      let far = ap (λ (z : ℕ). get_or dist z 0) o.at in
      let low = ap (λ (z : ℕ). get_or r.pot z 0) e in
      let high = ap (λ (z : ℕ). get_or r.pot z 0) o.at in
      record {
        leaves = λ l. inr (record { near_in = omega (arith, near); far_out = omega (arith, far, o.new); room = o.room }, omega (arith, low, high));
        only = λ t. ⊎_elim (λ w. absurd (omega (arith, near, w.0.far_out))) (λ w. omega (arith, w.1, low, high));
      }
