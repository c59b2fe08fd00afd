-- A state on the way to a flow: finished, or stuck at a cut.
use mathlib.Core.Path.{◌≡◌, refl, ap}
use mathlib.Core.Bool.{Bool, true, false}
use mathlib.Core.List.{List}
use Prim.Native.Nat.{ℕ, ◌+◌, ◌<◌}
use native.Mathlib.Omega.{arith}
use lib.ListN.{get_or}
use Rattle.finite.proofs.Sums.{sum_below, sum_add, sum_nothing, sum_has, total_sum}
use Rattle.flow.specs.Network.{Network, Flow, Sound, Cut, when, within}
use Rattle.flow.specs.Solver.{State}
use Rattle.flow.proofs.Names.{arcs, nodes, supply, demand, GoesOut, GoesIn, Full, AtLower}
use Rattle.flow.proofs.Units.{inside_add, Additive}
use Rattle.flow.proofs.Balance.{node_balance}
use Rattle.flow.proofs.Crossing.{crossing_le, crossing_balance}
use Rattle.flow.proofs.Cuts.{held_supply, held_demand}

module _ (n : Network) (sound : Sound n) (x left lack : List ℕ) (state : State n x left lack) where
  -- a set whose nodes lack nothing and have something left, out of which nothing more can go
  pub stuck_cut : (s : List Bool) → ((v : ℕ) → v < nodes n → within s v ≡ true → get_or lack v 0 ≡ 0)
      → (v : ℕ) → v < nodes n → within s v ≡ true → 0 < get_or left v 0
      → ((a : ℕ) → a < arcs n → GoesOut n a s → Full n a x) → ((a : ℕ) → a < arcs n → GoesIn n a s → AtLower n a x) → Cut n s
  stuck_cut s met v node member some full low = record {
    bounded = λ a l t h. (full a l (t, h)).1;
    over =
        omega (
          arith,
          held_supply n sound s,
          held_demand n sound s,
          crossing_balance n sound s x (λ i. demand n i + get_or left i 0) (λ i. supply n i + get_or lack i 0) (λ i l. omega (arith, state.kept i l)),
          inside_add s (nodes n) (demand n) (λ i. get_or left i 0),
          inside_add s (nodes n) (supply n) (λ i. get_or lack i 0),
          sum_nothing (nodes n) (λ i. when (within s i) (get_or lack i 0)) (λ i l. none (within s i) (get_or lack i 0) (met i l)),
          sum_has (nodes n) (λ i. when (within s i) (get_or left i 0)) v node,
          ap (λ (b : Bool). when b (get_or left v 0)) member,
          crossing_le s n.tails n.heads (arcs n) refl sound.heads_long n.uppers x (λ a l o. (full a l o).0),
          crossing_le s n.heads n.tails (arcs n) sound.heads_long refl x n.lowers low,
        );
  }
    where
      none : (b : Bool) (x : ℕ) → (b ≡ true → x ≡ 0) → when b x ≡ 0
      none true x e = e refl
      none false x e = refl

  -- nothing is left: then nothing is lacking either
  pub finished : ((v : ℕ) → v < nodes n → get_or left v 0 ≡ 0) → Flow n x
  finished none = record { long = state.bounds.long; above = state.bounds.above; below = state.bounds.below; kept = λ v l. omega (arith, state.kept v l, none v l, lacks v l) }
    where
      plain : Additive (λ v x. x)
      plain = record { none = λ v. refl; more = λ v x y. refl }

      over : sum_below (nodes n) (λ v. demand n v + get_or left v 0) ≡ sum_below (nodes n) (λ v. supply n v + get_or lack v 0)
      over = omega (arith, node_balance n sound (λ v x. x) plain x (λ v. demand n v + get_or left v 0) (λ v. supply n v + get_or lack v 0) (λ v l. omega (arith, state.kept v l)))

      lacks : (v : ℕ) → v < nodes n → get_or lack v 0 ≡ 0
      lacks v l =
          omega (
            arith,
            over,
            sum_add (nodes n) (demand n) (λ v. get_or left v 0),
            sum_add (nodes n) (supply n) (λ v. get_or lack v 0),
            sum_nothing (nodes n) (λ v. get_or left v 0) none,
            total_sum n.supplies,
            total_sum n.demands,
            ap (λ (k : ℕ). sum_below k (demand n)) sound.demands_long,
            sound.even,
            sum_has (nodes n) (λ v. get_or lack v 0) v l,
          )
