-- A cut rules a flow out.
use mathlib.Core.Path.{◌≡◌, refl, ap, ◌∙◌}
use mathlib.Core.Logic.{◌⊎◌, inl, inr}
use mathlib.Core.Bool.{Bool}
use mathlib.Core.List.{List}
use Prim.Native.Nat.{ℕ, ◌≤◌}
use native.Mathlib.Omega.{arith}
use lib.ListN.{get_or}
use Rattle.finite.proofs.Sums.{sum_below}
use Rattle.flow.specs.Network.{Network, Flow, Sound, Cut, unbounded, when, within, held}
use Rattle.flow.proofs.Names.{arcs, nodes, upper, supply, demand}
use Rattle.flow.proofs.Units.{held_sum}
use Rattle.flow.proofs.Crossing.{crossing_le, crossing_balance}

-- an upper bound that is one
pub bound_holds : (u x : ℕ) → (u ≡ unbounded → ⊥) → (u ≡ unbounded) ⊎ (x ≤ u) → x ≤ u
bound_holds u x b (inl e) = absurd (b e)
bound_holds u x b (inr l) = l

module _ (n : Network) (sound : Sound n) (s : List Bool) where
  pub held_supply : held s n.supplies ≡ sum_below (nodes n) (λ v. when (within s v) (supply n v))
  held_supply = held_sum s n.supplies

  pub held_demand : held s n.demands ≡ sum_below (nodes n) (λ v. when (within s v) (demand n v))
  held_demand = held_sum s n.demands ∙ ap (λ (k : ℕ). sum_below k (λ v. when (within s v) (demand n v))) sound.demands_long

  pub cut_rules_out : Cut n s → (y : List ℕ) → Flow n y → ⊥
  cut_rules_out cut y flow =
      omega (
        arith,
        cut.over,
        held_supply,
        held_demand,
        crossing_balance n sound s y (demand n) (supply n) flow.kept,
        crossing_le s n.tails n.heads (arcs n) refl sound.heads_long y n.uppers
            (λ a l o. bound_holds (upper n a) (get_or y a 0) (cut.bounded a l o.0 o.1) (flow.below a l)),
        crossing_le s n.heads n.tails (arcs n) sound.heads_long refl n.lowers y (λ a l o. flow.above a l),
      )
