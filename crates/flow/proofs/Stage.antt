-- One stage: a set of nodes that no free arc above k leaves shows that no flow of the same cost has fewer units on the arc k.
use mathlib.Core.Path.{◌≡◌, refl, ap, ◌∙◌}
use mathlib.Core.Logic.{◌⊎◌, inl, inr}
use mathlib.Core.Bool.{Bool}
use mathlib.Core.List.{List}
use Prim.Native.Nat.{ℕ, ◌≤◌, ◌<◌}
use native.Mathlib.Nat.{le_trans}
use native.Mathlib.Omega.{arith}
use lib.ListN.{get_or}
use Rattle.finite.proofs.Order.{Order, less, same, more, order}
use Rattle.flow.specs.Network.{Network, Flow, Sound, within}
use Rattle.flow.proofs.Names.{arcs, head, upper, supply, demand, GoesOut, GoesIn, Free, Full, AtLower}
use Rattle.finite.proofs.Tests.{not_both}
use Rattle.flow.proofs.Crossing.{crossing_le, crossing_lt, crossing_balance}
use Rattle.flow.proofs.Cuts.{bound_holds}

-- k leaves s; of the free arcs above k, those that leave s are full, and those that enter it carry no more than they must
pub record Barrier (n : Network) (p x : List ℕ) (s : List Bool) (k : ℕ) : Type 0 where
  pub leaves : GoesOut n k s
  pub full : (a : ℕ) → a < arcs n → k < a → Free n a p → GoesOut n a s → Full n a x
  pub low : (a : ℕ) → a < arcs n → k < a → Free n a p → GoesIn n a s → AtLower n a x

module _ (n : Network) (sound : Sound n) (p x : List ℕ) (s : List Bool) (k : ℕ) (flow : Flow n x) (barrier : Barrier n p x s k) (y : List ℕ) (other : Flow n y)
    (agree : (a : ℕ) → a < k → get_or y a 0 ≡ get_or x a 0) (frozen : (a : ℕ) → a < arcs n → Free n a p ⊎ (get_or y a 0 ≡ get_or x a 0)) where
  no_more_out : get_or y k 0 < get_or x k 0 → (a : ℕ) → a < arcs n → GoesOut n a s → get_or y a 0 ≤ get_or x a 0
  no_more_out h a l o = go (order a k) (frozen a l)
    where
      go : Order a k → Free n a p ⊎ (get_or y a 0 ≡ get_or x a 0) → get_or y a 0 ≤ get_or x a 0
      go (less b) f = omega (arith, agree a b)
      go (same e) f = omega (arith, ap (λ (i : ℕ). get_or x i 0) e, ap (λ (i : ℕ). get_or y i 0) e)
      go (more b) (inr e) = omega arith
      go (more b) (inl f) = let (u, w) = barrier.full a l b f o in le_trans (bound_holds (upper n a) (get_or y a 0) w (other.below a l)) u

  no_less_in : (a : ℕ) → a < arcs n → GoesIn n a s → get_or x a 0 ≤ get_or y a 0
  no_less_in a l o = go (order a k) (frozen a l)
    where
      go : Order a k → Free n a p ⊎ (get_or y a 0 ≡ get_or x a 0) → get_or x a 0 ≤ get_or y a 0
      go (less b) f = omega (arith, agree a b)
      go (same e) f = absurd (not_both o.0 (ap (λ (i : ℕ). within s (head n i)) e ∙ barrier.leaves.1))
      go (more b) (inr e) = omega arith
      go (more b) (inl f) = le_trans (barrier.low a l b f o) (other.above a l)

  pub stage : k < arcs n → get_or x k 0 ≤ get_or y k 0
  stage l = go (order (get_or x k 0) (get_or y k 0))
    where
      go : Order (get_or x k 0) (get_or y k 0) → get_or x k 0 ≤ get_or y k 0
      go (less h) = omega arith
      go (same e) = omega arith
      go (more h) =
          omega (
            arith,
            crossing_balance n sound s x (demand n) (supply n) flow.kept,
            crossing_balance n sound s y (demand n) (supply n) other.kept,
            crossing_lt s n.tails n.heads (arcs n) refl sound.heads_long y x (no_more_out h) k l barrier.leaves h,
            crossing_le s n.heads n.tails (arcs n) sound.heads_long refl x y no_less_in,
          )
