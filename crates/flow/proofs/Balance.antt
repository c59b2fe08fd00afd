-- What a flow conserves, weighed by node: one equation by arc, and two flows of one network against each other.
use mathlib.Core.Path.{◌≡◌}
use mathlib.Core.List.{List}
use Prim.Native.Nat.{ℕ, ◌+◌, ◌<◌}
use native.Mathlib.Omega.{arith}
use lib.ListN.{get_or}
use Rattle.finite.proofs.Sums.{sum_below}
use Rattle.flow.specs.Network.{Network, Flow, Sound, units_at}
use Rattle.flow.proofs.Names.{arcs, nodes, tail, head, supply, demand}
use Rattle.flow.proofs.Units.{Additive, balance}

module _ (n : Network) (sound : Sound n) (w : ℕ → ℕ → ℕ) (add : Additive w) where
  pub node_balance : (x : List ℕ) (o i : ℕ → ℕ) → ((v : ℕ) → v < nodes n → units_at n.tails x v + o v ≡ units_at n.heads x v + i v)
      → sum_below (arcs n) (λ a. w (tail n a) (get_or x a 0)) + sum_below (nodes n) (λ v. w v (o v)) ≡ sum_below (arcs n) (λ a. w (head n a) (get_or x a 0)) + sum_below (nodes n) (λ v. w v (i v))
  node_balance x = balance w add (nodes n) n.tails n.heads x sound.heads_long sound.tails_in sound.heads_in

  pub exchange : (x y : List ℕ) → Flow n x → Flow n y
      → sum_below (arcs n) (λ a. w (tail n a) (get_or x a 0)) + sum_below (arcs n) (λ a. w (head n a) (get_or y a 0))
      ≡ sum_below (arcs n) (λ a. w (tail n a) (get_or y a 0)) + sum_below (arcs n) (λ a. w (head n a) (get_or x a 0))
  exchange x y f g = omega (arith, node_balance x (demand n) (supply n) f.kept, node_balance y (demand n) (supply n) g.kept)
