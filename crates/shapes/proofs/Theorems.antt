-- The theorems of this crate in one place: what holds of every accepted plate and its shapes.
use mathlib.Core.Path.{◌≡◌, refl, sym, ap, ◌∙◌}
use mathlib.Core.Bool.{true}
use mathlib.Core.List.{List, ◌++◌}
use mathlib.Core.Logic.{◌↔◌, ◌⊎◌, inl, inr}
use Prim.Native.Nat.{ℕ, zero, suc, ◌≤◌, ◌<◌, min}
use native.Mathlib.Omega.{arith}
use lib.ListN.{length, get_or, take, drop}
use Rattle.std.specs.Prelude.{Option, Some, None}
use Rattle.flow.specs.Network.{Flow, Least, cost_of}
use Rattle.embedding.specs.Plates.{Plate, darts, twin}
use Rattle.shapes.specs.Shapes.{Shape, rights, lefts, nth_w, meets, bends, rights_of, total, shape_of}
use Rattle.shapes.specs.Claims.{Accepted, Best, Network, is_flow}
use Rattle.shapes.specs.Rates.{Rates, Fair, pair_sums, price, BestBy, NoShape}
use Rattle.shapes.specs.NetworkOf.{network_of, rated_of}
use Rattle.shapes.specs.BestOf.{BestHeld, Answers, angles_held, right_bends}
use Rattle.shapes.specs.declared.best.BestShape.{BestShape}
use Rattle.shapes.proofs.Accepted as Accepted
use Rattle.shapes.proofs.Flows.{flow_cost}
use Rattle.shapes.proofs.Words.{rights_at}
use Rattle.shapes.proofs.Meets.{meets_facts, lefts_at}
use Rattle.shapes.proofs.Tamassia.{shape_flow, flow_shape, flow_bends}
use Rattle.shapes.proofs.Straight.{never_both}
use Rattle.shapes.proofs.BestFits.{best_unit}
use Rattle.shapes.proofs.RatedOrder.{one_best_by}
use Rattle.shapes.proofs.RatedCounts.{on_arcs}
use Rattle.shapes.proofs.RatedFits.{best_unit as best_unit_by, best_total as best_total_by}
use Rattle.shapes.proofs.RatedShapes.{price_most}
use Rattle.shapes.proofs.Results.{held_only, answer_only}
pub use Rattle.shapes.proofs.Demands.{demand_3, demands, demand_by}

module _ (p : Plate) (a : Accepted p) where
  -- a shape with k bends exists exactly when a flow of cost k does
  pub network : Network p
  network = Accepted.network p a

  -- the flows of document 01's network, as lists of right bends and of angles, are the flows of its lists, and cost as much as they bend
  pub plain_flows : (xs cs : List ℕ) → ((length xs ≡ darts p) × Flow (network_of p) (xs ++ cs)) ↔ (is_flow p cs xs ≡ true)
  plain_flows = Accepted.flows p a

  pub plain_cost : (xs cs : List ℕ) → length xs ≡ darts p → cost_of (network_of p).costs (xs ++ cs) ≡ total xs
  plain_cost = flow_cost p (Accepted.ordered p a)

  -- what `best` gives depends on the plate alone
  pub plate_alone : (r s : BestShape) → BestHeld p r → BestHeld p s → r ≡ s
  plate_alone = held_only p

  -- no strip of a best shape has more than 198 right bends on a dart
  pub most_198 : (s : Shape) → Best p s → (d : ℕ) → d < darts p → get_or (rights_of s.words) d 0 ≤ 198
  most_198 s b = best_unit p a s b

  -- a shape with fewest bends bends no strip both ways
  module _ (u : Shape) (m : meets p u ≡ true) (fewest : (v : Shape) → meets p v ≡ true → bends u ≤ bends v) where
    one_way_counts : (d : ℕ) → d < darts p → min (get_or (rights_of u.words) d 0) (get_or (rights_of u.words) (twin d) 0) ≡ 0
    one_way_counts =
        never_both p (Accepted.ordered p a) (rights_of u.words) u.angles (shape_flow p (Accepted.ordered p a) u m)
        (λ zs f. omega (arith, fewest (shape_of p u.angles zs) (flow_shape p (Accepted.ordered p a) u.angles zs f), flow_bends p (Accepted.ordered p a) u.angles zs f))

    pub bends_one_way : (d : ℕ) → d < darts p → (rights (nth_w u.words d) ≡ 0) ⊎ (lefts (nth_w u.words d) ≡ 0)
    bends_one_way d l = go (rights (nth_w u.words d)) (lefts (nth_w u.words d)) (omega (arith, one_way_counts d l, rights_at u.words d, lefts_at (darts p) u.words (meets_facts p u m).twins d l))
      where
        go : (r l : ℕ) → min r l ≡ 0 → (r ≡ 0) ⊎ (l ≡ 0)
        go zero l e = inl (omega arith)
        go (suc r) zero e = inr (omega arith)
        go (suc r) (suc l) e = absurd (omega arith)

-- by limits and prices
module _ (p : Plate) (a : Accepted p) (r : Rates) (fair : Fair r) where
  -- the least flow of the network is the best shape's, and the best shape's flow is the least
  pub least_is_best : (x : List ℕ) → Least (rated_of p r) x → BestBy p r (shape_of p (pair_sums (drop (darts p) x)) (take (darts p) x))
  least_is_best x least = (Accepted.least_is_best p a r fair x least).0

  pub best_is_least : (s : Shape) → BestBy p r s → Least (rated_of p r) (rights_of s.words ++ on_arcs p r (Accepted.ordered p a) s.angles)
  best_is_least = Accepted.best_is_least p a r fair

  -- the counts of a best shape give its words
  pub best_counts : (s : Shape) → BestBy p r s → s ≡ shape_of p s.angles (rights_of s.words)
  best_counts s best =
      let (al, xs, other, rights) = Accepted.some_best p a r fair s best.meets_all best.keeps_all in
      let e : s ≡ shape_of p al xs = one_best_by p r s (shape_of p al xs) best other in
      e ∙ ap (shape_of p al) (sym rights) ∙ ap (λ (u : Shape). shape_of p u.angles (rights_of u.words)) (sym e)

  -- no strip of it has more than 198 right bends on a dart
  pub most_198_by : (s : Shape) → BestBy p r s → (d : ℕ) → d < darts p → get_or (rights_of s.words) d 0 ≤ 198
  most_198_by = best_unit_by p (Accepted.faultless p a) (Accepted.ordered p a) r fair

  -- its priced sum fits four bytes
  pub price_fits : (s : Shape) → BestBy p r s → price r s < 6553600
  price_fits s best = omega (arith, price_most p (Accepted.ordered p a) r s best.meets_all fair, best_total_by p (Accepted.faultless p a) (Accepted.ordered p a) r fair s best)

  -- `best_by` finds none exactly when no shape keeps the limits, and what it gives depends on the plate, the limits and the prices alone
  pub none_exactly : (o : Option BestShape) → Answers p r o → (o ≡ None) ↔ NoShape p r
  none_exactly (Some s) h = (λ e. cc, λ n. absurd (n (shape_of p (angles_held p s) (right_bends p s)) h.best.meets_all h.best.keeps_all))
  none_exactly None h = (λ e. h, λ n. refl)

  pub rates_alone : (b c : Option BestShape) → Answers p r b → Answers p r c → b ≡ c
  rates_alone = answer_only p r
