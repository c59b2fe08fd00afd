-- A best shape's flow is the least one: what outweighs in the cost comes first in the order.
use mathlib.Core.Path.{◌≡◌, sym, ap, ap₂, subst, ◌∙◌}
use mathlib.Core.Bool.{Bool, true, ◌&&◌, ◌||◌}
use mathlib.Core.List.{List, ◌++◌}
use mathlib.Core.Logic.{◌⊎◌, inl, inr, ⊎_elim}
use Prim.Native.Nat.{ℕ, ◌+◌, ◌*◌, ◌≤◌, ◌<◌}
use native.Mathlib.Decide.{dec_lt}
use native.Mathlib.Omega.{arith}
use Rattle.flow.specs.Network.{Flow, Least, cost_of}
use Rattle.embedding.specs.Plates.{Plate, darts}
use Rattle.embedding.proofs.Rotation.{Ordered}
use Rattle.embedding.proofs.Faultless.{Faultless}
use Rattle.shapes.specs.Shapes.{cornered, Shape, meets, bends, rights_of, total, smaller, same, shape_of}
use Rattle.shapes.specs.Claims.{is_flow}
use Rattle.shapes.specs.Rates.{Rates, Fair, keeps, price, BestBy}
use Rattle.shapes.specs.NetworkOf.{is_joint, rated_of}
use Rattle.shapes.proofs.FlowFacts.{is_flow_parts}
use Rattle.shapes.proofs.Tamassia.{shape_flow, flow_shape, flow_rights}
use Rattle.shapes.proofs.Order.{smaller_parts}
use Rattle.shapes.proofs.Apart.{apart_order}
use Rattle.shapes.proofs.Corners.{cornered_most}
use Rattle.shapes.proofs.RatedOrder.{Then, by_counts, first_facts}
use Rattle.shapes.proofs.RatedShapes.{shape_price, shape_within, counts_price, counts_keep}
use Rattle.shapes.proofs.RatedFits.{best_total}
use Rattle.shapes.proofs.RatedCounts.{costly, on_arcs, counts_cost, counts_flow, units_of, angles_of, flow_counts, counts_within, counts_cheaper, counts_only}

-- a priced sum, cornered posts and bends, weighed
abbrev pub weight : Plate → Rates → Shape → ℕ
weight p r s = 4294967296 * price r s + (65536 * cornered p s + bends s)

module _ (p : Plate) (f : Faultless p) (o : Ordered p) (r : Rates) (fair : Fair r) (s : Shape) (best : BestBy p r s) where
  abbrev xs : List ℕ
  xs = rights_of s.words

  abbrev cs : List ℕ
  cs = s.angles

  flow : is_flow p cs xs ≡ true
  flow = shape_flow p o s best.meets_all

  abbrev pub flow_of : List ℕ
  flow_of = rights_of s.words ++ on_arcs p r o s.angles

  pub best_flow : Flow (rated_of p r) flow_of
  best_flow = counts_flow p r o cs xs flow (shape_within p o r s best.meets_all best.keeps_all)

  pub best_cost : cost_of (rated_of p r).costs flow_of ≡ weight p r s
  best_cost = omega (arith, counts_cost p r o cs xs flow, shape_price p o r s best.meets_all)

  few_corners : cornered p s ≤ 64
  few_corners = omega (arith, cornered_most p cs, f.posts_most)

  few_bends : bends s < 65536
  few_bends = best_total p f o r fair s best

  -- any other shape weighs more, or as much and does not come first
  against : (u : Shape) → meets p u ≡ true → keeps r u ≡ true → Then (weight p r s) (weight p r u) ((u ≡ s) ⊎ (by_counts p r s u ≡ true))
  against u m k = go (dec_lt (price r s) (price r u))
    where
      weigh : Then (price r s) (price r u) (Then (cornered p s) (cornered p u) (Then (bends s) (bends u) (by_counts p r s u ≡ true))) → Then (weight p r s) (weight p r u) ((u ≡ s) ⊎ (by_counts p r s u ≡ true))
      weigh (inl l) = inl (omega (arith, few_corners, few_bends))
      weigh (inr (e, inl l)) = inl (omega (arith, few_bends))
      weigh (inr (e, inr (d, inl l))) = inl (omega arith)
      weigh (inr (e, inr (d, inr (b, h)))) = inr (omega arith, inr h)

      go : Dec (price r s < price r u) → Then (weight p r s) (weight p r u) ((u ≡ s) ⊎ (by_counts p r s u ≡ true))
      go (yes l) = weigh (inl l)
      go (no l) =
          ⊎_elim (λ e. inr (ap (weight p r) (sym e), inl e)) (λ e. weigh (first_facts p r s u e))
          (best.first u m k (omega (arith, best.cheapest u m k)))

  module _ (y : List ℕ) (g : Flow (rated_of p r) y) where
    abbrev us : List ℕ
    us = units_of p r o y g

    abbrev al : List ℕ
    al = angles_of p r o y g

    abbrev u : Shape
    u = shape_of p al us

    counts : is_flow p al us ≡ true
    counts = flow_counts p r o y g

    versus : Then (weight p r s) (weight p r u) ((u ≡ s) ⊎ (by_counts p r s u ≡ true))
    versus = against u (flow_shape p o al us counts) (counts_keep p o r al us counts (counts_within p r o y g))

    weight_is : weight p r u ≡ costly p r o us (cornered p u)
    weight_is = omega (arith, counts_price p o r al us counts, ap total (flow_rights p o al us counts))

    weighs_less : weight p r u ≤ cost_of (rated_of p r).costs y
    weighs_less = omega (arith, weight_is, counts_cheaper p r o y g)

    cheaper : cost_of (rated_of p r).costs flow_of ≤ cost_of (rated_of p r).costs y
    cheaper = by versus
      where
        by : Then (weight p r s) (weight p r u) ((u ≡ s) ⊎ (by_counts p r s u ≡ true)) → cost_of (rated_of p r).costs flow_of ≤ cost_of (rated_of p r).costs y
        by (inl l) = omega (arith, best_cost, weighs_less)
        by (inr (e, h)) = omega (arith, best_cost, weighs_less)

    -- as cheap a flow is its counts' flow
    module _ (e : cost_of (rated_of p r).costs y ≡ cost_of (rated_of p r).costs flow_of) where
      its_own : weight p r s ≡ weight p r u → y ≡ us ++ on_arcs p r o al
      its_own q = counts_only p r o y g (omega (arith, best_cost, weight_is))

      ours : u ≡ s → us ++ on_arcs p r o al ≡ flow_of
      ours q = ap₂ (λ (k l : List ℕ). k ++ on_arcs p r o l) (sym (flow_rights p o al us counts) ∙ ap (λ (v : Shape). rights_of v.words) q) (ap (λ (v : Shape). v.angles) q)

      later : by_counts p r s u ≡ true → smaller flow_of (us ++ on_arcs p r o al) ≡ true
      later h =
          smaller_parts xs (on_arcs p r o cs) us (on_arcs p r o al) ((is_flow_parts p cs xs flow).1 ∙ sym (is_flow_parts p al us counts).1)
          ∙ ap (λ (b : Bool). smaller xs us || (same xs us && b)) (apart_order (is_joint p) (darts p) cs al (is_flow_parts p cs xs flow).0 (is_flow_parts p al us counts).0)
          ∙ subst (λ (k : List ℕ). smaller xs k || (same xs k && smaller cs al) ≡ true) (flow_rights p o al us counts) h

      sooner : (y ≡ flow_of) ⊎ (smaller flow_of y ≡ true)
      sooner = by versus
        where
          by : Then (weight p r s) (weight p r u) ((u ≡ s) ⊎ (by_counts p r s u ≡ true)) → (y ≡ flow_of) ⊎ (smaller flow_of y ≡ true)
          by (inl l) = absurd (omega (arith, best_cost, weighs_less))
          by (inr (q, inl h)) = inl (its_own q ∙ ours h)
          by (inr (q, inr h)) = inr (subst (λ (k : List ℕ). smaller flow_of k ≡ true) (sym (its_own q)) (later h))

  pub best_least : Least (rated_of p r) flow_of
  best_least = record { flow = best_flow; cheapest = cheaper; first = sooner }
