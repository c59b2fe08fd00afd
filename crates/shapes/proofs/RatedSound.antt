-- A plate's network with limits and prices is one that the solver takes: its excess is that of the plain one.
use mathlib.Core.Path.{◌≡◌, sym, ap, ap₂, ◌∙◌}
use mathlib.Core.Bool.{Bool, true, false}
use mathlib.Core.List.{List, ◌++◌}
use Prim.Native.Nat.{ℕ, ◌+◌, ◌/◌, ◌≤◌, ◌<◌}
use native.Mathlib.Omega.{arith}
use lib.ListN.{length}
use Rattle.finite.proofs.Sums.{sum_cong}
use Rattle.flow.specs.Network.{Sound, units_at, excess_at, excess, cost_most, total}
use Rattle.flow.proofs.Names.{nodes, tail, head, lower, upper, cost}
use Rattle.flow.proofs.Trims.{excess_sum}
use Rattle.embedding.specs.Plates.{pick, Plate, darts, twin, ends_at, faces}
use Rattle.embedding.proofs.Rotation.{Ordered, twin_dart}
use Rattle.embedding.proofs.Faultless.{Faultless}
use Rattle.embedding.proofs.Totals.{ends_at_below}
use Rattle.embedding.proofs.Degrees.{darts_few}
use Rattle.shapes.specs.Rates.{Rates, Fair, pair_sums}
use Rattle.shapes.specs.NetworkOf.{table, pairs, face_node, is_joint, bend_most, bend_cost, network_of, rated_of}
use Rattle.shapes.proofs.Tables.{length_table, total_append}
use Rattle.shapes.proofs.Places.{index_below}
use Rattle.shapes.proofs.Nodes.{nodes_are}
use Rattle.shapes.proofs.SoundNetwork.{network_sound}
use Rattle.shapes.proofs.Pairs.{length_pairs, sums_pairs, sums_total}
use Rattle.shapes.proofs.Arcs.{arc_cases, arcs_long, at_bend, at_low, at_high, units_one, table_same}
use Rattle.shapes.proofs.RatedFlows.{rated_arcs}

joint_uppers : (b : Bool) → 1 ≤ pick b 2 4
joint_uppers true = omega arith
joint_uppers false = omega arith

module _ (p : Plate) (r : Rates) where
  abbrev none : List ℕ
  none = table (darts p) (λ d. 0)

  abbrev firsts : List ℕ
  firsts = pairs (darts p) (λ d. 1) (λ d. 0)

  lowers_one : none ++ pair_sums firsts ≡ (network_of p).lowers
  lowers_one = ap₂ (λ (xs ys : List ℕ). xs ++ ys) (table_same (darts p) 0) (sums_pairs (darts p) (λ d. 1) (λ d. 0) ∙ table_same (darts p) 1)

  least_one : (f g : ℕ → ℕ) (v : ℕ) → units_at (table (darts p) f ++ pairs (darts p) g g) (rated_of p r).lowers v ≡ units_at (table (darts p) f ++ table (darts p) g) (network_of p).lowers v
  least_one f g v =
      units_one (darts p) f g none firsts v (length_table (darts p) (λ d. 0)) (length_pairs (darts p) (λ d. 1) (λ d. 0))
      ∙ ap (λ (xs : List ℕ). units_at (table (darts p) f ++ table (darts p) g) xs v) lowers_one

  at_same : (v : ℕ) → excess_at (rated_of p r) v ≡ excess_at (network_of p) v
  at_same v = omega (arith, least_one (λ d. face_node p d) (λ d. ends_at p d) v, least_one (λ d. face_node p (twin d)) (λ d. face_node p d) v)

  pub excess_same : excess (rated_of p r) ≡ excess (network_of p)
  excess_same = excess_sum (rated_of p r) ∙ sum_cong (nodes (rated_of p r)) (excess_at (rated_of p r)) (excess_at (network_of p)) (λ v l. at_same v) ∙ sym (excess_sum (network_of p))

  lowers_total : total (rated_of p r).lowers ≡ total (network_of p).lowers
  lowers_total = omega (arith, total_append none firsts, sums_total firsts, total_append none (pair_sums firsts), ap total lowers_one)

  module _ (f : Faultless p) (o : Ordered p) (fair : Fair r) where
    abbrev K : ℕ
    K = p.posts + length (faces p)

    face_node_below : (d : ℕ) → d < darts p → face_node p d < K
    face_node_below d l = omega (arith, index_below p o d l)

    pub rated_sound : Sound (rated_of p r)
    rated_sound =
        let s = network_sound p f o in
        let m = darts p in
        record {
          heads_long = arcs_long m (λ d. face_node p (twin d)) (λ d. face_node p d) (λ d. face_node p d) ∙ sym (rated_arcs p r);
          lowers_long = arcs_long m (λ d. 0) (λ d. 1) (λ d. 0) ∙ sym (rated_arcs p r);
          uppers_long = arcs_long m (λ d. bend_most r.limits d) (λ d. pick (is_joint p d) 2 4) (λ d. pick (is_joint p d) 1 0) ∙ sym (rated_arcs p r);
          costs_long = arcs_long m (λ d. bend_cost r.prices d) (λ d. 0) (λ d. 65536) ∙ sym (rated_arcs p r);
          demands_long = s.demands_long;
          arcs_few = omega (arith, rated_arcs p r, darts_few p f o);
          nodes_few = s.nodes_few;
          tails_in = λ a l. arc_cases (λ a. tail (rated_of p r) a < nodes (rated_of p r)) m
              (λ d k. omega (arith, nodes_are p, at_bend m (λ d. face_node p d) (λ d. ends_at p d) (λ d. ends_at p d) d k, face_node_below d k))
              (λ d k. omega (arith, nodes_are p, at_low m (λ d. face_node p d) (λ d. ends_at p d) (λ d. ends_at p d) d k, ends_at_below p o d k))
              (λ d k. omega (arith, nodes_are p, at_high m (λ d. face_node p d) (λ d. ends_at p d) (λ d. ends_at p d) d k, ends_at_below p o d k)) a (omega (arith, rated_arcs p r));
          heads_in = λ a l. arc_cases (λ a. head (rated_of p r) a < nodes (rated_of p r)) m
              (λ d k. omega (arith, nodes_are p, at_bend m (λ d. face_node p (twin d)) (λ d. face_node p d) (λ d. face_node p d) d k, face_node_below (twin d) (twin_dart p o d k)))
              (λ d k. omega (arith, nodes_are p, at_low m (λ d. face_node p (twin d)) (λ d. face_node p d) (λ d. face_node p d) d k, face_node_below d k))
              (λ d k. omega (arith, nodes_are p, at_high m (λ d. face_node p (twin d)) (λ d. face_node p d) (λ d. face_node p d) d k, face_node_below d k)) a (omega (arith, rated_arcs p r));
          ordered = λ a l. arc_cases (λ a. lower (rated_of p r) a ≤ upper (rated_of p r) a) m
              (λ d k. omega (arith, at_bend m (λ d. 0) (λ d. 1) (λ d. 0) d k))
              (λ d k. omega (arith, at_low m (λ d. 0) (λ d. 1) (λ d. 0) d k, at_low m (λ d. bend_most r.limits d) (λ d. pick (is_joint p d) 2 4) (λ d. pick (is_joint p d) 1 0) d k, joint_uppers (is_joint p d)))
              (λ d k. omega (arith, at_high m (λ d. 0) (λ d. 1) (λ d. 0) d k)) a (omega (arith, rated_arcs p r));
          cheap = λ a l. arc_cases (λ a. cost (rated_of p r) a < cost_most) m
              (λ d k. omega (arith, at_bend m (λ d. bend_cost r.prices d) (λ d. 0) (λ d. 65536) d k, fair.price_most (d / 2)))
              (λ d k. omega (arith, at_low m (λ d. bend_cost r.prices d) (λ d. 0) (λ d. 65536) d k))
              (λ d k. omega (arith, at_high m (λ d. bend_cost r.prices d) (λ d. 0) (λ d. 65536) d k)) a (omega (arith, rated_arcs p r));
          even = s.even;
          small = omega (arith, s.small, lowers_total);
          few = omega (arith, s.few, excess_same);
        }
