-- The flows of a plate's network with limits and prices: flows that `is_flow` tests, within the limits, each corner on two arcs; what they cost.
use mathlib.Core.Path.{◌≡◌, sym, ap, subst, ◌∙◌}
use mathlib.Core.Bool.{Bool, true, false}
use mathlib.Core.List.{List, ◌++◌}
use mathlib.Core.Logic.{◌⊎◌, inl, inr}
use Prim.Native.Nat.{ℕ, suc, ◌+◌, ◌*◌, ◌≤◌, ◌<◌}
use native.Mathlib.Nat.{add-mul, mul_comm, mul_assoc}
use native.Mathlib.Omega.{arith}
use lib.ListN.{length, get_or, take, drop, length-append, length-drop, take-append-drop}
use lib.Seq.{length-take-le}
use Rattle.finite.proofs.Sums.{sum_below, sum_cong, sum_add, sum_times, total_sum}
use Rattle.flow.specs.Network.{Flow, units_at, cost_of, unbounded}
use Rattle.flow.proofs.Names.{arcs, lower, upper}
use Rattle.embedding.specs.Plates.{pick, Plate, darts, twin, ends_at}
use Rattle.embedding.proofs.Rotation.{Ordered}
use Rattle.shapes.specs.Shapes.{total}
use Rattle.shapes.specs.Claims.{is_flow}
use Rattle.shapes.specs.Rates.{Rates, pair_sums}
use Rattle.shapes.specs.NetworkOf.{face_node, is_joint, bend_most, bend_cost, network_of, rated_of}
use Rattle.shapes.proofs.Tables.{first_at, second_at, two_first, two_second, by_parts}
use Rattle.shapes.proofs.Nodes.{arcs_are}
use Rattle.shapes.proofs.Flows.{flow_is_flow, is_flow_flow}
use Rattle.shapes.proofs.Strips.{price_at}
use Rattle.shapes.proofs.Pairs.{sums_at, sums_long}
use Rattle.shapes.proofs.Arcs.{arc_cases, arcs_long, at_bend, at_low, at_high, units_one, cost_arcs}

-- the bounds of the arcs
pub record Fits (p : Plate) (r : Rates) (xs zs : List ℕ) : Type 0 where
  pub bend-most : (d : ℕ) → d < darts p → (bend_most r.limits d ≡ unbounded) ⊎ (get_or xs d 0 ≤ bend_most r.limits d)
  pub low_least : (d : ℕ) → d < darts p → 1 ≤ get_or zs (d + d) 0
  pub low_most : (d : ℕ) → d < darts p → get_or zs (d + d) 0 ≤ pick (is_joint p d) 2 4
  pub high_most : (d : ℕ) → d < darts p → get_or zs (suc (d + d)) 0 ≤ pick (is_joint p d) 1 0

four_most : (b : Bool) → pick b 2 4 + pick b 1 0 ≤ 4
four_most true = omega arith
four_most false = omega arith

small_uppers : (b : Bool) → (pick b 2 4 < 65535) × (pick b 1 0 < 65535)
small_uppers true = (omega arith, omega arith)
small_uppers false = (omega arith, omega arith)

cost_parts : (q x : ℕ) → (q * 4294967296 + 1) * x ≡ 4294967296 * (q * x) + x
cost_parts q x = omega (arith, add-mul (q * 4294967296) 1 x, ap (λ (k : ℕ). k * x) (mul_comm q 4294967296), mul_assoc 4294967296 q x)

module _ (p : Plate) (r : Rates) where
  pub rated_arcs : arcs (rated_of p r) ≡ darts p + (darts p + darts p)
  rated_arcs = arcs_long (darts p) (λ d. face_node p d) (λ d. ends_at p d) (λ d. ends_at p d)

  module _ (o : Ordered p) (xs zs : List ℕ) (xs_long : length xs ≡ darts p) (zs_long : length zs ≡ darts p + darts p) where
    abbrev low : ℕ → ℕ
    low d = get_or zs (d + d) 0

    abbrev high : ℕ → ℕ
    high d = get_or zs (suc (d + d)) 0

    x_bend : (d : ℕ) → d < darts p → get_or (xs ++ zs) d 0 ≡ get_or xs d 0
    x_bend d l = first_at xs zs (darts p) xs_long d l

    x_low : (d : ℕ) → get_or (xs ++ zs) (darts p + (d + d)) 0 ≡ low d
    x_low d = second_at xs zs (darts p) xs_long (d + d)

    x_high : (d : ℕ) → get_or (xs ++ zs) (darts p + suc (d + d)) 0 ≡ high d
    x_high d = second_at xs zs (darts p) xs_long (suc (d + d))

    bound : (u x : ℕ) → u < 65535 → (u ≡ unbounded) ⊎ (x ≤ u) → x ≤ u
    bound u x l (inl e) = absurd (omega arith)
    bound u x l (inr h) = h

    pub flow_fits : Flow (rated_of p r) (xs ++ zs) → Fits p r xs zs
    flow_fits f = record {
      bend-most = λ d l.
          subst (λ (u : ℕ). (u ≡ unbounded) ⊎ (get_or xs d 0 ≤ u)) (at_bend (darts p) (λ d. bend_most r.limits d) (λ d. pick (is_joint p d) 2 4) (λ d. pick (is_joint p d) 1 0) d l)
          (subst (λ (x : ℕ). (upper (rated_of p r) d ≡ unbounded) ⊎ (x ≤ upper (rated_of p r) d)) (x_bend d l) (f.below d (omega (arith, rated_arcs))));
      low_least = λ d l. omega (arith, f.above (darts p + (d + d)) (omega (arith, rated_arcs)), at_low (darts p) (λ d. 0) (λ d. 1) (λ d. 0) d l, x_low d);
      low_most = λ d l.
          let e = at_low (darts p) (λ d. bend_most r.limits d) (λ d. pick (is_joint p d) 2 4) (λ d. pick (is_joint p d) 1 0) d l in
          omega (arith, bound (upper (rated_of p r) (darts p + (d + d))) (get_or (xs ++ zs) (darts p + (d + d)) 0) (omega (arith, e, small_uppers (is_joint p d))) (f.below (darts p + (d + d)) (omega (arith, rated_arcs))), e, x_low d);
      high_most = λ d l.
          let e = at_high (darts p) (λ d. bend_most r.limits d) (λ d. pick (is_joint p d) 2 4) (λ d. pick (is_joint p d) 1 0) d l in
          omega (arith, bound (upper (rated_of p r) (darts p + suc (d + d))) (get_or (xs ++ zs) (darts p + suc (d + d)) 0) (omega (arith, e, small_uppers (is_joint p d))) (f.below (darts p + suc (d + d)) (omega (arith, rated_arcs))), e, x_high d);
    }

    tails_one : (v : ℕ) → units_at (rated_of p r).tails (xs ++ zs) v ≡ units_at (network_of p).tails (xs ++ pair_sums zs) v
    tails_one v = units_one (darts p) (λ d. face_node p d) (λ d. ends_at p d) xs zs v xs_long zs_long

    heads_one : (v : ℕ) → units_at (rated_of p r).heads (xs ++ zs) v ≡ units_at (network_of p).heads (xs ++ pair_sums zs) v
    heads_one v = units_one (darts p) (λ d. face_node p (twin d)) (λ d. face_node p d) xs zs v xs_long zs_long

    cs_at : (d : ℕ) → d < darts p → get_or (xs ++ pair_sums zs) (darts p + d) 0 ≡ low d + high d
    cs_at d l = second_at xs (pair_sums zs) (darts p) xs_long d ∙ sums_at zs d

    pub flow_plain : Flow (rated_of p r) (xs ++ zs) → is_flow p (pair_sums zs) xs ≡ true
    flow_plain f =
        let b = flow_fits f in
        flow_is_flow p o xs (pair_sums zs) xs_long (record {
          long = omega (arith, arcs_are p, length-append xs (pair_sums zs), sums_long (darts p) zs zs_long);
          above = λ a l. by_parts (λ a. lower (network_of p) a ≤ get_or (xs ++ pair_sums zs) a 0) (darts p) (darts p)
              (λ d k. omega (arith, two_first (darts p) 0 1 d k))
              (λ d k. omega (arith, two_second (darts p) 0 1 d k, cs_at d k, b.low_least d k)) a (omega (arith, arcs_are p));
          below = λ a l. by_parts (λ a. (upper (network_of p) a ≡ unbounded) ⊎ (get_or (xs ++ pair_sums zs) a 0 ≤ upper (network_of p) a)) (darts p) (darts p)
              (λ d k. inl (two_first (darts p) unbounded 4 d k))
              (λ d k. inr (omega (arith, two_second (darts p) unbounded 4 d k, cs_at d k, b.low_most d k, b.high_most d k, four_most (is_joint p d)))) a (omega (arith, arcs_are p));
          kept = λ v l. omega (arith, f.kept v l, tails_one v, heads_one v);
        })

    pub plain_flow : is_flow p (pair_sums zs) xs ≡ true → Fits p r xs zs → Flow (rated_of p r) (xs ++ zs)
    plain_flow e b =
        let f = is_flow_flow p o xs (pair_sums zs) e in
        record {
          long = omega (arith, rated_arcs, length-append xs zs);
          above = λ a l. arc_cases (λ a. lower (rated_of p r) a ≤ get_or (xs ++ zs) a 0) (darts p)
              (λ d k. omega (arith, at_bend (darts p) (λ d. 0) (λ d. 1) (λ d. 0) d k))
              (λ d k. omega (arith, at_low (darts p) (λ d. 0) (λ d. 1) (λ d. 0) d k, x_low d, b.low_least d k))
              (λ d k. omega (arith, at_high (darts p) (λ d. 0) (λ d. 1) (λ d. 0) d k)) a (omega (arith, rated_arcs));
          below = λ a l. arc_cases (λ a. (upper (rated_of p r) a ≡ unbounded) ⊎ (get_or (xs ++ zs) a 0 ≤ upper (rated_of p r) a)) (darts p)
              (λ d k.
              subst (λ (u : ℕ). (u ≡ unbounded) ⊎ (get_or (xs ++ zs) d 0 ≤ u)) (sym (at_bend (darts p) (λ d. bend_most r.limits d) (λ d. pick (is_joint p d) 2 4) (λ d. pick (is_joint p d) 1 0) d k))
              (subst (λ (x : ℕ). (bend_most r.limits d ≡ unbounded) ⊎ (x ≤ bend_most r.limits d)) (sym (x_bend d k)) (b.bend-most d k)))
              (λ d k. inr (omega (arith, at_low (darts p) (λ d. bend_most r.limits d) (λ d. pick (is_joint p d) 2 4) (λ d. pick (is_joint p d) 1 0) d k, x_low d, b.low_most d k)))
              (λ d k. inr (omega (arith, at_high (darts p) (λ d. bend_most r.limits d) (λ d. pick (is_joint p d) 2 4) (λ d. pick (is_joint p d) 1 0) d k, x_high d, b.high_most d k))) a (omega (arith, rated_arcs));
          kept = λ v l. omega (arith, f.kept v l, tails_one v, heads_one v);
        }

    -- the priced sum and the second arcs, weighed, and the bends
    abbrev pub priced : ℕ
    priced = sum_below (darts p) (λ d. price_at r.prices d * get_or xs d 0)

    abbrev pub seconds : ℕ
    seconds = sum_below (darts p) (λ d. get_or zs (suc (d + d)) 0)

    pub rated_cost : cost_of (rated_of p r).costs (xs ++ zs) ≡ 4294967296 * priced + (65536 * seconds + total xs)
    rated_cost =
        omega (
          arith,
          cost_arcs (darts p) (λ d. bend_cost r.prices d) 65536 xs zs xs_long zs_long,
          sum_cong (darts p) (λ d. bend_cost r.prices d * get_or xs d 0) (λ d. 4294967296 * (price_at r.prices d * get_or xs d 0) + get_or xs d 0) (λ d l. cost_parts (price_at r.prices d) (get_or xs d 0)),
          sum_add (darts p) (λ d. 4294967296 * (price_at r.prices d * get_or xs d 0)) (λ d. get_or xs d 0),
          sum_times 4294967296 (darts p) (λ d. price_at r.prices d * get_or xs d 0),
          total_sum xs,
          ap (λ (k : ℕ). sum_below k (λ d. get_or xs d 0)) xs_long,
        )

-- a flow's list parted
module _ (p : Plate) (r : Rates) (y : List ℕ) (f : Flow (rated_of p r) y) where
  pub bends_long : length (take (darts p) y) ≡ darts p
  bends_long = length-take-le (darts p) y (omega (arith, f.long, rated_arcs p r))

  pub corners_long : length (drop (darts p) y) ≡ darts p + darts p
  corners_long = omega (arith, length-drop (darts p) y, f.long, rated_arcs p r)

  pub parted : Flow (rated_of p r) (take (darts p) y ++ drop (darts p) y)
  parted = subst (λ (z : List ℕ). Flow (rated_of p r) z) (sym (take-append-drop (darts p) y)) f
