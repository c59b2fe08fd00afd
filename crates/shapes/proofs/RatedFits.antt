-- A best shape's right bends fit a byte each and their total two, and no strip bends both ways, whatever the prices: taking off what goes round a cycle, or along a strip both ways, leaves a flow,
-- and the best has nothing to take off.
use mathlib.Core.Path.{◌≡◌, ap}
use mathlib.Core.Bool.{true}
use mathlib.Core.List.{List, ◌++◌}
use mathlib.Core.Logic.{inl, inr}
use Prim.Native.Nat.{ℕ, ◌+◌, ◌-◌, ◌*◌, ◌/◌, ◌≤◌, ◌<◌}
use native.Mathlib.Nat.{mul-add, mul-le-mul_left, mul-le-mul_right}
use native.Mathlib.Omega.{arith}
use lib.ListN.{length, get_or, take, drop}
use lib.Seq.{get_or-take}
use Rattle.finite.proofs.Sums.{sum_le, sum_tight}
use Rattle.flow.specs.Network.{excess}
use Rattle.flow.proofs.Trims.{Trimmed, trim}
use Rattle.embedding.specs.Plates.{Plate, darts, twin}
use Rattle.embedding.proofs.Rotation.{Ordered, twin_dart}
use Rattle.embedding.proofs.Faultless.{Faultless}
use Rattle.shapes.specs.Shapes.{Shape, total, rights_of, shape_of}
use Rattle.shapes.specs.Claims.{is_flow}
use Rattle.shapes.specs.Rates.{Rates, Fair, BestBy}
use Rattle.shapes.specs.NetworkOf.{network_of}
use Rattle.shapes.proofs.Tables.{first_at, two_first}
use Rattle.shapes.proofs.Nodes.{arcs_are}
use Rattle.shapes.proofs.Flows.{is_flow_flow, parted_flow}
use Rattle.shapes.proofs.SoundNetwork.{network_sound}
use Rattle.shapes.proofs.Tamassia.{shape_flow, flow_shape}
use Rattle.shapes.proofs.Bytes.{unit_most, total_fits}
use Rattle.shapes.proofs.Straight.{both, straightened, less, straight_flow}
use Rattle.shapes.proofs.Strips.{price_at, Within, StripWithin}
use Rattle.shapes.proofs.RatedShapes.{rights_count, shape_price, shape_within, counts_price, counts_keep}

-- at a price of 1 or more, no fewer bends cost as much
price_same : (q x y : ℕ) → 1 ≤ q → y ≤ x → q * y ≡ q * x → y ≡ x
price_same q x y h l e =
    let k : y + (x - y) ≡ x = omega arith in
    omega (arith, ap (λ (z : ℕ). q * z) k, mul-add q y (x - y), mul-le-mul_right (x - y) h)

pub fewer_within : (l b c : ℕ) → c ≤ b → Within l b → Within l c
fewer_within l b c h (inl e) = inl e
fewer_within l b c h (inr e) = inr (omega arith)

module _ (p : Plate) (f : Faultless p) (o : Ordered p) (r : Rates) (fair : Fair r) (s : Shape) (best : BestBy p r s) where
  abbrev xs : List ℕ
  xs = rights_of s.words

  abbrev cs : List ℕ
  cs = s.angles

  xs_long : length xs ≡ darts p
  xs_long = rights_count p o r s best.meets_all

  -- a flow with no more bends on any dart has as many
  module _ (ds ys : List ℕ) (flow : is_flow p ds ys ≡ true) (no_more : (d : ℕ) → d < darts p → get_or ys d 0 ≤ get_or xs d 0) where
    left_within : (d : ℕ) → d < darts p → StripWithin r.limits ys d
    left_within d l =
        fewer_within (get_or r.limits (d / 2) 255) (get_or xs d 0 + get_or xs (twin d) 0) (get_or ys d 0 + get_or ys (twin d) 0) (omega (arith, no_more d l, no_more (twin d) (twin_dart p o d l)))
        (shape_within p o r s best.meets_all best.keeps_all d l)

    no_dearer : (d : ℕ) → d < darts p → price_at r.prices d * get_or ys d 0 ≤ price_at r.prices d * get_or xs d 0
    no_dearer d l = mul-le-mul_left (price_at r.prices d) (no_more d l)

    as_many : (d : ℕ) → d < darts p → get_or ys d 0 ≡ get_or xs d 0
    as_many d l =
        price_same (price_at r.prices d) (get_or xs d 0) (get_or ys d 0) (fair.some_price (d / 2)) (no_more d l)
        (sum_tight (darts p) (λ d. price_at r.prices d * get_or ys d 0) (λ d. price_at r.prices d * get_or xs d 0) no_dearer
        (omega (
          arith,
          best.cheapest (shape_of p ds ys) (flow_shape p o ds ys flow) (counts_keep p o r ds ys flow left_within),
          shape_price p o r s best.meets_all,
          counts_price p o r ds ys flow,
          sum_le (darts p) (λ d. price_at r.prices d * get_or ys d 0) (λ d. price_at r.prices d * get_or xs d 0) no_dearer,
        )) d l)

  trimmed : Trimmed (network_of p) (xs ++ cs)
  trimmed = trim (network_of p) (network_sound p f o) (xs ++ cs) (is_flow_flow p o xs cs (shape_flow p o s best.meets_all))

  abbrev ys : List ℕ
  ys = take (darts p) trimmed.flow

  abbrev ds : List ℕ
  ds = drop (darts p) trimmed.flow

  left_flow : is_flow p ds ys ≡ true
  left_flow = parted_flow p o trimmed.flow trimmed.is-flow

  no_more : (d : ℕ) → d < darts p → get_or ys d 0 ≤ get_or xs d 0
  no_more d l = omega (arith, get_or-take (darts p) trimmed.flow d 0 l, trimmed.below d, first_at xs cs (darts p) xs_long d l)

  nothing_taken : (d : ℕ) → d < darts p → get_or ys d 0 ≡ get_or xs d 0
  nothing_taken = as_many ds ys left_flow no_more

  pub best_near : (d : ℕ) → d < darts p → get_or (rights_of s.words) d 0 ≤ excess (network_of p)
  best_near d l =
      omega (arith, nothing_taken d l, get_or-take (darts p) trimmed.flow d 0 l, trimmed.near d (omega (arith, arcs_are p)), two_first (darts p) 0 1 d l)

  pub best_unit : (d : ℕ) → d < darts p → get_or (rights_of s.words) d 0 ≤ 198
  best_unit = unit_most p f o xs xs_long best_near

  pub best_total : total (rights_of s.words) < 65536
  best_total = total_fits p f o xs xs_long best_near

  pub best_one_way : (d : ℕ) → d < darts p → both p o xs d ≡ 0
  best_one_way d l =
      let straight = straightened p o xs in
      omega (arith, less p o xs d l, as_many cs straight (straight_flow p o xs cs (shape_flow p o s best.meets_all)) (λ e m. omega (arith, less p o xs e m)) d l)
