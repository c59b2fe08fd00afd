-- Shapes by their counts: the limits and the priced sum dart by dart, and back.
use mathlib.Core.Path.{◌≡◌, sym, ap, ◌∙◌}
use mathlib.Core.Bool.{true}
use mathlib.Core.List.{List}
use Prim.Native.Nat.{ℕ, ◌*◌, ◌/◌, ◌%◌, ◌≤◌, ◌<◌}
use native.Mathlib.Nat.{mul-le-mul_right}
use native.Mathlib.Omega.{arith}
use lib.ListN.{length, get_or}
use Rattle.finite.proofs.Sums.{sum_below, sum_le, sum_times, total_sum}
use Rattle.embedding.specs.Plates.{Plate, darts, strips}
use Rattle.embedding.proofs.Rotation.{Ordered}
use Rattle.shapes.specs.Shapes.{Shape, meets, bends, rights_of, shape_of}
use Rattle.shapes.specs.Claims.{is_flow}
use Rattle.shapes.specs.Rates.{Rates, Fair, pair_sums, all_within, priced_sum, keeps, price}
use Rattle.shapes.proofs.FlowFacts.{is_flow_parts}
use Rattle.shapes.proofs.Tamassia.{two_to_a_strip, shape_flow, flow_rights}
use Rattle.shapes.proofs.Strips.{price_at, priced_by_dart, StripWithin, within_darts, darts_within}

module _ (p : Plate) (o : Ordered p) (r : Rates) where
  -- the priced sum of right bends by dart
  abbrev pub priced_of : List ℕ → ℕ
  priced_of xs = sum_below (darts p) (λ d. price_at r.prices d * get_or xs d 0)

  pub priced_is : (xs : List ℕ) → length xs ≡ darts p → priced_sum r.prices (pair_sums xs) ≡ priced_of xs
  priced_is xs long =
      priced_by_dart r.prices xs (ap (λ (k : ℕ). k % 2) long ∙ o.even) ∙ ap (λ (k : ℕ). sum_below k (λ d. price_at r.prices d * get_or xs d 0)) long

  module _ (s : Shape) (m : meets p s ≡ true) where
    abbrev xs : List ℕ
    xs = rights_of s.words

    pub rights_count : length (rights_of s.words) ≡ darts p
    rights_count = (is_flow_parts p s.angles xs (shape_flow p o s m)).1

    pub shape_price : price r s ≡ priced_of (rights_of s.words)
    shape_price = priced_is xs rights_count

    pub shape_within : keeps r s ≡ true → (d : ℕ) → d < darts p → StripWithin r.limits (rights_of s.words) d
    shape_within k d l = within_darts r.limits xs (strips p) (rights_count ∙ sym (two_to_a_strip p o)) k d (omega (arith, two_to_a_strip p o))

    -- a bend costs at most 100
    pub price_most : Fair r → price r s ≤ 100 * bends s
    price_most fair =
        omega (
          arith,
          shape_price,
          sum_le (darts p) (λ d. price_at r.prices d * get_or xs d 0) (λ d. 100 * get_or xs d 0) (λ d l. mul-le-mul_right (get_or xs d 0) (fair.price_most (d / 2))),
          sum_times 100 (darts p) (λ d. get_or xs d 0),
          total_sum xs,
          ap (λ (k : ℕ). sum_below k (λ d. get_or xs d 0)) rights_count,
        )

  module _ (cs xs : List ℕ) (e : is_flow p cs xs ≡ true) where
    long : length xs ≡ darts p
    long = (is_flow_parts p cs xs e).1

    pub counts_price : price r (shape_of p cs xs) ≡ priced_of xs
    counts_price = ap (λ (k : List ℕ). priced_sum r.prices (pair_sums k)) (flow_rights p o cs xs e) ∙ priced_is xs long

    pub counts_keep : ((d : ℕ) → d < darts p → StripWithin r.limits xs d) → keeps r (shape_of p cs xs) ≡ true
    counts_keep w =
        ap (λ (k : List ℕ). all_within r.limits (pair_sums k)) (flow_rights p o cs xs e)
        ∙ darts_within r.limits xs (strips p) (long ∙ sym (two_to_a_strip p o)) (λ d l. w d (omega (arith, two_to_a_strip p o)))
