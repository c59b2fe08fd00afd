-- Units of at most the excess fit a byte each, and their total two.
use mathlib.Core.Path.{◌≡◌, ap}
use mathlib.Core.List.{List}
use Prim.Native.Nat.{ℕ, ◌≤◌, ◌<◌}
use native.Mathlib.Omega.{arith}
use lib.ListN.{length, get_or}
use Rattle.finite.proofs.Sums.{total_sum, sum_below, sum_le, sum_constant}
use Rattle.flow.specs.Network.{excess}
use Rattle.embedding.specs.Plates.{Plate, darts}
use Rattle.embedding.proofs.Rotation.{Ordered}
use Rattle.embedding.proofs.Faultless.{Faultless}
use Rattle.embedding.proofs.Degrees.{darts_few}
use Rattle.shapes.specs.Shapes.{total}
use Rattle.shapes.specs.NetworkOf.{network_of}
use Rattle.shapes.proofs.Excess.{excess_most, excess_few}

module _ (p : Plate) (f : Faultless p) (o : Ordered p) (xs : List ℕ) (long : length xs ≡ darts p)
    (most : (d : ℕ) → d < darts p → get_or xs d 0 ≤ excess (network_of p)) where
  pub unit_most : (d : ℕ) → d < darts p → get_or xs d 0 ≤ 198
  unit_most d l = omega (arith, most d l, excess_most p f o, excess_few p f o)

  pub total_fits : total xs < 65536
  total_fits =
      omega (arith, total_sum xs, ap (λ (k : ℕ). sum_below k (λ d. get_or xs d 0)) long, sum_le (darts p) (λ d. get_or xs d 0) (λ d. 198) unit_most, sum_constant (darts p) 198, darts_few p f o)
