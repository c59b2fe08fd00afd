-- What a plate's network has left over once each corner has its one unit: few enough for a byte.
use mathlib.Core.Path.{◌≡◌, refl, ap}
use mathlib.Core.Bool.{Bool, true, false}
use mathlib.Core.List.{List, [], ◌∷◌}
use Prim.Native.Nat.{ℕ, zero, suc, ◌+◌, ◌≤◌, ◌<◌}
use native.Mathlib.Omega.{arith}
use lib.Dec.{eqb}
use lib.ListN.{length, get_or, replicate, length-replicate, get_or-replicate}
use Rattle.finite.proofs.Sums.{sum_split, sum_below, sum_over, sum_cong, sum_add, sum_le, sum_over_ones, sum_constant}
use Rattle.flow.specs.Network.{when, excess_at, excess}
use Rattle.flow.proofs.Trims.{excess_sum}
use Rattle.embedding.specs.Plates.{pick, Plate, darts, strips, twin, ends_at, degree, face_of, faces}
use Rattle.embedding.proofs.Rotation.{Ordered}
use Rattle.embedding.proofs.Faultless.{Faultless}
use Rattle.embedding.proofs.Degrees.{degree_ends, degrees_sum, degree_most, darts_few}
use Rattle.shapes.specs.NetworkOf.{is_outer, network_of}
use Rattle.shapes.proofs.Nodes.{nodes_are, post_supply, post_demand, face-supply, face-demand, post_out, post_in, face_in}
use Rattle.shapes.proofs.Supplies.{face_some}

-- a number below c stands in a row of c's
get_d_most : (n c i : ℕ) → get_or (replicate n c) i 0 ≤ c
get_d_most zero c i = omega arith
get_d_most (suc n) c zero = omega arith
get_d_most (suc n) c (suc i) = get_d_most n c i

over_most : (ds : List ℕ) (g : ℕ → ℕ) (c : ℕ) → ((d : ℕ) → g d ≤ c) → sum_over ds g ≤ sum_over ds (λ d. c)
over_most [] g c h = omega arith
over_most (d ∷ ds) g c h = omega (arith, h d, over_most ds g c h)

over_zeros : (ds : List ℕ) → sum_over ds (λ d. 0) ≡ 0
over_zeros [] = refl
over_zeros (d ∷ ds) = omega (arith, over_zeros ds)

supply_most : (b : Bool) → pick b 0 4 ≤ 4
supply_most true = omega arith
supply_most false = omega arith

module _ (p : Plate) (f : Faultless p) (o : Ordered p) where
  abbrev zeros : List ℕ
  zeros = replicate (darts p) 0

  abbrev ones : List ℕ
  ones = replicate (darts p) 1

  -- at a post, what its degree leaves of four
  post_excess : (v : ℕ) → v < p.posts → excess_at (network_of p) v + degree p v ≡ 4
  post_excess v l =
      omega (
        arith,
        post_supply p v l,
        post_demand p v l,
        degree_most p f v l,
        degree_ends p o v,
        post_out p o zeros ones (length-replicate (darts p) 0) (length-replicate (darts p) 1) v l,
        post_in p o zeros ones (length-replicate (darts p) 0) (length-replicate (darts p) 1) v l,
        sum_cong (darts p) (λ d. when (eqb (ends_at p d) v) (get_or ones d 0)) (λ d. when (eqb (ends_at p d) v) 1) (λ d k. ap (when (eqb (ends_at p d) v)) (get_or-replicate (darts p) d 1 0 k)),
      )

  -- at a face of degree k at most what k leaves of four
  face_excess : (i : ℕ) → i < length (faces p) → excess_at (network_of p) (p.posts + i) ≤ 3
  face_excess i l =
      let d = get_or (faces p) i 0 in
      omega (
        arith,
        face-supply p i l,
        face-demand p i l,
        supply_most (is_outer p d),
        face_some p o i l,
        face_in p o zeros ones (length-replicate (darts p) 0) (length-replicate (darts p) 1) i l,
        over_most (face_of p d) (λ e. get_or zeros (twin e) 0) 0 (λ e. get_d_most (darts p) 0 (twin e)),
        over_zeros (face_of p d),
        over_most (face_of p d) (λ e. get_or ones e 0) 1 (λ e. get_d_most (darts p) 1 e),
        sum_over_ones (face_of p d),
      )

  pub excess_most : excess (network_of p) ≤ p.posts + strips p + 6
  excess_most =
      let e : ℕ → ℕ = excess_at (network_of p) in
      omega (
        arith,
        excess_sum (network_of p),
        ap (λ (k : ℕ). sum_below k e) (nodes_are p),
        sum_split p.posts (length (faces p)) e,
        sum_add p.posts e (degree p),
        sum_cong p.posts (λ v. e v + degree p v) (λ v. 4) post_excess,
        sum_constant p.posts 4,
        degrees_sum p o,
        sum_le (length (faces p)) (λ i. e (p.posts + i)) (λ i. 3) face_excess,
        sum_constant (length (faces p)) 3,
        f.euler,
        o.even,
      )

  pub excess_few : p.posts + strips p + 6 ≤ 198
  excess_few = omega (arith, darts_few p f o, f.posts_most)
