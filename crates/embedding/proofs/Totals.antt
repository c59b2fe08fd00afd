-- Sums over all darts: by twins, and by the posts where they end.
use mathlib.Core.Path.{◌≡◌, ap, ◌∙◌}
use mathlib.Core.Bool.{Bool}
use Prim.Native.Nat.{ℕ, ◌<◌}
use lib.Dec.{eqb}
use Rattle.finite.proofs.Orbit.{sum_through}
use Rattle.finite.proofs.Sums.{sum_below, sum_cong, sum_swap, sum_at}
use Rattle.finite.proofs.Tests.{eqb_turned}
use Rattle.embedding.specs.Plates.{when, Plate, darts, twin, ends_at}
use Rattle.embedding.proofs.Rotation.{Ordered, leaves_below, twin_dart, twin_one_to_one}

-- a number for each dart, summed over the darts that end at v
abbrev pub end_sum : Plate → (ℕ → ℕ) → ℕ → ℕ
end_sum p g v = sum_below (darts p) (λ d. when (eqb (ends_at p d) v) (g d))

module _ (p : Plate) (o : Ordered p) where
  pub ends_at_below : (d : ℕ) → d < darts p → ends_at p d < p.posts
  ends_at_below d l = leaves_below p o (twin d) (twin_dart p o d l)

  pub twins_sum : (g : ℕ → ℕ) → sum_below (darts p) (λ d. g (twin d)) ≡ sum_below (darts p) g
  twins_sum = sum_through twin (darts p) (twin_one_to_one p o)

  -- each dart ends at one post
  pub posts_sum : (g : ℕ → ℕ) → sum_below p.posts (end_sum p g) ≡ sum_below (darts p) g
  posts_sum g =
      sum_swap p.posts (darts p) (λ v d. when (eqb (ends_at p d) v) (g d))
      ∙ sum_cong (darts p) (λ d. sum_below p.posts (λ v. when (eqb (ends_at p d) v) (g d))) g
      (λ d l. sum_cong p.posts (λ v. when (eqb (ends_at p d) v) (g d)) (λ v. when (eqb v (ends_at p d)) (g d)) (λ v k. ap (λ (b : Bool). when b (g d)) (eqb_turned (ends_at p d) v))
      ∙ sum_at p.posts (ends_at p d) (λ v. g d) (ends_at_below d l))
