-- Each post of a plate without fault has one to four strip ends, and what else makes a plate without fault.
use mathlib.Core.Path.{◌≡◌, refl, sym, ap, ◌∙◌}
use mathlib.Core.Bool.{Bool, true, false, ◌&&◌, ◌||◌, not}
use Prim.Native.Nat.{ℕ, suc, ◌+◌, ◌*◌, ◌≤◌, ◌<◌}
use native.Mathlib.Decide.{dec_lt}
use native.Mathlib.Omega.{arith}
use borrow.Author.Tests.{eqb-true, eq-eqb, ltb-false, le-ltb, not-true}
use lib.Dec.{eqb, ltb}
use lib.ListN.{length}
use Rattle.finite.proofs.Members.{all_in, get_d_in}
use Rattle.finite.proofs.Sums.{sum_below, sum_cong, sum_ones, sum_constant, sum_count, sum_has, sum_le}
use Rattle.finite.proofs.Tests.{not_of_false, from_each, each_from, eqb_turned}
use Rattle.embedding.specs.Plates.{when, Plate, darts, strips, leaves, ends_at, degree, over_four, faces, connected}
use Rattle.embedding.proofs.Rotation.{Ordered, degree_count}
use Rattle.embedding.proofs.Reach.{spreads}
use Rattle.embedding.proofs.Faultless.{Faultless}
use Rattle.embedding.proofs.Totals.{end_sum, twins_sum, posts_sum}

not_or : (a b : Bool) → not (a || b) ≡ not a && not b
not_or true b = refl
not_or false b = refl

pub leaves_counts : (p : Plate) (d : ℕ) → d < darts p → 1 ≤ degree p (leaves p d)
leaves_counts p d l =
    omega (
      arith,
      degree_count p (leaves p d),
      sum_has (darts p) (λ i. when (eqb (leaves p d) (leaves p i)) 1) d l,
      ap (λ (b : Bool). when b 1) (eq-eqb (leaves p d) (leaves p d) refl),
    )

module _ (p : Plate) (o : Ordered p) where
  -- as many darts end at a post as leave it
  pub degree_ends : (v : ℕ) → degree p v ≡ end_sum p (λ d. 1) v
  degree_ends v =
      degree_count p v ∙ sym (twins_sum p o (λ d. when (eqb v (leaves p d)) 1))
      ∙ sum_cong (darts p) (λ d. when (eqb v (ends_at p d)) 1) (λ d. when (eqb (ends_at p d) v) 1) (λ d l. ap (λ (b : Bool). when b 1) (eqb_turned v (ends_at p d)))

  pub degrees_sum : sum_below p.posts (degree p) ≡ darts p
  degrees_sum = sum_cong p.posts (degree p) (end_sum p (λ d. 1)) (λ v l. degree_ends v) ∙ posts_sum p o (λ d. 1) ∙ sum_ones (darts p)

  -- a number for each post, once for each dart that ends there
  pub by_post : (g : ℕ → ℕ) → sum_below (darts p) (λ d. g (ends_at p d)) ≡ sum_below p.posts (λ v. degree p v * g v)
  by_post g =
      sym (posts_sum p o (λ d. g (ends_at p d)))
      ∙ sum_cong p.posts (end_sum p (λ d. g (ends_at p d))) (λ v. degree p v * g v)
      (λ v l. sum_cong (darts p) (λ d. when (eqb (ends_at p d) v) (g (ends_at p d))) (λ d. when (eqb (ends_at p d) v) (g v)) (λ d k. there (ends_at p d) v (eqb (ends_at p d) v) refl)
      ∙ sum_count (darts p) (λ d. eqb (ends_at p d) v) (g v) ∙ ap (λ (k : ℕ). k * g v) (sym (degree_ends v)))
    where
      there : (u v : ℕ) (b : Bool) → eqb u v ≡ b → when b (g u) ≡ when b (g v)
      there u v true e = ap g (eqb-true u v e)
      there u v false e = refl

-- no post over four, as a test and of each post
module _ (p : Plate) where
  few : ℕ → Bool
  few v = not (ltb 4 (degree p v))

  pub over_most : (n : ℕ) → over_four n 0 p ≡ false → (v : ℕ) → v < n → degree p v ≤ 4
  unfolding few
  over_most n e v l =
      ltb-false 4 (degree p v) (not-true (ltb 4 (degree p v))
      (from_each (λ n a. not (over_four n a p)) few (λ a. refl) (λ n a. not_or (ltb 4 (degree p a)) (over_four n (suc a) p)) n 0 (not_of_false e) v (omega arith) (omega arith)))

  pub most_over : (n : ℕ) → ((v : ℕ) → v < n → degree p v ≤ 4) → over_four n 0 p ≡ false
  unfolding few
  most_over n h =
      not-true (over_four n 0 p)
      (each_from (λ n a. not (over_four n a p)) few (λ a. refl) (λ n a. not_or (ltb 4 (degree p a)) (over_four n (suc a) p)) n 0 (λ v l k. not_of_false (le-ltb 4 (degree p v) (h v (omega arith)))))

-- a plate in order, with a dart, four places at most, an outer dart, connected and plane
pub faultless_of : (p : Plate) → Ordered p → 0 < p.posts → p.posts ≤ 64 → 0 < darts p → ((v : ℕ) → v < p.posts → degree p v ≤ 4) → p.outer < darts p → connected p ≡ true
    → p.posts + length (faces p) ≡ strips p + 2 → Faultless p
faultless_of p o some most darts-some four outer linked plane =
    record {
      some_post = λ e. omega arith;
      posts_most = most;
      some_dart = λ e. omega arith;
      ends_below = o.ends_below;
      four_most = most_over p p.posts four;
      all_ordered = o.all_ordered;
      parts-ok = o.parts-ok;
      outer_dart = outer;
      is_connected = linked;
      euler = plane;
    }

module _ (p : Plate) (f : Faultless p) where
  pub degree_most : (v : ℕ) → v < p.posts → degree p v ≤ 4
  degree_most = over_most p p.posts f.four_most

  -- a post without a strip end would be the only one
  first_least : 1 ≤ degree p 0
  first_least = go (dec_lt 0 (degree p 0))
    where
      go : Dec (0 < degree p 0) → 1 ≤ degree p 0
      go (yes h) = h
      go (no h) =
          let none : (d : ℕ) → d < darts p → leaves p d ≡ 0 → ⊥ = λ d l e. omega (arith, leaves_counts p d l, ap (degree p) e) in
          let alone : (v : ℕ) → v < p.posts → v ≡ 0 =
          spreads p (λ v. v ≡ 0) f.ends_below f.is_connected refl (λ i e l. (λ h. absurd (none i (omega arith) h), λ h. absurd (none (suc i) l h))) in
          absurd (none 0 some (alone (leaves p 0) (all_in p.posts (leaves p 0) p.ends f.ends_below (get_d_in p.ends 0 some))))
        where
          some : 0 < darts p
          some = omega (arith, f.some_dart)

  pub degree_least : (v : ℕ) → v < p.posts → 1 ≤ degree p v
  degree_least = spreads p (λ v. 1 ≤ degree p v) f.ends_below f.is_connected first_least (λ i e l. (λ h. leaves_counts p (suc i) l, λ h. leaves_counts p i (omega arith)))

  pub darts_most : Ordered p → darts p ≤ 4 * p.posts
  darts_most o = omega (arith, degrees_sum p o, sum_le p.posts (degree p) (λ v. 4) degree_most, sum_constant p.posts 4)

  pub darts_few : Ordered p → darts p ≤ 256
  darts_few o = omega (arith, darts_most o, f.posts_most)
