-- Cornered posts counted by corners: at a post with two strip ends just one angle is over 2, by one, exactly when none is 2.
use mathlib.Core.Path.{◌≡◌, refl, sym, ap, ◌∙◌}
use mathlib.Core.Bool.{Bool, true, false}
use mathlib.Core.List.{List}
use Prim.Native.Nat.{ℕ, ◌+◌, ◌-◌, ◌*◌, ◌≤◌, ◌<◌}
use native.Mathlib.Decide.{ℕ_discrete}
use native.Mathlib.Nat.{zero-add}
use native.Mathlib.Omega.{arith}
use borrow.Author.Tests.{eqb-true, eq-eqb, ne_eqb}
use lib.Dec.{eqb}
use lib.ListN.{get_or}
use Rattle.finite.proofs.Sums.{sum_below, sum_cong, sum_add, sum_le, sum_has, sum_none, sum_ones, sum_from, when_add, when_zero}
use Rattle.finite.proofs.Pigeonhole.{when_one}
use Rattle.embedding.specs.Plates.{when, Plate, darts, ends_at, degree}
use Rattle.embedding.proofs.Rotation.{Ordered}
use Rattle.embedding.proofs.Totals.{end_sum, posts_sum, ends_at_below}
use Rattle.embedding.proofs.Degrees.{degree_ends}
use Rattle.shapes.specs.Shapes.{straights_from, is_cornered, cornered_from}
use Rattle.shapes.specs.NetworkOf.{is_joint}
use Rattle.shapes.proofs.Angles.{when_at}
use Rattle.shapes.proofs.Apart.{high}
use Rattle.shapes.proofs.FlowFacts.{IsFlow}

-- sums over the darts ending at a post
module _ (p : Plate) (v : ℕ) (f g : ℕ → ℕ) where
  end_add : end_sum p (λ d. f d + g d) v ≡ end_sum p f v + end_sum p g v
  end_add =
      sum_cong (darts p) (λ d. when (eqb (ends_at p d) v) (f d + g d)) (λ d. when (eqb (ends_at p d) v) (f d) + when (eqb (ends_at p d) v) (g d)) (λ d l. when_add (eqb (ends_at p d) v) (f d) (g d))
      ∙ sum_add (darts p) (λ d. when (eqb (ends_at p d) v) (f d)) (λ d. when (eqb (ends_at p d) v) (g d))

  end_cong : ((d : ℕ) → d < darts p → f d ≡ g d) → end_sum p f v ≡ end_sum p g v
  end_cong h = sum_cong (darts p) (λ d. when (eqb (ends_at p d) v) (f d)) (λ d. when (eqb (ends_at p d) v) (g d)) (λ d l. ap (when (eqb (ends_at p d) v)) (h d l))

  end_le : ((d : ℕ) → d < darts p → f d ≤ g d) → end_sum p f v ≤ end_sum p g v
  end_le h = sum_le (darts p) (λ d. when (eqb (ends_at p d) v) (f d)) (λ d. when (eqb (ends_at p d) v) (g d)) (λ d l. at (eqb (ends_at p d) v) (h d l))
    where
      at : (b : Bool) {x y : ℕ} → x ≤ y → when b x ≤ when b y
      at true l = l
      at false l = omega arith

-- an angle of 1 to 4 is 2, or lacks some, or has some over
abbrev is_two : ℕ → ℕ
is_two c = when (eqb c 2) 1

angle_parts : (c : ℕ) → 1 ≤ c → c ≤ 4 → (1 ≤ (2 - c) + (is_two c + (c - 2))) × ((c - 2) + (((2 - c) + (2 - c)) + (is_two c + is_two c)) ≤ 2)
angle_parts c low most = go (ℕ_discrete c 2)
  where
    go : Dec (c ≡ 2) → (1 ≤ (2 - c) + (when (eqb c 2) 1 + (c - 2))) × ((c - 2) + (((2 - c) + (2 - c)) + (when (eqb c 2) 1 + when (eqb c 2) 1)) ≤ 2)
    go (yes e) = rw (eq-eqb c 2 e) (omega arith, omega arith)
    go (no n) = rw (ne_eqb c 2 n) (omega arith, omega arith)

straights_sum : (p : Plate) (v : ℕ) (al : List ℕ) → straights_from (darts p) 0 p v al ≡ end_sum p (λ d. when (eqb (get_or al d 0) 2) 1) v
straights_sum p v al =
    sum_from (λ n a. straights_from n a p v al) here (λ a. refl) (λ n a. refl) (darts p) 0
    ∙ sum_cong (darts p) (λ i. here (0 + i)) here (λ i l. ap here (zero-add i))
  where
    here : ℕ → ℕ
    here d = when (eqb (ends_at p d) v) (when (eqb (get_or al d 0) 2) 1)

cornered_sum : (p : Plate) (al : List ℕ) → cornered_from p.posts 0 p al ≡ sum_below p.posts (λ v. when (is_cornered p al v) 1)
cornered_sum p al =
    sum_from (λ n a. cornered_from n a p al) here (λ a. refl) (λ n a. refl) p.posts 0
    ∙ sum_cong p.posts (λ i. here (0 + i)) here (λ i l. ap here (zero-add i))
  where
    here : ℕ → ℕ
    here v = when (is_cornered p al v) 1

pub cornered_most : (p : Plate) (al : List ℕ) → cornered_from p.posts 0 p al ≤ p.posts
cornered_most p al = omega (arith, cornered_sum p al, sum_le p.posts (λ v. when (is_cornered p al v) 1) (λ v. 1) (λ v l. when_one (is_cornered p al v)), sum_ones p.posts)

module _ (p : Plate) (o : Ordered p) (cs xs : List ℕ) (f : IsFlow p cs xs) where
  abbrev c : ℕ → ℕ
  c d = get_or cs d 0

  abbrev lack : ℕ → ℕ
  lack d = 2 - c d

  abbrev over : ℕ → ℕ
  over d = c d - 2

  abbrev two : ℕ → ℕ
  two d = is_two (c d)

  -- at a post with two strip ends
  module _ (v : ℕ) (l : v < p.posts) (ends : degree p v ≡ 2) where
    ones : end_sum p (λ d. 1) v ≡ 2
    ones = sym (degree_ends p o v) ∙ ends

    as_many : end_sum p lack v ≡ end_sum p over v
    as_many =
        omega (
          arith,
          ones,
          f.post_four v l,
          end_add p v c lack,
          end_add p v (λ d. 1) (λ d. 1),
          end_add p v (λ d. 1 + 1) over,
          end_cong p v (λ d. c d + lack d) (λ d. (1 + 1) + over d) (λ d k. omega arith),
        )

    some : 2 ≤ end_sum p two v + (end_sum p over v + end_sum p over v)
    some =
        omega (
          arith,
          ones,
          as_many,
          end_add p v two over,
          end_add p v lack (λ d. two d + over d),
          end_le p v (λ d. 1) (λ d. lack d + (two d + over d)) (λ d k. (angle_parts (c d) (f.corner_range d k).0 (f.corner_range d k).1).0),
        )

    few : 3 * end_sum p over v + 2 * end_sum p two v ≤ 4
    few =
        omega (
          arith,
          ones,
          as_many,
          end_add p v (λ d. 1) (λ d. 1),
          end_add p v lack lack,
          end_add p v two two,
          end_add p v (λ d. lack d + lack d) (λ d. two d + two d),
          end_add p v over (λ d. (lack d + lack d) + (two d + two d)),
          end_le p v (λ d. over d + ((lack d + lack d) + (two d + two d))) (λ d. 1 + 1) (λ d k. omega (arith, (angle_parts (c d) (f.corner_range d k).0 (f.corner_range d k).1).1)),
        )

    over_two : end_sum p over v ≡ when (eqb (straights_from (darts p) 0 p v cs) 0) 1
    over_two = go (ℕ_discrete (straights_from (darts p) 0 p v cs) 0)
      where
        go : Dec (straights_from (darts p) 0 p v cs ≡ 0) → end_sum p over v ≡ when (eqb (straights_from (darts p) 0 p v cs) 0) 1
        go (yes e) = rw (eq-eqb (straights_from (darts p) 0 p v cs) 0 e) (omega (arith, some, few, straights_sum p v cs))
        go (no n) = rw (ne_eqb (straights_from (darts p) 0 p v cs) 0 n) (omega (arith, some, few, straights_sum p v cs))

  -- no corner there has four
  pub joint_most : (d : ℕ) → d < darts p → is_joint p d ≡ true → c d ≤ 3
  joint_most d l e =
      let v = ends_at p d in
      let k : v < p.posts = ends_at_below p o d l in
      omega (
        arith,
        few v k (eqb-true (degree p v) 2 e),
        sum_has (darts p) (λ e. when (eqb (ends_at p e) v) (over e)) d l,
        ap (λ (b : Bool). when b (over d)) (eq-eqb v v refl),
      )

  at_post : (v : ℕ) → v < p.posts → end_sum p (λ d. high (is_joint p d) (c d)) v ≡ when (is_cornered p cs v) 1
  at_post v l =
      sum_cong (darts p) (λ d. when (eqb (ends_at p d) v) (high (is_joint p d) (c d))) (λ d. when (eqb (ends_at p d) v) (high (eqb (degree p v) 2) (c d)))
      (λ d k. when_at (λ u. high (eqb (degree p u) 2) (c d)) (ends_at p d) v (eqb (ends_at p d) v) refl)
      ∙ go (ℕ_discrete (degree p v) 2)
    where
      go : Dec (degree p v ≡ 2) → end_sum p (λ d. high (eqb (degree p v) 2) (c d)) v ≡ when (is_cornered p cs v) 1
      go (yes e) = rw (eq-eqb (degree p v) 2 e) (over_two v l e)
      go (no n) = rw (ne_eqb (degree p v) 2 n) (sum_cong (darts p) (λ d. when (eqb (ends_at p d) v) 0) (λ d. 0) (λ d k. when_zero (eqb (ends_at p d) v)) ∙ sum_none (darts p))

  pub cornered_corners : sum_below (darts p) (λ d. high (is_joint p d) (c d)) ≡ cornered_from p.posts 0 p cs
  cornered_corners =
      sym (posts_sum p o (λ d. high (is_joint p d) (c d)))
      ∙ sum_cong p.posts (end_sum p (λ d. high (is_joint p d) (c d))) (λ v. when (is_cornered p cs v) 1) at_post
      ∙ sym (cornered_sum p cs)
