-- The best shape in parts: where bends are equal the order goes on to cornered posts, and where these are equal too, to document 01's order. Without joints no post is cornered.
use mathlib.Core.Path.{◌≡◌, refl, sym, ap, ◌∙◌}
use mathlib.Core.Bool.{Bool, true, ◌&&◌}
use mathlib.Core.List.{List}
use mathlib.Core.Logic.{◌↔◌, ◌⊎◌, inl, inr}
use Prim.Native.Nat.{ℕ, zero, suc, ◌+◌, ◌≤◌, ◌<◌}
use native.Mathlib.Omega.{arith}
use borrow.Author.Tests.{ne_eqb}
use lib.Dec.{eqb}
use Rattle.finite.proofs.Order.{Order, less, same, more, order}
use Rattle.embedding.specs.Plates.{when, Plate, darts, degree}
use Rattle.shapes.specs.Shapes.{Shape, meets, bends, cornered, comes_first, straights_from, is_cornered, cornered_from}
use Rattle.shapes.specs.Rates.{unrated, strip_bends, all_within, BestWithin}
use Rattle.shapes.specs.Joints.{plain_first, PlainBest, NoneStraighter, Straightest, StraightPosts}
use Rattle.shapes.proofs.RatedOrder.{Then, then_test, then_from_test, test_from_then, then_map, by_counts}

-- the two orders, as facts
module _ (p : Plate) (s u : Shape) where
  abbrev counts : Bool
  counts = by_counts p unrated s u

  first_then : comes_first p s u ≡ true → Then (bends s) (bends u) (Then (cornered p s) (cornered p u) (counts ≡ true))
  first_then e = then_map (then_from_test (cornered p s) (cornered p u) counts) (then_from_test (bends s) (bends u) (then_test (cornered p s) (cornered p u) counts) e)

  then_first : Then (bends s) (bends u) (Then (cornered p s) (cornered p u) (counts ≡ true)) → comes_first p s u ≡ true
  then_first t = test_from_then (bends s) (bends u) (then_test (cornered p s) (cornered p u) counts) (then_map (test_from_then (cornered p s) (cornered p u) counts) t)

  plain_then : plain_first s u ≡ true → Then (bends s) (bends u) (counts ≡ true)
  plain_then = then_from_test (bends s) (bends u) counts

  then_plain : Then (bends s) (bends u) (counts ≡ true) → plain_first s u ≡ true
  then_plain = test_from_then (bends s) (bends u) counts

module _ (p : Plate) (ls : List ℕ) (s : Shape) where
  to_parts : BestWithin p ls s → Straightest p ls s
  to_parts b =
      record {
        meets_all = b.meets_all;
        keeps_all = b.keeps_all;
        fewest = b.fewest;
        fewest_cornered = λ u m k e. few u (b.first u m k e) e;
        first = λ u m k e c. later u (b.first u m k e) e c;
      }
    where
      few : (u : Shape) → (u ≡ s) ⊎ (comes_first p s u ≡ true) → bends u ≡ bends s → cornered p s ≤ cornered p u
      few u (inl q) e = omega (arith, ap (cornered p) q)
      few u (inr f) e = go (first_then p s u f)
        where
          go : Then (bends s) (bends u) (Then (cornered p s) (cornered p u) (counts p s u ≡ true)) → cornered p s ≤ cornered p u
          go (inl l) = absurd (omega arith)
          go (inr (d, inl l)) = omega arith
          go (inr (d, inr (c, h))) = omega arith

      later : (u : Shape) → (u ≡ s) ⊎ (comes_first p s u ≡ true) → bends u ≡ bends s → cornered p u ≡ cornered p s → (u ≡ s) ⊎ (plain_first s u ≡ true)
      later u (inl q) e c = inl q
      later u (inr f) e c = go (first_then p s u f)
        where
          go : Then (bends s) (bends u) (Then (cornered p s) (cornered p u) (counts p s u ≡ true)) → (u ≡ s) ⊎ (plain_first s u ≡ true)
          go (inl l) = absurd (omega arith)
          go (inr (d, inl l)) = absurd (omega arith)
          go (inr (d, inr (k, h))) = inr (then_plain p s u (inr (d, h)))

  of_parts : Straightest p ls s → BestWithin p ls s
  of_parts t = record { meets_all = t.meets_all; keeps_all = t.keeps_all; fewest = t.fewest; first = λ u m k e. go u m k e (order (cornered p s) (cornered p u)) }
    where
      plain : (u : Shape) → bends u ≡ bends s → cornered p s ≡ cornered p u → (u ≡ s) ⊎ (plain_first s u ≡ true) → (u ≡ s) ⊎ (comes_first p s u ≡ true)
      plain u e c (inl q) = inl q
      plain u e c (inr f) = by (plain_then p s u f)
        where
          by : Then (bends s) (bends u) (counts p s u ≡ true) → (u ≡ s) ⊎ (comes_first p s u ≡ true)
          by (inl l) = absurd (omega arith)
          by (inr (d, h)) = inr (then_first p s u (inr (d, inr (c, h))))

      go : (u : Shape) → meets p u ≡ true → all_within ls (strip_bends u) ≡ true → bends u ≡ bends s → Order (cornered p s) (cornered p u) → (u ≡ s) ⊎ (comes_first p s u ≡ true)
      go u m k e (less l) = inr (then_first p s u (inr (sym e, inl l)))
      go u m k e (same c) = plain u e c (t.first u m k e (sym c))
      go u m k e (more l) = absurd (omega (arith, t.fewest_cornered u m k e))

  kept : PlainBest p ls s → NoneStraighter p ls s → BestWithin p ls s
  kept b few = of_parts (record { meets_all = b.meets_all; keeps_all = b.keeps_all; fewest = b.fewest; fewest_cornered = few; first = λ u m k e c. b.first u m k e })

-- without joints
module _ (p : Plate) (none : (v : ℕ) → v < p.posts → degree p v ≡ 2 → ⊥) where
  from_none : (n v : ℕ) (al : List ℕ) → n + v ≤ p.posts → cornered_from n v p al ≡ 0
  from_none zero v al l = refl
  from_none (suc n) v al l =
      let here : when (is_cornered p al v) 1 ≡ 0 = ap (λ (b : Bool). when (b && eqb (straights_from (darts p) 0 p v al) 0) 1) (ne_eqb (degree p v) 2 (none v (omega arith))) in
      omega (arith, here, from_none n (suc v) al (omega arith))

  no_cornered : (s : Shape) → cornered p s ≡ 0
  no_cornered s = from_none p.posts 0 s.angles (omega arith)

  same_best : (ls : List ℕ) (s : Shape) → PlainBest p ls s ↔ BestWithin p ls s
  same_best ls s = (
    λ b. kept p ls s b (λ u m k e. omega (arith, no_cornered s)),
    λ b. let t = to_parts p ls s b in record { meets_all = t.meets_all; keeps_all = t.keeps_all; fewest = t.fewest; first = λ u m k e. t.first u m k e (no_cornered u ∙ sym (no_cornered s)) },
  )

pub straight_posts : StraightPosts
straight_posts = record { in_parts = λ p ls s. (to_parts p ls s, of_parts p ls s); kept = kept; no_joint = same_best }
