-- With no prices the sum is the total of bends, and with no limits either the best shape is that of `Best`.
use mathlib.Core.Path.{◌≡◌, refl, sym, ap, ap₂, subst, ◌∙◌}
use mathlib.Core.Bool.{Bool, true, ◌&&◌, ◌||◌}
use mathlib.Core.List.{List, [], ◌++◌}
use mathlib.Core.Logic.{◌↔◌, ◌⊎◌, inl, inr}
use Prim.Native.Nat.{ℕ, suc, ◌+◌, ◌<◌}
use native.Mathlib.Omega.{arith}
use borrow.Author.Tests.{lt-ltb, le-ltb, eq-eqb, ne_eqb}
use lib.Dec.{eqb, ltb}
use lib.ListN.{length, get_or, take, drop}
use lib.Seq.{take_at, drop_at}
use Rattle.finite.proofs.Order.{Order, less, same, more, order}
use Rattle.flow.specs.Network.{Flow, Least}
use Rattle.embedding.specs.Plates.{Plate, darts, twin}
use Rattle.embedding.proofs.Rotation.{Ordered, twin_even}
use Rattle.embedding.proofs.Faultless.{Faultless}
use Rattle.shapes.specs.Shapes.{Shape, meets, bends, cornered, comes_first, rights, lefts, nth_w, rights_of, shape_of}
use Rattle.shapes.specs.Claims.{Best, is_flow}
use Rattle.shapes.specs.Rates.{rates, unrated, all_within, all_free, Fair, pair_sums, price, strip_bends, comes_first_by, BestBy, BestWithin}
use Rattle.shapes.specs.NetworkOf.{is_joint, rated_of}
use Rattle.shapes.proofs.Words.{rights_at, rights_long}
use Rattle.shapes.proofs.Meets.{meets_facts, lefts_at}
use Rattle.shapes.proofs.Pairs.{sums_at, sums_long, sums_total}
use Rattle.shapes.proofs.Strips.{unpriced, free_within, Within, all_each, each_all}
use Rattle.shapes.proofs.FlowFacts.{is_flow_parts}
use Rattle.shapes.proofs.Apart.{apart, apart_whole}
use Rattle.shapes.proofs.RatedOrder.{by_counts}
use Rattle.shapes.proofs.RatedCounts.{counts_flow}
use Rattle.shapes.proofs.RatedBest.{least_best_by}

-- a number that was compared is not compared again
once : (x y : ℕ) (b c t : Bool) → ltb x y || (eqb x y && (b || (c && (ltb x y || (eqb x y && t))))) ≡ ltb x y || (eqb x y && (b || (c && t)))
once x y b c t = go (order x y)
  where
    go : Order x y → ltb x y || (eqb x y && (b || (c && (ltb x y || (eqb x y && t))))) ≡ ltb x y || (eqb x y && (b || (c && t)))
    go (less l) = rw (lt-ltb x y l)
    go (same l) = rw (le-ltb x y (omega arith), eq-eqb x y l)
    go (more l) = rw (le-ltb x y (omega arith), ne_eqb x y (λ (k : x ≡ y). omega arith))

module _ (ls : List ℕ) where
  pub fair_unpriced : Fair (rates ls [])
  fair_unpriced = record { some_price = λ i. omega arith; price_most = λ i. omega arith }

  pub price_bends : (s : Shape) → price (rates ls []) s ≡ bends s
  price_bends s = unpriced (strip_bends s) ∙ sums_total (rights_of s.words)

  pub first_same : (p : Plate) (s u : Shape) → comes_first_by p (rates ls []) s u ≡ comes_first p s u
  first_same p s u =
      ap₂ (λ (x y : ℕ). ltb x y || (eqb x y && (ltb (cornered p s) (cornered p u) || (eqb (cornered p s) (cornered p u) && (ltb (bends s) (bends u) || (eqb (bends s) (bends u) && by_counts p (rates ls []) s u))))))
      (price_bends s) (price_bends u)
      ∙ once (bends s) (bends u) (ltb (cornered p s) (cornered p u)) (eqb (cornered p s) (cornered p u)) (by_counts p (rates ls []) s u)

  module _ {p : Plate} {s : Shape} where
    pub by_within : BestWithin p ls s → BestBy p (rates ls []) s
    by_within b = record {
      meets_all = b.meets_all;
      keeps_all = b.keeps_all;
      cheapest = λ u m k. omega (arith, b.fewest u m k, price_bends s, price_bends u);
      first = λ u m k e. go u (b.first u m k (sym (price_bends u) ∙ e ∙ price_bends s));
    }
      where
        go : (u : Shape) → (u ≡ s) ⊎ (comes_first p s u ≡ true) → (u ≡ s) ⊎ (comes_first_by p (rates ls []) s u ≡ true)
        go u (inl q) = inl q
        go u (inr q) = inr (first_same p s u ∙ q)

    pub within_by : BestBy p (rates ls []) s → BestWithin p ls s
    within_by b = record {
      meets_all = b.meets_all;
      keeps_all = b.keeps_all;
      fewest = λ u m k. omega (arith, b.cheapest u m k, price_bends s, price_bends u);
      first = λ u m k e. go u (b.first u m k (price_bends u ∙ e ∙ sym (price_bends s)));
    }
      where
        go : (u : Shape) → (u ≡ s) ⊎ (comes_first_by p (rates ls []) s u ≡ true) → (u ≡ s) ⊎ (comes_first p s u ≡ true)
        go u (inl q) = inl q
        go u (inr q) = inr (sym (first_same p s u) ∙ q)

-- where limits are none
module _ (ls : List ℕ) (free : all_free ls ≡ true) {p : Plate} {s : Shape} where
  -- by whatever prices
  pub free_by : {ps : List ℕ} → BestBy p (rates ls ps) s → BestBy p (rates [] ps) s
  free_by b = record {
    meets_all = b.meets_all;
    keeps_all = free_within [] (strip_bends s) refl;
    cheapest = λ u m k. b.cheapest u m (free_within ls (strip_bends u) free);
    first = λ u m k. b.first u m (free_within ls (strip_bends u) free);
  }

  pub by_free : {ps : List ℕ} → BestBy p (rates [] ps) s → BestBy p (rates ls ps) s
  by_free b = record {
    meets_all = b.meets_all;
    keeps_all = free_within ls (strip_bends s) free;
    cheapest = λ u m k. b.cheapest u m (free_within [] (strip_bends u) refl);
    first = λ u m k. b.first u m (free_within [] (strip_bends u) refl);
  }

  pub free_best : BestWithin p ls s → Best p s
  free_best b = record { meets_all = b.meets_all; fewest = λ u m. b.fewest u m (free_within ls (strip_bends u) free); first = λ u m. b.first u m (free_within ls (strip_bends u) free) }

  pub best_free : Best p s → BestWithin p ls s
  best_free b = record { meets_all = b.meets_all; keeps_all = free_within ls (strip_bends s) free; fewest = λ u m k. b.fewest u m; first = λ u m k. b.first u m }

-- without limits
module _ {p : Plate} {s : Shape} where
  pub best-by : Best p s → BestBy p unrated s
  best-by b = by_within [] (best_free [] refl b)

  pub by_best : BestBy p unrated s → Best p s
  by_best b = free_best [] refl (within_by [] b)

-- the bends of a strip are the right and the left bends in the word of its even dart
pub strip_word : (p : Plate) (s : Shape) → meets p s ≡ true → (i : ℕ) → i + i < darts p → get_or (strip_bends s) i 0 ≡ rights (nth_w s.words (i + i)) + lefts (nth_w s.words (i + i))
strip_word p s m i l =
    let t : twin (i + i) ≡ suc (i + i) = twin_even (i + i) (omega arith) in
    omega (
      arith,
      sums_at (rights_of s.words) i,
      rights_at s.words (i + i),
      lefts_at (darts p) s.words (meets_facts p s m).twins (i + i) l,
      ap (λ (k : ℕ). get_or (rights_of s.words) k 0) t,
    )

pub strips_long : (p : Plate) (s : Shape) → meets p s ≡ true → (n : ℕ) → n + n ≡ darts p → length (strip_bends s) ≡ n
strips_long p s m n e = sums_long n (rights_of s.words) (rights_long s.words ∙ (meets_facts p s m).words_long ∙ sym e)

-- so limits are kept exactly where the word of each of the n strips keeps its own
pub each_strip : (p : Plate) (s : Shape) → meets p s ≡ true → (n : ℕ) → n + n ≡ darts p → (ls : List ℕ)
    → (all_within ls (strip_bends s) ≡ true) ↔ ((i : ℕ) → i < n → Within (get_or ls i 255) (rights (nth_w s.words (i + i)) + lefts (nth_w s.words (i + i))))
each_strip p s m n e ls = (
  λ h i l. subst (Within (get_or ls i 255)) (strip_word p s m i (omega arith)) (all_each ls (strip_bends s) h i (omega (arith, long))),
  λ h. each_all ls (strip_bends s) (λ i l. subst (Within (get_or ls i 255)) (sym (strip_word p s m i (omega (arith, long)))) (h i (omega (arith, long)))),
)
  where
    long : length (strip_bends s) ≡ n
    long = strips_long p s m n e

-- counts that are a flow of document 01's network are one here, with each corner on its two arcs; where it is the least they are the best shape's
module _ (p : Plate) (o : Ordered p) (cs xs : List ℕ) (e : is_flow p cs xs ≡ true) where
  abbrev on : List ℕ
  on = apart (is_joint p) (darts p) cs

  pub unrated_flow : Flow (rated_of p unrated) (xs ++ on)
  unrated_flow = counts_flow p unrated o cs xs e (λ d l. inl (omega arith))

  units_are : take (darts p) (xs ++ on) ≡ xs
  units_are = take_at xs on (darts p) (is_flow_parts p cs xs e).1

  corners_are : pair_sums (drop (darts p) (xs ++ on)) ≡ cs
  corners_are = ap pair_sums (drop_at xs on (darts p) (is_flow_parts p cs xs e).1) ∙ apart_whole (is_joint p) (darts p) cs (is_flow_parts p cs xs e).0

module _ (p : Plate) (f : Faultless p) (o : Ordered p) (cs xs : List ℕ) (e : is_flow p cs xs ≡ true) where
  pub unrated_best : Least (rated_of p unrated) (xs ++ on p o cs xs e) → Best p (shape_of p cs xs)
  unrated_best least =
      let y = xs ++ on p o cs xs e in
      by_best
      (subst (λ (k : List ℕ). BestBy p unrated (shape_of p k xs)) (corners_are p o cs xs e)
      (subst (λ (k : List ℕ). BestBy p unrated (shape_of p (pair_sums (drop (darts p) y)) k)) (units_are p o cs xs e)
      (least_best_by p f o unrated (fair_unpriced []) y least)))
