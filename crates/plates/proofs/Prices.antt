-- Prices of bends over lists: one for each strip, the sum over all bends, the order as facts, and without field 08 the walk, and so every promise, is that of before. Assumes nothing.
use mathlib.Core.Path.{◌≡◌, refl, sym, ap, ap₂, subst, subst₂, ◌∙◌}
use mathlib.Core.Bool.{Bool, true, false, not}
use mathlib.Core.List.{List, [], ◌∷◌}
use mathlib.Core.Logic.{◌↔◌, ◌⊎◌, inl, inr}
use Prim.Native.Nat.{ℕ, zero, suc, ◌+◌, ◌*◌, ◌≤◌, ◌<◌}
use native.Mathlib.Omega.{arith}
use native.Mathlib.Nat.{mul-le-mul_right}
use borrow.Author.Tests.{not-true}
use lib.Dec.{ltb}
use lib.ListN.{length, get_or}
use Rattle.finite.specs.Base.{word_at}
use Rattle.finite.proofs.Order.{Order, less, same, more, order}
use Rattle.finite.proofs.Tests.{first_none, first_last}
use Rattle.fields.proofs.Comes.{no_field}
use Rattle.fields.proofs.Earlier.{unpriced_walked}
use Rattle.shapes.proofs.Accepted.{ordered}
use Rattle.shapes.proofs.Tamassia.{two_to_a_strip}
use Rattle.shapes.proofs.Unpriced.{price_bends, strip_word, strips_long}
use Rattle.shapes.proofs.RatedOrder.{First, first_facts, facts_first}
use Rattle.shapes.proofs.Pairs.{sums_total}
use Rattle.plates.specs.Plates.{first_of, when, darts, strips, plate_fault}
use Rattle.plates.specs.Shapes.{Shape, meets, bends, total, priced_sum, prices_ok, pair_sums, strip_bends, all_within, price, Rates, shape_of}
use Rattle.plates.specs.Shapes as Shapes
use Rattle.plates.specs.Files.{Field, Walk, has_tag, content_of, walk_all, four, limits_fit, list_fault, plate_of, limits_of, prices_of, is_priced, rates_of, sum_of, prices_fit_by}
use Rattle.plates.specs.Claims.{BestOf}
use Rattle.plates.specs.Says.{file_long, angles_in, rights_in, file_fault_by, sum_true, file_fault, check_fault, NoneKeeps, shape_fault, ShapeWith, ShapeSays, CheckWith, CheckSays, sum_true_by}
use Rattle.plates.specs.Listing.{ListingWith, ListingSays}
use Rattle.plates.specs.Answers.{Shaped, Verdict, Listed}
use Rattle.plates.specs.Ordering.{comes_to}
use Rattle.plates.specs.Limits.{bends_on, earlier_walk, count_long}
use Rattle.plates.specs.Prices.{price_at, unpriced_fault, unpriced_check, best_unpriced, NoneUnpriced, ShapeUnpriced, CheckUnpriced, ListingUnpriced, AsUnpriced, Cheapest}
use Rattle.plates.proofs.Lists.{list_accepted, list_fair, prices_each, rates_are, of_within}
use Rattle.shapes.proofs.Order.{same_itself, same_eq}
use Rattle.plates.proofs.FourFields.{no_sum, no_sum_long, no_sum_true, shape_by, check_by, listing_by}
use Rattle.plates.proofs.Sound.{counted_rights, sound_exactly}
use Rattle.finite.proofs.Sums.{sum_below, sum_cong}

-- ---- prices and the sum
pub one_each : (b : List ℕ) → list_fault b ≡ 0 → is_priced b ≡ true → (length (prices_of b) ≡ strips (plate_of b)) × ((i : ℕ) → (1 ≤ price_at b i) × (price_at b i ≤ 100))
one_each b e h = (prices_each b e h, λ i. ((list_fair b e).some_price i, (list_fair b e).price_most i))

pub by_strip : (b : List ℕ) (u : Shape) → list_fault b ≡ 0 → meets (plate_of b) u ≡ true → (length (strip_bends u) ≡ strips (plate_of b)) × ((i : ℕ) → i < strips (plate_of b) → get_or (strip_bends u) i 0 ≡ bends_on u i)
by_strip b u e m =
    let p = plate_of b in
    let two = two_to_a_strip p (ordered p (list_accepted b e)) in
    (strips_long p u m (strips p) two, λ i l. strip_word p u m i (omega arith))

pub bends_sum : (b : List ℕ) → is_priced b ≡ false → (u : Shape) → price (rates_of b) u ≡ bends u
bends_sum b none u = ap (λ (r : Rates). price r u) (rates_are b none u) ∙ price_bends (limits_of b) u

pub told : (v : ℕ) → 65536 * word_at (four v) 0 + word_at (four v) 2 ≡ v
told v = omega arith

-- the sum, strip by strip
each_priced : (ps bs : List ℕ) → priced_sum ps bs ≡ sum_below (length bs) (λ i. get_or ps i 1 * get_or bs i 0)
each_priced ps [] = refl
each_priced [] (b ∷ bs) = ap (λ (k : ℕ). 1 * b + k) (each_priced [] bs)
each_priced (p ∷ ps) (b ∷ bs) = ap (λ (k : ℕ). p * b + k) (each_priced ps bs)

pub by_price : (b : List ℕ) (u : Shape) → list_fault b ≡ 0 → meets (plate_of b) u ≡ true → price (rates_of b) u ≡ sum_below (strips (plate_of b)) (λ i. price_at b i * bends_on u i)
by_price b u e m =
    let (long, each) = by_strip b u e m in
    each_priced (prices_of b) (strip_bends u) ∙ ap (λ (n : ℕ). sum_below n (λ i. price_at b i * get_or (strip_bends u) i 0)) long
    ∙ sum_cong (strips (plate_of b)) (λ i. price_at b i * get_or (strip_bends u) i 0) (λ i. price_at b i * bends_on u i) (λ i l. ap (λ (k : ℕ). price_at b i * k) (each i l))

pub own : (s t : List ℕ) → list_fault s ≡ 0 → length (rights_in t) ≡ darts (plate_of s) → sum_of (prices_of s) (rights_in t) ≡ price (rates_of s) (shape_of (plate_of s) (angles_in t) (rights_in t))
own s t e long = ap (sum_of (prices_of s)) (sym (counted_rights (plate_of s) (ordered (plate_of s) (list_accepted s e)) (angles_in t) (rights_in t) long))

-- the sum of any right bends
summed : (ps bs : List ℕ) → ((i : ℕ) → get_or ps i 1 ≤ 100) → priced_sum ps bs ≤ 100 * total bs
summed ps [] h = omega arith
summed [] (b ∷ bs) h = omega (arith, summed [] bs h)
summed (p ∷ ps) (b ∷ bs) h = omega (arith, summed ps bs (λ i. h (suc i)), mul-le-mul_right b (h 0))

pub fits : (s r : List ℕ) → list_fault s ≡ 0 → total r < 65536 → sum_of (prices_of s) r < 4294967296
fits s r e few = omega (arith, summed (prices_of s) (pair_sums r) (λ i. (list_fair s e).price_most i), sums_total r)

-- ---- the best shape in parts
module _ (b : List ℕ) (s : Shape) where
  to_parts : BestOf b s → Cheapest b s
  to_parts h = record { meets_all = h.meets_all; keeps_all = h.keeps_all; least = λ u m k. by u m k (order (price (rates_of b) s) (price (rates_of b) u)) }
    where
      placed : (u : Shape) → (u ≡ s) ⊎ (Shapes.comes_first_by (plate_of b) (rates_of b) s u ≡ true) → (u ≡ s) ⊎ First (plate_of b) (rates_of b) s u
      placed u (inl q) = inl q
      placed u (inr f) = inr (first_facts (plate_of b) (rates_of b) s u f)

      by : (u : Shape) → meets (plate_of b) u ≡ true → all_within (limits_of b) (strip_bends u) ≡ true → Order (price (rates_of b) s) (price (rates_of b) u) → (u ≡ s) ⊎ First (plate_of b) (rates_of b) s u
      by u m k (less l) = inr (inl l)
      by u m k (same e) = placed u (h.first u m k (sym e))
      by u m k (more l) = absurd (omega (arith, h.cheapest u m k))

  of_parts : Cheapest b s → BestOf b s
  of_parts c = record { meets_all = c.meets_all; keeps_all = c.keeps_all; cheapest = λ u m k. no_less u (c.least u m k); first = λ u m k e. placed u (c.least u m k) }
    where
      no_less : (u : Shape) → (u ≡ s) ⊎ First (plate_of b) (rates_of b) s u → price (rates_of b) s ≤ price (rates_of b) u
      no_less u (inl q) = omega (arith, ap (price (rates_of b)) q)
      no_less u (inr (inl l)) = omega arith
      no_less u (inr (inr (e, f))) = omega arith

      placed : (u : Shape) → (u ≡ s) ⊎ First (plate_of b) (rates_of b) s u → (u ≡ s) ⊎ (Shapes.comes_first_by (plate_of b) (rates_of b) s u ≡ true)
      placed u (inl q) = inl q
      placed u (inr f) = inr (facts_first (plate_of b) (rates_of b) s u f)

  pub in_parts : BestOf b s ↔ Cheapest b s
  in_parts = (to_parts, of_parts)

-- ---- the sum of a shape file
pub sum-true : (s t : List ℕ) → check_fault s t ≡ 0 → sum_true (walk_all false s).fields (walk_all true t).fields ≡ true
sum-true s t z =
    let (e, f) = first_none (list_fault s) (file_fault s t) z in
    ((sound_exactly s t e (first_none (walk_all true t).number _ f).0).0 z).5

module _ (fs gs : List Field) where
  abbrev truth : Bool → Bool → Bool
  truth priced there = sum_true_by priced there (content_of 8 fs) (content_of 20 gs) (content_of 22 gs)

  pub sum_there : has_tag 8 fs ≡ true → (sum_true fs gs ≡ true) ↔ (content_of 22 gs ≡ four (sum_of (content_of 8 fs) (content_of 20 gs)))
  sum_there h =
      let is : sum_true fs gs ≡ truth true (has_tag 22 gs) = ap (λ (b : Bool). truth b (has_tag 22 gs)) h in (
        λ e. same_eq _ _ (sym is ∙ e),
        λ e. is ∙ ap (λ (c : List ℕ). Shapes.same c (four (sum_of (content_of 8 fs) (content_of 20 gs)))) e ∙ same_itself (four (sum_of (content_of 8 fs) (content_of 20 gs))),
      )

  pub sum_absent : has_tag 8 fs ≡ false → (sum_true fs gs ≡ true) ↔ (has_tag 22 gs ≡ false)
  sum_absent h =
      let is : sum_true fs gs ≡ not (has_tag 22 gs) = ap (λ (b : Bool). truth b (has_tag 22 gs)) h in
      (λ e. not-true (has_tag 22 gs) (sym is ∙ e), λ e. no_sum_true fs h gs e)

-- ---- the verdict's fewest
module _ (s t : List ℕ) (v : Verdict) where
  abbrev Least : Type 0
  Least =
      ((u : Shape) → meets (plate_of s) u ≡ true → all_within (limits_of s) (strip_bends u) ≡ true → v.fewest ≤ price (rates_of s) u)
      × ((u : Shape) × (meets (plate_of s) u ≡ true) × (all_within (limits_of s) (strip_bends u) ≡ true) × (price (rates_of s) u ≡ v.fewest))

  with_least : (n : ℕ) → CheckWith n s t v → v.number ≡ 0 → Least
  with_least zero (z, sum, (a, x, best, counts, (few, ours))) e =
      let own : v.fewest ≡ price (rates_of s) (shape_of (plate_of s) a x) = few ∙ ap (sum_of (prices_of s)) (sym counts) in
      (λ u m k. omega (arith, own, best.cheapest u m k), (shape_of (plate_of s) a x, best.meets_all, best.keeps_all, sym own))
  with_least (suc n) (z, sum, few, ours) e = absurd (omega arith)

  pub fewest : CheckSays s t v → v.number ≡ 0 → Least
  fewest = with_least (check_fault s t)

-- ---- lists whose walk comes to no field 08
module _ (s : List ℕ) (d : comes_to true false 8 s ≡ false) where
  abbrev w : Walk
  w = walk_all false s

  same_walk : w ≡ earlier_walk true false 7 s
  same_walk = unpriced_walked false s d

  pub none : is_priced s ≡ false
  none = no_field true false 8 (suc (length s)) [] s d refl

  -- 38 is not given
  pub number : list_fault s ≡ unpriced_fault w
  number =
      ap (λ (u : Bool). first_of w.number (first_of (plate_fault (plate_of s)) (first_of (when (not (limits_fit w.fields)) 23) (when (not (prices_fit_by u (strips (plate_of s)) (prices_of s))) 38)))) none
      ∙ ap (λ (k : ℕ). first_of w.number (first_of (plate_fault (plate_of s)) k)) (first_last (when (not (limits_fit w.fields)) 23))

  keeps : (b : Bool) → NoneKeeps b s ↔ NoneUnpriced b w
  keeps b = (λ k z. k (number ∙ z), λ k z. k (sym number ∙ z))

  alike : (u : Shape) → BestOf s u ↔ best_unpriced w.fields u
  alike u = of_within s none u

  pub long_is : file_long s ≡ count_long w.fields
  long_is = no_sum_long w.fields none

  -- nor 39 of a file without a sum
  abbrev check_number : List ℕ → ℕ
  check_number t = first_of (unpriced_fault w) (file_fault_by w.fields (walk_all true t) (when (not (all_within (limits_of s) (pair_sums (rights_in t)))) 25))

  pub file_number : (t : List ℕ) → has_tag 22 (walk_all true t).fields ≡ false → check_fault s t ≡ check_number t
  file_number t absent =
      let kept = when (not (all_within (limits_of s) (pair_sums (rights_in t)))) 25 in
      ap (λ (c : Bool). first_of (list_fault s) (file_fault_by w.fields (walk_all true t) (first_of kept (when (not c) 39)))) (no_sum_true w.fields none (walk_all true t).fields absent)
      ∙ ap (λ (k : ℕ). first_of (list_fault s) (file_fault_by w.fields (walk_all true t) k)) (first_last kept)
      ∙ ap (λ (k : ℕ). first_of k (file_fault_by w.fields (walk_all true t) kept)) number

  module _ (o o' : List ℕ) where
    abbrev now : Bool → ℕ
    now b = first_of (unpriced_fault w) (first_of (when b 24) (when (ltb (length o) (count_long w.fields)) 16))

    now_is : (b : Bool) → shape_fault b s o ≡ now b
    now_is b = λ i. first_of (number i) (first_of (when b 24) (when (ltb (length o) (long_is i)) 16))

    written : (r : Shaped) → ShapeSays s o o' r ↔ ShapeUnpriced w o o' r
    written r = (
      λ h. let (b, k, x) = h in (b, (keeps b).0 k, (shape_by s none best_unpriced alike (now b) o o' r).0 (subst (λ (f : ℕ). ShapeWith f s o o' r) (now_is b) x)),
      λ h. let (b, k, x) = h in (b, (keeps b).1 k, subst (λ (f : ℕ). ShapeWith f s o o' r) (sym (now_is b)) ((shape_by s none best_unpriced alike (now b) o o' r).1 x)),
    )

    abbrev listed_now : Bool → ℕ
    listed_now b = first_of (unpriced_fault w) (when b 24)

    listing : (r : Listed) → ListingSays s o o' r ↔ ListingUnpriced w o o' r
    listing r = (
      λ h. let (b, k, x) = h in (b, (keeps b).0 k, (listing_by s none best_unpriced alike (listed_now b) o o' r).0 (subst (λ (f : ℕ). ListingWith f s o o' r) (ap (λ (n : ℕ). first_of n (when b 24)) number) x)),
      λ h. let (b, k, x) = h in (b, (keeps b).1 k, subst (λ (f : ℕ). ListingWith f s o o' r) (sym (ap (λ (n : ℕ). first_of n (when b 24)) number)) ((listing_by s none best_unpriced alike (listed_now b) o o' r).1 x)),
    )

  checked : (t : List ℕ) (r : Verdict) → has_tag 22 (walk_all true t).fields ≡ false → CheckSays s t r ↔ CheckUnpriced w (walk_all true t) r
  checked t r absent = (
    λ h. (check_by s none best_unpriced alike (check_number t) t r).0 (subst (λ (f : ℕ). CheckWith f s t r) (file_number t absent) h),
    λ h. subst (λ (f : ℕ). CheckWith f s t r) (sym (file_number t absent)) ((check_by s none best_unpriced alike (check_number t) t r).1 h),
  )

  pub as_unpriced : AsUnpriced s
  as_unpriced = record {
    walked = same_walk;
    number = number ∙ ap unpriced_fault same_walk;
    written = λ o o' r. subst (λ (v : Walk). ShapeSays s o o' r ↔ ShapeUnpriced v o o' r) same_walk (written o o' r);
    judged = λ t none. file_number t (no_field true true 22 (suc (length t)) [] t none refl) ∙ ap₂ unpriced_check same_walk (unpriced_walked true t none);
    checked = λ t r none. subst₂ (λ (v u : Walk). CheckSays s t r ↔ CheckUnpriced v u r) same_walk (unpriced_walked true t none) (checked t r (no_field true true 22 (suc (length t)) [] t none refl));
    listed = λ o o' r. subst (λ (v : Walk). ListingSays s o o' r ↔ ListingUnpriced v o o' r) same_walk (listing o o' r);
    four_fields = no_sum w.fields none;
    file-long = long_is;
  }
