-- Where some shape keeps the limits there is a best one: of the shapes no dearer than it, the first by priced sum, cornered posts, bends and counts.
use mathlib.Core.Path.{◌≡◌, refl, sym, ap, ap₂, subst, ◌∙◌}
use mathlib.Core.Bool.{Bool, true, false, ◌&&◌}
use mathlib.Core.List.{List, [], ◌∷◌, ◌++◌}
use mathlib.Core.Logic.{◌⊎◌, inl, inr, ⊎_elim}
use Prim.Native.Nat.{ℕ, zero, suc, ◌+◌, ◌-◌, ◌*◌, ◌/◌, ◌≤◌, ◌<◌, min}
use native.Mathlib.Decide.{dec_lt}
use native.Mathlib.Nat.{mul-le-mul_left, mul-le-mul_right}
use native.Mathlib.Omega.{arith}
use borrow.Author.Tests.{eqb-true, eq-eqb, lt-ltb, leb-true, le-leb}
use lib.Dec.{eqb, ltb, leb}
use lib.ListN.{length, get_or, take, drop, length-take, length-drop, take-append-drop}
use lib.Seq.{get_or-take, get_or-drop, take_at, drop_at}
use Rattle.finite.proofs.Sums.{sum_below, sum_le, total_sum}
use Rattle.finite.proofs.Tests.{and_left, and_right, and_both, each_over}
use Rattle.embedding.specs.Plates.{all_below, Plate, darts, strips, twin}
use Rattle.embedding.proofs.Rotation.{Ordered, twin_dart}
use Rattle.shapes.specs.Shapes.{cornered, cornered_from, Shape, shape, meets, bends, rights_of, total, smaller, words_from, shape_of}
use Rattle.shapes.specs.Claims.{is_flow}
use Rattle.shapes.specs.Rates.{Rates, Fair, pair_sums, all_within, priced_sum, keeps, price, comes_first_by, BestBy}
use Rattle.shapes.proofs.Tables.{length_table, by_parts}
use Rattle.shapes.proofs.FlowFacts.{IsFlow, is_flow_facts, is_flow_parts}
use Rattle.shapes.proofs.Meets.{meets_facts}
use Rattle.shapes.proofs.Tamassia.{two_to_a_strip, shape_flow, flow_rights, flow_shape}
use Rattle.shapes.proofs.Straight.{both, straightened, straight_flow, less, never_both_if}
use Rattle.shapes.proofs.OneWord.{words_fixed}
use Rattle.shapes.proofs.Order.{smaller_parts, ahead}
use Rattle.shapes.proofs.Corners.{cornered_most}
use Rattle.shapes.proofs.Strips.{price_at, within_darts, darts_within}
use Rattle.shapes.proofs.RatedOrder.{Then, then_test, then_from_test, then_map, by_counts, facts_first}
use Rattle.shapes.proofs.RatedShapes.{priced_is, rights_count}
use Rattle.shapes.proofs.RatedFits.{fewer_within}
use Rattle.shapes.proofs.FirstList.{First, Boxed, first_list}

total_has : (xs : List ℕ) (i : ℕ) → get_or xs i 0 ≤ total xs
total_has [] i = omega arith
total_has (x ∷ xs) zero = omega arith
total_has (x ∷ xs) (suc i) = omega (arith, total_has xs i)

-- straightened, strips keep the limits that they kept
pub straight_keeps : (p : Plate) (o : Ordered p) (ls xs : List ℕ) → length xs ≡ darts p → all_within ls (pair_sums xs) ≡ true → all_within ls (pair_sums (straightened p o xs)) ≡ true
straight_keeps p o ls xs long within =
    let t = two_to_a_strip p o in
    let zs = straightened p o xs in
    darts_within ls zs (strips p) (length_table (darts p) (λ d. get_or xs d 0 - both p o xs d) ∙ sym t)
    (λ d l.
    let h : d < darts p = omega arith in
    fewer_within (get_or ls (d / 2) 255) (get_or xs d 0 + get_or xs (twin d) 0) (get_or zs d 0 + get_or zs (twin d) 0)
    (omega (arith, less p o xs d h, less p o xs (twin d) (twin_dart p o d h))) (within_darts ls xs (strips p) (long ∙ sym t) within d l))

-- what comes first of right bends and corners in one list
module _ (p : Plate) (r : Rates) (x : List ℕ) where
  abbrev units : List ℕ
  units = take (darts p) x

  abbrev corners : List ℕ
  corners = drop (darts p) x

  abbrev priced_in : ℕ
  priced_in = priced_sum r.prices (pair_sums units)

  abbrev cornered_in : ℕ
  cornered_in = cornered_from p.posts 0 p corners

  abbrev bends_in : ℕ
  bends_in = total units

  abbrev counted : Bool
  counted = is_flow p corners units && all_within r.limits (pair_sums units)

  abbrev key_of : List ℕ
  key_of = priced_in ∷ (cornered_in ∷ (bends_in ∷ x))

-- a list with these in front, the priced sum at most so much
abbrev keyed : Plate → Rates → ℕ → List ℕ → Bool
keyed p r most [] = false
keyed p r most (a ∷ []) = false
keyed p r most (a ∷ (b ∷ [])) = false
keyed p r most (a ∷ (b ∷ (c ∷ x))) = leb a most && (eqb a (priced_in p r x) && (eqb b (cornered_in p r x) && (eqb c (bends_in p r x) && counted p r x)))

record Keyed (p : Plate) (r : Rates) (most a b c : ℕ) (x : List ℕ) : Type 0 where
  cheap : a ≤ most
  priced : a ≡ priced_in p r x
  turned : b ≡ cornered_in p r x
  bent : c ≡ bends_in p r x
  flow : is_flow p (corners p r x) (units p r x) ≡ true
  within : all_within r.limits (pair_sums (units p r x)) ≡ true

module _ (p : Plate) (r : Rates) (most : ℕ) where
  keyed_facts : (a b c : ℕ) (x : List ℕ) → keyed p r most (a ∷ (b ∷ (c ∷ x))) ≡ true → Keyed p r most a b c x
  keyed_facts a b c x e =
      let e1 : eqb a (priced_in p r x) && (eqb b (cornered_in p r x) && (eqb c (bends_in p r x) && counted p r x)) ≡ true = and_right (leb a most) _ e in
      let e2 : eqb b (cornered_in p r x) && (eqb c (bends_in p r x) && counted p r x) ≡ true = and_right (eqb a (priced_in p r x)) _ e1 in
      let e3 : eqb c (bends_in p r x) && counted p r x ≡ true = and_right (eqb b (cornered_in p r x)) _ e2 in
      let e4 : counted p r x ≡ true = and_right (eqb c (bends_in p r x)) _ e3 in
      record {
        cheap = leb-true a most (and_left (leb a most) _ e);
        priced = eqb-true _ _ (and_left (eqb a (priced_in p r x)) _ e1);
        turned = eqb-true _ _ (and_left (eqb b (cornered_in p r x)) _ e2);
        bent = eqb-true _ _ (and_left (eqb c (bends_in p r x)) _ e3);
        flow = and_left (is_flow p (corners p r x) (units p r x)) _ e4;
        within = and_right (is_flow p (corners p r x) (units p r x)) _ e4;
      }

  facts_keyed : (x : List ℕ) → is_flow p (corners p r x) (units p r x) ≡ true → all_within r.limits (pair_sums (units p r x)) ≡ true → priced_in p r x ≤ most → keyed p r most (key_of p r x) ≡ true
  facts_keyed x f w l = and_both _ _ (le-leb (priced_in p r x) most l) (and_both _ _ (eq-eqb (priced_in p r x) _ refl) (and_both _ _ (eq-eqb (cornered_in p r x) _ refl) (and_both _ _ (eq-eqb (bends_in p r x) _ refl) (and_both _ _ f w))))

  module _ (o : Ordered p) (fair : Fair r) where
    -- a bend costs 1 or more
    bends_priced : (xs : List ℕ) → length xs ≡ darts p → total xs ≤ priced_sum r.prices (pair_sums xs)
    bends_priced xs long =
        omega (
          arith,
          total_sum xs,
          ap (λ (k : ℕ). sum_below k (λ d. get_or xs d 0)) long,
          priced_is p o r xs long,
          sum_le (darts p) (λ d. get_or xs d 0) (λ d. price_at r.prices d * get_or xs d 0) (λ d l. omega (arith, mul-le-mul_right (get_or xs d 0) (fair.some_price (d / 2)))),
        )

    module _ (a b c : ℕ) (x : List ℕ) (k : Keyed p r most a b c x) where
      facts : IsFlow p (corners p r x) (units p r x)
      facts = is_flow_facts p (corners p r x) (units p r x) k.flow

      few_bends : bends_in p r x ≤ most
      few_bends = omega (arith, k.priced, k.cheap, bends_priced (units p r x) facts.units_long)

      key_long : length x ≡ darts p + darts p
      key_long = omega (arith, facts.units_long, facts.corners_long, length-take (darts p) x, length-drop (darts p) x)

      at_most : (i : ℕ) → i < length x → get_or x i 0 < most + (p.posts + 5)
      at_most i l =
          by_parts (λ i. get_or x i 0 < most + (p.posts + 5)) (darts p) (darts p)
          (λ i k. omega (arith, get_or-take (darts p) x i 0 k, total_has (units p r x) i, few_bends))
          (λ i k. omega (arith, get_or-drop (darts p) x i 0, (facts.corner_range i k).1)) i (omega (arith, key_long))

      key_below : all_below (most + (p.posts + 5)) (a ∷ (b ∷ (c ∷ x))) ≡ true
      key_below =
          and_both _ _ (lt-ltb a (most + (p.posts + 5)) (omega (arith, k.cheap)))
          (and_both _ _ (lt-ltb b (most + (p.posts + 5)) (omega (arith, k.turned, cornered_most p (corners p r x))))
          (and_both _ _ (lt-ltb c (most + (p.posts + 5)) (omega (arith, k.bent, few_bends)))
          (each_over (all_below (most + (p.posts + 5))) (λ a. ltb a (most + (p.posts + 5))) refl (λ a y. refl) x (λ i l. lt-ltb (get_or x i 0) (most + (p.posts + 5)) (at_most i l)))))

    boxed : Boxed (suc (suc (suc (darts p + darts p)))) (most + (p.posts + 5)) (keyed p r most)
    boxed [] e = absurd (let z : ◌≡◌ {A = ℕ} 0 1 = cc in omega arith)
    boxed (a ∷ []) e = absurd (let z : ◌≡◌ {A = ℕ} 0 1 = cc in omega arith)
    boxed (a ∷ (b ∷ [])) e = absurd (let z : ◌≡◌ {A = ℕ} 0 1 = cc in omega arith)
    boxed (a ∷ (b ∷ (c ∷ x))) e = let k = keyed_facts a b c x e in (omega (arith, key_long a b c x k), key_below a b c x k)

-- counts with these in front
abbrev key_for : Plate → Rates → List ℕ → List ℕ → List ℕ
key_for p r cs xs = priced_sum r.prices (pair_sums xs) ∷ (cornered_from p.posts 0 p cs ∷ (total xs ∷ (xs ++ cs)))

for_keyed : (p : Plate) (r : Rates) (most : ℕ) (cs xs : List ℕ) → is_flow p cs xs ≡ true → all_within r.limits (pair_sums xs) ≡ true → priced_sum r.prices (pair_sums xs) ≤ most → keyed p r most (key_for p r cs xs) ≡ true
for_keyed p r most cs xs f w l =
    let long = (is_flow_parts p cs xs f).1 in
    let t : take (darts p) (xs ++ cs) ≡ xs = take_at xs cs (darts p) long in
    let d : drop (darts p) (xs ++ cs) ≡ cs = drop_at xs cs (darts p) long in
    let k : keyed p r most (key_of p r (xs ++ cs)) ≡ true = facts_keyed p r most (xs ++ cs) (rw (t, d) f) (rw t w) (rw t l) in
    subst (λ (q : List ℕ). keyed p r most q ≡ true) (ap₂ (λ (us al : List ℕ). priced_sum r.prices (pair_sums us) ∷ (cornered_from p.posts 0 p al ∷ (total us ∷ (xs ++ cs)))) t d) k

-- the first such list is a best shape's
module _ (p : Plate) (o : Ordered p) (r : Rates) (most a b c : ℕ) (x : List ℕ) (k : Keyed p r most a b c x)
    (first : (y : List ℕ) → keyed p r most y ≡ true → (y ≡ (a ∷ (b ∷ (c ∷ x)))) ⊎ (smaller (a ∷ (b ∷ (c ∷ x))) y ≡ true)) where
  abbrev xs : List ℕ
  xs = take (darts p) x

  abbrev cs : List ℕ
  cs = drop (darts p) x

  abbrev s : Shape
  s = shape_of p cs xs

  rights : rights_of s.words ≡ xs
  rights = flow_rights p o cs xs k.flow

  xs_long : length xs ≡ darts p
  xs_long = (is_flow_parts p cs xs k.flow).1

  module _ (al ys : List ℕ) (f : is_flow p al ys ≡ true) (w : all_within r.limits (pair_sums ys) ≡ true) (l : priced_sum r.prices (pair_sums ys) ≤ most) where
    versus : (key_for p r al ys ≡ (a ∷ (b ∷ (c ∷ x)))) ⊎ (smaller (a ∷ (b ∷ (c ∷ x))) (key_for p r al ys) ≡ true)
    versus = first (key_for p r al ys) (for_keyed p r most al ys f w l)

    -- by the numbers in front in turn
    ordered : Then a (priced_sum r.prices (pair_sums ys)) (Then b (cornered_from p.posts 0 p al) (Then c (total ys) ((ys ++ al ≡ x) ⊎ (smaller x (ys ++ al) ≡ true))))
    ordered = go versus
      where
        go : (key_for p r al ys ≡ (a ∷ (b ∷ (c ∷ x)))) ⊎ (smaller (a ∷ (b ∷ (c ∷ x))) (key_for p r al ys) ≡ true)
            → Then a (priced_sum r.prices (pair_sums ys)) (Then b (cornered_from p.posts 0 p al) (Then c (total ys) ((ys ++ al ≡ x) ⊎ (smaller x (ys ++ al) ≡ true))))
        go (inl q) =
            inr (ap (λ (z : List ℕ). get_or z 0 0) (sym q), inr (ap (λ (z : List ℕ). get_or z 1 0) (sym q), inr (ap (λ (z : List ℕ). get_or z 2 0) (sym q), inl (ap (λ (z : List ℕ). drop 3 z) q))))
        go (inr q) =
            then_map (λ q. then_map (λ q. then_map (λ q. inr q) (then_from_test c (total ys) (smaller x (ys ++ al)) q))
            (then_from_test b (cornered_from p.posts 0 p al) (then_test c (total ys) (smaller x (ys ++ al))) q))
            (then_from_test a (priced_sum r.prices (pair_sums ys)) (then_test b (cornered_from p.posts 0 p al) (then_test c (total ys) (smaller x (ys ++ al)))) q)

  price_is : price r s ≡ a
  price_is = ap (λ (z : List ℕ). priced_sum r.prices (pair_sums z)) rights ∙ sym k.priced

  -- it bends no strip both ways, for straightened it would come first
  abbrev zs : List ℕ
  zs = straightened p o xs

  straight_long : length zs ≡ darts p
  straight_long = length_table (darts p) (λ d. get_or xs d 0 - both p o xs d)

  straight_within : all_within r.limits (pair_sums zs) ≡ true
  straight_within = straight_keeps p o r.limits xs xs_long k.within

  straight_cheap : priced_sum r.prices (pair_sums zs) ≤ a
  straight_cheap =
      omega (
        arith,
        k.priced,
        priced_is p o r xs xs_long,
        priced_is p o r zs straight_long,
        sum_le (darts p) (λ d. price_at r.prices d * get_or zs d 0) (λ d. price_at r.prices d * get_or xs d 0) (λ d l. mul-le-mul_left (price_at r.prices d) (omega (arith, less p o xs d l))),
      )

  no_fewer : total xs ≤ total zs
  no_fewer = go (ordered cs zs (straight_flow p o xs cs k.flow) straight_within (omega (arith, straight_cheap, k.cheap)))
    where
      go : Then a (priced_sum r.prices (pair_sums zs)) (Then b (cornered_from p.posts 0 p cs) (Then c (total zs) ((zs ++ cs ≡ x) ⊎ (smaller x (zs ++ cs) ≡ true)))) → total xs ≤ total zs
      go (inl h) = absurd (omega (arith, straight_cheap))
      go (inr (e, inl h)) = absurd (omega (arith, k.turned))
      go (inr (e, inr (d, inl h))) = omega (arith, k.bent)
      go (inr (e, inr (d, inr (h, q)))) = omega (arith, k.bent)

  never : (d : ℕ) → d < darts p → both p o xs d ≡ 0
  never = never_both_if p o xs xs_long no_fewer

  module _ (u : Shape) (m : meets p u ≡ true) (w : keeps r u ≡ true) where
    abbrev ys : List ℕ
    ys = rights_of u.words

    flow : is_flow p u.angles ys ≡ true
    flow = shape_flow p o u m

    ys_long : length ys ≡ darts p
    ys_long = rights_count p o r u m

    dearer : price r s ≤ price r u
    dearer = go (dec_lt most (price r u))
      where
        by : Then a (price r u) (Then b (cornered p u) (Then c (bends u) ((ys ++ u.angles ≡ x) ⊎ (smaller x (ys ++ u.angles) ≡ true)))) → price r s ≤ price r u
        by (inl l) = omega (arith, price_is)
        by (inr q) = omega (arith, price_is, q.0)

        go : Dec (most < price r u) → price r s ≤ price r u
        go (yes l) = omega (arith, price_is, k.cheap)
        go (no l) = by (ordered u.angles ys flow w (omega arith))

    ours : ys ++ u.angles ≡ x → u ≡ s
    ours q =
        let t : strips p + strips p ≡ darts p = two_to_a_strip p o in
        let g = meets_facts p u m in
        let same_units : ys ≡ xs = sym (take_at ys u.angles (darts p) ys_long) ∙ ap (take (darts p)) q in
        let same_angles : u.angles ≡ cs = sym (drop_at ys u.angles (darts p) ys_long) ∙ ap (drop (darts p)) q in
        let words : u.words ≡ words_from (strips p) ys =
        words_fixed (strips p) u.words (g.words_long ∙ sym t) (λ d l. g.twins d (omega arith))
        (λ d l. subst (λ (z : List ℕ). min (get_or z d 0) (get_or z (twin d) 0) ≡ 0) (sym same_units) (never d (omega arith))) in
        ap₂ shape same_angles (words ∙ ap (words_from (strips p)) same_units)

    sooner : price r u ≡ price r s → (u ≡ s) ⊎ (comes_first_by p r s u ≡ true)
    sooner e = go (ordered u.angles ys flow w (omega (arith, price_is, k.cheap)))
      where
        counts_first : smaller x (ys ++ u.angles) ≡ true → by_counts p r s u ≡ true
        counts_first q =
            subst (λ (z : List ℕ). ahead z cs ys u.angles ≡ true) (sym rights)
            (sym (smaller_parts xs cs ys u.angles (xs_long ∙ sym ys_long)) ∙ ap (λ (z : List ℕ). smaller z (ys ++ u.angles)) (take-append-drop (darts p) x) ∙ q)

        bends_are : bends s ≡ c
        bends_are = ap total rights ∙ sym k.bent

        go : Then a (price r u) (Then b (cornered p u) (Then c (bends u) ((ys ++ u.angles ≡ x) ⊎ (smaller x (ys ++ u.angles) ≡ true)))) → (u ≡ s) ⊎ (comes_first_by p r s u ≡ true)
        go (inl l) = absurd (omega (arith, price_is))
        go (inr (h, inl l)) = inr (facts_first p r s u (inr (sym e, inl (omega (arith, k.turned)))))
        go (inr (h, inr (d, inl l))) = inr (facts_first p r s u (inr (sym e, inr (omega (arith, k.turned), inl (omega (arith, bends_are))))))
        go (inr (h, inr (d, inr (g, inl q)))) = inl (ours q)
        go (inr (h, inr (d, inr (g, inr q)))) = inr (facts_first p r s u (inr (sym e, inr (omega (arith, k.turned), inr (omega (arith, bends_are), counts_first q)))))

  first_best : BestBy p r s
  first_best = record {
    meets_all = flow_shape p o cs xs k.flow;
    keeps_all = ap (λ (z : List ℕ). all_within r.limits (pair_sums z)) rights ∙ k.within;
    cheapest = dearer;
    first = sooner;
  }

pub some_best_by : (p : Plate) (o : Ordered p) (r : Rates) (fair : Fair r) (u : Shape) → meets p u ≡ true → keeps r u ≡ true
    → (al : List ℕ) × (xs : List ℕ) × BestBy p r (shape_of p al xs) × (rights_of (shape_of p al xs).words ≡ xs)
some_best_by p o r fair u m w =
    ⊎_elim (λ (g : First (keyed p r (price r u))). found g.list g.passes g.first) (λ none. absurd (none (key_for p r u.angles (rights_of u.words)) (for_keyed p r (price r u) u.angles (rights_of u.words) (shape_flow p o u m) w (omega arith))))
    (first_list (suc (suc (suc (darts p + darts p)))) (price r u + (p.posts + 5)) (keyed p r (price r u)) (boxed p r (price r u) o fair))
  where
    found : (l : List ℕ) → keyed p r (price r u) l ≡ true → ((y : List ℕ) → keyed p r (price r u) y ≡ true → (y ≡ l) ⊎ (smaller l y ≡ true))
        → (al : List ℕ) × (xs : List ℕ) × BestBy p r (shape_of p al xs) × (rights_of (shape_of p al xs).words ≡ xs)
    found [] e h = absurd (let z : ◌≡◌ {A = ℕ} 0 1 = cc in omega arith)
    found (a ∷ []) e h = absurd (let z : ◌≡◌ {A = ℕ} 0 1 = cc in omega arith)
    found (a ∷ (b ∷ [])) e h = absurd (let z : ◌≡◌ {A = ℕ} 0 1 = cc in omega arith)
    found (a ∷ (b ∷ (c ∷ x))) e h =
        let k = keyed_facts p r (price r u) a b c x e in
        (drop (darts p) x, take (darts p) x, first_best p o r (price r u) a b c x k h, flow_rights p o (drop (darts p) x) (take (darts p) x) k.flow)
