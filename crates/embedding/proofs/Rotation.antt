-- Twins, the darts of a post, and the dart after a dart on its face.
use mathlib.Core.Path.{◌≡◌, refl, sym, ap, subst, ◌∙◌}
use mathlib.Core.Bool.{Bool, true, false, ◌&&◌}
use mathlib.Core.List.{List, [], ◌∷◌}
use mathlib.Core.Logic.{◌⊎◌, inl, inr, ⊎_elim}
use Prim.Native.Nat.{ℕ, zero, suc, ◌+◌, ◌-◌, ◌%◌, ◌≤◌, ◌<◌, zero-le}
use native.Mathlib.Omega.{arith}
use borrow.Author.Tests.{eqb-true, eqb-false, eq-eqb, ne_eqb, ltb-true, ltb-false, le-ltb}
use lib.Dec.{eqb, ltb}
use lib.ListN.{length, drop, length-take, length-drop}
use Rattle.finite.specs.Walks.{OneToOne}
use Rattle.finite.proofs.Members.{get_d_in, in_none, in_here, in_more, in_cases, in_one, in_past, all_in, all_of, distinct_head, distinct_rest, last_in}
use Rattle.finite.proofs.Pigeonhole.{length_members, when_one}
use Rattle.finite.proofs.Sums.{sum_below, sum_over, sum_cong, sum_none, sum_ones, sum_add, sum_le, sum_tight, sum_over_places}
use Rattle.finite.proofs.Tests.{equal_or_not, not_both, and_left, and_right}
pub use Rattle.maps.proofs.Darts.{twin_twin}
use Rattle.embedding.specs.Plates.{pick, when, is_in, Plate, darts, twin, leaves, ends_at, degree_from, degree, before, part_of, all_below, distinct, all_leave, parts_ok, last_of, just_before, after}

-- what refusals 7 to 12 leave
pub record Ordered (p : Plate) : Type 0 where
  pub even : darts p % 2 ≡ 0
  pub ends_below : all_below p.posts p.ends ≡ true
  pub all_ordered : length p.order ≡ darts p
  pub parts-ok : parts_ok p.posts 0 p ≡ true

-- twins
twin_by : (d : ℕ) (b : Bool) → eqb (d % 2) 0 ≡ b → ((d % 2 ≡ 0) × (pick b (suc d) (d - 1) ≡ suc d)) ⊎ ((d % 2 ≡ 1) × (pick b (suc d) (d - 1) ≡ d - 1))
twin_by d true e = inl (eqb-true (d % 2) 0 e, refl)
twin_by d false e = inr (let odd : d % 2 ≡ 0 → ⊥ = eqb-false (d % 2) 0 e in omega arith, refl)

pub twin_cases : (d : ℕ) → ((d % 2 ≡ 0) × (twin d ≡ suc d)) ⊎ ((d % 2 ≡ 1) × (twin d ≡ d - 1))
twin_cases d = twin_by d (eqb (d % 2) 0) refl

pub twin_even : (d : ℕ) → d % 2 ≡ 0 → twin d ≡ suc d
twin_even d e = ⊎_elim (λ h. h.1) (λ h. absurd (omega arith)) (twin_cases d)

pub twin_odd : (d : ℕ) → d % 2 ≡ 1 → twin d ≡ d - 1
twin_odd d e = ⊎_elim (λ h. absurd (omega arith)) (λ h. h.1) (twin_cases d)

pub twin_differs : (d : ℕ) → twin d ≡ d → ⊥
twin_differs d e = ⊎_elim (λ h. omega arith) (λ h. omega arith) (twin_cases d)

pub twin_below : (n d : ℕ) → n % 2 ≡ 0 → d < n → twin d < n
twin_below n d e l = ⊎_elim (λ h. omega arith) (λ h. omega arith) (twin_cases d)

pub twin_one : (d e : ℕ) → twin d ≡ twin e → d ≡ e
twin_one d e q = sym (twin_twin d) ∙ ap twin q ∙ twin_twin e

-- the element just before, with the one before the first given
pub before_here : (x q y : ℕ) (ys : List ℕ) → x ≡ y → just_before x q (y ∷ ys) ≡ q
before_here x q y ys e = ap (λ (b : Bool). elim b as (λ b. ℕ) [ true ↦ q | false ↦ just_before x y ys ]) (eq-eqb x y e)

pub before_on : (x q y : ℕ) (ys : List ℕ) → (x ≡ y → ⊥) → just_before x q (y ∷ ys) ≡ just_before x y ys
before_on x q y ys e = ap (λ (b : Bool). elim b as (λ b. ℕ) [ true ↦ q | false ↦ just_before x y ys ]) (ne_eqb x y e)

before-in : (x q : ℕ) (ys : List ℕ) → is_in (just_before x q ys) (q ∷ ys) ≡ true
before-in x q [] = in_here q []
before-in x q (y ∷ ys) =
    ⊎_elim (λ e. subst (λ (z : ℕ). is_in z (q ∷ (y ∷ ys)) ≡ true) (sym (before_here x q y ys e)) (in_here q (y ∷ ys)))
    (λ e. subst (λ (z : ℕ). is_in z (q ∷ (y ∷ ys)) ≡ true) (sym (before_on x q y ys e)) (in_more (just_before x y ys) q (y ∷ ys) (before-in x y ys)))
    (equal_or_not x y)

-- just before an element that is not the first stands an element that is not the last
before_apart : (z : ℕ) (zs : List ℕ) → distinct (z ∷ zs) ≡ true → (y : ℕ) → is_in y zs ≡ true → just_before y z zs ≡ last_of (z ∷ zs) → ⊥
before_apart z [] d y e q = in_none y e
before_apart z (w ∷ ws) d y e q =
    ⊎_elim (λ h. not_both (subst (λ (x : ℕ). is_in x (w ∷ ws) ≡ true) (sym q ∙ before_here y z w ws h) (last_in w (w ∷ ws) (in_here w ws))) (distinct_head z (w ∷ ws) d))
    (λ h. before_apart w ws (distinct_rest z (w ∷ ws) d) y (in_past y w ws h e) (sym (before_on y z w ws h) ∙ q))
    (equal_or_not y w)

before_one : (q z : ℕ) (zs : List ℕ) → distinct (z ∷ zs) ≡ true → ((y : ℕ) → is_in y zs ≡ true → just_before y z zs ≡ q → ⊥) → (x y : ℕ) → is_in x (z ∷ zs) ≡ true → is_in y (z ∷ zs) ≡ true → just_before x q (z ∷ zs) ≡ just_before y q (z ∷ zs) → x ≡ y
before_one q z [] d apart x y i j e = in_one x z i ∙ sym (in_one y z j)
before_one q z (w ∷ ws) d apart x y i j e = both (equal_or_not x z) (equal_or_not y z) (before_one z w ws (distinct_rest z (w ∷ ws) d) not_z x y)
  where
    not_z : (u : ℕ) → is_in u ws ≡ true → just_before u w ws ≡ z → ⊥
    not_z u h k = not_both (subst (λ (v : ℕ). is_in v (w ∷ ws) ≡ true) k (before-in u w ws)) (distinct_head z (w ∷ ws) d)

    both : (x ≡ z) ⊎ (x ≡ z → ⊥) → (y ≡ z) ⊎ (y ≡ z → ⊥) → (is_in x (w ∷ ws) ≡ true → is_in y (w ∷ ws) ≡ true → just_before x z (w ∷ ws) ≡ just_before y z (w ∷ ws) → x ≡ y) → x ≡ y
    both (inl a) (inl b) ih = a ∙ sym b
    both (inl a) (inr b) ih = absurd (apart y (in_past y z (w ∷ ws) b j) (sym (before_on y q z (w ∷ ws) b) ∙ sym e ∙ before_here x q z (w ∷ ws) a))
    both (inr a) (inl b) ih = absurd (apart x (in_past x z (w ∷ ws) a i) (sym (before_on x q z (w ∷ ws) a) ∙ e ∙ before_here y q z (w ∷ ws) b))
    both (inr a) (inr b) ih = ih (in_past x z (w ∷ ws) a i) (in_past y z (w ∷ ws) b j) (sym (before_on x q z (w ∷ ws) a) ∙ e ∙ before_on y q z (w ∷ ws) b)

-- round a list of distinct elements: the element before, the last before the first
abbrev pub round_before : List ℕ → ℕ → ℕ
round_before ds x = just_before x (last_of ds) ds

pub round_in : (ds : List ℕ) (x : ℕ) → is_in x ds ≡ true → is_in (round_before ds x) ds ≡ true
round_in ds x e =
    ⊎_elim (λ q. subst (λ (z : ℕ). is_in z ds ≡ true) (sym q) (last_in x ds e)) (λ h. h)
    (in_cases (round_before ds x) (last_of ds) ds (before-in x (last_of ds) ds))

pub round_one : (ds : List ℕ) → distinct ds ≡ true → (x y : ℕ) → is_in x ds ≡ true → is_in y ds ≡ true → round_before ds x ≡ round_before ds y → x ≡ y
round_one [] d x y i j e = absurd (in_none x i)
round_one (z ∷ zs) d x y i j e = before_one (last_of (z ∷ zs)) z zs d (before_apart z zs d) x y i j e

-- the darts of a post
degree_sum : (v : ℕ) (es : List ℕ) → degree_from v es ≡ sum_over es (λ e. when (eqb v e) 1)
degree_sum v [] = refl
degree_sum v (e ∷ es) = ap (λ (s : ℕ). when (eqb v e) 1 + s) (degree_sum v es)

when_next : (e v : ℕ) (a b c : Bool) → eqb v e ≡ a → ltb e v ≡ b → ltb e (suc v) ≡ c → when c 1 ≡ when a 1 + when b 1
when_next e v true true c q r s = absurd (omega (arith, eqb-true, ltb-true))
when_next e v true false true q r s = omega arith
when_next e v true false false q r s = absurd (omega (arith, eqb-true, ltb-false))
when_next e v false true true q r s = omega arith
when_next e v false true false q r s = absurd (omega (arith, ltb-true, ltb-false))
when_next e v false false true q r s = absurd (eqb-false v e q (omega (arith, ltb-true, ltb-false)))
when_next e v false false false q r s = omega arith

-- a test that implies another counts no more; where it counts as much they are the same
when_le : (a b : Bool) → (a ≡ true → b ≡ true) → when a 1 ≤ when b 1
when_le true b h = rw (h refl) (omega arith)
when_le false b h = zero-le

when_same : (a b : Bool) → when a 1 ≡ when b 1 → a ≡ b
when_same true true e = refl
when_same true false e = absurd (omega arith)
when_same false true e = absurd (omega arith)
when_same false false e = refl

module _ (p : Plate) where
  pub degree_count : (v : ℕ) → degree p v ≡ sum_below (darts p) (λ i. when (eqb v (leaves p i)) 1)
  degree_count v = degree_sum v p.ends ∙ sum_over_places p.ends (λ e. when (eqb v e) 1)

  pub before_count : (v : ℕ) → before p v ≡ sum_below (darts p) (λ i. when (ltb (leaves p i) v) 1)
  before_count zero = sym (sum_cong (darts p) (λ i. when (ltb (leaves p i) 0) 1) (λ i. 0) (λ i l. ap (λ (b : Bool). when b 1) (le-ltb (leaves p i) 0 zero-le)) ∙ sum_none (darts p))
  before_count (suc v) =
      omega (
        arith,
        degree_count v,
        before_count v,
        sum_add (darts p) (λ i. when (eqb v (leaves p i)) 1) (λ i. when (ltb (leaves p i) v) 1),
        sum_cong (darts p) (λ i. when (ltb (leaves p i) (suc v)) 1) (λ i. when (eqb v (leaves p i)) 1 + when (ltb (leaves p i) v) 1)
            (λ i l. when_next (leaves p i) v (eqb v (leaves p i)) (ltb (leaves p i) v) (ltb (leaves p i) (suc v)) refl refl refl),
      )

  pub before_most : (v : ℕ) → before p v ≤ darts p
  before_most v = omega (arith, before_count v, sum_ones (darts p), sum_le (darts p) (λ i. when (ltb (leaves p i) v) 1) (λ i. 1) (λ i l. when_one (ltb (leaves p i) v)))

  leave_in : (v : ℕ) (ds : List ℕ) → all_leave p v ds ≡ true → (d : ℕ) → is_in d ds ≡ true → (d < darts p) × (leaves p d ≡ v)
  leave_in v [] a d e = absurd (in_none d e)
  leave_in v (x ∷ xs) a d e =
      let b : eqb (leaves p x) v && all_leave p v xs ≡ true = and_right (ltb x (darts p)) (eqb (leaves p x) v && all_leave p v xs) a in
      ⊎_elim
      (λ q. subst (λ (y : ℕ). (y < darts p) × (leaves p y ≡ v)) (sym q)
      (ltb-true x (darts p) (and_left (ltb x (darts p)) (eqb (leaves p x) v && all_leave p v xs) a), eqb-true (leaves p x) v (and_left (eqb (leaves p x) v) (all_leave p v xs) b)))
      (leave_in v xs (and_right (eqb (leaves p x) v) (all_leave p v xs) b) d)
      (in_cases d x xs e)

  parts_at : (n a : ℕ) → parts_ok n a p ≡ true → (v : ℕ) → a ≤ v → v < a + n → (all_leave p v (part_of p v) ≡ true) × (distinct (part_of p v) ≡ true)
  parts_at zero a h v l k = absurd (omega arith)
  parts_at (suc n) a h v l k = ⊎_elim here (λ q. parts_at n (suc a) (and_right (distinct (part_of p a)) (parts_ok n (suc a) p) more) v (omega arith) (omega arith)) (equal_or_not v a)
    where
      more : distinct (part_of p a) && parts_ok n (suc a) p ≡ true
      more = and_right (all_leave p a (part_of p a)) (distinct (part_of p a) && parts_ok n (suc a) p) h

      here : v ≡ a → (all_leave p v (part_of p v) ≡ true) × (distinct (part_of p v) ≡ true)
      here q =
          subst (λ (u : ℕ). (all_leave p u (part_of p u) ≡ true) × (distinct (part_of p u) ≡ true)) (sym q)
          (and_left (all_leave p a (part_of p a)) (distinct (part_of p a) && parts_ok n (suc a) p) h, and_left (distinct (part_of p a)) (parts_ok n (suc a) p) more)

module _ (p : Plate) (o : Ordered p) where
  pub leaves_below : (d : ℕ) → d < darts p → leaves p d < p.posts
  leaves_below d l = all_in p.posts (leaves p d) p.ends o.ends_below (get_d_in p.ends d l)

  pub twin_dart : (d : ℕ) → d < darts p → twin d < darts p
  twin_dart d l = twin_below (darts p) d o.even l

  pub length_part : (v : ℕ) → length (part_of p v) ≡ degree p v
  length_part v =
      omega (arith, length-take (degree p v) (drop (before p v) p.order), length-drop (before p v) p.order, o.all_ordered, before_most p (suc v))

  module _ (v : ℕ) (l : v < p.posts) where
    part_ok : (all_leave p v (part_of p v) ≡ true) × (distinct (part_of p v) ≡ true)
    part_ok = parts_at p p.posts 0 o.parts-ok v zero-le (omega arith)

    -- the part of a post has each dart that leaves it, once
    pub part_distinct : distinct (part_of p v) ≡ true
    part_distinct = part_ok.1

    pub part_leaves : (d : ℕ) → is_in d (part_of p v) ≡ true → (d < darts p) × (leaves p d ≡ v)
    part_leaves = leave_in p v (part_of p v) part_ok.0

    pub part_below : all_below (darts p) (part_of p v) ≡ true
    part_below = all_of (darts p) (part_of p v) (λ d e. (part_leaves d e).0)

    pub part_members : (d : ℕ) → d < darts p → is_in d (part_of p v) ≡ eqb v (leaves p d)
    part_members d k =
        when_same (is_in d (part_of p v)) (eqb v (leaves p d))
        (sum_tight (darts p) (λ i. when (is_in i (part_of p v)) 1) (λ i. when (eqb v (leaves p i)) 1)
        (λ i h. when_le (is_in i (part_of p v)) (eqb v (leaves p i)) (λ e. eq-eqb v (leaves p i) (sym (part_leaves i e).1)))
        (sym (length_members (darts p) (part_of p v) part_distinct part_below) ∙ length_part v ∙ degree_count p v)
        d k)

  pub own_part : (d : ℕ) → d < darts p → is_in d (part_of p (leaves p d)) ≡ true
  own_part d l = part_members (leaves p d) (leaves_below d l) d l ∙ eq-eqb (leaves p d) (leaves p d) refl

  -- the dart after d: it leaves the post where d ends
  module _ (d : ℕ) (l : d < darts p) where
    ends_below : ends_at p d < p.posts
    ends_below = leaves_below (twin d) (twin_dart d l)

    after-in : is_in (after p d) (part_of p (ends_at p d)) ≡ true
    after-in = round_in (part_of p (ends_at p d)) (twin d) (own_part (twin d) (twin_dart d l))

    pub after_below : after p d < darts p
    after_below = (part_leaves (ends_at p d) ends_below (after p d) after-in).0

    pub after_leaves : leaves p (after p d) ≡ ends_at p d
    after_leaves = (part_leaves (ends_at p d) ends_below (after p d) after-in).1

  pub after_one : (d e : ℕ) → d < darts p → e < darts p → after p d ≡ after p e → d ≡ e
  after_one d e l k q =
      let meet : ends_at p d ≡ ends_at p e = sym (after_leaves d l) ∙ ap (leaves p) q ∙ after_leaves e k in
      let there : is_in (twin e) (part_of p (ends_at p d)) ≡ true = subst (λ (v : ℕ). is_in (twin e) (part_of p v) ≡ true) (sym meet) (own_part (twin e) (twin_dart e k)) in
      twin_one d e
      (round_one (part_of p (ends_at p d)) (part_distinct (ends_at p d) (ends_below d l)) (twin d) (twin e)
      (own_part (twin d) (twin_dart d l)) there
      (q ∙ ap (λ (v : ℕ). round_before (part_of p v) (twin e)) (sym meet)))

  pub after_one_to_one : OneToOne (after p) (darts p)
  after_one_to_one = record { below = after_below; one = after_one }

  pub twin_one_to_one : OneToOne twin (darts p)
  twin_one_to_one = record { below = twin_dart; one = λ d e l k q. twin_one d e q }
