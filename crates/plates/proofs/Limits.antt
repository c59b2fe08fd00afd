-- Limits of bends over lists: 24 is given exactly where no shape keeps them, and without fields 07 and 08 the walk, and so every promise, is that of before. Assumes nothing.
use mathlib.Core.Path.{◌≡◌, refl, sym, ap, ap₂, subst, subst₂, ◌∙◌}
use mathlib.Core.Bool.{Bool, true, false, ◌||◌, not}
use mathlib.Core.List.{List, [], ◌∷◌}
use mathlib.Core.Logic.{◌↔◌}
use Prim.Native.Nat.{ℕ, zero, suc, ◌+◌, ◌*◌, ◌≤◌, ◌<◌}
use native.Mathlib.Omega.{arith}
use borrow.Author.Tests.{leb-true}
use lib.Dec.{eqb, ltb, leb}
use lib.ListN.{length}
use Rattle.finite.proofs.Tests.{and_left, first_last}
use Rattle.fields.proofs.Laid.{absent_none}
use Rattle.fields.proofs.Comes.{no_field}
use Rattle.fields.proofs.Earlier.{six_tags, unpriced_walked}
use Rattle.shapes.proofs.Accepted.{ordered}
use Rattle.shapes.proofs.Words.{rights_long}
use Rattle.shapes.proofs.Meets.{meets_facts}
use Rattle.shapes.proofs.Tamassia.{two_to_a_strip}
use Rattle.shapes.proofs.Strips.{free_within}
use Rattle.shapes.proofs.Unpriced.{each_strip, by_within, free_by, by_free}
use Rattle.shapes.proofs.Tried.{loop_best}
use Rattle.plates.specs.Plates.{Plate, pick_t, first_of, when, strips, plate_fault}
use Rattle.plates.specs.Shapes.{Shape, bends, rights_of, total, rates, pair_sums, all_within, all_free, BestBy, shape_of}
use Rattle.plates.specs.Files.{Walk, has_tag, walk_all, list_fault, plate_of, limits_of, is_priced, file_bytes, shape_bytes}
use Rattle.plates.specs.Claims.{BestOf, SomeWithin, NoneWithin, HasBest}
use Rattle.plates.specs.Says.{over, file_long, rights_in, NoneKeeps, shape_fault, file_fault_by, check_fault, ShapeWith, ShapeSays, CheckWith, CheckSays}
use Rattle.plates.specs.Listing.{refused_text, Gives, ListingWith, ListingSays}
use Rattle.plates.specs.Answers.{Shaped, Verdict, Listed, shaped}
use Rattle.plates.specs.Ordering.{SameBesides, comes_to}
use Rattle.plates.specs.Limits.{walk_fault, earlier_walk, best_free, count_long, ShapeFrom, CheckFrom, ListingFrom, AsUnlimited, limited_loop, OneLimit, Limits}
use Rattle.plates.proofs.Contents.{plate_by, copied_by}
use Rattle.plates.proofs.Lists.{list_accepted, limits_each, of_plate, list_number, list_demands, best_some, free_some}
use Rattle.plates.proofs.FourFields.{shape_by, check_by, listing_by}
use Rattle.plates.proofs.Prices as Priced
use Rattle.plates.proofs.OneAnswer.{one_number, shape_only}
use Rattle.plates.proofs.Shaping.{none_says}
use Rattle.plates.proofs.Sound.{sound_within}

-- ---- 24, told from the answer
with_number : (f : ℕ) (s o o' : List ℕ) (r : Shaped) → ShapeWith f s o o' r → r.number ≡ f
with_number zero s o o' r h = h.0
with_number (suc f) s o o' r h = h.0

list_not_24 : (s : List ℕ) → list_fault s ≡ 24 → ⊥
list_not_24 = list_number (λ n. n ≡ 24 → ⊥) (λ n l o e. omega arith) (λ e. omega arith) (λ e. omega arith) (λ e. omega arith)

refused_none : (s : List ℕ) (short none : Bool) (f : ℕ) → list_fault s ≡ f → NoneKeeps none s → first_of f (first_of (when none 24) (when short 16)) ≡ 24 → (f ≡ 0) × NoneWithin s
refused_none s short none (suc f) e h q = absurd (list_not_24 s (e ∙ q))
refused_none s short true zero e h q = (refl, h e)
refused_none s true false zero e h q = absurd (omega arith)
refused_none s false false zero e h q = absurd (omega arith)

module _ (s o o' : List ℕ) (r : Shaped) where
  to_none : ShapeSays s o o' r → r.number ≡ 24 → (list_fault s ≡ 0) × NoneWithin s
  to_none (none, h, x) q = refused_none s (ltb (length o) (file_long s)) none (list_fault s) refl h (sym (with_number (shape_fault none s o) s o o' r x) ∙ q)

  of_none : ShapeSays s o o' r → list_fault s ≡ 0 → NoneWithin s → (o' ≡ o) × (r ≡ shaped 24 0 0)
  of_none h e n = shape_only s o o' o r (shaped 24 0 0) h (none_says s o e n)

  refused : ShapeSays s o o' r → (r.number ≡ 24) ↔ ((list_fault s ≡ 0) × NoneWithin s)
  refused h = (to_none h, λ n. ap (λ (q : Shaped). q.number) (of_none h n.0 n.1).1)

  -- an accepted list that is not refused so has a shape within the limits, and a best one
  not_refused : list_fault s ≡ 0 → (n : Bool) → pick_t n (NoneWithin s) (SomeWithin s) → (NoneWithin s → ⊥) → SomeWithin s
  not_refused e true x never = absurd (never x)
  not_refused e false x never = x

  some_best : list_fault s ≡ 0 → ShapeSays s o o' r → (r.number ≡ 24 → ⊥) ↔ HasBest s
  some_best e h = (
    λ never. (list_demands.third.some_within s e).1 (not_refused e h.0 (h.1 e) (λ n. never ((refused h).1 (e, n)))),
    λ b q. let (u, m, k) = best_some s b in (to_none h q).1 u m k,
  )

listed : (s o o' : List ℕ) (r : Listed) → list_fault s ≡ 0 → NoneWithin s → ListingSays s o o' r → Gives (refused_text 24) o o' r
listed s o o' r e n (none, h, x) = go none (h e) (subst (λ (f : ℕ). ListingWith (first_of f (when none 24)) s o o' r) e x)
  where
    go : (b : Bool) → pick_t b (NoneWithin s) (SomeWithin s) → ListingWith (when b 24) s o o' r → Gives (refused_text 24) o o' r
    go true y x = x
    go false (u, m, k) x = absurd (n u m k)

-- ---- where limits are none
-- the number of an accepted list that is not limited: 16 or none
free_number : (b : List ℕ) → list_fault b ≡ 0 → all_free (limits_of b) ≡ true → (n : Bool) (o : List ℕ) → NoneKeeps n b → shape_fault n b o ≡ when (ltb (length o) (file_long b)) 16
free_number b z free n o k =
    one_number b n false (λ c. first_of (when c 24) (when (ltb (length o) (file_long b)) 16)) k (λ y. free_some b y free)
    ∙ ap (λ (m : ℕ). first_of m (when (ltb (length o) (file_long b)) 16)) z

-- two such lists that are the same besides
module _ (s t : List ℕ) (e : list_fault s ≡ 0) (e' : list_fault t ≡ 0) (h : SameBesides 7 (walk_all false s).fields (walk_all false t).fields) (f : all_free (limits_of s) ≡ true) (g : all_free (limits_of t) ≡ true) where
  same_plate : plate_of t ≡ plate_of s
  same_plate = sym (plate_by (walk_all false s).fields (walk_all false t).fields (h.content 2 (λ z. omega arith)) (h.content 3 (λ z. omega arith)) (h.content 4 (λ z. omega arith)) (h.content 5 (λ z. omega arith)))

  same_copied : (a x : List ℕ) → file_bytes (walk_all false t).fields a x ≡ file_bytes (walk_all false s).fields a x
  same_copied a x = sym (copied_by (walk_all false s).fields (walk_all false t).fields (h.content 1 (λ z. omega arith)) (h.there 8 (λ z. omega arith)) (h.content 8 (λ z. omega arith)) a x)

  same_bytes : (a x : List ℕ) → shape_bytes (walk_all false t).fields (shape_of (plate_of t) a x) ≡ shape_bytes (walk_all false s).fields (shape_of (plate_of s) a x)
  same_bytes a x = ap (λ (p : Plate). shape_bytes (walk_all false t).fields (shape_of p a x)) same_plate ∙ same_copied a (rights_of (shape_of (plate_of s) a x).words)

  same_long : file_long t ≡ file_long s
  same_long = ap₂ (λ (p : Plate) (b : Bool). 16 + 4 * strips p + when b 7) same_plate (sym (h.there 8 (λ z. omega arith)))

  same_best : (a x : List ℕ) → BestOf t (shape_of (plate_of t) a x) → BestOf s (shape_of (plate_of s) a x)
  same_best a x b =
      by_free (limits_of s) f
      (subst₂ (λ (p : Plate) (ps : List ℕ). BestBy p (rates [] ps) (shape_of p a x)) same_plate (sym (h.content 8 (λ z. omega arith))) (free_by (limits_of t) g b))

  module _ (o o' : List ℕ) (q : Shaped) where
    with_other : (short : Bool) → ShapeWith (when short 16) t o o' q → ShapeWith (when short 16) s o o' q
    with_other true x = x
    with_other false (n, (a, x, best, counts, (long, sum, out))) = (
      n,
      (a, x, same_best a x best, ap (λ (p : Plate). rights_of (shape_of p a x).words) (sym same_plate) ∙ counts, (long ∙ ap length (same_bytes a x), sum, out ∙ ap (λ (b : List ℕ). over b o) (same_bytes a x))),
    )

    other_says : ShapeSays t o o' q → ShapeSays s o o' q
    other_says (n, k, x) =
        let short = ltb (length o) (file_long s) in
        let y : ShapeWith (when short 16) t o o' q = subst (λ (m : ℕ). ShapeWith m t o o' q) (free_number t e' g n o k ∙ ap (λ (m : ℕ). when (ltb (length o) m) 16) same_long) x in
        (false, (λ z. free_some s z f), subst (λ (m : ℕ). ShapeWith m s o o' q) (sym (free_number s e f false o (λ z. free_some s z f))) (with_other short y))

  all-free : (o o₁ o₂ : List ℕ) (r q : Shaped) → ShapeSays s o o₁ r → ShapeSays t o o₂ q → (o₁ ≡ o₂) × (r ≡ q)
  all-free o o₁ o₂ r q x y = shape_only s o o₁ o₂ r q x (other_says o o₂ q y)

no_limits : (b : List ℕ) → has_tag 7 (walk_all false b).fields ≡ false → all_free (limits_of b) ≡ true
no_limits b h = ap all_free (absent_none 7 (walk_all false b).fields h)

-- ---- lists whose walk comes to no field 07 and to no field 08
module _ (s : List ℕ) (c : comes_to true false 7 s ≡ false) (d : comes_to true false 8 s ≡ false) where
  abbrev w : Walk
  w = walk_all false s

  same_walk : w ≡ earlier_walk true false 6 s
  same_walk = six_tags.walked s c d

  absent : has_tag 7 w.fields ≡ false
  absent = no_field true false 7 (suc (length s)) [] s c refl

  unpriced : is_priced s ≡ false
  unpriced = Priced.none s d

  free : all_free (limits_of s) ≡ true
  free = no_limits s absent

  kept : NoneKeeps false s
  kept e = free_some s e free

  -- 23 and 38 are not given
  number : list_fault s ≡ walk_fault w
  number =
      Priced.number s d
      ∙ ap (λ (t : Bool). first_of w.number (first_of (plate_fault (plate_of s)) (when (not (not t || eqb (length (limits_of s)) (strips (plate_of s)))) 23))) absent
      ∙ ap (first_of w.number) (first_last (plate_fault (plate_of s)))

  -- nor 24
  flagless : (none : Bool) (f : Bool → ℕ) → NoneKeeps none s → first_of (list_fault s) (f none) ≡ first_of (walk_fault w) (f false)
  flagless none f h = one_number s none false f h kept ∙ ap (λ (n : ℕ). first_of n (f false)) number

  abbrev check_number : List ℕ → ℕ
  check_number t = first_of (walk_fault w) (file_fault_by w.fields (walk_all true t) 0)

  -- nor 25, nor 39 of a file without a sum
  file_number : (t : List ℕ) → has_tag 22 (walk_all true t).fields ≡ false → check_fault s t ≡ check_number t
  file_number t none =
      Priced.file_number s d t none
      ∙ ap₂ (λ (n : ℕ) (b : Bool). first_of n (file_fault_by w.fields (walk_all true t) (when (not b) 25))) (sym (Priced.number s d) ∙ number) (free_within (limits_of s) (pair_sums (rights_in t)) free)

  as_plate : (u : Shape) → BestOf s u ↔ best_free w.fields u
  as_plate u = of_plate s unpriced u free

  long_is : file_long s ≡ count_long w.fields
  long_is = Priced.long_is s d

  module _ (o o' : List ℕ) where
    abbrev later : Bool → ℕ
    later none = first_of (when none 24) (when (ltb (length o) (file_long s)) 16)

    abbrev now : ℕ
    now = first_of (walk_fault w) (when (ltb (length o) (count_long w.fields)) 16)

    now_is : (none : Bool) → NoneKeeps none s → first_of (list_fault s) (later none) ≡ now
    now_is none k = flagless none later k ∙ ap (λ (n : ℕ). first_of (walk_fault w) (when (ltb (length o) n) 16)) long_is

    written : (r : Shaped) → ShapeSays s o o' r ↔ ShapeFrom w o o' r
    written r = (
      λ h. let (none, k, x) = h in (shape_by s unpriced best_free as_plate now o o' r).0 (subst (λ (f : ℕ). ShapeWith f s o o' r) (now_is none k) x),
      λ h. (false, kept, subst (λ (f : ℕ). ShapeWith f s o o' r) (sym (now_is false kept)) ((shape_by s unpriced best_free as_plate now o o' r).1 h)),
    )

    listing : (r : Listed) → ListingSays s o o' r ↔ ListingFrom w o o' r
    listing r = (
      λ h. let (none, k, x) = h in (listing_by s unpriced best_free as_plate (walk_fault w) o o' r).0 (subst (λ (f : ℕ). ListingWith f s o o' r) (flagless none (λ b. when b 24) k ∙ first_last (walk_fault w)) x),
      λ h. (false, kept, subst (λ (f : ℕ). ListingWith f s o o' r) (sym (flagless false (λ b. when b 24) kept ∙ first_last (walk_fault w))) ((listing_by s unpriced best_free as_plate (walk_fault w) o o' r).1 h)),
    )

  checked : (t : List ℕ) (r : Verdict) → has_tag 22 (walk_all true t).fields ≡ false → CheckSays s t r ↔ CheckFrom w (walk_all true t) r
  checked t r none = (
    λ h. (check_by s unpriced best_free as_plate (check_number t) t r).0 (subst (λ (f : ℕ). CheckWith f s t r) (file_number t none) h),
    λ h. subst (λ (f : ℕ). CheckWith f s t r) (sym (file_number t none)) ((check_by s unpriced best_free as_plate (check_number t) t r).1 h),
  )

  as_unlimited : AsUnlimited s
  as_unlimited = record {
    walked = same_walk;
    number = number ∙ ap walk_fault same_walk;
    written = λ o o' r. subst (λ (v : Walk). ShapeSays s o o' r ↔ ShapeFrom v o o' r) same_walk (written o o' r);
    checked = λ t r none. subst₂ (λ (v u : Walk). CheckSays s t r ↔ CheckFrom v u r) same_walk (unpriced_walked true t none) (checked t r (no_field true true 22 (suc (length t)) [] t none refl));
    listed = λ o o' r. subst (λ (v : Walk). ListingSays s o o' r ↔ ListingFrom v o o' r) same_walk (listing o o' r);
  }

-- ---- one strip to itself: a shape has three bends or more, all of them on that strip
two_sum : (xs : List ℕ) → length xs ≡ 2 → (n : ℕ) → all_within (n ∷ []) (pair_sums xs) ≡ true → n < 255 → total xs ≤ n
two_sum [] e n h l = absurd (omega arith)
two_sum (a ∷ []) e n h l = absurd (omega arith)
two_sum (a ∷ (b ∷ [])) e n h l = go (leb 255 n) refl (and_left (leb 255 n || leb (a + b) n) true h)
  where
    go : (t : Bool) → leb 255 n ≡ t → t || leb (a + b) n ≡ true → a + (b + 0) ≤ n
    go true p k = absurd (omega (arith, leb-true 255 n p))
    go false p k = omega (arith, leb-true (a + b) n k)
two_sum (a ∷ (b ∷ (c ∷ xs))) e n h l = absurd (omega arith)

loop_none : NoneWithin (limited_loop 2)
loop_none u m k =
    let long = rights_long u.words ∙ (meets_facts (plate_of (limited_loop 2)) u m).words_long in
    let few : bends u ≤ 2 = two_sum (rights_of u.words) long 2 k (omega arith) in
    let many : 3 ≤ bends u = loop_best.fewest u m in
    absurd (omega arith)

one_limit : OneLimit
one_limit = record {
  accepted = (refl, refl);
  none = loop_none;
  refused = λ o o' r h. of_none (limited_loop 2) o o' r h refl loop_none;
  best = by_within (3 ∷ []) (record { meets_all = loop_best.meets_all; keeps_all = refl; fewest = λ u m k. loop_best.fewest u m; first = λ u m k. loop_best.first u m });
}

pub limits : Limits
limits = record {
  one_each = limits_each;
  by_strip = λ b u e m. each_strip (plate_of b) u m (strips (plate_of b)) (two_to_a_strip (plate_of b) (ordered (plate_of b) (list_accepted b e))) (limits_of b);
  refused = refused;
  listed = listed;
  some_best = some_best;
  own = sound_within;
  unlimited = as_unlimited;
  six_tags = six_tags;
  no_field = no_limits;
  as_plate = λ b u free unpriced. of_plate b unpriced u free;
  all-free = λ s t o o₁ o₂ r q e e' h f g. all-free s t e e' h f g o o₁ o₂ r q;
  one_limit = one_limit;
}
