-- The promises leave no choice: two results that fulfil one of them are the same, since a list has one best shape within its limits or no shape keeps them. Assumes nothing.
use mathlib.Core.Path.{◌≡◌, refl, sym, ap, ap₂, subst, ◌∙◌}
use mathlib.Core.Bool.{Bool, true, false, ◌&&◌}
use mathlib.Core.List.{List}
use Prim.Native.Nat.{ℕ, zero, suc, ◌≤◌}
use borrow.Author.Tests.{le-ltb}
use lib.Dec.{ltb}
use lib.ListN.{length}
use Rattle.plates.specs.Plates.{pick_t, first_of, when}
use Rattle.plates.specs.Shapes.{rights_of, total, same, shape_of}
use Rattle.plates.specs.Files.{walk_all, content_of, list_fault, plate_of, prices_of, rates_of, sum_of, shape_bytes}
use Rattle.plates.specs.Claims.{BestOf, NoneWithin, SomeWithin}
use Rattle.plates.specs.Says.{over, word, angles_in, rights_in, file_long, NoneKeeps, shape_fault, check_fault, ShapeWith, ShapeSays, CheckWith, CheckSays}
use Rattle.plates.specs.Listing.{listing_text, refused_text, Gives, listing_fault, ListingWith, ListingSays}
use Rattle.std.specs.Prelude.{Result, Ok, Err}
use Rattle.refusals.specs.declared.Refusal.{Refusal}
use Rattle.refusals.proofs.Numbered.{some_number}
use Rattle.refusals.proofs.OneNumber.{same_refusal}
use Rattle.plates.specs.declared.encoding.Written.{Written}
use Rattle.plates.specs.declared.checking.Sound.{Sound}
use Rattle.plates.specs.Answers.{Shaped, Verdict, Listed, shaped, shaped_of, verdict_of, listed_of}
use Rattle.plates.proofs.Verdicts.{same_counts}

-- a test told of an accepted list has one answer, and of a refused one it changes nothing
pub one_number : (s : List ℕ) (n m : Bool) (f : Bool → ℕ) → NoneKeeps n s → NoneKeeps m s → first_of (list_fault s) (f n) ≡ first_of (list_fault s) (f m)
one_number s n m f h k = go (list_fault s) n m h k
  where
    go : (e : ℕ) (n m : Bool) → (e ≡ 0 → pick_t n (NoneWithin s) (SomeWithin s)) → (e ≡ 0 → pick_t m (NoneWithin s) (SomeWithin s)) → first_of e (f n) ≡ first_of e (f m)
    go (suc e) n m h k = refl
    go zero true true h k = refl
    go zero false false h k = refl
    go zero true false h k = let (u, a, b) = k refl in absurd (h refl u a b)
    go zero false true h k = let (u, a, b) = h refl in absurd (k refl u a b)

shape_with : (f : ℕ) (s o o₁ o₂ : List ℕ) (r q : Shaped) → ShapeWith f s o o₁ r → ShapeWith f s o o₂ q → (o₁ ≡ o₂) × (r ≡ q)
shape_with zero s o o₁ o₂ r q (n, (a, x, best, counts, (long, bends, out))) (m, (b, y, best', counts', (long', bends', out'))) =
    let p = plate_of s in
    let (totals, angles, rights) = same_counts p (rates_of s) a x b y best counts best' counts' in
    let bytes = ap₂ (λ (c d : List ℕ). shape_bytes (walk_all false s).fields (shape_of p c d)) angles rights in
    let number : r.number ≡ q.number = n ∙ sym m in
    let size : r.long ≡ q.long = long ∙ ap length bytes ∙ sym long' in
    let sum : r.bends ≡ q.bends = bends ∙ totals ∙ sym bends' in
    (out ∙ ap (λ (t : List ℕ). over t o) bytes ∙ sym out', λ i. record { number = number i; long = size i; bends = sum i })
shape_with (suc f) s o o₁ o₂ r q (n, long, bends, out) (m, long', bends', out') =
    let number : r.number ≡ q.number = n ∙ sym m in
    let size : r.long ≡ q.long = long ∙ sym long' in
    let sum : r.bends ≡ q.bends = bends ∙ sym bends' in
    (out ∙ sym out', λ i. record { number = number i; long = size i; bends = sum i })

pub shape_only : (s o o₁ o₂ : List ℕ) (r q : Shaped) → ShapeSays s o o₁ r → ShapeSays s o o₂ q → (o₁ ≡ o₂) × (r ≡ q)
shape_only s o o₁ o₂ r q (n, h, x) (m, k, y) =
    shape_with (shape_fault m s o) s o o₁ o₂ r q
    (subst (λ (e : ℕ). ShapeWith e s o o₁ r) (one_number s n m (λ b. first_of (when b 24) (when (ltb (length o) (file_long s)) 16)) h k) x) y

-- the counts of the best shape known: what is answered and written to memory that is long enough
pub written_only : (s a x o o' : List ℕ) (r : Shaped) → list_fault s ≡ 0 → file_long s ≤ length o
    → BestOf s (shape_of (plate_of s) a x) → rights_of (shape_of (plate_of s) a x).words ≡ x → ShapeSays s o o' r
    → let b = shape_bytes (walk_all false s).fields (shape_of (plate_of s) a x) in (o' ≡ over b o) × (r ≡ shaped 0 (length b) (total x))
written_only s a x o o' r e l best counts says =
    let b = shape_bytes (walk_all false s).fields (shape_of (plate_of s) a x) in
    let accepted : shape_fault false s o ≡ 0 = ap₂ (λ (n : ℕ) (t : Bool). first_of n (when t 16)) e (le-ltb (length o) (file_long s) l) in
    shape_only s o o' (over b o) r (shaped 0 (length b) (total x)) says (
      false,
      (λ z. (shape_of (plate_of s) a x, best.meets_all, best.keeps_all)),
      subst (λ (f : ℕ). ShapeWith f s o (over b o) (shaped 0 (length b) (total x))) (sym accepted) (refl, (a, x, best, counts, (refl, refl, refl))),
    )

check_with : (f : ℕ) (s t : List ℕ) (r q : Verdict) → CheckWith f s t r → CheckWith f s t q → r ≡ q
check_with zero s t r q (n, tot, (a, x, best, counts, (few, ours))) (m, tot', (b, y, best', counts', (few', ours'))) =
    let (totals, angles, rights) = same_counts (plate_of s) (rates_of s) a x b y best counts best' counts' in
    let number : r.number ≡ q.number = n ∙ sym m in
    let sum : r.total ≡ q.total = tot ∙ sym tot' in
    let fewest : r.fewest ≡ q.fewest = few ∙ ap (sum_of (prices_of s)) rights ∙ sym few' in
    let own : r.ours ≡ q.ours = ours ∙ ap₂ (λ (c d : List ℕ). same c (angles_in t) && same d (rights_in t)) angles rights ∙ sym ours' in
    λ i. record { number = number i; total = sum i; fewest = fewest i; ours = own i }
check_with (suc f) s t r q (n, tot, few, ours) (m, tot', few', ours') =
    let number : r.number ≡ q.number = n ∙ sym m in
    let sum : r.total ≡ q.total = tot ∙ sym tot' in
    let fewest : r.fewest ≡ q.fewest = few ∙ sym few' in
    let own : r.ours ≡ q.ours = ours ∙ sym ours' in
    λ i. record { number = number i; total = sum i; fewest = fewest i; ours = own i }

pub check_only : (s t : List ℕ) (r q : Verdict) → CheckSays s t r → CheckSays s t q → r ≡ q
check_only s t = check_with (check_fault s t) s t

pub gives_only : (t u o o₁ o₂ : List ℕ) (r q : Listed) → t ≡ u → Gives t o o₁ r → Gives u o o₂ q → (o₁ ≡ o₂) × (r ≡ q)
gives_only t u o o₁ o₂ r q e g h = go (ltb (length o) (length u)) (rw e at g) h
  where
    go : (b : Bool)
        → pick_t b ((r.number ≡ 16) × (r.long ≡ 0) × (o₁ ≡ o)) ((r.number ≡ 0) × (r.long ≡ length u) × (o₁ ≡ over u o))
        → pick_t b ((q.number ≡ 16) × (q.long ≡ 0) × (o₂ ≡ o)) ((q.number ≡ 0) × (q.long ≡ length u) × (o₂ ≡ over u o))
        → (o₁ ≡ o₂) × (r ≡ q)
    go true (n, l, p) (m, k, w) =
        let number : r.number ≡ q.number = n ∙ sym m in
        let long : r.long ≡ q.long = l ∙ sym k in
        (p ∙ sym w, λ i. record { number = number i; long = long i })
    go false (n, l, p) (m, k, w) =
        let number : r.number ≡ q.number = n ∙ sym m in
        let long : r.long ≡ q.long = l ∙ sym k in
        (p ∙ sym w, λ i. record { number = number i; long = long i })

listing_with : (f : ℕ) (s o o₁ o₂ : List ℕ) (r q : Listed) → ListingWith f s o o₁ r → ListingWith f s o o₂ q → (o₁ ≡ o₂) × (r ≡ q)
listing_with zero s o o₁ o₂ r q (a, x, best, counts, g) (b, y, best', counts', h) =
    let v = word (content_of 1 (walk_all false s).fields) in
    let (totals, angles, rights) = same_counts (plate_of s) (rates_of s) a x b y best counts best' counts' in
    gives_only (listing_text v a x) (listing_text v b y) o o₁ o₂ r q (ap₂ (listing_text v) angles rights) g h
listing_with (suc f) s o o₁ o₂ r q g h = gives_only (refused_text (suc f)) (refused_text (suc f)) o o₁ o₂ r q refl g h

pub listing_only : (s o o₁ o₂ : List ℕ) (r q : Listed) → ListingSays s o o₁ r → ListingSays s o o₂ q → (o₁ ≡ o₂) × (r ≡ q)
listing_only s o o₁ o₂ r q (n, h, x) (m, k, y) =
    listing_with (listing_fault m s) s o o₁ o₂ r q (subst (λ (e : ℕ). ListingWith e s o o₁ r) (one_number s n m (λ b. when b 24) h k) x) y

-- ---- the record of an answer tells the answer: with the laws above, two results of a public function are the same
pub written_once : (r q : Result Written Refusal) → shaped_of r ≡ shaped_of q → r ≡ q
written_once (Ok v) (Ok w) e = λ x. Ok (record { long = (e x).long; bends = (e x).bends })
written_once (Ok v) (Err d) e = absurd (some_number d (sym (ap (λ (o : Shaped). o.number) e)))
written_once (Err d) (Ok w) e = absurd (some_number d (ap (λ (o : Shaped). o.number) e))
written_once (Err c) (Err d) e = ap Err (same_refusal c d (ap (λ (o : Shaped). o.number) e))

pub sound_once : (r q : Result Sound Refusal) → verdict_of r ≡ verdict_of q → r ≡ q
sound_once (Ok v) (Ok w) e = λ x. Ok (record { total = (e x).total; fewest = (e x).fewest; ours = (e x).ours })
sound_once (Ok v) (Err d) e = absurd (some_number d (sym (ap (λ (o : Verdict). o.number) e)))
sound_once (Err d) (Ok w) e = absurd (some_number d (ap (λ (o : Verdict). o.number) e))
sound_once (Err c) (Err d) e = ap Err (same_refusal c d (ap (λ (o : Verdict). o.number) e))

pub length_once : (r q : Result ℕ Refusal) → listed_of r ≡ listed_of q → r ≡ q
length_once (Ok m) (Ok n) e = ap Ok (ap (λ (o : Listed). o.long) e)
length_once (Ok m) (Err d) e = absurd (some_number d (sym (ap (λ (o : Listed). o.number) e)))
length_once (Err d) (Ok n) e = absurd (some_number d (ap (λ (o : Listed). o.number) e))
length_once (Err c) (Err d) e = ap Err (same_refusal c d (ap (λ (o : Listed). o.number) e))
