-- Where a walk comes to no field of a later tag each field has the fault that it had by the earlier tags, so the walk, and what is put in order, are those of before. Assumes nothing.
use mathlib.Core.Path.{◌≡◌, refl, sym, ap, ap₂, subst, ◌∙◌}
use mathlib.Core.Logic.{◌↔◌}
use mathlib.Core.Bool.{Bool, true, false, ◌&&◌, not}
use mathlib.Core.List.{List, [], ◌∷◌, ◌++◌, append-nil}
use Prim.Native.Nat.{ℕ, zero, suc, ◌+◌, ◌≤◌, ◌<◌}
use native.Mathlib.Omega.{arith}
use lib.Dec.{eqb, ltb, leb}
use lib.ListN.{length, get_or}
use borrow.Author.Tests.{ltb-true, leb-true, le-leb, lt-ltb}
use Rattle.finite.specs.Base.{pick, first_of, when}
use Rattle.finite.proofs.Tests.{not_true_false, not_both, same_test, and_parts, and_both}
use Rattle.fields.specs.Files.{Field, Walk, walk, price_tag, tag_ok, is_known, tag_in, long_ok, has_tag, content_of, add_field, head_long, last_tag, field_at, fault_by, fields_with, fields_by, walk_by, old_walk}
use Rattle.fields.specs.Rules.{first_tag}
use Rattle.fields.specs.Ordering.{rising, sorted, bytes_in, is_shape_file, ordered_bytes, order_fault, comes_from, comes_to, Ordered, OrderWith, OrderSays}
use Rattle.fields.specs.Writing.{over}
use Rattle.fields.specs.Earlier.{earlier_tag, earlier_long, earlier_fault, earlier_walk, earlier_bytes, EarlierWith, EarlierOrder, tags_before, SixTags, UnpricedTags}
use Rattle.fields.proofs.Agree.{at_or, tag_from}
use Rattle.fields.proofs.Laid.{all_tags}
use Rattle.fields.proofs.Rising.{rising_more}
use Rattle.fields.proofs.Turns.{with_end, with_fault, with_met, from_end, from_fault, from_met}
use Rattle.fields.proofs.Ascent.{front_other, then_none, other_known}
use Rattle.fields.proofs.Comes.{rest, no_field, comes_there, known_other, old_unpriced}

-- ---- the walk comes only to tags that are so
module _ (o k : Bool) where
  abbrev Only : (ℕ → Type 0) → ℕ → List Field → List ℕ → Type 0
  Only Q zero fs s = Unit {0}
  Only Q (suc l) fs s = Q (get_or s 0 0) × (eqb (fault_by o k fs s) 0 ≡ true → Only Q l (add_field fs (field_at s)) (rest s))

  only_all : (Q : ℕ → Type 0) → ((t : ℕ) → Q t) → (l : ℕ) (fs : List Field) (s : List ℕ) → Only Q l fs s
  only_all Q h zero fs s = tt
  only_all Q h (suc l) fs s = (h (get_or s 0 0), λ q. only_all Q h l (add_field fs (field_at s)) (rest s))

  only_other : (u l : ℕ) (fs : List Field) (s : List ℕ) → comes_from o k u l fs s ≡ false → Only (λ t. t ≡ u → ⊥) l fs s
  only_other u zero fs s e = tt
  only_other u (suc l) fs s e = (front_other o k u l fs s e, λ q. only_other u l (add_field fs (field_at s)) (rest s) (then_none o k u l fs s e q))

  only_both : (P Q : ℕ → Type 0) (l : ℕ) (fs : List Field) (s : List ℕ) → Only P l fs s → Only Q l fs s → Only (λ t. P t × Q t) l fs s
  only_both P Q zero fs s a b = tt
  only_both P Q (suc l) fs s (a, c) (b, d) = ((a, b), λ q. only_both P Q l (add_field fs (field_at s)) (rest s) (c q) (d q))

-- ---- and there another fault is the same: the walks are the same
module _ (o k : Bool) (fault : List Field → List ℕ → ℕ) (Q : ℕ → Type 0) (alike : (fs : List Field) (s : List ℕ) → Q (get_or s 0 0) → fault_by o k fs s ≡ fault fs s) where
  same_from : (l : ℕ) (fs : List Field) (s : List ℕ) → Only o k Q l fs s → fields_by o l k fs s ≡ fields_with fault l k fs s
  same_from zero fs s h = refl
  same_from (suc l) fs s (h, then) = go (eqb (length s) 0) refl (eqb (fault_by o k fs s) 0) refl (same_from l (add_field fs (field_at s)) (rest s))
    where
      same : fault_by o k fs s ≡ fault fs s
      same = alike fs s h

      go : (a : Bool) → eqb (length s) 0 ≡ a → (b : Bool) → eqb (fault_by o k fs s) 0 ≡ b
          → (Only o k Q l (add_field fs (field_at s)) (rest s) → fields_by o l k (add_field fs (field_at s)) (rest s) ≡ fields_with fault l k (add_field fs (field_at s)) (rest s))
          → fields_by o (suc l) k fs s ≡ fields_with fault (suc l) k fs s
      go true p b q ih = from_end o l k fs s p ∙ sym (with_end fault l k fs s p)
      go false p false q ih =
          from_fault o l k fs s p q ∙ ap (λ (n : ℕ). walk n []) same
          ∙ sym (with_fault fault l k fs s p (ap (λ (n : ℕ). eqb n 0) (sym same) ∙ q))
      go false p true q ih =
          from_met o l k fs s p q ∙ ih (then q)
          ∙ sym (with_met fault l k fs s p (ap (λ (n : ℕ). eqb n 0) (sym same) ∙ q))

-- ---- the earlier tags and lengths
tag_range : (k : Bool) (t : ℕ) → first_tag k ≤ t → t < first_tag k + tags_before k → tag_ok k t ≡ true
tag_range true t l h = and_both (leb 17 t) (leb t 22) (le-leb 17 t l) (le-leb t 22 (omega arith))
tag_range false t l h = and_both (leb 1 t) (leb t 8) (le-leb 1 t l) (le-leb t 8 (omega arith))

-- the first n tags are those that the walk takes
tag_same : (o k : Bool) (n t : ℕ) → n ≤ tags_before k → (tag_in o k t ≡ true → t < first_tag k + n) → (t < first_tag k + n → is_known o k t ≡ true) → tag_in o k t ≡ earlier_tag k n t
tag_same o k n t few low known =
    same_test (tag_in o k t) (earlier_tag k n t)
    (λ e. and_both (leb (first_tag k) t) (ltb t (first_tag k + n)) (le-leb (first_tag k) t (tag_from k t (and_parts (is_known o k t) (tag_ok k t) e).1).0) (lt-ltb t (first_tag k + n) (low e)))
    (λ e. let (a, b) = and_parts (leb (first_tag k) t) (ltb t (first_tag k + n)) e in
    let h : t < first_tag k + n = ltb-true t (first_tag k + n) b in
    and_both (is_known o k t) (tag_ok k t) (known h) (tag_range k t (leb-true (first_tag k) t a) (omega arith)))

last_of_five : (t : ℕ) → (t ≡ 17 → ⊥) → (t ≡ 18 → ⊥) → (t ≡ 19 → ⊥) → (t ≡ 20 → ⊥) → 17 ≤ t → t < 22 → t ≡ 21
last_of_five t a b c d l h = omega arith

long_same : (k : Bool) (n t m : ℕ) → n ≤ tags_before k → earlier_tag k n t ≡ true → long_ok k t m ≡ earlier_long k t m
long_same false n t m few e = refl
long_same true n t m few e =
    at_or P 17 t refl λ n17.
    at_or P 18 t refl λ n18.
    at_or P 19 t refl λ n19.
    at_or P 20 t refl λ n20.
    let (a, b) = and_parts (leb 17 t) (ltb t (17 + n)) e in
    let h : t < 17 + n = ltb-true t (17 + n) b in
    subst P (sym (last_of_five t n17 n18 n19 n20 (leb-true 17 t a) (omega arith))) refl
  where
    P : ℕ → Type 0
    P u = long_ok true u m ≡ earlier_long true u m

module _ (o k : Bool) (n : ℕ) (few : n ≤ tags_before k) (fs : List Field) (s : List ℕ) where
  abbrev t : ℕ
  t = get_or s 0 0

  abbrev fault_if : Bool → Bool → ℕ
  fault_if tag long =
      first_of (when (ltb (length s) 3) 1)
      (first_of (when (not tag) 2)
      (first_of (when (has_tag t fs) 3)
      (first_of (when (o && ltb t (last_tag fs)) 29)
      (first_of (when (not long) 4)
      (when (ltb (length s) (3 + head_long s)) 5)))))

  fault_same : tag_in o k t ≡ earlier_tag k n t → fault_by o k fs s ≡ earlier_fault o k n fs s
  fault_same e = ap (λ (b : Bool). fault_if b (long_ok k t (head_long s))) e ∙ go (earlier_tag k n t) refl
    where
      go : (b : Bool) → earlier_tag k n t ≡ b → fault_if b (long_ok k t (head_long s)) ≡ fault_if b (earlier_long k t (head_long s))
      go true q = ap (fault_if true) (long_same k n t (head_long s) few q)
      go false q = refl

walked_by : (o k : Bool) (n : ℕ) → n ≤ tags_before k → (Q : ℕ → Type 0) → ((t : ℕ) → Q t → tag_in o k t ≡ earlier_tag k n t) → (s : List ℕ) → Only o k Q (suc (length s)) [] s → walk_by o k s ≡ earlier_walk o k n s
walked_by o k n few Q same s h = same_from o k (earlier_fault o k n) Q (λ fs r q. fault_same o k n few fs r (same (get_or r 0 0) q)) (suc (length s)) [] s h

-- ---- before request E2
below_six : (o : Bool) (t : ℕ) → (t ≡ 7 → ⊥) → (t ≡ 8 → ⊥) → tag_in o false t ≡ true → t < 7
below_six o t a b e = let h = tag_from false t (and_parts (is_known o false t) (tag_ok false t) e).1 in omega arith

six : (o : Bool) (t : ℕ) → (t ≡ 7 → ⊥) → (tag_in o false t ≡ true → t ≡ 8 → ⊥) → tag_in o false t ≡ earlier_tag false 6 t
six o t a b = tag_same o false 6 t (omega arith) (λ e. below_six o t a (b e) e) (λ l. other_known o false t (omega arith))

six_walked : (s : List ℕ) → comes_to true false 7 s ≡ false → comes_to true false 8 s ≡ false → walk_by true false s ≡ earlier_walk true false 6 s
six_walked s e f =
    walked_by true false 6 (omega arith) (λ t. (t ≡ 7 → ⊥) × (t ≡ 8 → ⊥)) (λ t q. six true t q.0 (λ h. q.1)) s
    (only_both true false (λ t. t ≡ 7 → ⊥) (λ t. t ≡ 8 → ⊥) (suc (length s)) [] s (only_other true false 7 (suc (length s)) [] s e) (only_other true false 8 (suc (length s)) [] s f))

-- a walk in any order does not know the price tag
unknown : (k : Bool) (t : ℕ) → tag_in false k t ≡ true → t ≡ price_tag k → ⊥
unknown k t e q = known_other k t (and_parts (is_known false k t) (tag_ok k t) e).0 (sym q)

six_any : (s : List ℕ) → comes_to false false 7 s ≡ false → walk_by false false s ≡ earlier_walk false false 6 s
six_any s e = walked_by false false 6 (omega arith) (λ t. t ≡ 7 → ⊥) (λ t q. six false t q (unknown false t)) s (only_other false false 7 (suc (length s)) [] s e)

-- ---- before request E12
below_price : (k : Bool) (t : ℕ) → t < first_tag k + 8 → tag_ok k t ≡ true → (t ≡ price_tag k → ⊥) → t < first_tag k + tags_before k
below_price true t h e n = let l : t ≤ 22 = leb-true t 22 (and_parts (leb 17 t) (leb t 22) e).1 in omega arith
below_price false t h e n = omega arith

price_past : (k : Bool) (t : ℕ) → t < first_tag k + tags_before k → t ≡ price_tag k → ⊥
price_past true t h e = omega arith
price_past false t h e = omega arith

unpriced : (o k : Bool) (t : ℕ) → (tag_in o k t ≡ true → t ≡ price_tag k → ⊥) → tag_in o k t ≡ earlier_tag k (tags_before k) t
unpriced o k t n =
    tag_same o k (tags_before k) t (omega arith)
    (λ e. let ok = (and_parts (is_known o k t) (tag_ok k t) e).1 in below_price k t (tag_from k t ok).1 ok (n e))
    (λ l. other_known o k t (price_past k t l))

pub unpriced_walked : (k : Bool) (s : List ℕ) → comes_to true k (price_tag k) s ≡ false → walk_by true k s ≡ earlier_walk true k (tags_before k) s
unpriced_walked k s e =
    walked_by true k (tags_before k) (omega arith) (λ t. t ≡ price_tag k → ⊥) (λ t q. unpriced true k t (λ h. q)) s (only_other true k (price_tag k) (suc (length s)) [] s e)

unpriced_any : (k : Bool) (s : List ℕ) → walk_by false k s ≡ earlier_walk false k (tags_before k) s
unpriced_any k s =
    walked_by false k (tags_before k) (omega arith) (λ t. Unit {0}) (λ t q. unpriced false k t (unknown k t)) s
    (only_all false k (λ t. Unit {0}) (λ t. tt) (suc (length s)) [] s)

-- ---- put in order
-- a last tag that is not there adds nothing
one_less : (n t : ℕ) (fs : List Field) → has_tag (t + n) fs ≡ false → rising (suc n) t fs ≡ rising n t fs
one_less n t fs absent =
    rising_more n t fs
    ∙ ap (λ (b : Bool). rising n t fs ++ pick b (record { tag = t + n; content = content_of (t + n) fs } ∷ []) []) absent
    ∙ append-nil (rising n t fs)

-- the promise over bytes and a number that are the same
put : (k : Bool) (n : ℕ) (s : List ℕ) → is_shape_file s ≡ k → walk_by false k s ≡ earlier_walk false k n s → sorted k (old_walk k s).fields ≡ rising n (first_tag k) (old_walk k s).fields
    → (o o' : List ℕ) (r : Ordered) → OrderSays s o o' r ↔ EarlierOrder k n s o o' r
put k n s kind walks rows o o' r = subst (λ (x : ℕ). OrderWith x s o o' r ↔ EarlierOrder k n s o o' r) (sym number) (with_number earlier)
  where
    bytes : ordered_bytes s ≡ earlier_bytes k n s
    bytes = ap (λ (b : Bool). bytes_in (sorted b (old_walk b s).fields)) kind ∙ ap bytes_in rows ∙ ap (λ (w : Walk). bytes_in (rising n (first_tag k) w.fields)) walks

    earlier : ℕ
    earlier = first_of (earlier_walk false k n s).number (when (ltb (length o) (length (earlier_bytes k n s))) 16)

    number : order_fault s o ≡ earlier
    number = ap₂ (λ (x m : ℕ). first_of x (when (ltb (length o) m) 16)) (ap (λ (b : Bool). (old_walk b s).number) kind ∙ ap (λ (w : Walk). w.number) walks) (ap length bytes)

    with_number : (x : ℕ) → OrderWith x s o o' r ↔ EarlierWith x k n s o o' r
    with_number zero = (
      λ h. (h.0, h.1 ∙ ap length bytes, h.2 ∙ ap (λ (b : List ℕ). over b o) bytes),
      λ h. (h.0, h.1 ∙ sym (ap length bytes), h.2 ∙ sym (ap (λ (b : List ℕ). over b o) bytes)),
    )
    with_number (suc x) = (λ h. h, λ h. h)

six_put : (s o o' : List ℕ) (r : Ordered) → is_shape_file s ≡ false → comes_to false false 7 s ≡ false → OrderSays s o o' r ↔ EarlierOrder false 6 s o o' r
six_put s o o' r kind e =
    let fs = (old_walk false s).fields in
    put false 6 s kind (six_any s e) (one_less 7 1 fs (old_unpriced false s) ∙ one_less 6 1 fs (no_field false false 7 (suc (length s)) [] s e refl)) o o' r

-- no file has these tags
no_tag : (k : Bool) (t : ℕ) (s : List ℕ) → tag_ok k t ≡ false → has_tag t (old_walk k s).fields ≡ false
no_tag k t s n = not_true_false (has_tag t (old_walk k s).fields) (λ h. not_both (all_tags false k s t h) n)

unpriced_rows : (k : Bool) (s : List ℕ) → sorted k (old_walk k s).fields ≡ rising (tags_before k) (first_tag k) (old_walk k s).fields
unpriced_rows true s =
    let fs = (old_walk true s).fields in
    one_less 7 17 fs (no_tag true 24 s refl) ∙ one_less 6 17 fs (no_tag true 23 s refl) ∙ one_less 5 17 fs (old_unpriced true s)
unpriced_rows false s = one_less 7 1 (old_walk false s).fields (old_unpriced false s)

unpriced_put : (s o o' : List ℕ) (r : Ordered) → OrderSays s o o' r ↔ EarlierOrder (is_shape_file s) (tags_before (is_shape_file s)) s o o' r
unpriced_put s = let k = is_shape_file s in put k (tags_before k) s refl (unpriced_any k s) (unpriced_rows k s)

pub six_tags : SixTags
six_tags = record { walked = six_walked; any_order = six_any; ordered = six_put; without = comes_there }

pub unpriced_tags : UnpricedTags
unpriced_tags = record { walked = unpriced_walked; any_order = unpriced_any; ordered = unpriced_put }
