-- A walk ends within the room that the fields of a file may take, and one head more: the first 879 bytes of a file have the number of the whole.
-- Assumes nothing.
use mathlib.Core.Path.{◌≡◌, refl, sym, ap, ap₂, subst, ◌∙◌}
use mathlib.Core.Bool.{Bool, true, false, ◌&&◌, not}
use mathlib.Core.List.{List, []}
use Prim.Native.Nat.{ℕ, zero, suc, ◌+◌, ◌-◌, ◌*◌, ◌≤◌, ◌<◌}
use native.Mathlib.Omega.{arith}
use lib.Dec.{eqb, ltb, leb}
use lib.ListN.{length, get_or, take, drop, length-drop}
use lib.Seq.{length-take-le, take_all, take-add, take-take, drop_at, get_or-take}
use borrow.Author.Tests.{eqb-true, eqb-false, ne_eqb, ltb-true, ltb-false, le-ltb, not-false}
use Rattle.finite.specs.Base.{first_of, when}
use Rattle.finite.proofs.Tests.{and_parts, first_same, first_some, when_none}
use Rattle.fields.specs.Files.{Field, Walk, tag_ok, is_known, tag_in, long_ok, has_tag, add_field, head_long, last_tag, fault_by, field_at, fields_by, walk_by, old_walk}
use Rattle.fields.specs.Ordering.{Ordered, is_shape_file, order_fault, OrderWith, OrderSays}
use Rattle.fields.proofs.Agree.{tag_from}
use Rattle.fields.proofs.Longest.{room, front_takes, older_longest}
use Rattle.fields.proofs.Turns.{from_fault, from_met, passed_by}

-- the front of a list without its first elements
drop_front : {A : Type 0} (m j : ℕ) (l : List A) → m ≤ length l → drop m (take (m + j) l) ≡ take j (drop m l)
drop_front m j l h = ap (drop m) (take-add m j l) ∙ drop_at (take m l) (take j (drop m l)) m (length-take-le m l h)

-- the first n bytes of a longer file, with room for the fields to come and one head
module _ (o k : Bool) (fs : List Field) (s : List ℕ) (n : ℕ) (enough : room 8 k fs + 3 ≤ n) (more : n < length s) where
  abbrev t : ℕ
  t = get_or s 0 0

  abbrev h : ℕ
  h = head_long s

  long : length (take n s) ≡ n
  long = length-take-le n s (omega arith)

  same_tag : get_or (take n s) 0 0 ≡ t
  same_tag = get_or-take n s 0 0 (omega arith)

  same_head : head_long (take n s) ≡ h
  same_head = ap₂ (λ (a b : ℕ). 256 * a + b) (get_or-take n s 1 0 (omega arith)) (get_or-take n s 2 0 (omega arith))

  -- a field's fault by the bytes that are left, its tag and its length: 1, and those behind it
  abbrev behind_1 : ℕ → ℕ → ℕ → ℕ
  behind_1 left u m =
      first_of (when (not (tag_in o k u)) 2)
      (first_of (when (has_tag u fs) 3)
      (first_of (when (o && ltb u (last_tag fs)) 29)
      (first_of (when (not (long_ok k u m)) 4)
      (when (ltb left (3 + m)) 5))))

  abbrev fault-by : ℕ → ℕ → ℕ → ℕ
  fault-by left u m = first_of (when (ltb left 3) 1) (behind_1 left u m)

  -- 5 is tried of a field that has room
  same_five : when (not (tag_in o k t)) 2 ≡ 0 → when (has_tag t fs) 3 ≡ 0 → when (not (long_ok k t h)) 4 ≡ 0 → when (ltb n (3 + h)) 5 ≡ when (ltb (length s) (3 + h)) 5
  same_five a b c =
      let tag : tag_ok k t ≡ true = (and_parts (is_known o k t) (tag_ok k t) (not-false (tag_in o k t) (when_none _ 1 a))).1 in
      let fits = front_takes k fs s 8 (tag_from k t tag).1 tag (when_none _ 2 b) (not-false (long_ok k t h) (when_none _ 3 c)) in
      ap (λ (x : Bool). when x 5) (le-ltb n (3 + h) (omega arith) ∙ sym (le-ltb (length s) (3 + h) (omega arith)))

  same_behind : behind_1 n t h ≡ behind_1 (length s) t h
  same_behind =
      first_same (when (not (tag_in o k t)) 2) _ _ (λ a. first_same (when (has_tag t fs) 3) _ _
      (λ b. first_same (when (o && ltb t (last_tag fs)) 29) _ _ (λ c. first_same (when (not (long_ok k t h)) 4) _ _ (same_five a b))))

  same_by : fault-by n t h ≡ fault-by (length s) t h
  same_by = ap₂ (λ (x : Bool) (y : ℕ). first_of (when x 1) y) (le-ltb n 3 (omega arith) ∙ sym (le-ltb (length s) 3 (omega arith))) same_behind

  pub same_fault : fault_by o k fs (take n s) ≡ fault_by o k fs s
  same_fault = ap (λ (x : ℕ). fault-by x (get_or (take n s) 0 0) (head_long (take n s))) long ∙ ap₂ (fault-by n) same_tag same_head ∙ same_by

  front_left : eqb (length (take n s)) 0 ≡ false
  front_left = ne_eqb (length (take n s)) 0 (omega (arith, long))

  module _ (fits : 3 + h ≤ n) where
    same_field : field_at (take n s) ≡ field_at s
    same_field =
        let e : 3 + (n - 3) ≡ n = omega arith in
        let c : take h (drop 3 (take n s)) ≡ take h (drop 3 s) =
        ap (λ (x : ℕ). take h (drop 3 (take x s))) (sym e) ∙ ap (take h) (drop_front 3 (n - 3) s (omega arith)) ∙ take-take h (n - 3) (drop 3 s) (omega arith) in
        ap₂ (λ (u : ℕ) (x : List ℕ). record { tag = u; content = x }) same_tag (ap (λ (x : ℕ). take x (drop 3 (take n s))) same_head ∙ c)

    same_rest : drop (3 + head_long (take n s)) (take n s) ≡ take (n - (3 + h)) (drop (3 + h) s)
    same_rest =
        let e : 3 + h + (n - (3 + h)) ≡ n = omega arith in
        ap (λ (x : ℕ). drop (3 + x) (take n s)) same_head ∙ ap (λ (x : ℕ). drop (3 + h) (take x s)) (sym e) ∙ drop_front (3 + h) (n - (3 + h)) s (omega arith)

front_from : (o k : Bool) (i l : ℕ) (fs : List Field) (s : List ℕ) (n : ℕ) → n < i → length s < l → room 8 k fs + 3 ≤ n → n < length s → (fields_by o i k fs (take n s)).number ≡ (fields_by o l k fs s).number
front_from o k zero l fs s n a b enough more = absurd (omega arith)
front_from o k (suc i) zero fs s n a b enough more = absurd (omega arith)
front_from o k (suc i) (suc l) fs s n a b enough more =
    go (eqb (fault_by o k fs s) 0) refl (front_from o k i l (add_field fs (field_at s)) (drop (3 + head_long s) s) (n - (3 + head_long s)))
  where
    left : eqb (length s) 0 ≡ false
    left = ne_eqb (length s) 0 (omega arith)

    number : Walk → ℕ
    number w = w.number

    same : fault_by o k fs (take n s) ≡ fault_by o k fs s
    same = same_fault o k fs s n enough more

    go : (b : Bool) → eqb (fault_by o k fs s) 0 ≡ b
        → (n - (3 + head_long s) < i → length (drop (3 + head_long s) s) < l → room 8 k (add_field fs (field_at s)) + 3 ≤ n - (3 + head_long s) → n - (3 + head_long s) < length (drop (3 + head_long s) s)
        → (fields_by o i k (add_field fs (field_at s)) (take (n - (3 + head_long s)) (drop (3 + head_long s) s))).number ≡ (fields_by o l k (add_field fs (field_at s)) (drop (3 + head_long s) s)).number)
        → (fields_by o (suc i) k fs (take n s)).number ≡ (fields_by o (suc l) k fs s).number
    go false q ih =
        ap number (from_fault o i k fs (take n s) (front_left o k fs s n enough more) (ap (λ (x : ℕ). eqb x 0) same ∙ q)) ∙ same ∙ sym (ap number (from_fault o l k fs s left q))
    go true q ih =
        let p = passed_by o k fs s (eqb-true (fault_by o k fs s) 0 q) in
        let takes = front_takes k fs s 8 (tag_from k (get_or s 0 0) p.tag).1 p.tag p.new p.long in
        let fits : 3 + head_long s ≤ n = omega arith in
        let rest = length-drop (3 + head_long s) s in
        ap number (from_met o i k fs (take n s) (front_left o k fs s n enough more) (ap (λ (x : ℕ). eqb x 0) same ∙ q))
        ∙ ap₂ (λ (f : Field) (r : List ℕ). (fields_by o i k (add_field fs f) r).number) (same_field o k fs s n enough more fits) (same_rest o k fs s n enough more fits)
        ∙ ih (omega arith) (omega arith) (omega arith) (omega arith)
        ∙ sym (ap number (from_met o l k fs s left q))

none_room : (k : Bool) → room 8 k [] ≤ 876
none_room true = omega arith
none_room false = omega arith

pub walk_front : (o k : Bool) (n : ℕ) (s : List ℕ) → 879 ≤ n → (walk_by o k (take n s)).number ≡ (walk_by o k s).number
walk_front o k n s m = go (ltb n (length s)) refl
  where
    go : (b : Bool) → ltb n (length s) ≡ b → (walk_by o k (take n s)).number ≡ (walk_by o k s).number
    go true e =
        let more = ltb-true n (length s) e in
        front_from o k (suc (length (take n s))) (suc (length s)) [] s n (omega (arith, length-take-le n s (omega arith))) (omega arith) (omega (arith, none_room k)) more
    go false e = ap (λ (r : List ℕ). (walk_by o k r).number) (take_all n s (ltb-false n (length s) e))

-- ---- putting a file in order: of a longer one, the first 1,024 bytes tell
refused_as : (n : ℕ) (s t o o' : List ℕ) (r : Ordered) → (n ≡ 0 → ⊥) → OrderWith n s o o' r → OrderWith n t o o' r
refused_as zero s t o o' r differ h = absurd (differ refl)
refused_as (suc n) s t o o' r differ h = h

pub front_says : (s o o' : List ℕ) (r : Ordered) → OrderSays (take 1024 s) o o' r → OrderSays s o o' r
front_says s o o' r h = go (eqb (old_walk (is_shape_file s) s).number 0) refl
  where
    front : List ℕ
    front = take 1024 s

    kind : is_shape_file front ≡ is_shape_file s
    kind = ap (leb 16) (get_or-take 1024 s 0 0 (omega arith))

    same : (old_walk (is_shape_file front) front).number ≡ (old_walk (is_shape_file s) s).number
    same = ap (λ (k : Bool). (old_walk k front).number) kind ∙ walk_front false (is_shape_file s) 1024 s (omega arith)

    go : (b : Bool) → eqb (old_walk (is_shape_file s) s).number 0 ≡ b → OrderSays s o o' r
    go true e =
        let short = older_longest (is_shape_file s) s (eqb-true _ 0 e) in
        subst (λ (x : List ℕ). OrderSays x o o' r) (take_all 1024 s (omega arith)) h
    go false e =
        let differ = eqb-false (old_walk (is_shape_file s) s).number 0 e in
        let n : order_fault front o ≡ order_fault s o = first_some _ _ (λ z. differ (sym same ∙ z)) ∙ same ∙ sym (first_some _ _ differ) in
        let some : order_fault s o ≡ 0 → ⊥ = λ z. differ (sym (first_some (old_walk (is_shape_file s) s).number _ differ) ∙ z) in
        refused_as (order_fault s o) front s o o' r some (subst (λ (x : ℕ). OrderWith x front o o' r) n h)
