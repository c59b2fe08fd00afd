-- An older file put in order is taken by the walk with the same fields; a file in order stays as it is; files with the same fields are the same bytes.
-- Assumes nothing.
use mathlib.Core.Path.{◌≡◌, refl, sym, ap, subst, subst₂, ◌∙◌}
use mathlib.Core.Logic.{◌↔◌, ⊎_elim}
use mathlib.Core.Bool.{Bool, true, false, ◌&&◌}
use mathlib.Core.List.{List, [], ◌∷◌, ◌++◌}
use Prim.Native.Nat.{ℕ, zero, suc, ◌+◌, ◌≤◌, ◌<◌}
use native.Mathlib.Omega.{arith}
use lib.Dec.{ltb, leb}
use lib.ListN.{length, get_or, drop}
use borrow.Author.Tests.{eq-eqb, ne_eqb, ltb-true, ltb-false, leb-true, leb-false, le-ltb, lt-ltb, le-leb, lt-leb}
use Rattle.finite.proofs.Tests.{not_both, and_right, and_both, not_true_false, equal_or_not}
use Rattle.fields.specs.Files.{Field, Walk, walk, price_tag, tag_ok, is_known, long_ok, has_tag, content_of, add_field, all_there, head_long, last_tag, field_at, walk_by, walk_all, old_walk, field}
use Rattle.fields.specs.Rules.{first_tag}
use Rattle.fields.specs.Writing.{all_bytes}
use Rattle.fields.specs.Ordering.{rising, sorted, bytes_in, is_shape_file, ordered_bytes, any_walk, SameFields, ascends, Taken, TagOrder}
use Rattle.fields.proofs.Agree.{tag_from}
use Rattle.fields.proofs.Added.{has_other, last_add}
use Rattle.fields.proofs.FrontField.{met_field, front_field, front_rest, front-fault}
use Rattle.fields.proofs.Fronts.{front_says}
use Rattle.fields.proofs.Laid.{LaidOut, TagsOk, all_laid, all_tags}
use Rattle.fields.proofs.Turns.{passed_by, older_few}
use Rattle.fields.proofs.Runs.{Run, ended, met, add_all, all_append, Whole, run_answer, whole_of}
use Rattle.fields.proofs.RunBytes.{run_long, run_bytes}
use Rattle.fields.proofs.Ascent.{any_same, walks_same, run_ascends, run_in_order}
use Rattle.fields.proofs.Comes.{old_refuses, priced_comes, old_unpriced, old_comes, priced_two}
use Rattle.fields.proofs.Rising.{rising_there, rising_absent, rising_none, rising_same, SameAt, absent_same, rising_other, rising_at, rising_up, rising_fixed, rising_add, bytes_cons_long}

-- ---- a field at the front makes a run one longer
pub run_front : {o k : Bool} (fs : List Field) (t : ℕ) (c rest : List ℕ) (more : List Field) → is_known o k t ≡ true → tag_ok k t ≡ true → has_tag t fs ≡ false → (o && ltb t (last_tag fs)) ≡ false → long_ok k t (length c) ≡ true
    → Run o k (add_field fs (met_field t c)) rest more → Run o k fs (field t c ++ rest) (met_field t c ∷ more)
run_front {o} {k} fs t c rest more known tag new above long r =
    let s = field t c ++ rest in
    let f : field_at s ≡ met_field t c = front_field t c rest in
    let r' : Run o k (add_field fs (field_at s)) (drop (3 + head_long s) s) more =
    subst₂ (λ (x : Field) (y : List ℕ). Run o k (add_field fs x) y more) (sym f) (sym (front_rest t c rest)) r in
    subst (λ (x : Field). Run o k fs s (x ∷ more)) f (met (front-fault t c rest o k fs known tag new above long) r')

-- ---- fields by rising tag are a run in order
module _ (k : Bool) (fs : List Field) (tags : TagsOk k fs) (laid : LaidOut k fs) where
  run_rising : (n t : ℕ) (acc : List Field) → last_tag acc < t → ((u : ℕ) → t ≤ u → has_tag u acc ≡ false) → Run true k acc (bytes_in (rising n t fs)) (rising n t fs)
  run_rising zero t acc l a = ended refl
  run_rising (suc n) t acc l a = go (has_tag t fs) refl (run_rising n (suc t))
    where
      c : List ℕ
      c = content_of t fs

      go : (b : Bool) → has_tag t fs ≡ b
          → ((acc : List Field) → last_tag acc < suc t → ((u : ℕ) → suc t ≤ u → has_tag u acc ≡ false) → Run true k acc (bytes_in (rising n (suc t) fs)) (rising n (suc t) fs))
          → Run true k acc (bytes_in (rising (suc n) t fs)) (rising (suc n) t fs)
      go true h ih =
          let f = met_field t (content_of t fs) in
          let last : last_tag (add_field acc f) < suc t = omega (arith, last_add acc f) in
          let later : (u : ℕ) → suc t ≤ u → has_tag u (add_field acc f) ≡ false = λ u m. has_other u f (ne_eqb u t (omega arith)) acc ∙ a u (omega arith) in
          subst (λ (r : List Field). Run true k acc (bytes_in r) r) (sym (rising_there n t fs h))
          (run_front acc t (content_of t fs) (bytes_in (rising n (suc t) fs)) (rising n (suc t) fs) refl (tags t h) (a t (omega arith)) (le-ltb t (last_tag acc) (omega arith)) (laid t h) (ih (add_field acc f) last later))
      go false h ih =
          subst (λ (r : List Field). Run true k acc (bytes_in r) r) (sym (rising_absent n t fs h)) (ih acc (omega arith) (λ u m. a u (omega arith)))

-- ---- sorted fields are the same fields
first_positive : (k : Bool) → 0 < first_tag k
first_positive true = omega arith
first_positive false = omega arith

module _ (k : Bool) (fs : List Field) (tags : TagsOk k fs) where
  -- a tag that the file may not have is not there
  outside : (u : ℕ) → (first_tag k ≤ u → u < first_tag k + 8 → ⊥) → has_tag u fs ≡ false
  outside u out = not_true_false (has_tag u fs) (λ h. let b = tag_from k u (tags u h) in out b.0 b.1)

  same_at : (u : ℕ) → SameAt u (sorted k fs) fs
  same_at u = go (leb (first_tag k) u) refl (ltb u (first_tag k + 8)) refl
    where
      other : (first_tag k ≤ u → u < first_tag k + 8 → ⊥) → SameAt u (sorted k fs) fs
      other out = absent_same u (sorted k fs) fs (rising_other 8 (first_tag k) fs u out) (outside u out)

      go : (a : Bool) → leb (first_tag k) u ≡ a → (b : Bool) → ltb u (first_tag k + 8) ≡ b → SameAt u (sorted k fs) fs
      go true p true q = rising_at 8 (first_tag k) fs u (leb-true (first_tag k) u p) (ltb-true u (first_tag k + 8) q)
      go true p false q = let h = ltb-false u (first_tag k + 8) q in other (λ a b. omega arith)
      go false p b q = let h = leb-false (first_tag k) u p in other (λ a b. omega arith)

  sorted_same : SameFields (sorted k fs) fs
  sorted_same = record { there = λ u. (same_at u).0; content = λ u. (same_at u).1 }

pub there_same : (k : Bool) (fs gs : List Field) → ((t : ℕ) → has_tag t fs ≡ has_tag t gs) → all_there k fs ≡ all_there k gs
there_same true fs gs h = rw (h 17, h 18, h 19, h 20)
there_same false fs gs h = rw (h 1, h 2, h 3, h 4, h 5)

-- ---- sorting keeps the length
module _ {o k : Bool} where
  sorted_more : (fs : List Field) (s : List ℕ) (more : List Field) → Run o k fs s more → length (bytes_in (sorted k (add_all fs more))) ≡ length (bytes_in (sorted k fs)) + length (bytes_in more)
  sorted_more fs s [] (ended z) = omega arith
  sorted_more fs s (f ∷ more) (met e r) =
      let p = passed_by o k fs s e in
      let b = tag_from k (get_or s 0 0) p.tag in
      omega (
        arith,
        sorted_more (add_field fs (field_at s)) (drop (3 + head_long s) s) more r,
        rising_add fs (field_at s) p.new 8 (first_tag k) b.0 b.1,
        bytes_cons_long (field_at s) more,
      )

  sorted_long : (s : List ℕ) (more : List Field) → Run o k [] s more → length (bytes_in (sorted k more)) ≡ length s
  sorted_long s more r =
      let e : add_all [] more ≡ more = all_append [] more in
      let a : length (bytes_in (sorted k more)) ≡ length (bytes_in (sorted k (add_all [] more))) = ap (λ (x : List Field). length (bytes_in (sorted k x))) (sym e) in
      let n : length (bytes_in (sorted k [])) ≡ 0 = ap (λ (x : List Field). length (bytes_in x)) (rising_none 8 (first_tag k)) in
      omega (arith, a, n, sorted_more [] s more r, run_long [] s more r)

-- ---- which file it is shows in the first byte
none_there : (k : Bool) → all_there k [] ≡ true → ⊥
none_there true h = not_both h refl
none_there false h = not_both h refl

kind_by : (k : Bool) (t : ℕ) → tag_ok k t ≡ true → leb 16 t ≡ k
kind_by true t o = let b = tag_from true t o in le-leb 16 t (omega arith)
kind_by false t o = let l : t ≤ 8 = leb-true t 8 (and_right (leb 1 t) (leb t 8) o) in lt-leb 16 t (omega arith)

pub kind_of : (o k : Bool) (s : List ℕ) → (walk_by o k s).number ≡ 0 → is_shape_file s ≡ k
kind_of o k s e = let w = whole_of o k s e in go w.more w.run w.there
  where
    go : (more : List Field) → Run o k [] s more → all_there k more ≡ true → is_shape_file s ≡ k
    go [] (ended z) a = absurd (none_there k a)
    go (f ∷ more) (met p r) a = kind_by k (get_or s 0 0) (passed_by o k [] s p).tag

-- ---- fields in order
before_first : (k : Bool) → (p : ℕ) × (suc p ≡ first_tag k)
before_first true = (16, refl)
before_first false = (0, refl)

-- tags of the file ascend from its first tag on
raised : (k : Bool) (p : ℕ) → suc p ≡ first_tag k → (fs : List Field) → TagsOk k fs → ascends 0 fs ≡ true → ascends p fs ≡ true
raised k p q [] tags a = refl
raised k p q (f ∷ fs) tags a =
    let own : has_tag f.tag (f ∷ fs) ≡ true = rw (eq-eqb f.tag f.tag refl) in
    let b = tag_from k f.tag (tags f.tag own) in
    and_both (ltb p f.tag) (ascends f.tag fs) (lt-ltb p f.tag (omega arith)) (and_right (ltb 0 f.tag) (ascends f.tag fs) a)

sorted_fixed : (k : Bool) (fs : List Field) → TagsOk k fs → ascends 0 fs ≡ true → sorted k fs ≡ fs
sorted_fixed k fs tags a =
    let (p, q) = before_first k in
    let below : (u : ℕ) → has_tag u fs ≡ true → u < suc p + 8 = λ u h. let b = tag_from k u (tags u h) in omega arith in
    subst (λ (t : ℕ). rising 8 t fs ≡ fs) q (rising_fixed 8 p fs (raised k p q fs tags a) below)

-- ---- what holds of both walks
module _ (k : Bool) (s : List ℕ) where
  fields_of : (o : Bool) (w : Whole o k s) → (walk_by o k s).fields ≡ w.more
  fields_of o w = ap (λ (v : Walk). v.fields) w.answer

  module _ (e : (walk_all k s).number ≡ 0) where
    abbrev w : Whole true k s
    w = whole_of true k s e

    taken_same : has_tag (price_tag k) (walk_all k s).fields ≡ false → walk_all k s ≡ old_walk k s
    taken_same none = walks_same k s (priced_comes true k s e ∙ none) (λ n. omega (arith, e, n))

    fields_rise : ascends 0 (walk_all k s).fields ≡ true
    fields_rise = subst (λ (fs : List Field). ascends 0 fs ≡ true) (sym (fields_of true w)) (run_ascends [] s w.more w.run)

    -- the bytes of a file in order are those of its fields, sorted
    pub bytes_of_lem : all_bytes s ≡ true → bytes_in (sorted k (walk_all k s).fields) ≡ s
    bytes_of_lem b =
        ap bytes_in (sorted_fixed k (walk_all k s).fields (all_tags true k s) fields_rise ∙ fields_of true w) ∙ run_bytes [] s w.more w.run b

    pub stays : all_bytes s ≡ true → has_tag (price_tag k) (walk_all k s).fields ≡ false → (is_shape_file s ≡ k) × (ordered_bytes s ≡ s)
    stays b none =
        let i : is_shape_file s ≡ k = kind_of true k s e in
        let f : (old_walk k s).fields ≡ (walk_all k s).fields = ap (λ (v : Walk). v.fields) (sym (taken_same none)) in
        (i, ap (λ (j : Bool). bytes_in (sorted j (old_walk j s).fields)) i ∙ ap (λ (fs : List Field). bytes_in (sorted k fs)) f ∙ bytes_of_lem b)

  just_ascending : (((walk_all k s).number ≡ 0) × (has_tag (price_tag k) (walk_all k s).fields ≡ false)) ↔ (((old_walk k s).number ≡ 0) × (ascends 0 (old_walk k s).fields ≡ true))
  just_ascending = (to, from)
    where
      to : ((walk_all k s).number ≡ 0) × (has_tag (price_tag k) (walk_all k s).fields ≡ false) → ((old_walk k s).number ≡ 0) × (ascends 0 (old_walk k s).fields ≡ true)
      to (e, none) = subst (λ (v : Walk). (v.number ≡ 0) × (ascends 0 v.fields ≡ true)) (taken_same e none) (e, fields_rise e)

      from : ((old_walk k s).number ≡ 0) × (ascends 0 (old_walk k s).fields ≡ true) → ((walk_all k s).number ≡ 0) × (has_tag (price_tag k) (walk_all k s).fields ≡ false)
      from (e, a) =
          let v = whole_of false k s e in
          let r : ascends 0 v.more ≡ true = subst (λ (fs : List Field). ascends 0 fs ≡ true) (fields_of false v) a in
          let w : walk_all k s ≡ walk 0 v.more = run_answer true k s v.more (run_in_order [] s v.more v.run r) v.there in
          (ap (λ (x : Walk). x.number) w, ap (λ (x : Walk). has_tag (price_tag k) x.fields) (w ∙ sym v.answer) ∙ old_unpriced k s)

  any_29 : (any_walk k s).number ≡ 0 → ascends 0 (any_walk k s).fields ≡ false → (walk_all k s).number ≡ 29
  any_29 e a = ⊎_elim (λ p. p) (λ differ. absurd (no_other differ)) (equal_or_not (walk_all k s).number 29)
    where
      no_other : ((walk_all k s).number ≡ 29 → ⊥) → ⊥
      no_other differ =
          let same = any_same k s differ in
          let z : (walk_all k s).number ≡ 0 = ap (λ (v : Walk). v.number) same ∙ e in
          not_both (fields_rise z) (ap (λ (v : Walk). ascends 0 v.fields) same ∙ a)

  refused_29 : (old_walk k s).number ≡ 0 → ascends 0 (old_walk k s).fields ≡ false → (walk_all k s).number ≡ 29
  refused_29 e a = ⊎_elim (λ p. p) (λ differ. absurd (no_other differ)) (equal_or_not (walk_all k s).number 29)
    where
      no_other : ((walk_all k s).number ≡ 29 → ⊥) → ⊥
      no_other differ =
          let v = whole_of false k s e in
          let same = walks_same k s (old_comes k (suc (length s)) [] s v.more v.run) differ in
          let z : (walk_all k s).number ≡ 0 = ap (λ (v : Walk). v.number) same ∙ e in
          not_both (fields_rise z) (ap (λ (v : Walk). ascends 0 v.fields) same ∙ a)

  -- an older file that was taken, in order
  module _ (e : (old_walk k s).number ≡ 0) where
    abbrev fs : List Field
    fs = (old_walk k s).fields

    abbrev v : Whole false k s
    v = whole_of false k s e

    sorted_there : all_there k (sorted k fs) ≡ true
    sorted_there = there_same k (sorted k fs) fs (sorted_same k fs (all_tags false k s)).there ∙ ap (all_there k) (fields_of false v) ∙ v.there

    sorted_walked : walk_all k (bytes_in (sorted k fs)) ≡ walk 0 (sorted k fs)
    sorted_walked =
        run_answer true k (bytes_in (sorted k fs)) (sorted k fs) (run_rising k fs (all_tags false k s) (all_laid false k s) 8 (first_tag k) [] (first_positive k) (λ u l. refl)) sorted_there

    pub sorted_size : length (bytes_in (sorted k fs)) ≡ length s
    sorted_size = ap (λ (x : List Field). length (bytes_in (sorted k x))) (fields_of false v) ∙ sorted_long s v.more v.run

    sorted_rises : ascends 0 (sorted k fs) ≡ true
    sorted_rises = rising_up 8 (first_tag k) fs 0 (first_positive k)

older_taken : (s : List ℕ) → (old_walk (is_shape_file s) s).number ≡ 0 → Taken s
older_taken s e =
    let k = is_shape_file s in
    record {
      walked = sorted_walked k s e;
      same = sorted_same k (old_walk k s).fields (all_tags false k s);
      rises = sorted_rises k s e;
      long = sorted_size k s e;
    }

one_file : (k : Bool) (s t : List ℕ) → all_bytes s ≡ true → all_bytes t ≡ true → (walk_all k s).number ≡ 0 → (walk_all k t).number ≡ 0 → SameFields (walk_all k s).fields (walk_all k t).fields → s ≡ t
one_file k s t a b e g f =
    sym (bytes_of_lem k s e a)
    ∙ ap bytes_in (rising_same 8 (first_tag k) (walk_all k s).fields (walk_all k t).fields (λ u l. f.there u) (λ u l. f.content u))
    ∙ bytes_of_lem k t g b

same_out : (s t : List ℕ) → is_shape_file s ≡ is_shape_file t → SameFields (old_walk (is_shape_file s) s).fields (old_walk (is_shape_file t) t).fields → ordered_bytes s ≡ ordered_bytes t
same_out s t i f =
    ap bytes_in (rising_same 8 (first_tag (is_shape_file s)) (old_walk (is_shape_file s) s).fields (old_walk (is_shape_file t) t).fields (λ u l. f.there u) (λ u l. f.content u))
    ∙ ap (λ (k : Bool). bytes_in (sorted k (old_walk (is_shape_file t) t).fields)) i

pub tag_order : TagOrder
tag_order =
    record {
      taken = older_taken;
      one_out = same_out;
      unchanged = λ k s b e. stays k s e b;
      unknown = λ k s e h. (kind_of true k s e, priced_two k s e h);
      canonical = one_file;
      rises = fields_rise;
      same = any_same;
      refused = any_29;
      in_bytes = λ k s b e. bytes_of_lem k s e b;
      known_not = old_refuses;
      exactly = just_ascending;
      as_before = walks_same;
      out_of_order = refused_29;
      old-fault = λ k fs s. refl;
      old_number = older_few;
      front = front_says;
    }
