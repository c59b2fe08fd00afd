-- Two walks that met the same tags, with the same contents but for one tag, go on alike: no refusal looks at a content. So a whole field
-- may have another content of an allowed length. Assumes nothing.
use mathlib.Core.Path.{◌≡◌, refl, sym, ap, ap₂, subst₂, ◌∙◌}
use mathlib.Core.Bool.{Bool, true, false, not}
use mathlib.Core.List.{List, [], ◌∷◌, ◌++◌, append_assoc}
use Prim.Native.Nat.{ℕ, zero, suc, ◌+◌, ◌≤◌, ◌<◌}
use native.Mathlib.Omega.{arith}
use lib.Dec.{eqb, ltb}
use lib.ListN.{length, get_or, drop, length-drop}
use borrow.Author.Tests.{eqb-true, ne_eqb, le-ltb, le-leb}
use Rattle.finite.specs.Base.{first_of, when}
use Rattle.finite.proofs.Tests.{first_last}
use Rattle.fields.specs.Files.{Field, Walk, tag_ok, long_ok, has_tag, content_of, add_field, head_long, last_tag, fault_by, field_at, fields_from, walk_all, field}
use Rattle.fields.specs.Ordering.{bytes_in, SameBesides}
use Rattle.fields.specs.Remarks.{remark_tag, OnlyRemark, remarked}
use Rattle.fields.proofs.Added.{has_other, has_own, content_other, content_own, last_add}
use Rattle.fields.proofs.FrontField.{met_field, head-long, whole_long, front_field, front_rest}
use Rattle.fields.proofs.Turns.{from_end, from_fault, from_met, passed_by}
use Rattle.fields.proofs.Sorted.{there_same}

-- the same tags in the same order, and the same contents but for tag r
record Alike (r : ℕ) (fs gs : List Field) : Type 0 where
  there : (t : ℕ) → has_tag t fs ≡ has_tag t gs
  last : last_tag fs ≡ last_tag gs
  content : (t : ℕ) → (t ≡ r → ⊥) → content_of t fs ≡ content_of t gs

-- two walks that gave the same number, and but for tag r the same fields
abbrev AlikeWalks : ℕ → Walk → Walk → Type 0
AlikeWalks r v w = (v.number ≡ w.number) × SameBesides r v.fields w.fields

-- ---- one field more
has_added : (t : ℕ) (f : Field) (fs gs : List Field) → has_tag t fs ≡ has_tag t gs → has_tag t (add_field fs f) ≡ has_tag t (add_field gs f)
has_added t f fs gs e = go (eqb t f.tag) refl
  where
    go : (b : Bool) → eqb t f.tag ≡ b → has_tag t (add_field fs f) ≡ has_tag t (add_field gs f)
    go true q = let z : t ≡ f.tag = eqb-true t f.tag q in rw (z, has_own f fs, has_own f gs)
    go false q = has_other t f q fs ∙ e ∙ sym (has_other t f q gs)

module _ (r : ℕ) where
  more_alike : (fs gs : List Field) (f : Field) → Alike r fs gs → has_tag f.tag fs ≡ false → Alike r (add_field fs f) (add_field gs f)
  more_alike fs gs f a new = record {
    there = λ t. has_added t f fs gs (a.there t);
    last = last_add fs f ∙ sym (last_add gs f);
    content = λ t n. go t n (eqb t f.tag) refl;
  }
    where
      go : (t : ℕ) → (t ≡ r → ⊥) → (b : Bool) → eqb t f.tag ≡ b → content_of t (add_field fs f) ≡ content_of t (add_field gs f)
      go t n true q = let z : t ≡ f.tag = eqb-true t f.tag q in rw (z, content_own f fs new, content_own f gs (sym (a.there f.tag) ∙ new))
      go t n false q = content_other t f q fs ∙ a.content t n ∙ sym (content_other t f q gs)

-- ---- the walks over the same bytes, each by a fuel above their length
module _ (r : ℕ) (k : Bool) where
  abbrev rest : List ℕ → List ℕ
  rest s = drop (3 + head_long s) s

  alike_walks : (l m : ℕ) (fs gs : List Field) (s : List ℕ) → Alike r fs gs → length s < l → length s < m → AlikeWalks r (fields_from l k fs s) (fields_from m k gs s)
  alike_walks zero m fs gs s a p q = absurd (omega arith)
  alike_walks (suc l) zero fs gs s a p q = absurd (omega arith)
  alike_walks (suc l) (suc m) fs gs s a p q = go (eqb (length s) 0) refl (eqb (fault_by true k fs s) 0) refl (alike_walks l m (add_field fs (field_at s)) (add_field gs (field_at s)) (rest s))
    where
      same : fault_by true k fs s ≡ fault_by true k gs s
      same = rw (a.there (get_or s 0 0), a.last)

      go : (b : Bool) → eqb (length s) 0 ≡ b → (c : Bool) → eqb (fault_by true k fs s) 0 ≡ c
          → (Alike r (add_field fs (field_at s)) (add_field gs (field_at s)) → length (rest s) < l → length (rest s) < m → AlikeWalks r (fields_from l k (add_field fs (field_at s)) (rest s)) (fields_from m k (add_field gs (field_at s)) (rest s)))
          → AlikeWalks r (fields_from (suc l) k fs s) (fields_from (suc m) k gs s)
      go true e c f ih =
          subst₂ (AlikeWalks r) (sym (from_end true l k fs s e)) (sym (from_end true m k gs s e))
          (ap (λ (b : Bool). when (not b) 6) (there_same k fs gs a.there), record { there = λ t n. a.there t; content = a.content })
      go false e false f ih =
          subst₂ (AlikeWalks r) (sym (from_fault true l k fs s e f)) (sym (from_fault true m k gs s e (ap (λ (n : ℕ). eqb n 0) (sym same) ∙ f)))
          (same, record { there = λ t n. refl; content = λ t n. refl })
      go false e true f ih =
          let passed = passed_by true k fs s (eqb-true (fault_by true k fs s) 0 f) in
          subst₂ (AlikeWalks r) (sym (from_met true l k fs s e f)) (sym (from_met true m k gs s e (ap (λ (n : ℕ). eqb n 0) (sym same) ∙ f)))
          (ih (more_alike r fs gs (field_at s) a passed.new) (omega (arith, passed.size, length-drop (3 + head_long s) s)) (omega (arith, passed.size, length-drop (3 + head_long s) s)))

-- ---- a whole field at the front: its refusal, 2, 3, 29 or 4, does not depend on what is behind it
module _ (k : Bool) (fs : List Field) (t n : ℕ) where
  abbrev fault_in : ℕ
  fault_in = first_of (when (not (tag_ok k t)) 2) (first_of (when (has_tag t fs) 3) (first_of (when (ltb t (last_tag fs)) 29) (when (not (long_ok k t n)) 4)))

front_number : (k : Bool) (fs : List Field) (t : ℕ) (c y : List ℕ) → fault_by true k fs (field t c ++ y) ≡ fault_in k fs t (length c)
front_number k fs t c y =
    let s = field t c ++ y in
    simp (le-ltb (length s) 3 (omega (arith, whole_long t c y)), head-long t c y, le-ltb (length s) (3 + length c) (omega (arith, whole_long t c y)), first_last)

-- two files that begin with it
module _ (r : ℕ) (k : Bool) (fs : List Field) (t : ℕ) (c d y z : List ℕ) (same : fault_in k fs t (length c) ≡ fault_in k fs t (length d)) where
  alike_front : (l m : ℕ) → length (field t c ++ y) < l → length (field t d ++ z) < m
      → ((l m : ℕ) → length y < l → length z < m → has_tag t fs ≡ false → AlikeWalks r (fields_from l k (add_field fs (met_field t c)) y) (fields_from m k (add_field fs (met_field t d)) z))
      → AlikeWalks r (fields_from l k fs (field t c ++ y)) (fields_from m k fs (field t d ++ z))
  alike_front zero m p q then = absurd (omega arith)
  alike_front (suc l) zero p q then = absurd (omega arith)
  alike_front (suc l) (suc m) p q then = go (eqb (fault_by true k fs (field t c ++ y)) 0) refl
    where
      number : fault_by true k fs (field t c ++ y) ≡ fault_by true k fs (field t d ++ z)
      number = front_number k fs t c y ∙ same ∙ sym (front_number k fs t d z)

      some : (c y : List ℕ) → eqb (length (field t c ++ y)) 0 ≡ false
      some c y = ne_eqb (length (field t c ++ y)) 0 (omega (arith, whole_long t c y))

      go : (b : Bool) → eqb (fault_by true k fs (field t c ++ y)) 0 ≡ b → AlikeWalks r (fields_from (suc l) k fs (field t c ++ y)) (fields_from (suc m) k fs (field t d ++ z))
      go false e =
          subst₂ (AlikeWalks r) (sym (from_fault true l k fs (field t c ++ y) (some c y) e)) (sym (from_fault true m k fs (field t d ++ z) (some d z) (ap (λ (n : ℕ). eqb n 0) (sym number) ∙ e)))
          (number, record { there = λ t n. refl; content = λ t n. refl })
      go true e =
          let new = (passed_by true k fs (field t c ++ y) (eqb-true (fault_by true k fs (field t c ++ y)) 0 e)).new in
          subst₂ (AlikeWalks r)
          (sym (from_met true l k fs (field t c ++ y) (some c y) e ∙ ap₂ (λ (f : Field) (x : List ℕ). fields_from l k (add_field fs f) x) (front_field t c y) (front_rest t c y)))
          (sym (from_met true m k fs (field t d ++ z) (some d z) (ap (λ (n : ℕ). eqb n 0) (sym number) ∙ e) ∙ ap₂ (λ (f : Field) (x : List ℕ). fields_from m k (add_field fs f) x) (front_field t d z) (front_rest t d z)))
          (then l m (omega (arith, whole_long t c y)) (omega (arith, whole_long t d z)) new)

-- behind the same fields
module _ (r : ℕ) (k : Bool) (y z : List ℕ) (behind : (fs : List Field) (l m : ℕ) → length y < l → length z < m → AlikeWalks r (fields_from l k fs y) (fields_from m k fs z)) where
  alike_behind : (gs fs : List Field) (l m : ℕ) → length (bytes_in gs ++ y) < l → length (bytes_in gs ++ z) < m → AlikeWalks r (fields_from l k fs (bytes_in gs ++ y)) (fields_from m k fs (bytes_in gs ++ z))
  alike_behind [] fs l m p q = behind fs l m p q
  alike_behind (g ∷ gs) fs l m p q =
      let a = append_assoc (field g.tag g.content) (bytes_in gs) y in
      let b = append_assoc (field g.tag g.content) (bytes_in gs) z in
      subst₂ (λ (u v : List ℕ). AlikeWalks r (fields_from l k fs u) (fields_from m k fs v)) (sym a) (sym b)
      (alike_front r k fs g.tag g.content g.content (bytes_in gs ++ y) (bytes_in gs ++ z) refl l m (omega (arith, ap length a)) (omega (arith, ap length b))
      (λ l m p q new. alike_behind gs (add_field fs (met_field g.tag g.content)) l m p q))

-- ---- a remark
pub remark_long : (k : Bool) (c : List ℕ) → length c ≤ 80 → long_ok k (remark_tag k) (length c) ≡ true
remark_long true c l = le-leb (length c) 80 l
remark_long false c l = le-leb (length c) 80 l

pub replaced : (k : Bool) (fs : List Field) (c d y : List ℕ) → length c ≤ 80 → length d ≤ 80 → OnlyRemark k (remarked k fs c y) (remarked k fs d y)
replaced k fs c d y p q = record { number = alike.0; besides = alike.1 }
  where
    r : ℕ
    r = remark_tag k

    both : (gs : List Field) → fault_in k gs r (length c) ≡ fault_in k gs r (length d)
    both gs = rw (remark_long k c p, remark_long k d q)

    other : (gs : List Field) → Alike r (add_field gs (met_field r c)) (add_field gs (met_field r d))
    other gs = record {
      there = λ t. go t (eqb t r) refl;
      last = last_add gs (met_field r c) ∙ sym (last_add gs (met_field r d));
      content = λ t n. content_other t (met_field r c) (ne_eqb t r n) gs ∙ sym (content_other t (met_field r d) (ne_eqb t r n) gs);
    }
      where
        go : (t : ℕ) (b : Bool) → eqb t r ≡ b → has_tag t (add_field gs (met_field r c)) ≡ has_tag t (add_field gs (met_field r d))
        go t true e = let z : t ≡ r = eqb-true t r e in rw (z, has_own (met_field r c) gs, has_own (met_field r d) gs)
        go t false e = has_other t (met_field r c) e gs ∙ sym (has_other t (met_field r d) e gs)

    alike : AlikeWalks r (walk_all k (remarked k fs c y)) (walk_all k (remarked k fs d y))
    alike =
        alike_behind r k (field r c ++ y) (field r d ++ y)
        (λ gs l m a b. alike_front r k gs r c d y y (both gs) l m a b
        (λ l m a b new. alike_walks r k l m (add_field gs (met_field r c)) (add_field gs (met_field r d)) y (other gs) a b))
        fs [] (suc (length (remarked k fs c y))) (suc (length (remarked k fs d y))) (omega arith) (omega arith)
