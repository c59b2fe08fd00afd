-- A file that is taken, with and without a field of one tag: a run in tag order goes on from any fields whose tags are below, so a field can be put
-- between two parts of a run, or taken from between them. Assumes nothing.
use mathlib.Core.Path.{◌≡◌, refl, sym, ap, subst, subst₂, ◌∙◌}
use mathlib.Core.Bool.{Bool, true, false, ◌||◌}
use mathlib.Core.Logic.{◌⊎◌, inl, inr}
use mathlib.Core.List.{List, [], ◌∷◌, ◌++◌, append_assoc}
use Prim.Native.Nat.{ℕ, ◌+◌, ◌≤◌, ◌<◌}
use native.Mathlib.Omega.{arith}
use lib.Dec.{eqb, ltb}
use lib.ListN.{length, get_or, drop}
use borrow.Author.Tests.{ne_eqb, ltb-true, ltb-false, lt-ltb, le-ltb}
use Rattle.finite.proofs.Tests.{and_left, and_right, and_both}
use Rattle.fields.specs.Files.{Field, Walk, walk, tag_ok, long_ok, has_tag, content_of, add_field, all_there, head_long, last_tag, fault_by, field_at, walk_all, field}
use Rattle.fields.specs.Ordering.{bytes_in, ascends, SameBesides}
use Rattle.fields.specs.Remarks.{remark_tag, OnlyRemark, remarked}
use Rattle.fields.proofs.Added.{has_other, last_add}
use Rattle.fields.proofs.FrontField.{met_field, head-long, whole_long, front_field, front_rest}
use Rattle.fields.proofs.Turns.{no_fault, passed_by}
use Rattle.fields.proofs.Runs.{Run, ended, met, add_all, all_append, Whole, run_answer, whole_of}
use Rattle.fields.proofs.Ascent.{run_ascends}
use Rattle.fields.proofs.Sorted.{run_front}

-- ---- fields that ascend
last_above : (p : ℕ) (f : Field) (fs : List Field) → ascends p (f ∷ fs) ≡ true → p < last_tag (f ∷ fs)
last_above p f [] a = ltb-true p f.tag (and_left (ltb p f.tag) true a)
last_above p f (g ∷ fs) a =
    let l : p < f.tag = ltb-true p f.tag (and_left (ltb p f.tag) (ascends f.tag (g ∷ fs)) a) in
    omega (arith, last_above f.tag g fs (and_right (ltb p f.tag) (ascends f.tag (g ∷ fs)) a))

-- tags above the last one are not there
above_last : (p : ℕ) (fs : List Field) → ascends p fs ≡ true → (u : ℕ) → last_tag fs < u → has_tag u fs ≡ false
above_last p [] a u l = refl
above_last p (f ∷ []) a u l = rw (ne_eqb u f.tag (omega arith))
above_last p (f ∷ (g ∷ fs)) a u l =
    let b = and_right (ltb p f.tag) (ascends f.tag (g ∷ fs)) a in
    let z : u ≡ f.tag → ⊥ = λ q. omega (arith, last_above f.tag g fs b) in
    rw (ne_eqb u f.tag z) (above_last f.tag (g ∷ fs) b u l)

ascends_front : (p : ℕ) (fs gs : List Field) → ascends p (fs ++ gs) ≡ true → ascends p fs ≡ true
ascends_front p [] gs a = refl
ascends_front p (f ∷ fs) gs a = and_both _ _ (and_left (ltb p f.tag) (ascends f.tag (fs ++ gs)) a) (ascends_front f.tag fs gs (and_right (ltb p f.tag) (ascends f.tag (fs ++ gs)) a))

-- ---- a run that ascends from p on is one from any fields with tags up to p
module _ {k : Bool} where
  run_above : (p : ℕ) (fs gs : List Field) (s : List ℕ) (more : List Field) → Run true k fs s more → ascends p more ≡ true → last_tag gs ≤ p → ((u : ℕ) → p < u → has_tag u gs ≡ false) → Run true k gs s more
  run_above p fs gs s [] (ended z) a l h = ended z
  run_above p fs gs s (f ∷ more) (met e r) a l h =
      let t = get_or s 0 0 in
      let b = passed_by true k fs s e in
      let up : p < t = ltb-true p t (and_left (ltb p t) (ascends t more) a) in
      let now : fault_by true k gs s ≡ 0 =
      no_fault true k (has_tag t gs) (ltb t (last_tag gs)) s (record { known = refl; tag = b.tag; new = h t up; above = le-ltb t (last_tag gs) (omega arith); long = b.long; size = b.size }) in
      met now
      (run_above t (add_field fs (field_at s)) (add_field gs (field_at s)) (drop (3 + head_long s) s) more r (and_right (ltb p t) (ascends t more) a)
      (omega (arith, last_add gs (field_at s))) (λ u m. has_other u (field_at s) (ne_eqb u t (omega arith)) gs ∙ h u (omega arith)))

-- ---- the field at the front of a run
record Front (k : Bool) (fs : List Field) (t : ℕ) (c y : List ℕ) (more : List Field) : Type 0 where
  tag-ok : tag_ok k t ≡ true
  new : has_tag t fs ≡ false
  above : ltb t (last_tag fs) ≡ false
  long : long_ok k t (length c) ≡ true
  behind : List Field
  all : more ≡ met_field t c ∷ behind
  run : Run true k (add_field fs (met_field t c)) y behind

-- the fields gs at the front of a run, before the bytes z: the rest of it, and the run with another rest
record Split (k : Bool) (fs gs : List Field) (z : List ℕ) (more : List Field) : Type 0 where
  behind : List Field
  all : more ≡ gs ++ behind
  run : Run true k (add_all fs gs) z behind
  again : (y : List ℕ) (ms : List Field) → Run true k (add_all fs gs) y ms → Run true k fs (bytes_in gs ++ y) (gs ++ ms)

module _ {k : Bool} where
  run_first : (fs : List Field) (s : List ℕ) (more : List Field) → Run true k fs s more → (length s ≡ 0 → ⊥)
      → (behind : List Field) × (more ≡ field_at s ∷ behind) × (fault_by true k fs s ≡ 0) × Run true k (add_field fs (field_at s)) (drop (3 + head_long s) s) behind
  run_first fs s [] (ended z) some = absurd (some z)
  run_first fs s (f ∷ more) (met e r) some = (more, refl, e, r)

  run_field : (fs : List Field) (t : ℕ) (c y : List ℕ) (more : List Field) → Run true k fs (field t c ++ y) more → Front k fs t c y more
  run_field fs t c y more r =
      let s = field t c ++ y in
      let (behind, all, e, rest) = run_first fs s more r (λ z. omega (arith, whole_long t c y)) in
      let p = passed_by true k fs s e in
      record {
        tag-ok = p.tag;
        new = p.new;
        above = p.above;
        long = ap (long_ok k t) (sym (head-long t c y)) ∙ p.long;
        behind = behind;
        all = all ∙ ap (λ (f : Field). f ∷ behind) (front_field t c y);
        run = subst₂ (λ (f : Field) (x : List ℕ). Run true k (add_field fs f) x behind) (front_field t c y) (front_rest t c y) rest;
      }

  run_split : (gs fs : List Field) (z : List ℕ) (more : List Field) → Run true k fs (bytes_in gs ++ z) more → Split k fs gs z more
  run_split [] fs z more r = record { behind = more; all = refl; run = r; again = λ y ms q. q }
  run_split (g ∷ gs) fs z more r =
      let t = g.tag in
      let c = g.content in
      let f = run_field fs t c (bytes_in gs ++ z) more (subst (λ (x : List ℕ). Run true k fs x more) (append_assoc (field t c) (bytes_in gs) z) r) in
      let rest = run_split gs (add_field fs g) z f.behind f.run in
      record {
        behind = rest.behind;
        all = f.all ∙ ap (λ (ms : List Field). g ∷ ms) rest.all;
        run = rest.run;
        again = λ y ms q.
            subst (λ (x : List ℕ). Run true k fs x (g ∷ (gs ++ ms))) (sym (append_assoc (field t c) (bytes_in gs) y))
            (run_front fs t c (bytes_in gs ++ y) (gs ++ ms) refl f.tag-ok f.new f.above f.long (rest.again y ms q));
      }

-- ---- fields with and without one field
has_besides : (f : Field) (u : ℕ) → (u ≡ f.tag → ⊥) → (fs ms : List Field) → has_tag u (fs ++ (f ∷ ms)) ≡ has_tag u (fs ++ ms)
has_besides f u n [] ms = rw (ne_eqb u f.tag n)
has_besides f u n (x ∷ fs) ms = ap (λ (b : Bool). eqb u x.tag || b) (has_besides f u n fs ms)

content_besides : (f : Field) (u : ℕ) → (u ≡ f.tag → ⊥) → (fs ms : List Field) → content_of u (fs ++ (f ∷ ms)) ≡ content_of u (fs ++ ms)
content_besides f u n [] ms = rw (ne_eqb u f.tag n, content_of)
content_besides f u n (x ∷ fs) ms = ap (λ (l : List ℕ). elim (eqb u x.tag) as (λ (b : Bool). List ℕ) [ true ↦ x.content | false ↦ l ]) (content_besides f u n fs ms)

same_besides : (f : Field) (fs ms : List Field) → SameBesides f.tag (fs ++ (f ∷ ms)) (fs ++ ms)
same_besides f fs ms = record { there = λ u n. has_besides f u n fs ms; content = λ u n. content_besides f u n fs ms }

-- the remark is no needed field
there_besides : (k : Bool) (fs gs : List Field) → SameBesides (remark_tag k) fs gs → all_there k fs ≡ all_there k gs
there_besides true fs gs h = rw (h.there 17 (λ z. omega arith), h.there 18 (λ z. omega arith), h.there 19 (λ z. omega arith), h.there 20 (λ z. omega arith))
there_besides false fs gs h = rw (h.there 1 (λ z. omega arith), h.there 2 (λ z. omega arith), h.there 3 (λ z. omega arith), h.there 4 (λ z. omega arith), h.there 5 (λ z. omega arith))

remark-tag : (k : Bool) → tag_ok k (remark_tag k) ≡ true
remark-tag true = refl
remark-tag false = refl

-- ---- a file with a remark behind the fields fs, and without it
module _ (k : Bool) (fs : List Field) (c y : List ℕ) where
  abbrev r : ℕ
  r = remark_tag k

  abbrev f : Field
  f = met_field r c

  abbrev have : List Field
  have = add_all [] fs

  have_all : have ≡ fs
  have_all = all_append [] fs

  -- both walks, from the fields behind
  only : (ms : List Field) → walk_all k (remarked k fs c y) ≡ walk 0 (fs ++ (f ∷ ms)) → walk_all k (bytes_in fs ++ y) ≡ walk 0 (fs ++ ms) → OnlyRemark k (remarked k fs c y) (bytes_in fs ++ y)
  only ms p q = record {
    number = ap (λ (w : Walk). w.number) p ∙ sym (ap (λ (w : Walk). w.number) q);
    besides = subst₂ (λ (v w : Walk). SameBesides r v.fields w.fields) (sym p) (sym q) (same_besides f fs ms);
  }

  same_there : (ms : List Field) → all_there k (fs ++ (f ∷ ms)) ≡ all_there k (fs ++ ms)
  same_there ms = there_besides k (fs ++ (f ∷ ms)) (fs ++ ms) (same_besides f fs ms)

  -- no tag above the last one is among fs, if they ascend
  above_have : (ms : List Field) → ascends 0 (fs ++ ms) ≡ true → (u : ℕ) → last_tag fs < u → has_tag u have ≡ false
  above_have ms a u l = ap (has_tag u) have_all ∙ above_last 0 fs (ascends_front 0 fs ms a) u l

  -- taken with the remark
  module _ (e : (walk_all k (remarked k fs c y)).number ≡ 0) where
    abbrev w : Whole true k (remarked k fs c y)
    w = whole_of true k (remarked k fs c y) e

    front : Split k [] fs (field r c ++ y) w.more
    front = run_split fs [] (field r c ++ y) w.more w.run

    here : Front k have r c y front.behind
    here = run_field have r c y front.behind front.run

    pub remark_fits : long_ok k r (length c) ≡ true
    remark_fits = here.long

    abbrev ms : List Field
    ms = here.behind

    fields_are : w.more ≡ fs ++ (f ∷ ms)
    fields_are = front.all ∙ ap (λ (l : List Field). fs ++ l) here.all

    low : last_tag have ≤ r
    low = ltb-false r (last_tag have) here.above

    rises : ascends 0 (fs ++ front.behind) ≡ true
    rises = subst (λ (l : List Field). ascends 0 l ≡ true) front.all (run_ascends [] (remarked k fs c y) w.more w.run)

    run_without : Run true k [] (bytes_in fs ++ y) (fs ++ ms)
    run_without =
        let up : ascends r ms ≡ true = subst (λ (p : ℕ). ascends p ms ≡ true) (last_add have f) (run_ascends (add_field have f) y ms here.run) in
        front.again y ms (run_above r (add_field have f) have y ms here.run up low (λ u l. above_have front.behind rises u (omega (arith, low, ap last_tag have_all))))

    pub removed : OnlyRemark k (remarked k fs c y) (bytes_in fs ++ y)
    removed =
        only ms (w.answer ∙ ap (walk 0) fields_are)
        (run_answer true k (bytes_in fs ++ y) (fs ++ ms) run_without (sym (same_there ms) ∙ ap (all_there k) (sym fields_are) ∙ w.there))

  -- taken without it
  module _ (fits : long_ok k r (length c) ≡ true) (below : last_tag fs < r) (then : (length y ≡ 0) ⊎ (r < get_or y 0 0)) (e : (walk_all k (bytes_in fs ++ y)).number ≡ 0) where
    abbrev w' : Whole true k (bytes_in fs ++ y)
    w' = whole_of true k (bytes_in fs ++ y) e

    rest : Split k [] fs y w'.more
    rest = run_split fs [] y w'.more w'.run

    abbrev ns : List Field
    ns = rest.behind

    absent : (u : ℕ) → last_tag fs < u → has_tag u have ≡ false
    absent = above_have ns (subst (λ (l : List Field). ascends 0 l ≡ true) rest.all (run_ascends [] (bytes_in fs ++ y) w'.more w'.run))

    -- what is behind it is above it
    later : (ms : List Field) → Run true k have y ms → (length y ≡ 0) ⊎ (r < get_or y 0 0) → ascends r ms ≡ true
    later [] (ended z) t = refl
    later (g ∷ ms) (met p q) (inl z) = absurd (omega (arith, (passed_by true k have y p).size))
    later (g ∷ ms) (met p q) (inr l) =
        and_both _ _ (lt-ltb r (get_or y 0 0) l) (subst (λ (x : ℕ). ascends x ms ≡ true) (last_add have (field_at y)) (run_ascends (add_field have (field_at y)) (drop (3 + head_long y) y) ms q))

    run_with : Run true k [] (remarked k fs c y) (fs ++ (f ∷ ns))
    run_with =
        rest.again (field r c ++ y) (f ∷ ns)
        (run_front have r c y ns refl (remark-tag k) (absent r below) (le-ltb r (last_tag have) (omega (arith, ap last_tag have_all))) fits
        (run_above r have (add_field have f) y ns rest.run (later ns rest.run then) (omega (arith, last_add have f))
        (λ u l. has_other u f (ne_eqb u r (omega arith)) have ∙ absent u (omega arith))))

    pub added : OnlyRemark k (remarked k fs c y) (bytes_in fs ++ y)
    added =
        only ns (run_answer true k (remarked k fs c y) (fs ++ (f ∷ ns)) run_with (same_there ns ∙ ap (all_there k) (sym rest.all) ∙ w'.there))
        (w'.answer ∙ ap (walk 0) rest.all)
