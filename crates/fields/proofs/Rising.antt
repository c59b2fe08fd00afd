-- Fields by rising tag: they are the same fields, they ascend, and fields that ascend are left as they are. By induction over the tags.
-- Assumes nothing.
use mathlib.Core.Path.{◌≡◌, refl, sym, ap, ap₂, subst, ◌∙◌}
use mathlib.Core.Bool.{Bool, true, false, ◌||◌}
use mathlib.Core.List.{List, [], ◌∷◌, ◌++◌, append_assoc, append-nil}
use Prim.Native.Nat.{ℕ, zero, suc, ◌+◌, ◌≤◌, ◌<◌}
use native.Mathlib.Omega.{arith}
use lib.Dec.{eqb, ltb}
use lib.ListN.{length, length-append}
use borrow.Author.Tests.{eqb-true, eqb-false, eq-eqb, ne_eqb, ltb-true, lt-ltb}
use Rattle.finite.specs.Base.{pick}
use Rattle.finite.proofs.Tests.{and_left, and_right, and_both}
use Rattle.fields.specs.Files.{Field, has_tag, content_of, add_field, field}
use Rattle.fields.specs.Ordering.{field_of, rising, bytes_in, ascends}
use Rattle.fields.proofs.Added.{has_other, content_other, has_own, content_own}
use Rattle.fields.proofs.FrontField.{met_field}
use Rattle.fields.proofs.Laid.{absent_none}

-- the field of one tag
one_there : (t : ℕ) (fs : List Field) → has_tag t fs ≡ true → field_of t fs ≡ met_field t (content_of t fs) ∷ []
one_there t fs h = rw h

one_absent : (t : ℕ) (fs : List Field) → has_tag t fs ≡ false → field_of t fs ≡ []
one_absent t fs h = rw h

-- the front of `rising`
module _ (n t : ℕ) (fs : List Field) where
  pub rising_there : has_tag t fs ≡ true → rising (suc n) t fs ≡ met_field t (content_of t fs) ∷ rising n (suc t) fs
  rising_there h = ap (λ (l : List Field). l ++ rising n (suc t) fs) (one_there t fs h)

  pub rising_absent : has_tag t fs ≡ false → rising (suc n) t fs ≡ rising n (suc t) fs
  rising_absent h = ap (λ (l : List Field). l ++ rising n (suc t) fs) (one_absent t fs h)

pub rising_none : (n t : ℕ) → rising n t [] ≡ []
rising_none zero t = refl
rising_none (suc n) t = rising_none n (suc t)

-- fields that agree from t on
pub rising_same : (n t : ℕ) (fs gs : List Field) → ((u : ℕ) → t ≤ u → has_tag u fs ≡ has_tag u gs) → ((u : ℕ) → t ≤ u → content_of u fs ≡ content_of u gs) → rising n t fs ≡ rising n t gs
rising_same zero t fs gs h c = refl
rising_same (suc n) t fs gs h c =
    let ih : rising n (suc t) fs ≡ rising n (suc t) gs = rising_same n (suc t) fs gs (λ u l. h u (omega arith)) (λ u l. c u (omega arith)) in
    let a : field_of t fs ≡ field_of t gs =
    ap (λ (b : Bool). pick b (met_field t (content_of t fs) ∷ []) []) (h t (omega arith)) ∙ ap (λ (x : List ℕ). pick (has_tag t gs) (met_field t x ∷ []) []) (c t (omega arith)) in
    ap₂ (λ (x y : List Field). x ++ y) a ih

-- one tag more at the end
pub rising_more : (n t : ℕ) (fs : List Field) → rising (suc n) t fs ≡ rising n t fs ++ field_of (t + n) fs
rising_more zero t fs =
    let e : t ≡ t + 0 = omega arith in
    append-nil (field_of t fs) ∙ ap (λ (u : ℕ). field_of u fs) e
rising_more (suc n) t fs =
    let e : suc t + n ≡ t + suc n = omega arith in
    ap (λ (l : List Field). field_of t fs ++ l) (rising_more n (suc t) fs ∙ ap (λ (u : ℕ). rising n (suc t) fs ++ field_of u fs) e)
    ∙ sym (append_assoc (field_of t fs) (rising n (suc t) fs) (field_of (t + suc n) fs))

-- other tags than these n are not there
pub rising_other : (n t : ℕ) (fs : List Field) (u : ℕ) → (t ≤ u → u < t + n → ⊥) → has_tag u (rising n t fs) ≡ false
rising_other zero t fs u out = refl
rising_other (suc n) t fs u out = go (has_tag t fs) refl (rising_other n (suc t) fs u (λ a b. out (omega arith) (omega arith)))
  where
    go : (b : Bool) → has_tag t fs ≡ b → has_tag u (rising n (suc t) fs) ≡ false → has_tag u (rising (suc n) t fs) ≡ false
    go true h ih = ap (has_tag u) (rising_there n t fs h) ∙ rw (ne_eqb u t (λ e. out (omega arith) (omega arith))) ih
    go false h ih = ap (has_tag u) (rising_absent n t fs h) ∙ ih

-- what two lists of fields say of one tag is the same
abbrev pub SameAt : ℕ → List Field → List Field → Type 0
SameAt u fs gs = (has_tag u fs ≡ has_tag u gs) × (content_of u fs ≡ content_of u gs)

pub absent_same : (u : ℕ) (fs gs : List Field) → has_tag u fs ≡ false → has_tag u gs ≡ false → SameAt u fs gs
absent_same u fs gs a b = (a ∙ sym b, absent_none u fs a ∙ sym (absent_none u gs b))

-- these n tags are as before
pub rising_at : (n t : ℕ) (fs : List Field) (u : ℕ) → t ≤ u → u < t + n → SameAt u (rising n t fs) fs
rising_at zero t fs u l m = absurd (omega arith)
rising_at (suc n) t fs u l m = go (has_tag t fs) refl (eqb u t) refl (rising_at n (suc t) fs u)
  where
    go : (b : Bool) → has_tag t fs ≡ b → (c : Bool) → eqb u t ≡ c → (suc t ≤ u → u < suc t + n → SameAt u (rising n (suc t) fs) fs) → SameAt u (rising (suc n) t fs) fs
    go true h true e ih =
        let q : u ≡ t = eqb-true u t e in
        subst (λ (r : List Field). SameAt u r fs) (sym (rising_there n t fs h))
        (rw e (sym (ap (λ (x : ℕ). has_tag x fs) q ∙ h)), rw (e, content_of) (ap (λ (x : ℕ). content_of x fs) (sym q)))
    go true h false e ih =
        let (a, b) = ih (omega (arith, eqb-false u t e)) (omega arith) in
        subst (λ (r : List Field). SameAt u r fs) (sym (rising_there n t fs h)) (rw e a, rw (e, content_of) b)
    go false h true e ih =
        let q : u ≡ t = eqb-true u t e in
        subst (λ (r : List Field). SameAt u r fs) (sym (rising_absent n t fs h))
        (absent_same u (rising n (suc t) fs) fs (rising_other n (suc t) fs u (λ a b. omega arith)) (ap (λ (x : ℕ). has_tag x fs) q ∙ h))
    go false h false e ih =
        subst (λ (r : List Field). SameAt u r fs) (sym (rising_absent n t fs h)) (ih (omega (arith, eqb-false u t e)) (omega arith))

-- they ascend
pub rising_up : (n t : ℕ) (fs : List Field) (p : ℕ) → p < t → ascends p (rising n t fs) ≡ true
rising_up zero t fs p l = refl
rising_up (suc n) t fs p l = go (has_tag t fs) refl (rising_up n (suc t) fs t (omega arith)) (rising_up n (suc t) fs p (omega arith))
  where
    go : (b : Bool) → has_tag t fs ≡ b → ascends t (rising n (suc t) fs) ≡ true → ascends p (rising n (suc t) fs) ≡ true → ascends p (rising (suc n) t fs) ≡ true
    go true h ih jh = ap (ascends p) (rising_there n t fs h) ∙ and_both (ltb p t) _ (lt-ltb p t l) ih
    go false h ih jh = ap (ascends p) (rising_absent n t fs h) ∙ jh

-- of fields that ascend from above p, tags up to p are not there
ascends_low : (fs : List Field) (p u : ℕ) → ascends p fs ≡ true → u ≤ p → has_tag u fs ≡ false
ascends_low [] p u a l = refl
ascends_low (f ∷ fs) p u a l =
    let b : p < f.tag = ltb-true p f.tag (and_left (ltb p f.tag) (ascends f.tag fs) a) in
    rw (ne_eqb u f.tag (omega arith)) (ascends_low fs f.tag u (and_right (ltb p f.tag) (ascends f.tag fs) a) (omega arith))

-- fields that ascend are left as they are
pub rising_fixed : (n p : ℕ) (fs : List Field) → ascends p fs ≡ true → ((u : ℕ) → has_tag u fs ≡ true → u < suc p + n) → rising n (suc p) fs ≡ fs
rising_fixed n p [] a h = rising_none n (suc p)
rising_fixed zero p (f ∷ fs) a h =
    let own : has_tag f.tag (f ∷ fs) ≡ true = rw (eq-eqb f.tag f.tag refl) in
    let b : p < f.tag = ltb-true p f.tag (and_left (ltb p f.tag) (ascends f.tag fs) a) in
    absurd (omega (arith, h f.tag own))
rising_fixed (suc n) p (f ∷ fs) a h = go (eqb (suc p) f.tag) refl (rising_fixed n (suc p) fs) (rising_fixed n (suc p) (f ∷ fs))
  where
    above : p < f.tag
    above = ltb-true p f.tag (and_left (ltb p f.tag) (ascends f.tag fs) a)

    rest : ascends f.tag fs ≡ true
    rest = and_right (ltb p f.tag) (ascends f.tag fs) a

    go : (b : Bool) → eqb (suc p) f.tag ≡ b
        → (ascends (suc p) fs ≡ true → ((u : ℕ) → has_tag u fs ≡ true → u < suc (suc p) + n) → rising n (suc (suc p)) fs ≡ fs)
        → (ascends (suc p) (f ∷ fs) ≡ true → ((u : ℕ) → has_tag u (f ∷ fs) ≡ true → u < suc (suc p) + n) → rising n (suc (suc p)) (f ∷ fs) ≡ f ∷ fs)
        → rising (suc n) (suc p) (f ∷ fs) ≡ f ∷ fs
    go true e ih jh =
        let q : suc p ≡ f.tag = eqb-true (suc p) f.tag e in
        let there : has_tag (suc p) (f ∷ fs) ≡ true = rw e in
        let own : content_of (suc p) (f ∷ fs) ≡ f.content = rw (e, content_of) in
        let other : (u : ℕ) → suc (suc p) ≤ u → eqb u f.tag ≡ false = λ u l. ne_eqb u f.tag (omega arith) in
        let skip : rising n (suc (suc p)) (f ∷ fs) ≡ rising n (suc (suc p)) fs =
        rising_same n (suc (suc p)) (f ∷ fs) fs (λ u l. rw (other u l)) (λ u l. rw (other u l, content_of)) in
        let wider : (u : ℕ) → has_tag u fs ≡ true → u < suc (suc p) + n = λ u t. let w : u < suc p + suc n = h u (wide u t) in omega arith in
        rising_there n (suc p) (f ∷ fs) there
        ∙ ap₂ (λ (x : Field) (l : List Field). x ∷ l) (ap₂ met_field q own) (skip ∙ ih (ap (λ (x : ℕ). ascends x fs) q ∙ rest) wider)
      where
        wide : (u : ℕ) → has_tag u fs ≡ true → has_tag u (f ∷ fs) ≡ true
        wide u t = go' (eqb u f.tag)
          where
            go' : (b : Bool) → (b || has_tag u fs) ≡ true
            go' true = refl
            go' false = t
    go false e ih jh =
        let q : suc p ≡ f.tag → ⊥ = eqb-false (suc p) f.tag e in
        let a' : ascends (suc p) (f ∷ fs) ≡ true = and_both (ltb (suc p) f.tag) _ (lt-ltb (suc p) f.tag (omega (arith, q, above))) rest in
        rising_absent n (suc p) (f ∷ fs) (ascends_low (f ∷ fs) (suc p) (suc p) a' (omega arith))
        ∙ jh a' (λ u t. let w : u < suc p + suc n = h u t in omega arith)

-- bytes of fields in a row
pub bytes_row : (fs gs : List Field) → bytes_in (fs ++ gs) ≡ bytes_in fs ++ bytes_in gs
bytes_row [] gs = refl
bytes_row (f ∷ fs) gs = ap (λ (l : List ℕ). field f.tag f.content ++ l) (bytes_row fs gs) ∙ sym (append_assoc (field f.tag f.content) (bytes_in fs) (bytes_in gs))

pub bytes_cons_long : (f : Field) (fs : List Field) → length (bytes_in (f ∷ fs)) ≡ 3 + length f.content + length (bytes_in fs)
bytes_cons_long f fs = omega (arith, length-append f.content (bytes_in fs))

-- more tags make no fewer bytes
pub more_long : (n t : ℕ) (fs : List Field) → length (bytes_in (rising (suc n) t fs)) ≡ length (bytes_in (rising n t fs)) + length (bytes_in (field_of (t + n) fs))
more_long n t fs =
    ap (λ (l : List Field). length (bytes_in l)) (rising_more n t fs)
    ∙ ap length (bytes_row (rising n t fs) (field_of (t + n) fs))
    ∙ length-append (bytes_in (rising n t fs)) (bytes_in (field_of (t + n) fs))

pub rising_most : (n d t : ℕ) (fs : List Field) → length (bytes_in (rising n t fs)) ≤ length (bytes_in (rising (n + d) t fs))
rising_most n zero t fs = let e : n + 0 ≡ n = omega arith in rw e (omega arith)
rising_most n (suc d) t fs =
    let e : n + suc d ≡ suc (n + d) = omega arith in
    let a : length (bytes_in (rising (n + suc d) t fs)) ≡ length (bytes_in (rising (suc (n + d)) t fs)) = ap (λ (m : ℕ). length (bytes_in (rising m t fs))) e in
    omega (arith, a, more_long (n + d) t fs, rising_most n d t fs)

-- a new field adds its bytes
module _ (fs : List Field) (f : Field) (new : has_tag f.tag fs ≡ false) where
  pub rising_add : (n t : ℕ) → t ≤ f.tag → f.tag < t + n → length (bytes_in (rising n t (add_field fs f))) ≡ length (bytes_in (rising n t fs)) + (3 + length f.content)
  rising_add zero t l m = absurd (omega arith)
  rising_add (suc n) t l m = go (eqb t f.tag) refl (has_tag t fs) refl (rising_add n (suc t))
    where
      same_from : f.tag < suc t → rising n (suc t) (add_field fs f) ≡ rising n (suc t) fs
      same_from b =
          rising_same n (suc t) (add_field fs f) fs
          (λ u k. has_other u f (ne_eqb u f.tag (omega arith)) fs)
          (λ u k. content_other u f (ne_eqb u f.tag (omega arith)) fs)

      go : (b : Bool) → eqb t f.tag ≡ b → (c : Bool) → has_tag t fs ≡ c
          → (suc t ≤ f.tag → f.tag < suc t + n → length (bytes_in (rising n (suc t) (add_field fs f))) ≡ length (bytes_in (rising n (suc t) fs)) + (3 + length f.content))
          → length (bytes_in (rising (suc n) t (add_field fs f))) ≡ length (bytes_in (rising (suc n) t fs)) + (3 + length f.content)
      go true e c h ih =
          let q : t ≡ f.tag = eqb-true t f.tag e in
          let there : has_tag t (add_field fs f) ≡ true = ap (λ (x : ℕ). has_tag x (add_field fs f)) q ∙ has_own f fs in
          let own : content_of t (add_field fs f) ≡ f.content = ap (λ (x : ℕ). content_of x (add_field fs f)) q ∙ content_own f fs new in
          let none : has_tag t fs ≡ false = ap (λ (x : ℕ). has_tag x fs) q ∙ new in
          omega (
            arith,
            ap (λ (r : List Field). length (bytes_in r)) (rising_there n t (add_field fs f) there),
            ap (λ (r : List Field). length (bytes_in r)) (rising_absent n t fs none),
            ap (λ (r : List Field). length (bytes_in r)) (same_from (omega arith)),
            bytes_cons_long (met_field t (content_of t (add_field fs f))) (rising n (suc t) (add_field fs f)),
            ap length own,
          )
      go false e true h ih =
          let there : has_tag t (add_field fs f) ≡ true = has_other t f e fs ∙ h in
          omega (
            arith,
            ap (λ (r : List Field). length (bytes_in r)) (rising_there n t (add_field fs f) there),
            ap (λ (r : List Field). length (bytes_in r)) (rising_there n t fs h),
            bytes_cons_long (met_field t (content_of t (add_field fs f))) (rising n (suc t) (add_field fs f)),
            bytes_cons_long (met_field t (content_of t fs)) (rising n (suc t) fs),
            ap length (content_other t f e fs),
            ih (omega (arith, eqb-false t f.tag e)) (omega arith),
          )
      go false e false h ih =
          let none : has_tag t (add_field fs f) ≡ false = has_other t f e fs ∙ h in
          omega (
            arith,
            ap (λ (r : List Field). length (bytes_in r)) (rising_absent n t (add_field fs f) none),
            ap (λ (r : List Field). length (bytes_in r)) (rising_absent n t fs h),
            ih (omega (arith, eqb-false t f.tag e)) (omega arith),
          )
