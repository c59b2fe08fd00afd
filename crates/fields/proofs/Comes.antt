-- Which tags a walk comes to: of a file that it takes, those of its fields. The walk of older files never takes a price tag, and refuses a file with one, taken in order, with 2.
-- Assumes nothing.
use mathlib.Core.Path.{◌≡◌, refl, sym, ap, ap₂, subst, ◌∙◌}
use mathlib.Core.Bool.{Bool, true, false, ◌&&◌, ◌||◌, not}
use mathlib.Core.List.{List, [], ◌∷◌}
use mathlib.Core.Logic.{◌⊎◌, inl, inr}
use Prim.Native.Nat.{ℕ, zero, suc, ◌+◌, ◌≤◌, ◌<◌}
use native.Mathlib.Omega.{arith}
use lib.Dec.{eqb, ltb}
use lib.ListN.{length, get_or, drop, length-drop}
use borrow.Author.Tests.{eqb-true, eqb-false, eq-eqb, ne_eqb, le-ltb}
use Rattle.finite.proofs.Tests.{not_both}
use Rattle.fields.specs.Files.{Field, Walk, price_tag, is_known, has_tag, add_field, head_long, fault_by, field_at, fields_by, walk_by, walk_all, old_walk}
use Rattle.fields.specs.Ordering.{comes_from, comes_to}
use Rattle.fields.proofs.Added.{has_other}
use Rattle.fields.proofs.Turns.{from_end, from_fault, from_met, no_fault, passed_by}
use Rattle.fields.proofs.Laid.{every_field}
use Rattle.fields.proofs.Runs.{Run, ended, met, whole_of}
use Rattle.fields.proofs.Ascent.{front_other, then_none, other_known}

abbrev pub rest : List ℕ → List ℕ
rest s = drop (3 + head_long s) s

-- ---- a tag that the walk does not come to is not among its fields, and it comes to those of a file that it takes
pub no_field : (o k : Bool) (u l : ℕ) (fs : List Field) (s : List ℕ) → comes_from o k u l fs s ≡ false → has_tag u fs ≡ false → has_tag u (fields_by o l k fs s).fields ≡ false
no_field o k u zero fs s e h = h
no_field o k u (suc l) fs s e h = go (eqb (length s) 0) refl (eqb (fault_by o k fs s) 0) refl (no_field o k u l (add_field fs (field_at s)) (rest s))
  where
    absent : Walk → Type 0
    absent w = has_tag u w.fields ≡ false

    go : (a : Bool) → eqb (length s) 0 ≡ a → (b : Bool) → eqb (fault_by o k fs s) 0 ≡ b
        → (comes_from o k u l (add_field fs (field_at s)) (rest s) ≡ false → has_tag u (add_field fs (field_at s)) ≡ false → absent (fields_by o l k (add_field fs (field_at s)) (rest s)))
        → absent (fields_by o (suc l) k fs s)
    go true p b q ih = subst absent (sym (from_end o l k fs s p)) h
    go false p false q ih = subst absent (sym (from_fault o l k fs s p q)) refl
    go false p true q ih =
        let added : has_tag u (add_field fs (field_at s)) ≡ false = has_other u (field_at s) (ne_eqb u (get_or s 0 0) (λ z. front_other o k u l fs s e (sym z))) fs ∙ h in
        subst absent (sym (from_met o l k fs s p q)) (ih (then_none o k u l fs s e q) added)

module _ (o k : Bool) (u : ℕ) (positive : eqb u 0 ≡ false) where
  run_comes : (l : ℕ) (fs : List Field) (s : List ℕ) (more : List Field) → Run o k fs s more → length s < l → comes_from o k u l fs s ≡ has_tag u more
  run_comes zero fs s more r h = absurd (omega arith)
  run_comes (suc l) fs [] [] (ended z) h = rw positive
  run_comes (suc l) fs (x ∷ s) [] (ended z) h = absurd (omega arith)
  run_comes (suc l) fs s (f ∷ more) (met e r) h =
      let ih = run_comes l (add_field fs (field_at s)) (rest s) more r (omega (arith, (passed_by o k fs s e).size, length-drop (3 + head_long s) s)) in
      ap₂ (λ (b c : Bool). eqb u (get_or s 0 0) || (b && c)) (eq-eqb (fault_by o k fs s) 0 e) ih

  pub comes_there : (s : List ℕ) → (walk_by o k s).number ≡ 0 → comes_to o k u s ≡ has_tag u (walk_by o k s).fields
  comes_there s e =
      let w = whole_of o k s e in
      run_comes (suc (length s)) [] s w.more w.run (omega arith) ∙ sym (ap (λ (v : Walk). has_tag u v.fields) w.answer)

-- ---- the walk of older files
price_some : (k : Bool) → eqb (price_tag k) 0 ≡ false
price_some true = refl
price_some false = refl

pub priced_comes : (o k : Bool) (s : List ℕ) → (walk_by o k s).number ≡ 0 → comes_to o k (price_tag k) s ≡ has_tag (price_tag k) (walk_by o k s).fields
priced_comes o k = comes_there o k (price_tag k) (price_some k)

-- it does not know the price tag
pub known_other : (k : Bool) (t : ℕ) → is_known false k t ≡ true → price_tag k ≡ t → ⊥
known_other k t e q = not_both e (ap not (eq-eqb t (price_tag k) (sym q)))

module _ (k : Bool) where
  not_price : (fs : List Field) (s : List ℕ) → fault_by false k fs s ≡ 0 → eqb (price_tag k) (get_or s 0 0) ≡ false
  not_price fs s e = ne_eqb (price_tag k) (get_or s 0 0) (known_other k (get_or s 0 0) (passed_by false k fs s e).known)

  pub old_unpriced : (s : List ℕ) → has_tag (price_tag k) (old_walk k s).fields ≡ false
  old_unpriced s =
      every_field false k (λ r. Unit {0}) (λ fs. has_tag (price_tag k) fs ≡ false) refl (λ n r h. tt)
      (λ fs r h none e. has_other (price_tag k) (field_at r) (not_price fs r e) fs ∙ none) (suc (length s)) [] s tt refl

  -- so in order it would not come to one either
  pub old_comes : (l : ℕ) (fs : List Field) (s : List ℕ) (more : List Field) → Run false k fs s more → comes_from true k (price_tag k) l fs s ≡ false
  old_comes zero fs s more r = refl
  old_comes (suc l) fs [] [] (ended z) = rw (price_some k)
  old_comes (suc l) fs (x ∷ s) [] (ended z) = absurd (omega arith)
  old_comes (suc l) fs s (f ∷ more) (met e r) = rw (not_price fs s e) (none (eqb (fault_by true k fs s) 0) (old_comes l (add_field fs (field_at s)) (rest s) more r))
    where
      none : (b : Bool) {c : Bool} → c ≡ false → (b && c) ≡ false
      none true e = e
      none false e = refl

  -- and refuses it with 2
  price_two : (fs : List Field) (s : List ℕ) → 3 + head_long s ≤ length s → get_or s 0 0 ≡ price_tag k → fault_by false k fs s ≡ 2
  price_two fs s h e = simp (le-ltb (length s) 3 (omega arith), eq-eqb (get_or s 0 0) (price_tag k) e)

  old_two : (l : ℕ) (fs : List Field) (s : List ℕ) (more : List Field) → Run true k fs s more → length s < l → has_tag (price_tag k) more ≡ true → (fields_by false l k fs s).number ≡ 2
  old_two zero fs s more r h e = absurd (omega arith)
  old_two (suc l) fs s [] (ended z) h e = absurd (not_both e refl)
  old_two (suc l) fs s (f ∷ more) (met p r) h e = go (eqb (price_tag k) (get_or s 0 0)) refl (old_two l (add_field fs (field_at s)) (rest s) more r)
    where
      some : eqb (length s) 0 ≡ false
      some = ne_eqb (length s) 0 (omega (arith, (passed_by true k fs s p).size))

      go : (b : Bool) → eqb (price_tag k) (get_or s 0 0) ≡ b → (length (rest s) < l → has_tag (price_tag k) more ≡ true → (fields_by false l k (add_field fs (field_at s)) (rest s)).number ≡ 2)
          → (fields_by false (suc l) k fs s).number ≡ 2
      go true q ih =
          let two : fault_by false k fs s ≡ 2 = price_two fs s (passed_by true k fs s p).size (sym (eqb-true (price_tag k) (get_or s 0 0) q)) in
          ap (λ (w : Walk). w.number) (from_fault false l k fs s some (ap (λ (n : ℕ). eqb n 0) two)) ∙ two
      go false q ih =
          let b = passed_by true k fs s p in
          let known : is_known false k (get_or s 0 0) ≡ true = other_known false k (get_or s 0 0) (λ z. eqb-false (price_tag k) (get_or s 0 0) q (sym z)) in
          let now : fault_by false k fs s ≡ 0 = no_fault false k (has_tag (get_or s 0 0) fs) false s (record { known = known; tag = b.tag; new = b.new; above = refl; long = b.long; size = b.size }) in
          let there : has_tag (price_tag k) more ≡ true = rw q at e in
          ap (λ (w : Walk). w.number) (from_met false l k fs s some (eq-eqb (fault_by false k fs s) 0 now)) ∙ ih (omega (arith, b.size, length-drop (3 + head_long s) s)) there

  pub priced_two : (s : List ℕ) → (walk_all k s).number ≡ 0 → has_tag (price_tag k) (walk_all k s).fields ≡ true → (old_walk k s).number ≡ 2
  priced_two s e h =
      let w = whole_of true k s e in
      old_two (suc (length s)) [] s w.more w.run (omega arith) (sym (ap (λ (v : Walk). has_tag (price_tag k) v.fields) w.answer) ∙ h)

  -- and wherever it comes to one, in whatever order, it gives 1 or 2
  price_refused : (fs : List Field) (s : List ℕ) → get_or s 0 0 ≡ price_tag k → (fault_by false k fs s ≡ 1) ⊎ (fault_by false k fs s ≡ 2)
  price_refused fs s e = go (ltb (length s) 3) refl
    where
      go : (b : Bool) → ltb (length s) 3 ≡ b → (fault_by false k fs s ≡ 1) ⊎ (fault_by false k fs s ≡ 2)
      go true q = inl (simp q)
      go false q = inr (simp (q, eq-eqb (get_or s 0 0) (price_tag k) e))

  abbrev Refused : Walk → Type 0
  Refused w = (w.number ≡ 1) ⊎ (w.number ≡ 2)

  comes_refused : (l : ℕ) (fs : List Field) (s : List ℕ) → comes_from false k (price_tag k) l fs s ≡ true → Refused (fields_by false l k fs s)
  comes_refused zero fs s e = absurd (not_both e refl)
  comes_refused (suc l) fs s e = go (eqb (length s) 0) refl (eqb (price_tag k) (get_or s 0 0)) refl (eqb (fault_by false k fs s) 0) refl (comes_refused l (add_field fs (field_at s)) (rest s))
    where
      number : (n : ℕ) → (n ≡ 1) ⊎ (n ≡ 2) → eqb n 0 ≡ false
      number n (inl q) = rw q
      number n (inr q) = rw q

      nothing : (s : List ℕ) → eqb (length s) 0 ≡ true → eqb (price_tag k) (get_or s 0 0) ≡ false
      nothing [] q = price_some k
      nothing (x ∷ s) q = absurd (not_both q (ne_eqb (length (x ∷ s)) 0 (omega arith)))

      go : (a : Bool) → eqb (length s) 0 ≡ a → (b : Bool) → eqb (price_tag k) (get_or s 0 0) ≡ b → (c : Bool) → eqb (fault_by false k fs s) 0 ≡ c
          → (comes_from false k (price_tag k) l (add_field fs (field_at s)) (rest s) ≡ true → Refused (fields_by false l k (add_field fs (field_at s)) (rest s)))
          → Refused (fields_by false (suc l) k fs s)
      go true p true q c r ih = absurd (not_both q (nothing s p))
      go true p false q c r ih = absurd (empty s p e)
        where
          empty : (s : List ℕ) → eqb (length s) 0 ≡ true → comes_from false k (price_tag k) (suc l) fs s ≡ true → ⊥
          empty [] z h = not_both h (rw (price_some k))
          empty (x ∷ s) z h = not_both z (ne_eqb (length (x ∷ s)) 0 (omega arith))
      go false p true q c r ih =
          let two = price_refused fs s (sym (eqb-true (price_tag k) (get_or s 0 0) q)) in
          subst Refused (sym (from_fault false l k fs s p (number (fault_by false k fs s) two))) two
      go false p false q true r ih =
          subst Refused (sym (from_met false l k fs s p r)) (ih (sym (rw (q, r)) ∙ e))
      go false p false q false r ih = absurd (not_both e (rw (q, r)))

  pub old_refuses : (s : List ℕ) → comes_to false k (price_tag k) s ≡ true → Refused (old_walk k s)
  old_refuses s = comes_refused (suc (length s)) [] s
