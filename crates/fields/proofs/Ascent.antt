-- The walk in order gives 29 or what the walk in any order gives, unless it comes to prices or their sum; the tags of a file that it takes ascend, and a file taken in any order whose tags ascend it takes.
-- Assumes nothing.
use mathlib.Core.Path.{◌≡◌, refl, sym, ap, subst, ◌∙◌}
use mathlib.Core.Bool.{Bool, true, false, ◌&&◌, not}
use mathlib.Core.List.{List, [], ◌∷◌}
use mathlib.Core.Logic.{◌⊎◌, inl, inr, ⊎_elim}
use Prim.Native.Nat.{ℕ, zero, suc, ◌+◌, ◌≤◌, ◌<◌}
use native.Mathlib.Omega.{arith}
use lib.Dec.{eqb, ltb}
use lib.ListN.{length, get_or, drop}
use borrow.Author.Tests.{eqb-true, eqb-false, ltb-true, ltb-false, lt-ltb, le-ltb, ne_eqb}
use Rattle.finite.specs.Base.{first_of, when}
use Rattle.finite.proofs.Tests.{and_left, and_right, and_both, or_left_false, or_right_false}
use Rattle.fields.specs.Files.{Field, Walk, walk, price_tag, tag_ok, is_known, long_ok, has_tag, add_field, head_long, last_tag, fault_by, field_at, fields_with, fields_by, walk_all, old_walk}
use Rattle.fields.specs.Ordering.{any_fault, any_walk, comes_from, comes_to, ascends}
use Rattle.fields.proofs.Agree.{tag_from}
use Rattle.fields.proofs.Added.{last_add}
use Rattle.fields.proofs.Turns.{with_end, with_fault, with_met, from_end, from_fault, from_met, Passed, no_fault, passed_by}
use Rattle.fields.proofs.Runs.{Run, ended, met}

-- ---- unless the walk in order gives 29, both walks are the same
-- the faults of a field, told by its tests: 29 or the same without it
abbrev with_29 : Bool → Bool → Bool → Bool → ℕ → ℕ
with_29 x y z b r = first_of (when x 1) (first_of (when y 2) (first_of (when z 3) (first_of (when b 29) r)))

either_fault : (x y z b : Bool) (r : ℕ) → (with_29 x y z b r ≡ 29) ⊎ (with_29 x y z b r ≡ with_29 x y z false r)
either_fault true y z b r = inr refl
either_fault false true z b r = inr refl
either_fault false false true b r = inr refl
either_fault false false false true r = inl refl
either_fault false false false false r = inr refl

-- a tag other than the price tag is known to both walks
pub other_known : (o k : Bool) (t : ℕ) → (t ≡ price_tag k → ⊥) → is_known o k t ≡ true
other_known true k t n = refl
other_known false k t n = rw (ne_eqb t (price_tag k) n)

-- where the walk does not come to a tag, the field here has another one, and neither does it come to it behind this field
module _ (o k : Bool) (u l : ℕ) (fs : List Field) (s : List ℕ) (e : comes_from o k u (suc l) fs s ≡ false) where
  pub front_other : get_or s 0 0 ≡ u → ⊥
  front_other q = eqb-false u (get_or s 0 0) (or_left_false (eqb u (get_or s 0 0)) _ e) (sym q)

  pub then_none : eqb (fault_by o k fs s) 0 ≡ true → comes_from o k u l (add_field fs (field_at s)) (drop (3 + head_long s) s) ≡ false
  then_none q =
      sym (ap (λ (b : Bool). b && comes_from o k u l (add_field fs (field_at s)) (drop (3 + head_long s) s)) q)
      ∙ or_right_false (eqb u (get_or s 0 0)) (eqb (fault_by o k fs s) 0 && comes_from o k u l (add_field fs (field_at s)) (drop (3 + head_long s) s)) e

module _ (k : Bool) where
  29-or-same : (fs : List Field) (s : List ℕ) → (get_or s 0 0 ≡ price_tag k → ⊥) → (fault_by true k fs s ≡ 29) ⊎ (fault_by true k fs s ≡ fault_by false k fs s)
  29-or-same fs s n =
      let t = get_or s 0 0 in
      let behind = first_of (when (not (long_ok k t (head_long s))) 4) (when (ltb (length s) (3 + head_long s)) 5) in
      subst (λ (b : Bool). (fault_by true k fs s ≡ 29) ⊎ (fault_by true k fs s ≡ with_29 (ltb (length s) 3) (not (b && tag_ok k t)) (has_tag t fs) false behind)) (sym (other_known false k t n))
      (either_fault (ltb (length s) 3) (not (tag_ok k t)) (has_tag t fs) (ltb t (last_tag fs)) behind)

  same_from : (l : ℕ) (fs : List Field) (s : List ℕ) → comes_from true k (price_tag k) l fs s ≡ false → ((fields_by true l k fs s).number ≡ 29 → ⊥) → fields_by true l k fs s ≡ fields_by false l k fs s
  same_from zero fs s none differ = refl
  same_from (suc l) fs s none differ = go (eqb (length s) 0) refl (eqb (fault_by true k fs s) 0) refl (same_from l (add_field fs (field_at s)) (drop (3 + head_long s) s))
    where
      alike : (fault_by true k fs s ≡ 29) ⊎ (fault_by true k fs s ≡ fault_by false k fs s)
      alike = 29-or-same fs s (front_other true k (price_tag k) l fs s none)

      go : (a : Bool) → eqb (length s) 0 ≡ a → (b : Bool) → eqb (fault_by true k fs s) 0 ≡ b
          → (comes_from true k (price_tag k) l (add_field fs (field_at s)) (drop (3 + head_long s) s) ≡ false → ((fields_by true l k (add_field fs (field_at s)) (drop (3 + head_long s) s)).number ≡ 29 → ⊥) → fields_by true l k (add_field fs (field_at s)) (drop (3 + head_long s) s) ≡ fields_by false l k (add_field fs (field_at s)) (drop (3 + head_long s) s))
          → fields_by true (suc l) k fs s ≡ fields_by false (suc l) k fs s
      go true p b q ih = from_end true l k fs s p ∙ sym (from_end false l k fs s p)
      go false p false q ih =
          let w = from_fault true l k fs s p q in
          ⊎_elim (λ e. absurd (differ (ap (λ (v : Walk). v.number) w ∙ e)))
          (λ e. w ∙ ap (λ (x : ℕ). walk x []) e ∙ sym (from_fault false l k fs s p (ap (λ (x : ℕ). eqb x 0) (sym e) ∙ q)))
          alike
      go false p true q ih =
          let w = from_met true l k fs s p q in
          let z : fault_by true k fs s ≡ 0 = eqb-true (fault_by true k fs s) 0 q in
          ⊎_elim (λ e. absurd (omega arith))
          (λ e. w ∙ ih (then_none true k (price_tag k) l fs s none q) (λ n. differ (ap (λ (v : Walk). v.number) w ∙ n)) ∙ sym (from_met false l k fs s p (ap (λ (x : ℕ). eqb x 0) (sym e) ∙ q)))
          alike

  pub walks_same : (s : List ℕ) → comes_to true k (price_tag k) s ≡ false → ((walk_all k s).number ≡ 29 → ⊥) → walk_all k s ≡ old_walk k s
  walks_same s none differ = same_from (suc (length s)) [] s none differ

-- ---- by all tags, in any order
module _ (k : Bool) where
  29-or-any : (fs : List Field) (s : List ℕ) → (fault_by true k fs s ≡ 29) ⊎ (fault_by true k fs s ≡ any_fault k fs s)
  29-or-any fs s = let t = get_or s 0 0 in either_fault (ltb (length s) 3) (not (tag_ok k t)) (has_tag t fs) (ltb t (last_tag fs)) (first_of (when (not (long_ok k t (head_long s))) 4) (when (ltb (length s) (3 + head_long s)) 5))

  any_from : (l : ℕ) (fs : List Field) (s : List ℕ) → ((fields_by true l k fs s).number ≡ 29 → ⊥) → fields_by true l k fs s ≡ fields_with (any_fault k) l k fs s
  any_from zero fs s differ = refl
  any_from (suc l) fs s differ = go (eqb (length s) 0) refl (eqb (fault_by true k fs s) 0) refl (any_from l (add_field fs (field_at s)) (drop (3 + head_long s) s))
    where
      go : (a : Bool) → eqb (length s) 0 ≡ a → (b : Bool) → eqb (fault_by true k fs s) 0 ≡ b
          → (((fields_by true l k (add_field fs (field_at s)) (drop (3 + head_long s) s)).number ≡ 29 → ⊥) → fields_by true l k (add_field fs (field_at s)) (drop (3 + head_long s) s) ≡ fields_with (any_fault k) l k (add_field fs (field_at s)) (drop (3 + head_long s) s))
          → fields_by true (suc l) k fs s ≡ fields_with (any_fault k) (suc l) k fs s
      go true p b q ih = from_end true l k fs s p ∙ sym (with_end (any_fault k) l k fs s p)
      go false p false q ih =
          let w = from_fault true l k fs s p q in
          ⊎_elim (λ e. absurd (differ (ap (λ (v : Walk). v.number) w ∙ e)))
          (λ e. w ∙ ap (λ (x : ℕ). walk x []) e ∙ sym (with_fault (any_fault k) l k fs s p (ap (λ (x : ℕ). eqb x 0) (sym e) ∙ q)))
          (29-or-any fs s)
      go false p true q ih =
          let w = from_met true l k fs s p q in
          let z : fault_by true k fs s ≡ 0 = eqb-true (fault_by true k fs s) 0 q in
          ⊎_elim (λ e. absurd (omega arith))
          (λ e. w ∙ ih (λ n. differ (ap (λ (v : Walk). v.number) w ∙ n)) ∙ sym (with_met (any_fault k) l k fs s p (ap (λ (x : ℕ). eqb x 0) (sym e) ∙ q)))
          (29-or-any fs s)

  pub any_same : (s : List ℕ) → ((walk_all k s).number ≡ 29 → ⊥) → walk_all k s ≡ any_walk k s
  any_same s differ = any_from (suc (length s)) [] s differ

-- ---- runs in order
-- a tag that is new is not the last one
not_last : (k : Bool) (fs : List Field) (t : ℕ) → tag_ok k t ≡ true → has_tag t fs ≡ false → t ≡ last_tag fs → ⊥
not_last true [] t o n e = let b = tag_from true t o in omega arith
not_last false [] t o n e = let b = tag_from false t o in omega arith
not_last k (f ∷ []) t o n e = eqb-false t f.tag (or_left_false (eqb t f.tag) false n) e
not_last k (f ∷ (g ∷ fs)) t o n e = not_last k (g ∷ fs) t o (or_right_false (eqb t f.tag) (has_tag t (g ∷ fs)) n) e

module _ (k : Bool) (fs : List Field) (s : List ℕ) where
  abbrev t : ℕ
  t = get_or s 0 0

  below_with : (b : Bool) → Passed false k (has_tag t fs) b s → (c : Bool) → c ≡ false → Passed true k (has_tag t fs) c s
  below_with b p c e = record { known = refl; tag = p.tag; new = p.new; above = e; long = p.long; size = p.size }

  -- in order: above the last one
  in_order_above : fault_by true k fs s ≡ 0 → ltb (last_tag fs) t ≡ true
  in_order_above e =
      let p = passed_by true k fs s e in
      let l : last_tag fs ≤ t = ltb-false t (last_tag fs) p.above in
      lt-ltb (last_tag fs) t (omega (arith, not_last k fs t p.tag p.new))

  -- and a field in any order that is above the last one is in order
  any_above : fault_by false k fs s ≡ 0 → ltb (last_tag fs) t ≡ true → fault_by true k fs s ≡ 0
  any_above e a =
      let l : last_tag fs < t = ltb-true (last_tag fs) t a in
      no_fault true k (has_tag t fs) (ltb t (last_tag fs)) s (below_with _ (passed_by false k fs s e) _ (le-ltb t (last_tag fs) (omega arith)))

module _ {k : Bool} where
  pub run_ascends : (fs : List Field) (s : List ℕ) (more : List Field) → Run true k fs s more → ascends (last_tag fs) more ≡ true
  run_ascends fs s [] (ended z) = refl
  run_ascends fs s (f ∷ more) (met e r) =
      let h = run_ascends (add_field fs (field_at s)) (drop (3 + head_long s) s) more r in
      and_both _ _ (in_order_above k fs s e) (subst (λ (x : ℕ). ascends x more ≡ true) (last_add fs (field_at s)) h)

  pub run_in_order : (fs : List Field) (s : List ℕ) (more : List Field) → Run false k fs s more → ascends (last_tag fs) more ≡ true → Run true k fs s more
  run_in_order fs s [] (ended z) a = ended z
  run_in_order fs s (f ∷ more) (met e r) a =
      let b = and_right (ltb (last_tag fs) (get_or s 0 0)) (ascends (get_or s 0 0) more) a in
      met (any_above k fs s e (and_left (ltb (last_tag fs) (get_or s 0 0)) (ascends (get_or s 0 0) more) a))
      (run_in_order (add_field fs (field_at s)) (drop (3 + head_long s) s) more r (subst (λ (x : ℕ). ascends x more ≡ true) (sym (last_add fs (field_at s))) b))
