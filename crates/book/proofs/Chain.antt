-- In entries without refusal the revisions of a model, with 0 behind them, are distinct, and they are the latest one in front of those that are replaced. So the latest one, and no other, is current. By induction over the entries.
use mathlib.Core.Path.{◌≡◌, refl, sym, ap, subst, ◌∙◌}
use mathlib.Core.Logic.{⊎_elim}
use mathlib.Core.Bool.{Bool, true, false, ◌||◌}
use mathlib.Core.List.{List, [], ◌∷◌}
use Prim.Native.Nat.{ℕ, ◌≤◌, ◌<◌}
use native.Mathlib.Omega.{arith}
use lib.Dec.{eqb}
use lib.ListN.{get_or}
use Rattle.std.proofs.Common.{Some, None, slice_get}
use borrow.Author.Tests.{eqb-true, eqb-false, ltb-true, not-false}
use Rattle.finite.specs.Base.{when, is_in}
use Rattle.finite.proofs.Tests.{either, not_both, not_true_false, and_left, and_right, or_left_false, or_right_false, first_none, when_none}
use Rattle.finite.proofs.Members.{in_none, in_here, in_cases}
use Rattle.book.specs.declared.Entry.{Entry}
use Rattle.book.specs.Entries.{has_model, of_model, listed_of, replaced_of, first_not_in, current, entry_fault, entries_fault, latest, is_rising}
use Rattle.book.specs.Says.{IsCurrent}
use Rattle.book.proofs.Shifted.{Shifted, first_kept, first_only, first_found, first_not_zero, shifted_on}

-- the entry in front is of the model, or of another
module _ (f : Entry → ℕ) (m : ℕ) (e : Entry) (es : List Entry) where
  pub of_own : eqb m e.model ≡ true → of_model f m (e ∷ es) ≡ f e ∷ of_model f m es
  of_own p = rw p

  pub of_other : eqb m e.model ≡ false → of_model f m (e ∷ es) ≡ of_model f m es
  of_other p = rw p

-- an entry without refusal
record Fits (es : List Entry) (e : Entry) : Type 0 where
  some : e.revision ≡ 0 → ⊥
  further : is_in e.revision (listed_of e.model es) ≡ false
  next : e.replaced ≡ current e.model es

fits : (es : List Entry) (e : Entry) → entry_fault es e ≡ 0 → Fits es e
fits es e h =
    let zero-revision = eqb e.revision 0 in
    let listed = is_in e.revision (listed_of e.model es) in
    let (p, q) = first_none (when (zero-revision || listed) 41) _ h in
    let n : (zero-revision || listed) ≡ false = when_none _ 40 p in
    record {
      some = eqb-false e.revision 0 (or_left_false zero-revision listed n);
      further = or_right_false zero-revision listed n;
      next = eqb-true e.replaced (current e.model es) (not-false _ (when_none _ 41 q));
    }

module _ (m : ℕ) where
  -- an entry of model m that fits
  module _ (es : List Entry) (e : Entry) (f : Fits es e) (own : eqb m e.model ≡ true) where
    same : e.model ≡ m
    same = sym (eqb-true m e.model own)

    further_here : is_in e.revision (listed_of m es) ≡ false
    further_here = subst (λ (k : ℕ). is_in e.revision (listed_of k es) ≡ false) same f.further

    next_here : e.replaced ≡ current m es
    next_here = f.next ∙ ap (λ (k : ℕ). current k es) same

  chained : (es : List Entry) → entries_fault es ≡ 0 → Shifted (listed_of m es) (replaced_of m es)
  chained [] h = record { apart = refl; moved = refl }
  chained (e ∷ es) h = go (eqb m e.model) refl (chained es (first_none (entries_fault es) (entry_fault es e) h).0)
    where
      f : Fits es e
      f = fits es e (first_none (entries_fault es) (entry_fault es e) h).1

      go : (b : Bool) → eqb m e.model ≡ b → Shifted (listed_of m es) (replaced_of m es) → Shifted (listed_of m (e ∷ es)) (replaced_of m (e ∷ es))
      go true p c = rw p (shifted_on (listed_of m es) (replaced_of m es) e.revision e.replaced f.some (further_here es e f p) (next_here es e f p) c)
      go false p c = rw p c

  -- ---- a model is there exactly where it has a revision
  has_none : (es : List Entry) → has_model m es ≡ false → listed_of m es ≡ []
  has_none [] h = refl
  has_none (e ∷ es) h =
      of_other (λ x. x.revision) m e es (or_left_false (eqb m e.model) (has_model m es) h)
      ∙ has_none es (or_right_false (eqb m e.model) (has_model m es) h)

  pub new_model : (es : List Entry) → has_model m es ≡ false → current m es ≡ 0
  new_model es h = ap (first_not_in (replaced_of m es)) (has_none es h)

  pub latest_nowhere : (es : List Entry) → has_model m es ≡ false → slice_get (listed_of m es) 0 ≡ None
  latest_nowhere es h = ap (λ (xs : List ℕ). slice_get xs 0) (has_none es h)

  pub latest_none : (es : List Entry) → has_model m es ≡ false → latest m es ≡ 0
  latest_none es h = ap (λ (xs : List ℕ). get_or xs 0 0) (has_none es h)

  pub listed_has : (r : ℕ) (es : List Entry) → is_in r (listed_of m es) ≡ true → has_model m es ≡ true
  listed_has r es h = ⊎_elim (λ p. p) (λ p. absurd (in_none r (subst (λ (xs : List ℕ). is_in r xs ≡ true) (has_none es p) h))) (either (has_model m es))

  has_some : (es : List Entry) → has_model m es ≡ true → (x : ℕ) × (xs : List ℕ) × (listed_of m es ≡ x ∷ xs)
  has_some [] h = absurd (not_both h refl)
  has_some (e ∷ es) h = go (eqb m e.model) refl (has_some es)
    where
      go : (b : Bool) → eqb m e.model ≡ b → (has_model m es ≡ true → (x : ℕ) × (xs : List ℕ) × (listed_of m es ≡ x ∷ xs)) → (x : ℕ) × (xs : List ℕ) × (listed_of m (e ∷ es) ≡ x ∷ xs)
      go true p ih = (e.revision, listed_of m es, of_own (λ x. x.revision) m e es p)
      go false p ih =
          let there : has_model m es ≡ true = rw p at h in
          let (x, xs, q) = ih there in (x, xs, of_other (λ x. x.revision) m e es p ∙ q)

  -- ---- the latest revision, and no other, is current
  module _ (es : List Entry) (h : entries_fault es ≡ 0) where
    pub is_latest : current m es ≡ latest m es
    is_latest = first_found (listed_of m es) (replaced_of m es) (chained es h)

    pub latest_there : has_model m es ≡ true → slice_get (listed_of m es) 0 ≡ Some (current m es)
    latest_there p =
        let (x, xs, q) = has_some es p in
        ap (λ (zs : List ℕ). slice_get zs 0) q ∙ ap Some (ap (λ (zs : List ℕ). get_or zs 0 0) (sym q) ∙ sym is_latest)

    pub is_current : has_model m es ≡ true → IsCurrent m (current m es) es
    is_current p =
        let (x, xs, q) = has_some es p in
        let listed : is_in (latest m es) (listed_of m es) ≡ true = subst (λ (zs : List ℕ). is_in (get_or zs 0 0) zs ≡ true) (sym q) (in_here x xs) in
        subst (λ (r : ℕ). IsCurrent m r es) (sym is_latest) (record { listed = listed; kept = first_kept (listed_of m es) (replaced_of m es) (chained es h) })

    pub only_current : (r : ℕ) → IsCurrent m r es → r ≡ current m es
    only_current r i = first_only (listed_of m es) (replaced_of m es) (chained es h) r i.listed i.kept ∙ sym is_latest

    pub latest_some : has_model m es ≡ true → latest m es ≡ 0 → ⊥
    latest_some p z =
        let (x, xs, q) = has_some es p in
        first_not_zero x xs (replaced_of m es) (subst (λ (zs : List ℕ). Shifted zs (replaced_of m es)) q (chained es h)) (ap (λ (zs : List ℕ). get_or zs 0 0) (sym q) ∙ z)

  -- ---- where revisions rise, none that is listed is above the latest
  rising_most : (es : List Entry) → entries_fault es ≡ 0 → is_rising es ≡ true → (r : ℕ) → is_in r (listed_of m es) ≡ true → r ≤ latest m es
  rising_most [] h u r i = absurd (in_none r i)
  rising_most (e ∷ es) h u r i = go (eqb m e.model) refl (rising_most es before (and_left (is_rising es) _ u) r)
    where
      before : entries_fault es ≡ 0
      before = (first_none (entries_fault es) (entry_fault es e) h).0

      up : e.replaced < e.revision
      up = ltb-true e.replaced e.revision (and_right (is_rising es) _ u)

      go : (b : Bool) → eqb m e.model ≡ b → (is_in r (listed_of m es) ≡ true → r ≤ latest m es) → r ≤ latest m (e ∷ es)
      go true p ih =
          let f = fits es e (first_none (entries_fault es) (entry_fault es e) h).1 in
          let next : e.replaced ≡ latest m es = next_here es e f p ∙ is_latest es before in
          let own : listed_of m (e ∷ es) ≡ e.revision ∷ listed_of m es = of_own (λ x. x.revision) m e es p in
          let here : latest m (e ∷ es) ≡ e.revision = ap (λ (xs : List ℕ). get_or xs 0 0) own in
          ⊎_elim (λ q. omega (arith, q, here)) (λ q. omega (arith, ih q, next, here, up))
          (in_cases r e.revision (listed_of m es) (subst (λ (xs : List ℕ). is_in r xs ≡ true) own i))
      go false p ih =
          let other : listed_of m (e ∷ es) ≡ listed_of m es = of_other (λ x. x.revision) m e es p in
          subst (λ (xs : List ℕ). r ≤ get_or xs 0 0) (sym other) (ih (subst (λ (xs : List ℕ). is_in r xs ≡ true) other i))

  pub rising_unlisted : (es : List Entry) → entries_fault es ≡ 0 → is_rising es ≡ true → (r : ℕ) → latest m es < r → is_in r (listed_of m es) ≡ false
  rising_unlisted es h u r l = not_true_false (is_in r (listed_of m es)) (λ i. omega (arith, rising_most es h u r i, l))
