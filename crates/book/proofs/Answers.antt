-- The answer of a book: its refusal, or from the latest revision of the model, which is there exactly where the model is.
use mathlib.Core.Path.{◌≡◌, refl, sym, ap, subst, ◌∙◌}
use mathlib.Core.Bool.{true, false}
use mathlib.Core.List.{List}
use mathlib.Core.Logic.{⊎_elim}
use Prim.Native.Nat.{ℕ, ◌%◌}
use borrow.Author.Tests.{ne_eqb, eqb-true, eqb-false}
use lib.Dec.{eqb}
use lib.ListN.{length}
use Rattle.std.proofs.Common.{Option, Some, None, Result, Ok, Err, slice_get}
use Rattle.std.specs.Simd.{first_chunks}
use Rattle.finite.proofs.Tests.{either, equal_or_not, first_some}
use Rattle.refusals.specs.declared.Refusal.{Refusal}
use Rattle.refusals.specs.declared.Refusal.TheVariants.{EntryCut}
use Rattle.refusals.specs.Numbers.{number_of}
use Rattle.refusals.proofs.Numbered.{some_number}
use Rattle.book.specs.declared.Entry.{Entry}
use Rattle.book.specs.Entries.{has_model, listed_of, current, entries_fault, whole, book_fault, entries_of, entries_in}
use Rattle.book.specs.Says.{answer_of, revisions_of, AnswerIs}
use Rattle.book.proofs.Scans.{entries_chunks}
use Rattle.book.proofs.Chain.{latest_there, latest_nowhere}
use Rattle.book.proofs.Faults.{last_cut, accepted}

module _ (s : List ℕ) (m : ℕ) where
  pub refused : (book_fault s ≡ 0 → ⊥) → answer_of s m ≡ Err (book_fault s)
  refused n = rw (ne_eqb (book_fault s) 0 n)

  module _ (h : book_fault s ≡ 0) where
    pub absent : has_model m (entries_of s) ≡ false → answer_of s m ≡ Ok None
    absent p = rw (h, p)

    pub present : has_model m (entries_of s) ≡ true → answer_of s m ≡ Ok (Some (current m (entries_of s)))
    present p = rw (h, p)

  -- each book is refused, has no such model, or has it
  pub cases : {A : Type 0} → ((book_fault s ≡ 0 → ⊥) → A) → (book_fault s ≡ 0 → has_model m (entries_of s) ≡ false → A) → (book_fault s ≡ 0 → has_model m (entries_of s) ≡ true → A) → A
  cases f g k = ⊎_elim (λ h. ⊎_elim (k h) (g h) (either (has_model m (entries_of s)))) f (equal_or_not (book_fault s) 0)

  -- ---- the answers as the code comes to them
  answer_refused : {a : Result (Option ℕ) Refusal} (r : Refusal) → a ≡ Err r → number_of r ≡ book_fault s → AnswerIs s m a
  answer_refused {a} r e q =
      let n : answer_of s m ≡ Err (number_of r) = refused (λ z. some_number r (q ∙ z)) ∙ ap Err (sym q) in
      subst (λ (b : Result (Option ℕ) Refusal). AnswerIs s m b) (sym e) (record { answer = sym n; number = q; revisions = ap revisions_of (sym n) })

  -- those of the book's bytes taken six at a time
  module _ {bs : List (List ℕ)} (own : bs ≡ first_chunks 6 (whole s) s) where
    owned : entries_in bs ≡ entries_of s
    owned = ap entries_in own ∙ entries_chunks s (whole s)

    pub answer_bad : {a : Result (Option ℕ) Refusal} (r : Refusal) → a ≡ Err r → number_of r ≡ entries_fault (entries_in bs) → AnswerIs s m a
    answer_bad r e q =
        let k = q ∙ ap entries_fault owned in
        answer_refused r e (k ∙ sym (first_some (entries_fault (entries_of s)) _ (λ z. some_number r (k ∙ z))))

    module _ (h : 0 ≡ entries_fault (entries_in bs)) {left : ℕ} (rest : left ≡ length s % 6) where
      fault : entries_fault (entries_of s) ≡ 0
      fault = sym (h ∙ ap entries_fault owned)

      pub answer_cut : false ≡ eqb left 0 → AnswerIs s m (Err EntryCut)
      answer_cut n = answer_refused EntryCut refl (sym (last_cut s (record { before = fault; cut = λ z. eqb-false left 0 (sym n) (rest ∙ z) })))

      pub answer_found : true ≡ eqb left 0 → {o : Option ℕ} → o ≡ slice_get (listed_of m (entries_in bs)) 0 → AnswerIs s m (Ok o)
      answer_found n {o} e =
          let whole-book = accepted s fault (sym rest ∙ eqb-true left 0 (sym n)) in
          let first = e ∙ ap (λ (es : List Entry). slice_get (listed_of m es) 0) owned in
          let found : Ok o ≡ answer_of s m =
          ⊎_elim
          (λ p. ap Ok (first ∙ latest_there m (entries_of s) fault p) ∙ sym (present whole-book p))
          (λ p. ap Ok (first ∙ latest_nowhere m (entries_of s) p) ∙ sym (absent whole-book p))
          (either (has_model m (entries_of s)))
          in
          record { answer = found; number = sym whole-book; revisions = same_revisions o ∙ ap revisions_of found }
        where
          same_revisions : (o : Option ℕ) → revisions_of {E = Refusal} (Ok o) ≡ revisions_of {E = ℕ} (Ok o)
          same_revisions None = refl
          same_revisions (Some r) = refl
