-- Document 02's sentences on books. In an accepted book every model present has exactly one current revision, by the laws of `Chain`; each answer is given exactly in its case, since the three are different. Assumes nothing.
use mathlib.Core.Path.{◌≡◌, sym, ap, subst, ◌∙◌}
use mathlib.Core.Logic.{◌↔◌}
use mathlib.Core.Bool.{true, false}
use mathlib.Core.List.{List}
use Prim.Native.Nat.{ℕ}
use native.Mathlib.Omega.{arith}
use Rattle.std.proofs.Common.{Option, Some, None, Result, Ok, Err}
use Rattle.book.specs.Entries.{has_model, book_fault, entries_of}
use Rattle.refusals.specs.declared.Refusal.{Refusal}
use Rattle.refusals.proofs.Numbered.{some_number}
use Rattle.refusals.proofs.OneNumber.{same_refusal}
use Rattle.book.specs.Says.{answer_of, numbered, revision_of, IsCurrent, OneCurrent, Books}
use Rattle.book.proofs.Chain.{is_latest, latest_some, listed_has, is_current, only_current, new_model}
use Rattle.book.proofs.Faults.{first_bad, last_cut, entries_accepted, some_bad}
use Rattle.book.proofs.Answers.{refused, absent, present, cases}

one_current : (s : List ℕ) (m : ℕ) → book_fault s ≡ 0 → has_model m (entries_of s) ≡ true → OneCurrent s m
one_current s m h p =
    let es = entries_of s in
    let a = entries_accepted s h in
    record {
      there = is_current m es a p;
      only = only_current m es a;
      some = λ z. latest_some m es a p (sym (is_latest m es a) ∙ z);
      answered = present s m h p;
    }

-- which of the three an answer is, and the number of a refused one
abbrev case_of : Result (Option ℕ) ℕ → ℕ
case_of (Err n) = 0
case_of (Ok None) = 1
case_of (Ok (Some r)) = 2

abbrev number_in : Result (Option ℕ) ℕ → ℕ
number_in (Err n) = n
number_in (Ok o) = 0

abbrev answer_in : Result (Option ℕ) ℕ → Option ℕ
answer_in (Err n) = None
answer_in (Ok o) = o

-- an answer by numbers tells the answer: two results of the call are the same
pub answer_once : (a b : Result (Option ℕ) Refusal) → numbered a ≡ numbered b → a ≡ b
answer_once (Ok o) (Ok p) e = ap Ok (ap answer_in e)
answer_once (Ok o) (Err d) e = absurd (some_number d (sym (ap number_in e)))
answer_once (Err d) (Ok o) e = absurd (some_number d (ap number_in e))
answer_once (Err c) (Err d) e = ap Err (same_refusal c d (ap number_in e))

module _ (s : List ℕ) (m : ℕ) where
  -- two answers given are of one case
  differ : {A : Type 0} (a b : Result (Option ℕ) ℕ) → (case_of a ≡ case_of b → ⊥) → answer_of s m ≡ a → answer_of s m ≡ b → A
  differ a b d e f = absurd (d (ap case_of (sym e ∙ f)))

  current_exactly : (r : ℕ) → (answer_of s m ≡ Ok (Some r)) ↔ ((book_fault s ≡ 0) × IsCurrent m r (entries_of s))
  current_exactly r = (
    λ e. cases s m
        (λ n. differ (Err (book_fault s)) (Ok (Some r)) (λ z. omega arith) (refused s m n) e)
        (λ h p. differ (Ok None) (Ok (Some r)) (λ z. omega arith) (absent s m h p) e)
        (λ h p.
        let one = one_current s m h p in
        (h, subst (λ (q : ℕ). IsCurrent m q (entries_of s)) (ap revision_of (sym one.answered ∙ e)) one.there)),
    λ (h, c).
        let one = one_current s m h (listed_has m r (entries_of s) c.listed) in
        one.answered ∙ ap (λ (q : ℕ). Ok (Some q)) (sym (one.only r c)),
  )

  absent_exactly : (answer_of s m ≡ Ok None) ↔ ((book_fault s ≡ 0) × (has_model m (entries_of s) ≡ false))
  absent_exactly = (
    λ e. cases s m
        (λ n. differ (Err (book_fault s)) (Ok None) (λ z. omega arith) (refused s m n) e)
        (λ h p. (h, p))
        (λ h p. differ (Ok None) (Ok (Some _)) (λ z. omega arith) e (present s m h p)),
    λ (h, p). absent s m h p,
  )

  refused_exactly : (n : ℕ) → (answer_of s m ≡ Err n) ↔ ((book_fault s ≡ n) × (n ≡ 0 → ⊥))
  refused_exactly n = (
    λ e. cases s m
        (λ d. let q = ap number_in (sym (refused s m d) ∙ e) in (q, λ z. d (q ∙ z)))
        (λ h p. differ (Err n) (Ok None) (λ z. omega arith) e (absent s m h p))
        (λ h p. differ (Err n) (Ok (Some _)) (λ z. omega arith) e (present s m h p)),
    λ (q, d). refused s m (λ z. d (sym q ∙ z)) ∙ ap Err q,
  )

pub books : Books
books =
    record {
      one_current = one_current;
      first_bad = first_bad;
      last_cut = last_cut;
      some_bad = some_bad;
      new_model = new_model;
      current_exactly = current_exactly;
      absent_exactly = absent_exactly;
      refused_exactly = refused_exactly;
    }
