-- What the call answers, and document 02's sentences on books.
use Rattle.std.specs.Prelude.{◌≡◌, ◌↔◌, ◌⊎◌, true, false, List, [], ◌∷◌, ℕ, ◌<◌, ◌%◌, eqb, length, Option, Some, None, Result, Ok, Err}
use Rattle.std.specs.Result.{result_map_both}
use Rattle.finite.specs.Base.{pick, is_in}
use Rattle.refusals.specs.declared.Refusal.{Refusal}
use Rattle.refusals.specs.Numbers.{number_of, fault_of}
use Rattle.book.specs.declared.Entry.{Entry}
use Rattle.book.specs.Entries.{entries, has_model, listed_of, replaced_of, current, fault_at, entries_fault, whole, entries_of, book_fault}

-- the answer for model m: the number of the book's refusal, that the model is not there, or its current revision
abbrev pub answer_of : List ℕ → ℕ → Result (Option ℕ) ℕ
answer_of s m =
    pick (eqb (book_fault s) 0)
    (Ok (pick (has_model m (entries_of s)) (Some (current m (entries_of s))) None))
    (Err (book_fault s))

-- an answer with its refusal's number in place of the refusal
abbrev pub numbered : Result (Option ℕ) Refusal → Result (Option ℕ) ℕ
numbered a = result_map_both (λ o. o) number_of a

-- the values of each case
abbrev pub revisions_of : {E : Type 0} → Result (Option ℕ) E → List ℕ
revisions_of (Err e) = []
revisions_of (Ok None) = []
revisions_of (Ok (Some r)) = r ∷ []

pub record AnswerIs (s : List ℕ) (m : ℕ) (a : Result (Option ℕ) Refusal) : Type 0 where
  pub answer : numbered a ≡ answer_of s m
  pub number : fault_of a ≡ book_fault s
  pub revisions : revisions_of a ≡ revisions_of (answer_of s m)

-- the same as a number and a revision, 0 where there is none
abbrev pub revision_of : {E : Type 0} → Result (Option ℕ) E → ℕ
revision_of (Err e) = 0
revision_of (Ok None) = 0
revision_of (Ok (Some r)) = r

pub record RevisionIs (s : List ℕ) (m number revision : ℕ) : Type 0 where
  pub refusal : number ≡ book_fault s
  pub value : revision ≡ revision_of (answer_of s m)

-- revision r of model m is current among the entries es: it is listed, and no entry of that model replaces it
pub record IsCurrent (m r : ℕ) (es : List Entry) : Type 0 where
  pub listed : is_in r (listed_of m es) ≡ true
  pub kept : is_in r (replaced_of m es) ≡ false

-- exactly one revision of model m is current; it is not 0, and the answer is it
pub record OneCurrent (s : List ℕ) (m : ℕ) : Type 0 where
  pub there : IsCurrent m (current m (entries_of s)) (entries_of s)
  pub only : (r : ℕ) → IsCurrent m r (entries_of s) → r ≡ current m (entries_of s)
  pub some : current m (entries_of s) ≡ 0 → ⊥
  pub answered : answer_of s m ≡ Ok (Some (current m (entries_of s)))

-- entry i has a refusal, and those before it have none
pub record FirstBad (s : List ℕ) (i : ℕ) : Type 0 where
  pub inside : i < whole s
  pub before : entries_fault (entries s i) ≡ 0
  pub bad : fault_at s i ≡ 0 → ⊥

-- bytes are left over behind entries without refusal
pub record LastCut (s : List ℕ) : Type 0 where
  pub before : entries_fault (entries_of s) ≡ 0
  pub cut : length s % 6 ≡ 0 → ⊥

pub record Books : Type 0 where
  -- in an accepted book every model present has exactly one current revision
  pub one_current : (s : List ℕ) (m : ℕ) → book_fault s ≡ 0 → has_model m (entries_of s) ≡ true → OneCurrent s m
  -- a book is refused at its first bad entry, whatever follows, with the number of that entry; every refused book has one
  pub first_bad : (s : List ℕ) (i : ℕ) → FirstBad s i → book_fault s ≡ fault_at s i
  pub last_cut : (s : List ℕ) → LastCut s → book_fault s ≡ 40
  pub some_bad : (s : List ℕ) → (book_fault s ≡ 0 → ⊥) → ((i : ℕ) × FirstBad s i) ⊎ LastCut s
  -- the current revision of a new model is 0, so that this is what its first entry must replace
  pub new_model : (m : ℕ) (es : List Entry) → has_model m es ≡ false → current m es ≡ 0
  -- each answer is given exactly in its case
  pub current_exactly : (s : List ℕ) (m r : ℕ) → (answer_of s m ≡ Ok (Some r)) ↔ ((book_fault s ≡ 0) × IsCurrent m r (entries_of s))
  pub absent_exactly : (s : List ℕ) (m : ℕ) → (answer_of s m ≡ Ok None) ↔ ((book_fault s ≡ 0) × (has_model m (entries_of s) ≡ false))
  pub refused_exactly : (s : List ℕ) (m n : ℕ) → (answer_of s m ≡ Err n) ↔ ((book_fault s ≡ n) × (n ≡ 0 → ⊥))
