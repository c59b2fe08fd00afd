-- The loop over a book: entries without refusal so far, and the first refusal, which stays the book's however many entries follow.
use mathlib.Core.Path.{◌≡◌, refl, sym, ap, ◌∙◌}
use mathlib.Core.Logic.{◌⊎◌, inl, inr, ⊎_elim}
use mathlib.Core.Bool.{Bool, true, false, not}
use mathlib.Core.List.{List, [], ◌∷◌, ◌++◌}
use Prim.Native.Nat.{ℕ, zero, suc, ◌+◌, ◌≤◌, ◌<◌, ◌%◌}
use native.Mathlib.Nat.{add-zero, le_dest}
use native.Mathlib.Omega.{arith}
use lib.Dec.{eqb}
use lib.ListN.{length, get_or, take, drop}
use borrow.Author.Tests.{eq-eqb, ne_eqb}
use Rattle.finite.specs.Base.{first_of, when, is_in}
use Rattle.finite.proofs.Tests.{equal_or_not, first_none, first_some}
use Rattle.book.specs.declared.Entry.{Entry}
use Rattle.book.specs.Entries.{entries, listed_of, current, entry_fault, fault_at, entries_fault, whole, entries_of, book_fault, latest, entry_of, entries_in, LastRoom}
use Rattle.book.specs.Says.{FirstBad, LastCut}
use Rattle.book.proofs.Chain.{is_latest, rising_unlisted}
use Rattle.book.proofs.Scans.{one_more, parted}

-- where revisions rise, one above the latest is not listed
pub above_unlisted : {es : List Entry} {m last : ℕ} {rising : Bool} → LastRoom es m last rising → rising ≡ true → {r : ℕ} → last < r → false ≡ is_in r (listed_of m es)
above_unlisted {es} {m} h u {r} l = sym (rising_unlisted m es h.before (sym h.rises ∙ u) r (omega (arith, h.latest_is, l)))

-- ---- an entry behind others that have no refusal, and whose revision is none of theirs
module _ (es : List Entry) (e : Entry) (h : entries_fault es ≡ 0) (some : e.revision ≡ 0 → ⊥) (further : is_in e.revision (listed_of e.model es) ≡ false) {last : ℕ} (is : last ≡ latest e.model es) where
  last_current : last ≡ current e.model es
  last_current = is ∙ sym (is_latest e.model es h)

  pub not_current : (e.replaced ≡ last → ⊥) → 42 ≡ entry_fault es e
  not_current n = rw (ne_eqb e.revision 0 some, further, ne_eqb e.replaced (current e.model es) (λ q. n (q ∙ sym last_current)))

  pub no_fault : e.replaced ≡ last → 0 ≡ entry_fault es e
  no_fault q = rw (ne_eqb e.revision 0 some, further, eq-eqb e.replaced (current e.model es) (q ∙ last_current))

-- ---- a refusal among the first entries is that of all
pub kept_on : (es fs : List Entry) → (entries_fault fs ≡ 0 → ⊥) → entries_fault (es ++ fs) ≡ entries_fault fs
kept_on [] fs n = refl
kept_on (e ∷ es) fs n =
    first_some (entries_fault (es ++ fs)) (entry_fault (es ++ fs) e) (λ z. n (sym (kept_on es fs n) ∙ z)) ∙ kept_on es fs n

module _ (s : List ℕ) where
  -- ---- the first bad entry decides, however many follow
  module _ (i : ℕ) (h : FirstBad s i) where
    stays : (k : ℕ) → entries_fault (entries s (suc i + k)) ≡ fault_at s i
    stays zero =
        let here : entries_fault (entries s (suc i)) ≡ fault_at s i = rw h.before in
        ap (λ (n : ℕ). entries_fault (entries s n)) (add-zero (suc i)) ∙ here
    stays (suc k) =
        let n = suc i + k in
        let a : suc i + suc k ≡ suc n = omega arith in
        ap (λ (j : ℕ). entries_fault (entries s j)) a
        ∙ first_some (entries_fault (entries s n)) (fault_at s n) (λ z. h.bad (sym (stays k) ∙ z))
        ∙ stays k

    pub first_bad : book_fault s ≡ fault_at s i
    first_bad =
        let (k, p) = le_dest h.inside in
        let a : entries_fault (entries_of s) ≡ fault_at s i = ap (λ (n : ℕ). entries_fault (entries s n)) (sym p) ∙ stays k in
        first_some (entries_fault (entries_of s)) (when (not (eqb (length s % 6) 0)) 40) (λ z. h.bad (sym a ∙ z)) ∙ a

  pub last_cut : LastCut s → book_fault s ≡ 40
  last_cut h = rw (h.before, ne_eqb (length s % 6) 0 h.cut)

  pub accepted : entries_fault (entries_of s) ≡ 0 → length s % 6 ≡ 0 → book_fault s ≡ 0
  accepted h c = rw (h, eq-eqb (length s % 6) 0 c)

  pub entries_accepted : book_fault s ≡ 0 → entries_fault (entries_of s) ≡ 0
  entries_accepted e = (first_none (entries_fault (entries_of s)) (when (not (eqb (length s % 6) 0)) 40) e).0

  -- ---- a refused book has a first bad entry, or a last one that is cut
  bad_among : (n : ℕ) → n ≤ whole s → (entries_fault (entries s n) ≡ 0 → ⊥) → (i : ℕ) × FirstBad s i
  bad_among zero l d = absurd (d refl)
  bad_among (suc n) l d =
      ⊎_elim
      (λ z. (n, record { inside = l; before = z; bad = λ e. d (rw z e) }))
      (λ m. bad_among n (omega arith) m)
      (equal_or_not (entries_fault (entries s n)) 0)

  pub some_bad : (book_fault s ≡ 0 → ⊥) → ((i : ℕ) × FirstBad s i) ⊎ LastCut s
  some_bad d =
      ⊎_elim
      (λ z. inr (record { before = z; cut = λ c. d (accepted z c) }))
      (λ m. inl (bad_among (whole s) (omega arith) m))
      (equal_or_not (entries_fault (entries_of s)) 0)

-- ---- the first entry that is refused decides
pub refused_at : (bs : List (List ℕ)) (i : ℕ) (b : List ℕ) → i < length bs → entries_fault (entries_in (take i bs)) ≡ 0
    → {n : ℕ} → n ≡ entry_fault (entries_in (take i bs)) (entry_of (get_or bs i b)) → (n ≡ 0 → ⊥) → n ≡ entries_fault (entries_in bs)
refused_at bs i b l h {n} e d =
    let here : entries_fault (entries_in (take (i + 1) bs)) ≡ n =
    ap entries_fault (one_more bs i b l) ∙ ap (λ (k : ℕ). first_of k (entry_fault (entries_in (take i bs)) (entry_of (get_or bs i b)))) h ∙ sym e
    in
    sym here
    ∙ sym (kept_on (entries_in (drop (i + 1) bs)) (entries_in (take (i + 1) bs)) (λ z. d (sym here ∙ z)))
    ∙ ap entries_fault (sym (parted bs (i + 1)))
