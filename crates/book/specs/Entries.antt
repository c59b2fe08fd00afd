-- A book of entries: its refusals 40 to 42, and the current revision of a model.
use Rattle.std.specs.Prelude.{◌≡◌, Bool, true, false, ◌&&◌, ◌||◌, not, List, [], ◌∷◌, ℕ, zero, suc, ◌+◌, ◌*◌, ◌/◌, ◌%◌, eqb, ltb, length, get_or, map, reverse}
use Rattle.finite.specs.Base.{pick, first_of, when, is_in, word_at}
use Rattle.book.specs.declared.Entry.{Entry}

-- entry i of a book, and its first n entries, the last of them first
abbrev pub entry_at : List ℕ → ℕ → Entry
entry_at s i = record { model = word_at s (6 * i); revision = word_at s (6 * i + 2); replaced = word_at s (6 * i + 4) }

abbrev pub entries : List ℕ → ℕ → List Entry
entries s zero = []
entries s (suc n) = entry_at s n ∷ entries s n

-- whether a model is there
abbrev pub has_model : ℕ → List Entry → Bool
has_model m [] = false
has_model m (e ∷ es) = eqb m e.model || has_model m es

-- a number of each entry of a model: the revisions listed, the revisions replaced
abbrev pub of_model : (Entry → ℕ) → ℕ → List Entry → List ℕ
of_model f m [] = []
of_model f m (e ∷ es) = pick (eqb m e.model) (f e ∷ of_model f m es) (of_model f m es)

abbrev pub listed_of : ℕ → List Entry → List ℕ
listed_of m es = of_model (λ e. e.revision) m es

abbrev pub replaced_of : ℕ → List Entry → List ℕ
replaced_of m es = of_model (λ e. e.replaced) m es

-- the first of some numbers that is none of others; 0 where there is none
abbrev pub first_not_in : List ℕ → List ℕ → ℕ
first_not_in ys [] = 0
first_not_in ys (x ∷ xs) = pick (is_in x ys) (first_not_in ys xs) x

-- the current revision of a model: the one that no entry of that model replaces; 0 where there is none
abbrev pub current : ℕ → List Entry → ℕ
current m es = first_not_in (replaced_of m es) (listed_of m es)

-- refusals of an entry e behind the entries es: 41, then 42 (the current revision of a new model is 0)
abbrev pub entry_fault : List Entry → Entry → ℕ
entry_fault es e =
    first_of (when (eqb e.revision 0 || is_in e.revision (listed_of e.model es)) 41)
    (when (not (eqb e.replaced (current e.model es))) 42)

-- of entry i of a book behind those before it
abbrev pub fault_at : List ℕ → ℕ → ℕ
fault_at s i = entry_fault (entries s i) (entry_at s i)

-- the first refusal among entries, from the front of the book
abbrev pub entries_fault : List Entry → ℕ
entries_fault [] = 0
entries_fault (e ∷ es) = first_of (entries_fault es) (entry_fault es e)

-- of the whole book: its entries of six bytes, then 40 where bytes are left over
abbrev pub whole : List ℕ → ℕ
whole s = length s / 6

abbrev pub entries_of : List ℕ → List Entry
entries_of s = entries s (whole s)

abbrev pub book_fault : List ℕ → ℕ
book_fault s = first_of (entries_fault (entries_of s)) (when (not (eqb (length s % 6) 0)) 40)

-- ---- as the code finds it
-- the revision of a model's last entry; 0 where there is none
abbrev pub latest : ℕ → List Entry → ℕ
latest m es = get_or (listed_of m es) 0 0

-- every entry replaces a lower revision, as books do in practice
abbrev pub is_rising : List Entry → Bool
is_rising [] = true
is_rising (e ∷ es) = is_rising es && ltb e.replaced e.revision

-- six bytes as an entry, and entries that lie in a row, the last of them first
abbrev pub entry_of : List ℕ → Entry
entry_of b = record { model = word_at b 0; revision = word_at b 2; replaced = word_at b 4 }

abbrev pub entries_in : List (List ℕ) → List Entry
entries_in bs = map entry_of (reverse bs)

-- entries without refusal; whether they rise, and the revision of a model's last entry among them
pub record LastRoom (es : List Entry) (m last : ℕ) (rising : Bool) : Type 0 where
  pub before : entries_fault es ≡ 0
  pub rises : rising ≡ is_rising es
  pub latest_is : last ≡ latest m es

-- entries without refusal, against which one more is held; whether they rise
pub record EntryRoom (es : List Entry) (rising : Bool) : Type 0 where
  pub before : entries_fault es ≡ 0
  pub rises : rising ≡ is_rising es
