-- Entries that lie in a row: the chains over them from the last back, one more, and those of a book's bytes.
use mathlib.Core.Path.{◌≡◌, refl, sym, ap, ap₂, ◌∙◌}
use mathlib.Core.Bool.{Bool, true, false, ◌&&◌, ◌||◌, cond}
use mathlib.Core.List.{List, [], ◌∷◌, ◌++◌, map, map-append}
use Prim.Native.Nat.{ℕ, zero, suc, ◌+◌, ◌*◌, ◌<◌}
use native.Mathlib.Omega.{arith}
use lib.Dec.{eqb}
use lib.ListN.{length, get_or, take, drop}
use Rattle.std.proofs.Common.{Option, Some, slice_get, unwrap_or, reverse}
use Rattle.std.proofs.lemmas.List.{take_more, take-append-drop, reverse-append, get_or-take, get_or-drop, drop-drop}
use Rattle.std.specs.List.{list_any, find}
use Rattle.std.specs.Option.{option_map}
use Rattle.std.specs.Simd.{first_chunks}
use Rattle.finite.specs.Base.{pick, is_in, word_at}
use Rattle.finite.proofs.Tests.{eqb_turned}
use Rattle.book.specs.declared.Entry.{Entry}
use Rattle.book.specs.Entries.{entry_at, entries, listed_of, latest, entry_of, entries_in}

-- ---- the chains
and_true : (b : Bool) → (b && true) ≡ b
and_true true = refl
and_true false = refl

and_false : (b : Bool) → (b && false) ≡ false
and_false true = refl
and_false false = refl

module _ (m : ℕ) where
  pub listed_any : (r : ℕ) (es : List Entry) → list_any (λ (e : Entry). eqb e.revision r && eqb e.model m) es ≡ is_in r (listed_of m es)
  listed_any r [] = refl
  listed_any r (e ∷ es) = rw (eqb_turned e.model m, eqb_turned e.revision r) (by (eqb m e.model) (listed_any r es))
    where
      by : (b : Bool) → list_any (λ (x : Entry). eqb x.revision r && eqb x.model m) es ≡ is_in r (listed_of m es)
          → (eqb r e.revision && b) || list_any (λ (x : Entry). eqb x.revision r && eqb x.model m) es ≡ is_in r (pick b (e.revision ∷ listed_of m es) (listed_of m es))
      by true h = ap₂ ◌||◌ (and_true (eqb r e.revision)) h
      by false h = ap₂ ◌||◌ (and_false (eqb r e.revision)) h

  pub latest_found : (es : List Entry) → option_map (λ (e : Entry). e.revision) (find (λ (e : Entry). eqb e.model m) es) ≡ slice_get (listed_of m es) 0
  latest_found [] = refl
  latest_found (e ∷ es) = rw (eqb_turned e.model m) (by (eqb m e.model) (latest_found es))
    where
      by : (b : Bool) → option_map (λ (x : Entry). x.revision) (find (λ (x : Entry). eqb x.model m) es) ≡ slice_get (listed_of m es) 0
          → option_map (λ (x : Entry). x.revision) (cond b (Some e) (find (λ (x : Entry). eqb x.model m) es)) ≡ slice_get (pick b (e.revision ∷ listed_of m es) (listed_of m es)) 0
      by true h = refl
      by false h = h

first_or_none : (xs : List ℕ) → unwrap_or (slice_get xs 0) 0 ≡ get_or xs 0 0
first_or_none [] = refl
first_or_none (x ∷ xs) = refl

pub latest_told : (m : ℕ) (es : List Entry) {o : Option ℕ} {n : ℕ} → o ≡ slice_get (listed_of m es) 0 → n ≡ unwrap_or o 0 → n ≡ latest m es
latest_told m es e d = d ∙ ap (λ (x : Option ℕ). unwrap_or x 0) e ∙ first_or_none (listed_of m es)

-- ---- one more, and those behind the first
added : (bs : List (List ℕ)) (b : List ℕ) → entries_in (bs ++ (b ∷ [])) ≡ entry_of b ∷ entries_in bs
added bs b = ap (map entry_of) (reverse-append bs (b ∷ []))

pub one_more : (bs : List (List ℕ)) (i : ℕ) (b : List ℕ) → i < length bs → entries_in (take (i + 1) bs) ≡ entry_of (get_or bs i b) ∷ entries_in (take i bs)
one_more bs i b l = ap entries_in (take_more bs i b l) ∙ added (take i bs) (get_or bs i b)

pub parted : (bs : List (List ℕ)) (i : ℕ) → entries_in bs ≡ entries_in (drop i bs) ++ entries_in (take i bs)
parted bs i =
    ap entries_in (sym (take-append-drop i bs))
    ∙ ap (map entry_of) (reverse-append (take i bs) (drop i bs))
    ∙ map-append entry_of (reverse (drop i bs)) (reverse (take i bs))

-- ---- the entries of a book, six bytes each
chunks_more : (n : ℕ) (s : List ℕ) → first_chunks 6 (suc n) s ≡ first_chunks 6 n s ++ (take 6 (drop (6 * n) s) ∷ [])
chunks_more zero s = refl
chunks_more (suc n) s =
    let at : 6 + 6 * n ≡ 6 * suc n = omega arith in
    ap (λ (bs : List (List ℕ)). take 6 s ∷ bs) (chunks_more n (drop 6 s)
    ∙ ap (λ (b : List ℕ). first_chunks 6 n (drop 6 s) ++ (take 6 b ∷ [])) (drop-drop (6 * n) 6 s ∙ ap (λ (k : ℕ). drop k s) at))

byte : (s : List ℕ) (k j : ℕ) → j < 6 → get_or (take 6 (drop k s)) j 0 ≡ get_or s (k + j) 0
byte s k j l = get_or-take 6 (drop k s) j 0 l ∙ get_or-drop k s j 0

word : (s : List ℕ) (k j : ℕ) → j + 1 < 6 → word_at (take 6 (drop k s)) j ≡ word_at s (k + j)
word s k j l =
    let at : k + (j + 1) ≡ k + j + 1 = omega arith in
    ap₂ (λ (a b : ℕ). 256 * a + b) (byte s k j (omega arith)) (byte s k (j + 1) l ∙ ap (λ (i : ℕ). get_or s i 0) at)

chunk_entry : (s : List ℕ) (n : ℕ) → entry_of (take 6 (drop (6 * n) s)) ≡ entry_at s n
chunk_entry s n =
    let none : 6 * n + 0 ≡ 6 * n = omega arith in
    λ x. record {
      model = (word s (6 * n) 0 (omega arith) ∙ ap (word_at s) none) x;
      revision = word s (6 * n) 2 (omega arith) x;
      replaced = word s (6 * n) 4 (omega arith) x;
    }

pub entries_chunks : (s : List ℕ) (n : ℕ) → entries_in (first_chunks 6 n s) ≡ entries s n
entries_chunks s zero = refl
entries_chunks s (suc n) =
    ap entries_in (chunks_more n s)
    ∙ added (first_chunks 6 n s) (take 6 (drop (6 * n) s))
    ∙ ap₂ (λ (e : Entry) (es : List Entry). e ∷ es) (chunk_entry s n) (entries_chunks s n)
