-- The first line of a journal goes up to its first line feed, and the other lines are those of what is behind it.
use mathlib.Core.Path.{◌≡◌, refl, sym, ap, ◌∙◌}
use mathlib.Core.Logic.{⊎_elim}
use mathlib.Core.Bool.{Bool}
use mathlib.Core.List.{List, [], ◌∷◌}
use Prim.Native.Nat.{ℕ, suc, ◌<◌}
use native.Mathlib.Omega.{arith}
use lib.ListN.{length, take, drop}
use borrow.Author.Tests.{eq-eqb, ne_eqb}
use Rattle.finite.specs.Base.{pick}
use Rattle.finite.proofs.Tests.{equal_or_not}
use Rattle.embedding.specs.Read.{place_of}
use Rattle.embedding.proofs.Answers.{place_hit, place_miss}
use Rattle.replaying.specs.Lines.{before, lines_of}

-- the line up to k, and the lines behind it
abbrev pub parted : ℕ → List ℕ → List (List ℕ)
parted k s = take k s ∷ lines_of (drop (suc k) s)

longer : (x : ℕ) (xs : List ℕ) → (0 < length xs → lines_of xs ≡ parted (place_of 10 xs) xs) → before x (lines_of xs) ≡ parted (suc (place_of 10 xs)) (x ∷ xs)
longer x [] rest = refl
longer x (y ∷ ys) rest = ap (before x) (rest (omega arith))

first : (x : ℕ) (xs : List ℕ) → (0 < length xs → lines_of xs ≡ parted (place_of 10 xs) xs) → lines_of (x ∷ xs) ≡ parted (place_of 10 (x ∷ xs)) (x ∷ xs)
first x xs rest = ⊎_elim feed byte (equal_or_not 10 x)
  where
    feed : 10 ≡ x → lines_of (x ∷ xs) ≡ parted (place_of 10 (x ∷ xs)) (x ∷ xs)
    feed e =
        ap (λ (b : Bool). pick b ([] ∷ lines_of xs) (before x (lines_of xs))) (eq-eqb 10 x e)
        ∙ ap (λ (k : ℕ). parted k (x ∷ xs)) (sym (place_hit 10 x xs e))

    byte : (10 ≡ x → ⊥) → lines_of (x ∷ xs) ≡ parted (place_of 10 (x ∷ xs)) (x ∷ xs)
    byte e =
        ap (λ (b : Bool). pick b ([] ∷ lines_of xs) (before x (lines_of xs))) (ne_eqb 10 x e)
        ∙ longer x xs rest
        ∙ ap (λ (k : ℕ). parted k (x ∷ xs)) (sym (place_miss 10 x xs e))

pub lines_front : (s : List ℕ) → 0 < length s → lines_of s ≡ parted (place_of 10 s) s
lines_front [] l = absurd (omega arith)
lines_front (x ∷ xs) l = first x xs (lines_front xs)
