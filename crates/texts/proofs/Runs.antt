-- Runs of bytes that pass a test: all of a run do, and behind bytes that do a run ends at one that does not. Assumes nothing.
use mathlib.Core.Path.{◌≡◌, refl, ap, ◌∙◌}
use mathlib.Core.Bool.{Bool, true, false}
use mathlib.Core.List.{List, [], ◌∷◌, ◌++◌}
use Prim.Native.Nat.{ℕ, zero, suc, ◌≤◌, ◌<◌}
use native.Mathlib.Decide.{dec_lt}
use native.Mathlib.Omega.{arith}
use lib.ListN.{length, get_or, take, drop, get_or-eq_default}
use lib.Seq.{split_at}
use Rattle.plates.specs.Plates.{pick}
use Rattle.plates.specs.Grammar.{run_of}

module _ (t : ℕ → Bool) where
  pub run_most : (s : List ℕ) → run_of t s ≤ length s
  run_most [] = omega arith
  run_most (x ∷ xs) = go (t x) (run_most xs)
    where
      go : (b : Bool) → run_of t xs ≤ length xs → pick b (suc (run_of t xs)) 0 ≤ suc (length xs)
      go true l = omega arith
      go false l = omega arith

  pub run_in : (s : List ℕ) (i : ℕ) → i < run_of t s → t (get_or s i 0) ≡ true
  run_in [] i l = absurd (omega arith)
  run_in (x ∷ xs) i l = go i (t x) refl l (run_in xs)
    where
      go : (i : ℕ) (b : Bool) → t x ≡ b → i < pick b (suc (run_of t xs)) 0 → ((j : ℕ) → j < run_of t xs → t (get_or xs j 0) ≡ true) → t (get_or (x ∷ xs) i 0) ≡ true
      go zero true e l ih = e
      go (suc i) true e l ih = ih i (omega arith)
      go i false e l ih = absurd (omega arith)

  pub run_over : (xs : List ℕ) (y : ℕ) (ys : List ℕ) → ((i : ℕ) → i < length xs → t (get_or xs i 0) ≡ true) → t y ≡ false → run_of t (xs ++ (y ∷ ys)) ≡ length xs
  run_over [] y ys h e = ap (λ (b : Bool). pick b (suc (run_of t ys)) 0) e
  run_over (x ∷ xs) y ys h e =
      ap (λ (b : Bool). pick b (suc (run_of t (xs ++ (y ∷ ys)))) 0) (h 0 (omega arith))
      ∙ ap suc (run_over xs y ys (λ i l. h (suc i) (omega arith)) e)

-- a byte that is not 0 stands within the text, and parts it
pub stands_at : (s : List ℕ) (n c : ℕ) → get_or s n 0 ≡ suc c → n < length s
stands_at s n c e = go (dec_lt n (length s))
  where
    go : Dec (n < length s) → n < length s
    go (yes l) = l
    go (no l) = absurd (omega (arith, get_or-eq_default s 0 {n = n} (omega arith)))

pub parted : (s : List ℕ) (n c : ℕ) → get_or s n 0 ≡ suc c → s ≡ take n s ++ (suc c ∷ drop (suc n) s)
parted s n c e = split_at s n 0 (stands_at s n c e) ∙ ap (λ (x : ℕ). take n s ++ (x ∷ drop (suc n) s)) e
