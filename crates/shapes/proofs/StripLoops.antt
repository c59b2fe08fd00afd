-- Strips in turn against their limits and prices: what the rest answers the whole answers. Prices that pass the test are fair.
use mathlib.Core.Path.{◌≡◌, refl, sym, ap, ap₂, ◌∙◌}
use mathlib.Core.Bool.{Bool, true, ◌&&◌, ◌||◌}
use mathlib.Core.List.{List, [], ◌∷◌}
use Prim.Native.Nat.{ℕ, zero, suc, ◌+◌, ◌*◌, ◌≤◌}
use native.Mathlib.Omega.{arith}
use native.Mathlib.Numerals.{add-one}
use borrow.Author.Tests.{leb-true}
use lib.Dec.{leb}
use lib.ListN.{length, get_or}
use Rattle.std.specs.List.{list_all, sum_by, zip, enumerate_from}
use Rattle.std.specs.Simd.{first_chunks}
use Rattle.std.proofs.lemmas.List.Sums.{sum_by-cons}
use Rattle.finite.proofs.Tests.{and_left, and_right}
use Rattle.shapes.proofs.Strips.{free_within}
use Rattle.shapes.specs.Rates.{rates, Fair, prices_ok, all_within, priced_sum, pair_sums}

-- a strip keeps its limit
abbrev pub keeps : ℕ × List ℕ → Bool
keeps p = leb 255 p.0 || leb (get_or p.1 0 0 + get_or p.1 1 0) p.0

-- the strips that have a limit, in turn
pub within_by : (n : ℕ) (ls rs : List ℕ) → length rs ≡ n + n → list_all keeps (zip ls (first_chunks 2 n rs)) ≡ all_within ls (pair_sums rs)
within_by zero [] [] e = refl
within_by zero (l ∷ ls) [] e = refl
within_by zero ls (x ∷ rs) e = absurd (omega arith)
within_by (suc n) ls [] e = absurd (omega arith)
within_by (suc n) ls (x ∷ []) e = absurd (omega arith)
within_by (suc n) [] (x ∷ (y ∷ rs)) e = sym (free_within [] (pair_sums (x ∷ (y ∷ rs))) refl)
within_by (suc n) (l ∷ ls) (x ∷ (y ∷ rs)) e = ap (λ (b : Bool). keeps (l, x ∷ (y ∷ [])) && b) (within_by n ls rs (omega arith))

-- a strip at its price
abbrev pub priced : List ℕ → ℕ × List ℕ → ℕ
priced ps p = get_or ps p.0 1 * (get_or p.1 0 0 + get_or p.1 1 0)

sum_shift : {X : Type 0} (g : ℕ × X → ℕ) (n : ℕ) (xs : List X) → sum_by g (enumerate_from (n + 1) xs) ≡ sum_by (λ p. g (suc p.0, p.1)) (enumerate_from n xs)
sum_shift g n [] = refl
sum_shift g n (x ∷ xs) =
    sum_by-cons g (n + 1, x) (enumerate_from (n + 1 + 1) xs)
    ∙ ap₂ (λ (a b : ℕ). a + b) (ap (λ (k : ℕ). g (k, x)) (add-one n)) (sum_shift g (n + 1) xs)
    ∙ sym (sum_by-cons (λ p. g (suc p.0, p.1)) (n, x) (enumerate_from (n + 1) xs))

-- the strips in turn, each at its price
pub priced_by : (n : ℕ) (ps rs : List ℕ) → length rs ≡ n + n → sum_by (priced ps) (enumerate_from 0 (first_chunks 2 n rs)) ≡ priced_sum ps (pair_sums rs)
priced_by zero ps [] e = refl
priced_by zero ps (x ∷ rs) e = absurd (omega arith)
priced_by (suc n) ps [] e = absurd (omega arith)
priced_by (suc n) ps (x ∷ []) e = absurd (omega arith)
priced_by (suc n) [] (x ∷ (y ∷ rs)) e =
    sum_by-cons (priced []) (0, x ∷ (y ∷ [])) (enumerate_from 1 (first_chunks 2 n rs))
    ∙ ap (λ (k : ℕ). 1 * (x + y) + k) (sum_shift (priced []) 0 (first_chunks 2 n rs) ∙ priced_by n [] rs (omega arith))
priced_by (suc n) (q ∷ ps) (x ∷ (y ∷ rs)) e =
    sum_by-cons (priced (q ∷ ps)) (0, x ∷ (y ∷ [])) (enumerate_from 1 (first_chunks 2 n rs))
    ∙ ap (λ (k : ℕ). q * (x + y) + k) (sum_shift (priced (q ∷ ps)) 0 (first_chunks 2 n rs) ∙ priced_by n ps rs (omega arith))

in_range : (ps : List ℕ) → prices_ok ps ≡ true → (i : ℕ) → (1 ≤ get_or ps i 1) × (get_or ps i 1 ≤ 100)
in_range [] e i = (omega arith, omega arith)
in_range (q ∷ qs) e zero = (leb-true 1 q (and_left (leb 1 q) (leb q 100 && prices_ok qs) e), leb-true q 100 (and_left (leb q 100) (prices_ok qs) (and_right (leb 1 q) (leb q 100 && prices_ok qs) e)))
in_range (q ∷ qs) e (suc i) = in_range qs (and_right (leb q 100) (prices_ok qs) (and_right (leb 1 q) (leb q 100 && prices_ok qs) e)) i

pub prices_fair : (ls ps : List ℕ) → prices_ok ps ≡ true → Fair (rates ls ps)
prices_fair ls ps e = record { some_price = λ i. (in_range ps e i).0; price_most = λ i. (in_range ps e i).1 }
