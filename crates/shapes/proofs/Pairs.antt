-- Lists of two numbers to a place: a number at each, sums two by two, units on them and what these cost.
use mathlib.Core.Path.{◌≡◌, refl, sym, ap, subst, ◌∙◌}
use mathlib.Core.List.{List, [], ◌∷◌}
use Prim.Native.Nat.{ℕ, zero, suc, ◌+◌, ◌*◌, ◌/◌, ◌%◌, ◌<◌}
use native.Mathlib.Decide.{ℕ_discrete}
use native.Mathlib.Nat.{mul-add, le_of_suc-le-suc}
use native.Mathlib.Omega.{arith}
use lib.Dec.{eqb}
use lib.ListN.{length, get_or}
use Rattle.finite.proofs.Sums.{sum_below, sum_cong, when_add}
use Rattle.flow.specs.Network.{units_at, total, cost_of}
use Rattle.shapes.specs.Rates.{pair_sums}
use Rattle.shapes.specs.NetworkOf.{table, pairs}

two_more : (d : ℕ) → suc d + suc d ≡ suc (suc (d + d))
two_more d = omega arith

-- each number is the first or the second of its place
pub by_pairs : (P : ℕ → Type 0) (n : ℕ) → ((d : ℕ) → d < n → P (d + d)) → ((d : ℕ) → d < n → P (suc (d + d))) → (a : ℕ) → a < n + n → P a
by_pairs P n f g a l = go (ℕ_discrete (a % 2) 0)
  where
    go : Dec (a % 2 ≡ 0) → P a
    go (yes e) =
        let q : a / 2 + a / 2 ≡ a = omega arith in
        subst P q (f (a / 2) (omega arith))
    go (no e) =
        let q : suc (a / 2 + a / 2) ≡ a = omega arith in
        subst P q (g (a / 2) (omega arith))

pub length_pairs : (n : ℕ) (f g : ℕ → ℕ) → length (pairs n f g) ≡ n + n
length_pairs zero f g = refl
length_pairs (suc n) f g = omega (arith, length_pairs n (λ i. f (suc i)) (λ i. g (suc i)))

pub pairs_low : (n : ℕ) (f g : ℕ → ℕ) (d : ℕ) → d < n → get_or (pairs n f g) (d + d) 0 ≡ f d
pairs_low zero f g d l = absurd (omega arith)
pairs_low (suc n) f g zero l = refl
pairs_low (suc n) f g (suc d) l = ap (λ (k : ℕ). get_or (pairs (suc n) f g) k 0) (two_more d) ∙ pairs_low n (λ i. f (suc i)) (λ i. g (suc i)) d (le_of_suc-le-suc l)

pub pairs_high : (n : ℕ) (f g : ℕ → ℕ) (d : ℕ) → d < n → get_or (pairs n f g) (suc (d + d)) 0 ≡ g d
pairs_high zero f g d l = absurd (omega arith)
pairs_high (suc n) f g zero l = refl
pairs_high (suc n) f g (suc d) l =
    ap (λ (k : ℕ). get_or (pairs (suc n) f g) (suc k) 0) (two_more d) ∙ pairs_high n (λ i. f (suc i)) (λ i. g (suc i)) d (le_of_suc-le-suc l)

-- sums two by two
pub sums_at : (xs : List ℕ) (i : ℕ) → get_or (pair_sums xs) i 0 ≡ get_or xs (i + i) 0 + get_or xs (suc (i + i)) 0
sums_at [] i = refl
sums_at (a ∷ []) zero = omega arith
sums_at (a ∷ []) (suc i) = let q : suc i + suc i ≡ suc (suc (i + i)) = omega arith in ap (λ (k : ℕ). get_or (a ∷ []) k 0 + get_or (a ∷ []) (suc k) 0) (sym q)
sums_at (a ∷ (b ∷ xs)) zero = refl
sums_at (a ∷ (b ∷ xs)) (suc i) = sums_at xs i ∙ ap (λ (k : ℕ). get_or (a ∷ (b ∷ xs)) k 0 + get_or (a ∷ (b ∷ xs)) (suc k) 0) (sym (two_more i))

pub sums_long : (n : ℕ) (xs : List ℕ) → length xs ≡ n + n → length (pair_sums xs) ≡ n
sums_long zero [] e = refl
sums_long zero (a ∷ xs) e = absurd (omega arith)
sums_long (suc n) [] e = absurd (omega arith)
sums_long (suc n) (a ∷ []) e = absurd (omega arith)
sums_long (suc n) (a ∷ (b ∷ xs)) e = ap suc (sums_long n xs (omega arith))

pub sums_total : (xs : List ℕ) → total (pair_sums xs) ≡ total xs
sums_total [] = refl
sums_total (a ∷ []) = refl
sums_total (a ∷ (b ∷ xs)) = omega (arith, sums_total xs)

pub sums_pairs : (n : ℕ) (f g : ℕ → ℕ) → pair_sums (pairs n f g) ≡ table n (λ d. f d + g d)
sums_pairs zero f g = refl
sums_pairs (suc n) f g = ap (λ (xs : List ℕ). (f 0 + g 0) ∷ xs) (sums_pairs n (λ i. f (suc i)) (λ i. g (suc i)))

-- two arcs with the same ends are as one
pub units_pairs : (n : ℕ) (f : ℕ → ℕ) (zs : List ℕ) (v : ℕ) → length zs ≡ n + n → units_at (pairs n f f) zs v ≡ units_at (table n f) (pair_sums zs) v
units_pairs zero f zs v e = refl
units_pairs (suc n) f [] v e = absurd (omega arith)
units_pairs (suc n) f (a ∷ []) v e = absurd (omega arith)
units_pairs (suc n) f (a ∷ (b ∷ zs)) v e = omega (arith, units_pairs n (λ i. f (suc i)) zs v (omega arith), when_add (eqb (f 0) v) a b)

-- the second of each two has a cost
pub cost_pairs : (n c : ℕ) (zs : List ℕ) → length zs ≡ n + n → cost_of (pairs n (λ d. 0) (λ d. c)) zs ≡ c * sum_below n (λ d. get_or zs (suc (d + d)) 0)
cost_pairs zero c zs e = omega arith
cost_pairs (suc n) c [] e = absurd (omega arith)
cost_pairs (suc n) c (a ∷ []) e = absurd (omega arith)
cost_pairs (suc n) c (a ∷ (b ∷ zs)) e =
    let high : ℕ → ℕ = λ d. get_or (a ∷ (b ∷ zs)) (suc (suc d + suc d)) 0 in
    omega (
      arith,
      cost_pairs n c zs (omega arith),
      mul-add c b (sum_below n high),
      ap (λ (k : ℕ). c * k) (sum_cong n high (λ d. get_or zs (suc (d + d)) 0) (λ d l. ap (λ (k : ℕ). get_or (a ∷ (b ∷ zs)) (suc k) 0) (two_more d))),
    )
