-- Sums by a key, filled into an array a number at a time: each turn adds to the one place that its key names.
use mathlib.Core.Path.{◌≡◌, refl, sym, ap, subst, ◌∙◌}
use mathlib.Core.Bool.{Bool}
use mathlib.Core.List.{List, [], ◌∷◌}
use Prim.Native.Nat.{ℕ, zero, suc, ◌+◌, ◌*◌, ◌≤◌, ◌<◌}
use native.Mathlib.Numerals.{add-one}
use native.Mathlib.Omega.{arith}
use borrow.Author.Tests.{eq-eqb, ne_eqb}
use lib.Dec.{eqb}
use lib.ListN.{get_or, set}
use Rattle.finite.specs.Tables.{Table}
use Rattle.finite.proofs.Sums.{sum_below, sum_last}
use Rattle.finite.proofs.Tables.{table_set}
use Rattle.embedding.specs.Plates.{when}
use Rattle.shapes.specs.Judge.{group_sum}

pub group_sum_below : (n : ℕ) (key g : ℕ → ℕ) (k : ℕ) → group_sum n key g k ≡ sum_below n (λ i. when (eqb (key i) k) (g i))
group_sum_below zero key g k = refl
group_sum_below (suc n) key g k = omega (arith, group_sum_below n key g k, sum_last n (λ i. when (eqb (key i) k) (g i)))

-- the sums by m keys of the first d of n numbers
pub record Adding (m n : ℕ) (key g : ℕ → ℕ) (d : ℕ) (sums : List ℕ) : Type 0 where
  pub so_far : Table m (group_sum d key g) sums
  pub within : d ≤ n

-- `at` gives each number below n this key and this value
abbrev pub Gives : ℕ → (ℕ → ℕ × ℕ → Type 0) → (ℕ → ℕ) → (ℕ → ℕ) → Type 0
Gives n at key g = (d : ℕ) (r : ℕ × ℕ) → d < n → at d r → (r.0 ≡ key d) × (r.1 ≡ g d)

-- each sum of d numbers of at most 512
pub few_more : (sums : List ℕ) (d k w : ℕ) → ((i : ℕ) → get_or sums i 0 ≤ d * 512) → w ≤ 512 → (i : ℕ) → get_or (set sums k (get_or sums k 0 + w)) i 0 ≤ (d + 1) * 512
few_more [] d k w h few i = omega (arith, h i)
few_more (s ∷ sums) d zero w h few zero = omega (arith, h zero)
few_more (s ∷ sums) d zero w h few (suc i) = omega (arith, h (suc i))
few_more (s ∷ sums) d (suc k) w h few zero = omega (arith, h zero)
few_more (s ∷ sums) d (suc k) w h few (suc i) = few_more sums d k w (λ j. h (suc j)) few i

module _ {m n : ℕ} {key g : ℕ → ℕ} {d : ℕ} {sums : List ℕ} (h : Adding m n key g d sums) where
  pub adding_more : {k w : ℕ} → d < n → k ≡ key d → k < m → w ≡ get_or sums k 0 + g d → Adding m n key g (d + 1) (set sums k w)
  adding_more {k} {w} next e l q =
      record {
        so_far = subst (λ (j : ℕ). Table m (group_sum j key g) (set sums k w)) (sym (add-one d)) (table_set m (group_sum d key g) (group_sum (suc d) key g) sums k w h.so_far l new old);
        within = omega arith;
      }
    where
      new : w ≡ group_sum (suc d) key g k
      new = omega (arith, q, h.so_far.at k l, ap (λ (b : Bool). when b (g d)) (eq-eqb (key d) k (sym e)))

      old : (i : ℕ) → (i ≡ k → ⊥) → group_sum (suc d) key g i ≡ group_sum d key g i
      old i ne = omega (arith, ap (λ (b : Bool). when b (g d)) (ne_eqb (key d) i (λ (w : key d ≡ i). ne (sym w ∙ sym e))))

  pub adding_done : n ≤ d → Table m (group_sum n key g) sums
  adding_done l = subst (λ (j : ℕ). Table m (group_sum j key g) sums) {x = d} {y = n} (omega (arith, h.within)) h.so_far
