-- Lists by arc, a number for each dart and two for each corner: a number at each, units on them, what these cost.
use mathlib.Core.Path.{◌≡◌, refl, sym, ap, ◌∙◌}
use mathlib.Core.List.{List, [], ◌∷◌, ◌++◌}
use Prim.Native.Nat.{ℕ, zero, suc, ◌+◌, ◌*◌, ◌<◌}
use native.Mathlib.Omega.{arith}
use lib.ListN.{length, get_or, replicate, length-append}
use Rattle.finite.proofs.Sums.{sum_below}
use Rattle.flow.specs.Network.{units_at, cost_of}
use Rattle.shapes.specs.Rates.{pair_sums}
use Rattle.shapes.specs.NetworkOf.{table, pairs, by_arc}
use Rattle.shapes.proofs.Tables.{length_table, table_at, first_at, second_at, by_parts, units_append}
use Rattle.shapes.proofs.Pairs.{by_pairs, length_pairs, pairs_low, pairs_high, units_pairs, cost_pairs}

-- each arc is a dart's or one of two of a corner
pub arc_cases : (P : ℕ → Type 0) (m : ℕ) → ((d : ℕ) → d < m → P d) → ((d : ℕ) → d < m → P (m + (d + d))) → ((d : ℕ) → d < m → P (m + suc (d + d)))
    → (a : ℕ) → a < m + (m + m) → P a
arc_cases P m bend low high = by_parts P m (m + m) bend (by_pairs (λ i. P (m + i)) m low high)

module _ (m : ℕ) (f g h : ℕ → ℕ) where
  pub arcs_long : length (by_arc m f g h) ≡ m + (m + m)
  arcs_long = omega (arith, length-append (table m f) (pairs m g h), length_table m f, length_pairs m g h)

  pub at_bend : (d : ℕ) → d < m → get_or (by_arc m f g h) d 0 ≡ f d
  at_bend d l = first_at (table m f) (pairs m g h) m (length_table m f) d l ∙ table_at m f d l

  pub at_low : (d : ℕ) → d < m → get_or (by_arc m f g h) (m + (d + d)) 0 ≡ g d
  at_low d l = second_at (table m f) (pairs m g h) m (length_table m f) (d + d) ∙ pairs_low m g h d l

  pub at_high : (d : ℕ) → d < m → get_or (by_arc m f g h) (m + suc (d + d)) 0 ≡ h d
  at_high d l = second_at (table m f) (pairs m g h) m (length_table m f) (suc (d + d)) ∙ pairs_high m g h d l

-- units on the two arcs of a corner are units on one
pub units_one : (m : ℕ) (f g : ℕ → ℕ) (xs zs : List ℕ) (v : ℕ) → length xs ≡ m → length zs ≡ m + m
    → units_at (by_arc m f g g) (xs ++ zs) v ≡ units_at (table m f ++ table m g) (xs ++ pair_sums zs) v
units_one m f g xs zs v xs_long zs_long =
    omega (
      arith,
      units_append (table m f) (pairs m g g) xs zs v (length_table m f ∙ sym xs_long),
      units_pairs m g zs v zs_long,
      units_append (table m f) (table m g) xs (pair_sums zs) v (length_table m f ∙ sym xs_long),
    )

cost_append : (bs cs xs ys : List ℕ) → length bs ≡ length xs → cost_of (bs ++ cs) (xs ++ ys) ≡ cost_of bs xs + cost_of cs ys
cost_append [] cs [] ys e = omega arith
cost_append [] cs (x ∷ xs) ys e = absurd (omega arith)
cost_append (b ∷ bs) cs [] ys e = absurd (omega arith)
cost_append (b ∷ bs) cs (x ∷ xs) ys e = omega (arith, cost_append bs cs xs ys (omega arith))

cost_table : (m : ℕ) (f : ℕ → ℕ) (xs : List ℕ) → length xs ≡ m → cost_of (table m f) xs ≡ sum_below m (λ d. f d * get_or xs d 0)
cost_table zero f xs e = refl
cost_table (suc m) f [] e = absurd (omega arith)
cost_table (suc m) f (x ∷ xs) e = omega (arith, cost_table m (λ i. f (suc i)) xs (omega arith))

pub cost_arcs : (m : ℕ) (f : ℕ → ℕ) (c : ℕ) (xs zs : List ℕ) → length xs ≡ m → length zs ≡ m + m
    → cost_of (by_arc m f (λ d. 0) (λ d. c)) (xs ++ zs) ≡ sum_below m (λ d. f d * get_or xs d 0) + c * sum_below m (λ d. get_or zs (suc (d + d)) 0)
cost_arcs m f c xs zs xs_long zs_long =
    omega (arith, cost_append (table m f) (pairs m (λ d. 0) (λ d. c)) xs zs (length_table m f ∙ sym xs_long), cost_table m f xs xs_long, cost_pairs m c zs zs_long)

pub table_same : (m c : ℕ) → table m (λ d. c) ≡ replicate m c
table_same zero c = refl
table_same (suc m) c = ap (λ (xs : List ℕ). c ∷ xs) (table_same m c)
