-- Sums along walks of functions that agree, sums over whole orbits, and sets that a function keeps.
use mathlib.Core.Path.{◌≡◌, refl, sym, ap, ◌∙◌}
use mathlib.Core.Bool.{Bool, true}
use mathlib.Core.List.{List, [], ◌∷◌}
use mathlib.Core.Logic.{⊎_elim}
use Prim.Native.Nat.{ℕ, zero, suc, ◌+◌, ◌*◌, ◌/◌, ◌≤◌, ◌<◌}
use native.Mathlib.Omega.{arith}
use borrow.Author.Tests.{eqb-true, eq-eqb}
use lib.Dec.{eqb}
use lib.ListN.{length}
use Rattle.finite.specs.Base.{when, is_in}
use Rattle.finite.proofs.Sums.{sum_below, sum_over, sum_cong, sum_swap, sum_at}
use Rattle.finite.proofs.Tests.{equal_or_not, same_test}
use Rattle.finite.proofs.Orbit.{OneToOne, start, next, walk, rest, orbit, lead_in, stops, goes, enough, walk_keeps, walk_most, orbit_sum, orbit_sym, orbit_start, orbit_next, lead_same}
use Rattle.maps.proofs.Cycles.{in_orbit}
use Rattle.maps.proofs.Along.{sum_along}

-- f and g agree wherever the walk of f goes, and so do the weights
pub walk_alike : (f g u v : ℕ → ℕ) (Q : ℕ → Type 0) → ((x : ℕ) → Q x → f x ≡ g x) → ((x : ℕ) → Q x → u x ≡ v x) → ((x : ℕ) → Q x → Q (f x))
    → (k s d : ℕ) → Q d → sum_over (walk f k s d) u ≡ sum_over (walk g k s d) v
walk_alike f g u v Q same weigh step zero s d h = refl
walk_alike f g u v Q same weigh step (suc k) s d h = ⊎_elim stop (go (walk_alike f g u v Q same weigh step k s (f d) (step d h))) (equal_or_not (f d) s)
  where
    over : (l : List ℕ) (w : ℕ → ℕ) (r : List ℕ) → r ≡ l → sum_over (d ∷ r) w ≡ w d + sum_over l w
    over l w r e = ap (λ (r : List ℕ). sum_over (d ∷ r) w) e

    stop : f d ≡ s → sum_over (walk f (suc k) s d) u ≡ sum_over (walk g (suc k) s d) v
    stop q = omega (arith, over [] u (rest f k s d) (stops f k s d q), over [] v (rest g k s d) (stops g k s d (sym (same d h) ∙ q)), weigh d h)

    go : sum_over (walk f k s (f d)) u ≡ sum_over (walk g k s (f d)) v → (f d ≡ s → ⊥) → sum_over (walk f (suc k) s d) u ≡ sum_over (walk g (suc k) s d) v
    go ih q =
        omega (
          arith,
          ih,
          weigh d h,
          over (walk f k s (f d)) u (rest f k s d) (goes f k s d q),
          over (walk g k s (g d)) v (rest g k s d) (goes g k s d (λ e. q (same d h ∙ e))),
          ap (λ (x : ℕ). sum_over (walk g k s x) v) (same d h),
        )

pub sum_over_twos : (xs : List ℕ) → sum_over xs (λ i. 2) ≡ 2 * length xs
sum_over_twos [] = refl
sum_over_twos (x ∷ xs) = omega (arith, sum_over_twos xs)

-- all labels' sums make up the whole sum
pub along_all : (n : ℕ) (L : ℕ → ℕ) → ((i : ℕ) → i < n → L i < n) → (w : ℕ → ℕ) → sum_below n (λ r. sum_along n L r w) ≡ sum_below n w
along_all n L below w =
    sum_swap n n (λ r i. when (eqb r (L i)) (w i))
    ∙ sum_cong n (λ i. sum_below n (λ r. when (eqb r (L i)) (w i))) w (λ i l. sum_at n (L i) (λ r. w i) (below i l))

-- an edge's two darts
pub sum_pairs : (m : ℕ) (f : ℕ → ℕ) → sum_below (2 * m) (λ d. f (d / 2)) ≡ 2 * sum_below m f
sum_pairs zero f = refl
sum_pairs (suc m) f =
    ap (λ (n : ℕ). sum_below n (λ d. f (d / 2))) size
    ∙ omega (arith, sum_pairs m (λ i. f (suc i)), at 0 0 refl, at 1 0 refl, sum_cong (2 * m) (λ d. f (suc (suc d) / 2)) (λ d. f (suc (d / 2))) (λ d l. ap f (omega arith)))
  where
    size : 2 * suc m ≡ suc (suc (2 * m))
    size = omega arith

    at : (d i : ℕ) → d / 2 ≡ i → f (d / 2) ≡ f i
    at d i e = ap f e

module _ (f : ℕ → ℕ) (n : ℕ) (F : OneToOne f n) where
  -- the sum over a number's label is the sum over its orbit
  pub along_of : (w : ℕ → ℕ) (d : ℕ) → d < n → sum_along n (lead_in f n) (lead_in f n d) w ≡ sum_over (orbit f n d) w
  along_of w d l =
      sum_cong n (λ i. when (eqb (lead_in f n d) (lead_in f n i)) (w i)) (λ i. when (is_in i (orbit f n d)) (w i)) (λ i k. ap (λ (t : Bool). when t (w i)) (there i k))
      ∙ sym (orbit_sum f n F d l w)
    where
      there : (i : ℕ) → i < n → eqb (lead_in f n d) (lead_in f n i) ≡ is_in i (orbit f n d)
      there i k =
          same_test (eqb (lead_in f n d) (lead_in f n i)) (is_in i (orbit f n d)) (λ q. in_orbit f n F d i l k (eqb-true (lead_in f n d) (lead_in f n i) q))
          (λ q. eq-eqb (lead_in f n d) (lead_in f n i) (sym (lead_same f n F d i l q)))

  -- an orbit comes back, so a set that has with each number its image has it only with the number
  pub kept_of : (s : ℕ → Bool) → ((x : ℕ) → x < n → s x ≡ true → s (f x) ≡ true) → (x : ℕ) → x < n → s (f x) ≡ s x
  kept_of s closed x l = same_test (s (f x)) (s x) back (closed x l)
    where
      back : s (f x) ≡ true → s x ≡ true
      back e =
          (walk_keeps f (λ y. (y < n) × (s y ≡ true)) (λ y h. (F.below y h.0, closed y h.0 h.1)) n (f x) (f x) (F.below x l, e) x
          (orbit_sym f n F x (f x) l (orbit_next f n F x l x (orbit_start f n F x l)))).1

  -- an orbit by one more step of fuel
  pub orbit_more : (d : ℕ) → d < n → walk f (suc n) d d ≡ orbit f n d
  orbit_more d l = enough f n d d (walk_most f n F (suc n) start l)

  -- from the second number of an orbit on
  pub rest_most : (s : ℕ) → s < n → (f s ≡ s → ⊥) → length (walk f (suc n) s (f s)) ≤ n
  rest_most s l q = walk_most f n F (suc n) (next start q) l
