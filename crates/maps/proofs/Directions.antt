-- Directions of the darts of a plane map from its turns, and places of its posts from its steps.
use mathlib.Core.Path.{◌≡◌, refl, sym, ap, ◌∙◌}
use mathlib.Core.List.{List, [], ◌∷◌}
use Prim.Native.Nat.{ℕ, ◌+◌, ◌-◌, ◌*◌, ◌/◌, ◌%◌, ◌≤◌, ◌<◌}
use native.Mathlib.Omega.{arith}
use native.Mathlib.Nat.{mul-add, div-add-mod, add-mul-mod_self_left}
use Rattle.finite.specs.Base.{when, is_in}
use Rattle.maps.specs.Maps.{twin, turn, Connected}
use Rattle.finite.proofs.Sums.{sum_below, sum_over, sum_cong, sum_has}
use Rattle.finite.proofs.Orbit.{OneToOne, orbit, orbit_sum}
use Rattle.maps.proofs.Cycles.{orbits}
use Rattle.maps.proofs.Darts.{twin_below, twin_twin}
use Rattle.maps.proofs.Euler.{turn_one_to_one}
use Rattle.maps.proofs.Potential.{Zeros, Valued, valued}

-- what counts as nothing: 0 alone, the multiples of 4, the multiples of k
pub integers : Zeros (λ p q. p ≡ q)
integers = record { same = λ e. e; both = λ h k. omega arith; back = λ h. sym h; shift = λ h e. omega arith }

pub quarters : Zeros (λ p q. p % 4 ≡ q % 4)
quarters = record { same = λ e. omega arith; both = λ h k. omega arith; back = λ h. sym h; shift = λ h e. omega arith }

abbrev pub Modulo : ℕ → ℕ → ℕ → Type 0
Modulo k p q = (a : ℕ) × (b : ℕ) × (p + k * a ≡ q + k * b)

pub modulo : (k : ℕ) → Zeros (Modulo k)
modulo k =
    record {
      same = λ e. (0, 0, omega arith);
      both = λ h g. (h.0 + g.0, h.1 + g.1, omega (arith, mul-add k h.0 g.0, mul-add k h.1 g.1));
      back = λ h. (h.1, h.0, sym h.2);
      shift = λ h e. (h.0, h.1, omega (arith, h.2));
    }

-- these are the numbers with equal remainders
pub modulo_of : (k p q : ℕ) → p % k ≡ q % k → Modulo k p q
modulo_of k p q e = (q / k, p / k, omega (arith, div-add-mod p k, div-add-mod q k))

pub of_modulo : (k p q : ℕ) → Modulo k p q → p % k ≡ q % k
of_modulo k p q h = sym (add-mul-mod_self_left p k h.0) ∙ ap (λ (x : ℕ). x % k) h.2 ∙ add-mul-mod_self_left q k h.1

sum_over_none : (xs : List ℕ) → sum_over xs (λ i. 0) ≡ 0
sum_over_none [] = refl
sum_over_none (x ∷ xs) = omega (arith, sum_over_none xs)

-- a direction for each dart, in quarter turns: the next dart turns by t, the twin goes back
pub record Directed (next t : ℕ → ℕ) (n : ℕ) : Type 0 where
  pub dir : ℕ → ℕ
  pub small : (d : ℕ) → dir d < 4
  pub onward : (d : ℕ) → d < n → dir (next d) ≡ (dir d + t d) % 4
  pub back : (d : ℕ) → d < n → dir (twin d) ≡ (dir d + 2) % 4

-- a place for each dart's start, the same for all darts of a post: the next dart starts by x - x⁻ further on
pub record Placed (next x x⁻ : ℕ → ℕ) (n : ℕ) : Type 0 where
  pub at : ℕ → ℕ
  pub onward : (d : ℕ) → d < n → at (next d) + x⁻ d ≡ at d + x d
  pub post : (d : ℕ) → d < n → at (turn next d) ≡ at d

module _ (next : ℕ → ℕ) (m : ℕ) (F : OneToOne next (2 * m)) (linked : Connected next (2 * m)) (plane : orbits (turn next) (2 * m) + orbits next (2 * m) ≡ m + 2) where
  pub directions : (t : ℕ → ℕ)
      → ((d : ℕ) → d < 2 * m → sum_over (orbit next (2 * m) d) t % 4 ≡ 0)
      → ((d : ℕ) → d < 2 * m → sum_over (orbit (turn next) (2 * m) d) (λ e. 2 + t (twin e)) % 4 ≡ 0)
      → Directed next t (2 * m)
  directions t faces posts =
      record {
        dir = λ d. (v.at d + 3 * v.at⁻ d) % 4;
        small = λ d. omega arith;
        onward = λ d l. omega (arith, v.onward d l);
        back = λ d l. omega (arith, v.across d l);
      }
    where
      v : Valued (λ p q. p % 4 ≡ q % 4) next t (λ d. 0) (λ d. 2) (λ d. 0) (2 * m)
      v =
          valued (λ p q. p % 4 ≡ q % 4) quarters next t (λ d. 0) (λ d. 2) (λ d. 0) m F linked plane (λ d l. refl)
          (λ d l. omega (arith, faces d l, sum_over_none (orbit next (2 * m) d)))
          (λ d l. omega (arith, posts d l, sum_over_none (orbit (turn next) (2 * m) d)))

  -- steps that bring each face back to its start
  pub places : (x x⁻ : ℕ → ℕ)
      → ((d : ℕ) → d < 2 * m → x (twin d) ≡ x⁻ d)
      → ((d : ℕ) → d < 2 * m → sum_over (orbit next (2 * m) d) x ≡ sum_over (orbit next (2 * m) d) x⁻)
      → Placed next x x⁻ (2 * m)
  places x x⁻ opposite faces =
      record {
        at = at;
        onward = onward;
        post = λ d l. omega (arith, onward (twin d) (twin_below m d l), across d l, opposite d l, backward d l);
      }
    where
      n : ℕ
      n = 2 * m

      backward : (d : ℕ) → d < n → x⁻ (twin d) ≡ x d
      backward d l = sym (opposite (twin d) (twin_below m d l)) ∙ ap x (twin_twin d)

      T : OneToOne (turn next) n
      T = turn_one_to_one next m F

      there_and_back : (d : ℕ) → d < n → sum_over (orbit (turn next) n d) (λ e. x e + x (twin e)) ≡ sum_over (orbit (turn next) n d) (λ e. x⁻ e + x⁻ (twin e))
      there_and_back d l =
          orbit_sum (turn next) n T d l (λ e. x e + x (twin e))
          ∙ sum_cong n (λ i. when (is_in i (orbit (turn next) n d)) (x i + x (twin i))) (λ i. when (is_in i (orbit (turn next) n d)) (x⁻ i + x⁻ (twin i)))
          (λ i h. ap (when (is_in i (orbit (turn next) n d))) (omega (arith, opposite i h, backward i h)))
          ∙ sym (orbit_sum (turn next) n T d l (λ e. x⁻ e + x⁻ (twin e)))

      v : Valued (λ p q. p ≡ q) next x x⁻ x x⁻ n
      v = valued (λ p q. p ≡ q) integers next x x⁻ x x⁻ m F linked plane (λ d l. omega (arith, opposite d l, backward d l)) faces there_and_back

      -- moved up, so that no place is negative
      up : ℕ
      up = sum_below n v.at⁻

      at : ℕ → ℕ
      at d = v.at d + (up - v.at⁻ d)

      fits : (d : ℕ) → d < n → v.at⁻ d ≤ up
      fits = sum_has n v.at⁻

      onward : (d : ℕ) → d < n → at (next d) + x⁻ d ≡ at d + x d
      onward d l = omega (arith, v.onward d l, fits d l, fits (next d) (F.below d l))

      across : (d : ℕ) → d < n → at (twin d) + x⁻ d ≡ at d + x d
      across d l = omega (arith, v.across d l, fits d l, fits (twin d) (twin_below m d l))
