-- The directions of a map whose corners are quarter turns.
use mathlib.Core.Path.{◌≡◌, refl, sym, ap, ◌∙◌}
use mathlib.Core.Bool.{true}
use mathlib.Core.List.{List, [], ◌∷◌}
use mathlib.Core.Logic.{⊎_elim}
use Prim.Native.Nat.{ℕ, ◌+◌, ◌-◌, ◌*◌, ◌%◌, ◌≤◌, ◌<◌}
use native.Mathlib.Omega.{arith}
use lib.ListN.{length}
use Rattle.finite.specs.Base.{is_in}
use Rattle.maps.specs.Maps.{twin, turn}
use Rattle.finite.proofs.Sums.{sum_over}
use Rattle.finite.proofs.Tests.{either}
use Rattle.finite.proofs.Members.{in_here, in_more}
use Rattle.finite.proofs.Orbit.{orbit, lead_in, orbit_below, lead_same}
use Rattle.maps.proofs.Darts.{twin_below}
use Rattle.maps.proofs.Euler.{turn_one_to_one}
use Rattle.maps.proofs.Along.{sum_along}
use Rattle.maps.proofs.Walks.{along_of, sum_over_twos}
use Rattle.maps.proofs.Directions.{directions}
use Rattle.maps.proofs.RightAngles.{RightAngled, Compass}

-- sums over lists, by what holds of the members
pub sum_over_add : (xs : List ℕ) (f g : ℕ → ℕ) → sum_over xs (λ i. f i + g i) ≡ sum_over xs f + sum_over xs g
sum_over_add [] f g = refl
sum_over_add (x ∷ xs) f g = omega (arith, sum_over_add xs f g)

pub sum_over_same : (xs : List ℕ) (f g : ℕ → ℕ) → ((x : ℕ) → is_in x xs ≡ true → f x ≡ g x) → sum_over xs f ≡ sum_over xs g
sum_over_same [] f g h = refl
sum_over_same (x ∷ xs) f g h = omega (arith, h x (in_here x xs), sum_over_same xs f g (λ y e. h y (in_more y x xs e)))

sum_over_times : (c : ℕ) (xs : List ℕ) → sum_over xs (λ i. c) ≡ c * length xs
sum_over_times c [] = omega arith
sum_over_times c (x ∷ xs) = omega (arith, sum_over_times c xs)

module _ (next angle : ℕ → ℕ) (m o : ℕ) (M : RightAngled next angle m o) where
  abbrev n : ℕ
  n = 2 * m

  -- around each face the turns make whole turns
  pub compass : Compass next angle m
  compass = directions next m M.one M.linked M.plane (λ d. 6 - angle d) faces posts
    where
      turns : (xs : List ℕ) (f : ℕ → ℕ) → ((x : ℕ) → is_in x xs ≡ true → f x ≤ 4) → sum_over xs (λ x. 6 - f x) + sum_over xs f ≡ 6 * length xs
      turns xs f h =
          omega (arith, sum_over_add xs (λ x. 6 - f x) f, sum_over_same xs (λ x. 6 - f x + f x) (λ x. 6) (λ x e. omega (arith, h x e)), sum_over_times 6 xs)

      at_face : (d : ℕ) → d < n → sum_over (orbit next n d) (λ x. 6 - angle x) + sum_over (orbit next n d) angle ≡ 6 * length (orbit next n d)
      at_face d l = turns (orbit next n d) angle (λ x e. M.most x (orbit_below next n M.one d l x e))

      -- of the outer face, from any of its darts
      moved : (d : ℕ) → d < n → is_in d (orbit next n o) ≡ true → (w : ℕ → ℕ) → sum_over (orbit next n d) w ≡ sum_over (orbit next n o) w
      moved d l e w =
          sym (along_of next n M.one w d l)
          ∙ ap (λ (x : ℕ). sum_along n (lead_in next n) x w) (lead_same next n M.one o d M.outside e)
          ∙ along_of next n M.one w o M.outside

      faces : (d : ℕ) → d < n → sum_over (orbit next n d) (λ x. 6 - angle x) % 4 ≡ 0
      faces d l =
          ⊎_elim (λ e. omega (arith, at_face o M.outside, M.outer, moved d l e (λ x. 6 - angle x)))
          (λ e. omega (arith, at_face d l, M.inner d l e))
          (either (is_in d (orbit next n o)))

      posts : (d : ℕ) → d < n → sum_over (orbit (turn next) n d) (λ x. 2 + (6 - angle (twin x))) % 4 ≡ 0
      posts d l =
          omega (
            arith,
            M.posts d l,
            sum_over_add (orbit (turn next) n d) (λ x. 2) (λ x. 6 - angle (twin x)),
            sum_over_twos (orbit (turn next) n d),
            turns (orbit (turn next) n d) (λ x. angle (twin x)) (λ x e. M.most (twin x) (twin_below m x (orbit_below (turn next) n (turn_one_to_one next m M.one) d l x e))),
          )
