-- Maps as permutations of darts: dart 2i and dart 2i + 1 are the two directions of edge i. `next d` is the dart after d around the face to its right, `angle d` the corner at the end of d, between d and next d, in quarter turns.
use Rattle.std.specs.Prelude.{Bool, true, false, ◌≡◌, ◌⊎◌, ℕ, suc, ◌+◌, ◌-◌, ◌*◌, ◌%◌, ◌≤◌, ◌<◌, eqb, length}
use Rattle.finite.specs.Base.{pick, when, is_in, is_lowest}
use Rattle.finite.specs.Walks.{orbit, OneToOne}
use Rattle.finite.proofs.Sums.{sum_below, sum_over}

abbrev pub twin : ℕ → ℕ
twin d = pick (eqb (d % 2) 0) (suc d) (d - 1)

-- the dart after d around the post where d starts, counterclockwise
abbrev pub turn : (ℕ → ℕ) → ℕ → ℕ
turn next d = next (twin d)

-- a set of darts that has one dart, and with each dart the next and the twin, has all
abbrev pub Connected : (ℕ → ℕ) → ℕ → Type 0
Connected next n = (s : ℕ → Bool) (d : ℕ) → d < n → s d ≡ true → ((x : ℕ) → x < n → s x ≡ true → s (next x) ≡ true) → ((x : ℕ) → x < n → s x ≡ true → s (twin x) ≡ true) → (x : ℕ) → x < n → s x ≡ true

-- one for each number that is the lowest of its orbit
abbrev pub orbits : (ℕ → ℕ) → ℕ → ℕ
orbits f n = sum_below n (λ d. when (is_lowest d (orbit f n d)) 1)

-- a plane map whose corners are quarter turns; o lies on the outer face
pub record RightAngled (next angle : ℕ → ℕ) (m o : ℕ) : Type 0 where
  pub one : OneToOne next (2 * m)
  pub linked : Connected next (2 * m)
  pub plane : orbits (turn next) (2 * m) + orbits next (2 * m) ≡ m + 2
  pub outside : o < 2 * m
  pub least : (d : ℕ) → d < 2 * m → 1 ≤ angle d
  pub most : (d : ℕ) → d < 2 * m → angle d ≤ 4
  -- the corners at a post make a whole turn
  pub posts : (d : ℕ) → d < 2 * m → sum_over (orbit (turn next) (2 * m) d) (λ e. angle (twin e)) ≡ 4
  -- around an inner face one turns right by four quarters, around the outer face left
  pub inner : (d : ℕ) → d < 2 * m → is_in d (orbit next (2 * m) o) ≡ false → sum_over (orbit next (2 * m) d) angle + 4 ≡ 2 * length (orbit next (2 * m) d)
  pub outer : sum_over (orbit next (2 * m) o) angle ≡ 2 * length (orbit next (2 * m) o) + 4

-- a plane map whose faces are rectangles: an inner face has four corners, all else on it is straight; the outer face has four, seen from outside
pub record Rectangular (next angle : ℕ → ℕ) (m o : ℕ) : Type 0 where
  pub one : OneToOne next (2 * m)
  pub linked : Connected next (2 * m)
  pub plane : orbits (turn next) (2 * m) + orbits next (2 * m) ≡ m + 2
  pub outside : o < 2 * m
  pub posts : (d : ℕ) → d < 2 * m → sum_over (orbit (turn next) (2 * m) d) (λ e. angle (twin e)) ≡ 4
  pub inner : (d : ℕ) → d < 2 * m → is_in d (orbit next (2 * m) o) ≡ false → (angle d ≡ 1) ⊎ (angle d ≡ 2)
  pub inner_corners : (d : ℕ) → d < 2 * m → is_in d (orbit next (2 * m) o) ≡ false → sum_over (orbit next (2 * m) d) (λ e. when (eqb (angle e) 1) 1) ≡ 4
  pub outer : (d : ℕ) → d < 2 * m → is_in d (orbit next (2 * m) o) ≡ true → (angle d ≡ 2) ⊎ (angle d ≡ 3)
  pub outer_corners : sum_over (orbit next (2 * m) o) (λ e. when (eqb (angle e) 3) 1) ≡ 4
