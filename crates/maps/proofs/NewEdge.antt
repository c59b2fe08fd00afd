-- What the surgeries share: the two darts of a new edge, right-angled maps told by sums, and connectedness.
use mathlib.Core.Path.{◌≡◌, sym, ap, subst, ◌∙◌}
use mathlib.Core.Bool.{Bool, true}
use mathlib.Core.Logic.{⊎_elim}
use Prim.Native.Nat.{ℕ, suc, ◌+◌, ◌*◌, ◌≤◌, ◌<◌}
use native.Mathlib.Omega.{arith}
use lib.Dec.{eqb}
use Rattle.finite.specs.Base.{when, is_in}
use Rattle.maps.specs.Maps.{twin, turn, Connected}
use Rattle.finite.proofs.Sums.{sum_over}
use Rattle.finite.proofs.Tests.{equal_or_not, not_both, not_true_false}
use Rattle.finite.proofs.Orbit.{OneToOne, orbit, lead_in, lead_same}
use Rattle.maps.proofs.Cycles.{orbits, in_orbit}
use Rattle.maps.proofs.Darts.{turn_one, twin_below, twin_first, twin_second}
use Rattle.maps.proofs.Euler.{turn_one_to_one}
use Rattle.maps.proofs.Along.{along_add, along_same, along_at}
use Rattle.maps.proofs.Walks.{along_of, kept_of, sum_over_twos}
use Rattle.maps.proofs.Insert.{on, off}
use Rattle.maps.proofs.RightAngles.{RightAngled}

-- darts with one more edge
pub size : (m : ℕ) → 2 * suc m ≡ suc (suc (2 * m))
size m = omega arith

pub turn_more : (next : ℕ → ℕ) (m : ℕ) → OneToOne next (suc (suc (2 * m))) → OneToOne (turn next) (suc (suc (2 * m)))
turn_more next m G =
    subst (λ (k : ℕ). OneToOne (turn next) k) (size m) (turn_one_to_one next (suc m) (subst (λ (k : ℕ). OneToOne next k) (sym (size m)) G))

pub twin_more : (m d : ℕ) → d < suc (suc (2 * m)) → twin d < suc (suc (2 * m))
twin_more m d l = subst (λ (k : ℕ). twin d < k) (size m) (twin_below (suc m) d (omega arith))

pub twin_one : (m : ℕ) → OneToOne twin (2 * m)
twin_one m = turn_one (λ y. y) m (record { below = λ i l. l; one = λ i j l k e. e }) (λ i. true)

pub at_new : {P : Type 0} (m x : ℕ) → x < suc (suc (2 * m)) → (x < 2 * m → P) → (x ≡ 2 * m → P) → (x ≡ suc (2 * m) → P) → P
at_new m x l u v w = ⊎_elim v (λ p. ⊎_elim w (λ q. u (omega arith)) (equal_or_not x (suc (2 * m)))) (equal_or_not x (2 * m))

-- what holds of the old darts and is the same all over an orbit holds of the new darts, each in the orbit of an old one
pub at_all : (f : ℕ → ℕ) (m c e : ℕ) → c < 2 * m → e < 2 * m → lead_in f (suc (suc (2 * m))) (2 * m) ≡ lead_in f (suc (suc (2 * m))) c → lead_in f (suc (suc (2 * m))) (suc (2 * m)) ≡ lead_in f (suc (suc (2 * m))) e
    → (P : ℕ → Type 0) → ((x y : ℕ) → x < suc (suc (2 * m)) → y < suc (suc (2 * m)) → lead_in f (suc (suc (2 * m))) x ≡ lead_in f (suc (suc (2 * m))) y → P y → P x)
    → ((d : ℕ) → d < 2 * m → P d) → (d : ℕ) → d < suc (suc (2 * m)) → P d
at_all f m c e lc le first second P moves old d l =
    at_new m d l (old d) (λ q. moves d c l (omega arith) (ap (lead_in f (suc (suc (2 * m)))) q ∙ first) (old c lc))
    (λ q. moves d e l (omega arith) (ap (lead_in f (suc (suc (2 * m)))) q ∙ second) (old e le))

-- weights that differ at t only
pub sum_but : (f : ℕ → ℕ) (n : ℕ) → OneToOne f n → (t : ℕ) → t < n → (v w : ℕ → ℕ) → ((x : ℕ) → x < n → (x ≡ t → ⊥) → v x ≡ w x) → (d : ℕ) → d < n
    → sum_over (orbit f n d) v + when (eqb (lead_in f n d) (lead_in f n t)) (w t) ≡ sum_over (orbit f n d) w + when (eqb (lead_in f n d) (lead_in f n t)) (v t)
sum_but f n F t lt v w but d l =
    omega (
      arith,
      along_of f n F v d l,
      along_of f n F w d l,
      along_add n L r v (λ i. when (eqb i t) (w i)),
      along_add n L r w (λ i. when (eqb i t) (v i)),
      along_at n L r t w lt,
      along_at n L r t v lt,
      along_same n L r (λ i. v i + when (eqb i t) (w i)) (λ i. w i + when (eqb i t) (v i)) each,
    )
  where
    L : ℕ → ℕ
    L = lead_in f n

    r : ℕ
    r = lead_in f n d

    each : (i : ℕ) → i < n → v i + when (eqb i t) (w i) ≡ w i + when (eqb i t) (v i)
    each i k = ⊎_elim (λ e. omega (arith, on i t (w i) e, on i t (v i) e)) (λ e. omega (arith, off i t (w i) e, off i t (v i) e, but i k e)) (equal_or_not i t)

-- the corners of d's face, of two quarters each but for the turn by four
abbrev pub Rounded : (ℕ → ℕ) → (ℕ → ℕ) → ℕ → ℕ → Type 0
Rounded next angle n d = sum_over (orbit next n d) angle + 4 ≡ sum_over (orbit next n d) (λ x. 2)

-- a right-angled map with n darts
pub record RightOn (next angle : ℕ → ℕ) (m o n : ℕ) : Type 0 where
  pub one : OneToOne next n
  pub linked : Connected next n
  pub plane : orbits (turn next) n + orbits next n ≡ m + 2
  pub outside : o < n
  pub least : (d : ℕ) → d < n → 1 ≤ angle d
  pub most : (d : ℕ) → d < n → angle d ≤ 4
  pub posts : (d : ℕ) → d < n → sum_over (orbit (turn next) n d) (λ e. angle (twin e)) ≡ 4
  pub inner : (d : ℕ) → d < n → (lead_in next n d ≡ lead_in next n o → ⊥) → Rounded next angle n d
  pub outer : sum_over (orbit next n o) angle ≡ sum_over (orbit next n o) (λ x. 2) + 4

module _ (next angle : ℕ → ℕ) (m o : ℕ) where
  pub right_on : RightAngled next angle m o → RightOn next angle m o (2 * m)
  right_on M =
      record {
        one = M.one;
        linked = M.linked;
        plane = M.plane;
        outside = M.outside;
        least = M.least;
        most = M.most;
        posts = M.posts;
        inner = λ d l e.
            omega (
              arith,
              sum_over_twos (orbit next (2 * m) d),
              M.inner d l (not_true_false (is_in d (orbit next (2 * m) o)) (λ h. e (lead_same next (2 * m) M.one o d M.outside h))),
            );
        outer = omega (arith, M.outer, sum_over_twos (orbit next (2 * m) o));
      }

  on_right : RightOn next angle m o (2 * m) → RightAngled next angle m o
  on_right M =
      record {
        one = M.one;
        linked = M.linked;
        plane = M.plane;
        outside = M.outside;
        least = M.least;
        most = M.most;
        posts = M.posts;
        inner = λ d l e.
            omega (arith, sum_over_twos (orbit next (2 * m) d), M.inner d l (λ h. not_both (in_orbit next (2 * m) M.one o d M.outside l (sym h)) e));
        outer = omega (arith, M.outer, sum_over_twos (orbit next (2 * m) o));
      }

  pub right_of : (n : ℕ) → n ≡ 2 * m → RightOn next angle m o n → RightAngled next angle m o
  right_of n e M = on_right (subst (RightOn next angle m o) e M)

-- a set that the new map keeps is kept by the old one, and the new edge starts at an old corner
pub connected_more : (next after : ℕ → ℕ) (m c : ℕ) → Connected next (2 * m) → OneToOne after (suc (suc (2 * m))) → c < 2 * m → after c ≡ 2 * m
    → ((s : ℕ → Bool) → ((x : ℕ) → x < suc (suc (2 * m)) → s (after x) ≡ s x) → ((x : ℕ) → x < suc (suc (2 * m)) → s (twin x) ≡ s x) → (x : ℕ) → x < 2 * m → s (next x) ≡ s x)
    → Connected after (suc (suc (2 * m)))
connected_more next after m c linked G lc new keeps s d l h on over x k =
    at_new m x k (old x) (λ e. ap s e ∙ first) (λ e. ap s (e ∙ sym (twin_first m)) ∙ kept_over (2 * m) (omega arith) ∙ first)
  where
    kept : (y : ℕ) → y < suc (suc (2 * m)) → s (after y) ≡ s y
    kept = kept_of after (suc (suc (2 * m))) G s on

    kept_over : (y : ℕ) → y < suc (suc (2 * m)) → s (twin y) ≡ s y
    kept_over = kept_of twin (suc (suc (2 * m))) (subst (OneToOne twin) (size m) (twin_one (suc m))) s over

    first_c : s (2 * m) ≡ s c
    first_c = ap s (sym new) ∙ kept c (omega arith)

    spread : (y : ℕ) → y < 2 * m → s y ≡ true → (z : ℕ) → z < 2 * m → s z ≡ true
    spread y b q = linked s y b q (λ z j p. keeps s kept kept_over z j ∙ p) (λ z j p. over z (omega arith) p)

    at_c : s c ≡ true
    at_c =
        at_new m d l (λ b. spread d b h c lc) (λ e. sym first_c ∙ ap s (sym e) ∙ h)
        (λ e. sym first_c ∙ ap s (sym (twin_second m) ∙ ap twin (sym e)) ∙ kept_over d l ∙ h)

    old : (y : ℕ) → y < 2 * m → s y ≡ true
    old = spread c lc at_c

    first : s (2 * m) ≡ true
    first = first_c ∙ at_c
