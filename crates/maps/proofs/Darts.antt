-- Darts in pairs, and functions of darts that go first to the twin for the edges of a set.
use mathlib.Core.Path.{◌≡◌, refl, sym, ap, subst, ◌∙◌, fun_ext}
use mathlib.Core.Bool.{Bool, true, false, ◌||◌}
use mathlib.Core.Logic.{⊎_elim}
use Prim.Native.Nat.{ℕ, suc, ◌+◌, ◌-◌, ◌*◌, ◌/◌, ◌%◌, ◌<◌}
use native.Mathlib.Omega.{arith}
use borrow.Author.Tests.{eq-eqb, ne_eqb}
use lib.Dec.{eqb}
use Rattle.finite.specs.Base.{pick, when}
use Rattle.maps.specs.Maps.{twin}
use Rattle.finite.proofs.Sums.{sum_below, sum_cong, sum_add, sum_at}
use Rattle.finite.proofs.Tests.{either, equal_or_not, or_right, not_both}
use Rattle.finite.proofs.Pigeonhole.{when_or}
use Rattle.finite.proofs.Orbit.{OneToOne}
use Rattle.maps.proofs.Cycles.{exchanged, swapped, swapped_first, swapped_second, swapped_other, at_swap}

twin_of_even : (d : ℕ) → d % 2 ≡ 0 → twin d ≡ suc d
twin_of_even d e = ap (λ (t : Bool). pick t (suc d) (d - 1)) (eq-eqb (d % 2) 0 e)

twin_of_odd : (d : ℕ) → (d % 2 ≡ 0 → ⊥) → twin d ≡ d - 1
twin_of_odd d e = ap (λ (t : Bool). pick t (suc d) (d - 1)) (ne_eqb (d % 2) 0 e)

pub twin_first : (i : ℕ) → twin (2 * i) ≡ suc (2 * i)
twin_first i = twin_of_even (2 * i) (omega arith)

pub twin_second : (i : ℕ) → twin (suc (2 * i)) ≡ 2 * i
twin_second i = twin_of_odd (suc (2 * i)) (omega arith) ∙ omega arith

-- what holds of the two darts of each edge, both ways, holds of each dart and its twin
pub at_dart : (P : ℕ → ℕ → Type 0) (m : ℕ) → ((i : ℕ) → i < m → P (2 * i) (suc (2 * i))) → ((i : ℕ) → i < m → P (suc (2 * i)) (2 * i)) → (d : ℕ) → d < 2 * m → P d (twin d)
at_dart P m u v d l = ⊎_elim even odd (equal_or_not (d % 2) 0)
  where
    even : d % 2 ≡ 0 → P d (twin d)
    even e =
        let at : 2 * (d / 2) ≡ d = omega arith in
        subst (λ (x : ℕ). P x (twin x)) at (subst (P (2 * (d / 2))) (sym (twin_first (d / 2))) (u (d / 2) (omega arith)))

    odd : (d % 2 ≡ 0 → ⊥) → P d (twin d)
    odd e =
        let at : suc (2 * (d / 2)) ≡ d = omega arith in
        subst (λ (x : ℕ). P x (twin x)) at (subst (P (suc (2 * (d / 2)))) (sym (twin_second (d / 2))) (v (d / 2) (omega arith)))

pub twin_half : (d : ℕ) → twin d / 2 ≡ d / 2
twin_half d = at_dart (λ x y. y / 2 ≡ x / 2) (suc d) (λ i l. omega arith) (λ i l. omega arith) d (omega arith)

pub twin_below : (m d : ℕ) → d < 2 * m → twin d < 2 * m
twin_below m = at_dart (λ x y. y < 2 * m) m (λ i l. omega arith) (λ i l. omega arith)

pub twin_twin : (d : ℕ) → twin (twin d) ≡ d
twin_twin d = at_dart (λ x y. twin y ≡ x) (suc d) (λ i l. twin_second i) (λ i l. twin_first i) d (omega arith)

-- sets of edges
abbrev pub none : ℕ → Bool
none i = false

abbrev pub add : (ℕ → Bool) → ℕ → ℕ → Bool
add S k i = S i || eqb i k

abbrev pub members : (ℕ → Bool) → ℕ → ℕ
members S m = sum_below m (λ i. when (S i) 1)

or_none : (a b : Bool) → b ≡ false → a || b ≡ a
or_none true b e = refl
or_none false b e = e

pub add_there : (S : ℕ → Bool) (k i : ℕ) → i ≡ k → add S k i ≡ true
add_there S k i e = or_right (S i) (eqb i k) (eq-eqb i k e)

pub add_other : (S : ℕ → Bool) (k i : ℕ) → (i ≡ k → ⊥) → add S k i ≡ S i
add_other S k i e = or_none (S i) (eqb i k) (ne_eqb i k e)

pub members_add : (S : ℕ → Bool) (k m : ℕ) → S k ≡ false → k < m → members (add S k) m ≡ members S m + 1
members_add S k m out l =
    let each : (i : ℕ) → i < m → when (add S k i) 1 ≡ when (S i) 1 + when (eqb i k) 1 =
    λ i h. when_or (S i) (eqb i k) 1 (λ e. ne_eqb i k (λ q. not_both e (ap S q ∙ out))) in
    omega (
      arith,
      sum_cong m (λ i. when (add S k i) 1) (λ i. when (S i) 1 + when (eqb i k) 1) each,
      sum_add m (λ i. when (S i) 1) (λ i. when (eqb i k) 1),
      sum_at m k (λ i. 1) l,
    )

-- the twin, for darts of the set's edges
abbrev pub across : (ℕ → Bool) → ℕ → ℕ
across S d = pick (S (d / 2)) (twin d) d

pub across_in : (S : ℕ → Bool) (d : ℕ) → S (d / 2) ≡ true → across S d ≡ twin d
across_in S d e = ap (λ (t : Bool). pick t (twin d) d) e

pub across_out : (S : ℕ → Bool) (d : ℕ) → S (d / 2) ≡ false → across S d ≡ d
across_out S d e = ap (λ (t : Bool). pick t (twin d) d) e

across_twice : (S : ℕ → Bool) (d : ℕ) → across S (across S d) ≡ d
across_twice S d =
    ⊎_elim (λ e. ap (across S) (across_in S d e) ∙ across_in S (twin d) (ap S (twin_half d) ∙ e) ∙ twin_twin d)
    (λ e. ap (across S) (across_out S d e) ∙ across_out S d e)
    (either (S (d / 2)))

pub across_below : (S : ℕ → Bool) (m d : ℕ) → d < 2 * m → across S d < 2 * m
across_below S m d l =
    ⊎_elim (λ e. subst (λ (x : ℕ). x < 2 * m) (sym (across_in S d e)) (twin_below m d l)) (λ e. subst (λ (x : ℕ). x < 2 * m) (sym (across_out S d e)) l) (either (S (d / 2)))

abbrev pub turn_by : (ℕ → ℕ) → (ℕ → Bool) → ℕ → ℕ
turn_by next S d = next (across S d)

pub turn_one : (next : ℕ → ℕ) (m : ℕ) → OneToOne next (2 * m) → (S : ℕ → Bool) → OneToOne (turn_by next S) (2 * m)
turn_one next m F S =
    record {
      below = λ i l. F.below (across S i) (across_below S m i l);
      one = λ i j l k e.
          sym (across_twice S i) ∙ ap (across S) (F.one (across S i) (across S j) (across_below S m i l) (across_below S m j k) e) ∙ across_twice S j;
    }

-- one more edge: the images of its two darts are exchanged
pub turn_add : (next : ℕ → ℕ) (S : ℕ → Bool) (k : ℕ) → S k ≡ false → turn_by next (add S k) ≡ exchanged (turn_by next S) (2 * k) (suc (2 * k))
turn_add next S k out = fun_ext (λ d. ap next (at d))
  where
    out_at : (d : ℕ) → d / 2 ≡ k → S (d / 2) ≡ false
    out_at d e = ap S e ∙ out

    at : (d : ℕ) → across (add S k) d ≡ across S (swapped (2 * k) (suc (2 * k)) d)
    at d =
        at_swap (2 * k) (suc (2 * k)) d
        (λ e. across_in (add S k) d (add_there S k (d / 2) (omega arith)) ∙ ap twin e ∙ twin_first k
        ∙ sym (ap (across S) (swapped_first (2 * k) (suc (2 * k)) d e) ∙ across_out S (suc (2 * k)) (out_at (suc (2 * k)) (omega arith))))
        (λ e. across_in (add S k) d (add_there S k (d / 2) (omega arith)) ∙ ap twin e ∙ twin_second k
        ∙ sym (ap (across S) (swapped_second (2 * k) (suc (2 * k)) d e) ∙ across_out S (2 * k) (out_at (2 * k) (omega arith))))
        (λ p q. ap (λ (t : Bool). pick t (twin d) d) (add_other S k (d / 2) (omega arith)) ∙ ap (across S) (sym (swapped_other (2 * k) (suc (2 * k)) d p q)))
