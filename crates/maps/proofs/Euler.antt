-- Euler's inequality: a connected map has at most two more vertices and faces than edges.
-- Start with the faces, the orbits of `next`, and put in edge after edge: each exchanges the images of its two darts, and at the end the orbits are the vertices.
-- First go the edges that join two orbits (a tree), until one orbit is left; each other edge adds at most one orbit.
use mathlib.Core.Path.{◌≡◌, refl, sym, ap, subst, ◌∙◌}
use mathlib.Core.Bool.{Bool, true, false}
use mathlib.Core.Logic.{◌⊎◌, inl, inr, ⊎_elim}
use Prim.Native.Nat.{ℕ, zero, suc, ◌+◌, ◌*◌, ◌/◌, ◌≤◌, ◌<◌}
use native.Mathlib.Omega.{arith}
use native.Mathlib.Nat.{le_refl}
use borrow.Author.Tests.{eqb-true, eqb-false, eq-eqb}
use lib.Dec.{eqb}
use Rattle.finite.specs.Base.{pick, when}
use Rattle.maps.specs.Maps.{twin, turn, Connected}
use Rattle.finite.proofs.Sums.{sum_cong, sum_none, sum_ones}
use Rattle.finite.proofs.Tests.{either, equal_or_not, not_both, not_true_false, or_cases, or_left}
use Rattle.finite.proofs.Orbit.{OneToOne, lead_in}
use Rattle.maps.proofs.Labels.{classes_one, Finer}
use Rattle.maps.proofs.Cycles.{orbits, orbits_classes, orbits_agree, lead_next, lead_labels, lead_finer, exchanged, exchanged_twice, exchange_meets, exchange_parts, exchange_keeps, exchange_apart, exchange_same}
use Rattle.maps.proofs.Darts.{at_dart, none, add, members, add_there, members_add, across, across_in, across_out, across_below, turn_by, turn_one, turn_add}

-- with the edges of S put in: the lowest dart of d's orbit, and the number of orbits
abbrev pub lead_by : (ℕ → ℕ) → ℕ → (ℕ → Bool) → ℕ → ℕ
lead_by next m S d = lead_in (turn_by next S) (2 * m) d

abbrev pub orbits_by : (ℕ → ℕ) → ℕ → (ℕ → Bool) → ℕ
orbits_by next m S = orbits (turn_by next S) (2 * m)

-- the two darts of edge k are in one orbit
abbrev pub Ring : (ℕ → ℕ) → ℕ → (ℕ → Bool) → ℕ → Type 0
Ring next m S k = lead_by next m S (2 * k) ≡ lead_by next m S (suc (2 * k))

-- edge k is put in
module _ (next : ℕ → ℕ) (m : ℕ) (F : OneToOne next (2 * m)) (S : ℕ → Bool) (k : ℕ) (out : S k ≡ false) (l : k < m) where
  G : OneToOne (turn_by next S) (2 * m)
  G = turn_one next m F S

  la : 2 * k < 2 * m
  la = omega arith

  lb : suc (2 * k) < 2 * m
  lb = omega arith

  more : exchanged (turn_by next S) (2 * k) (suc (2 * k)) ≡ turn_by next (add S k)
  more = sym (turn_add next S k out)

  module _ (apart : Ring next m S k → ⊥) where
    pub put_keeps : Finer (lead_by next m S) (lead_by next m (add S k)) (2 * m)
    put_keeps = subst (λ (h : ℕ → ℕ). Finer (lead_by next m S) (lead_in h (2 * m)) (2 * m)) more (exchange_keeps (turn_by next S) (2 * m) G (2 * k) (suc (2 * k)) la lb apart)

    pub put_meets : Ring next m (add S k) k
    put_meets =
        subst (λ (h : ℕ → ℕ). lead_in h (2 * m) (2 * k) ≡ lead_in h (2 * m) (suc (2 * k))) more
        (exchange_meets (turn_by next S) (2 * m) G (2 * k) (suc (2 * k)) la lb apart)

    pub put_apart : orbits_by next m (add S k) + 1 ≡ orbits_by next m S
    put_apart =
        subst (λ (h : ℕ → ℕ). orbits h (2 * m) + 1 ≡ orbits_by next m S) more
        (exchange_apart (turn_by next S) (2 * m) G (2 * k) (suc (2 * k)) la lb apart)

  module _ (ring : Ring next m S k) where
    pub put_ring : orbits_by next m (add S k) ≡ orbits_by next m S + 1
    put_ring =
        subst (λ (h : ℕ → ℕ). orbits h (2 * m) ≡ orbits_by next m S + 1) more
        (exchange_same (turn_by next S) (2 * m) G (2 * k) (suc (2 * k)) la lb ring (omega arith))

    pub put_parts : Ring next m (add S k) k → ⊥
    put_parts =
        subst (λ (h : ℕ → ℕ). lead_in h (2 * m) (2 * k) ≡ lead_in h (2 * m) (suc (2 * k)) → ⊥) more
        (exchange_parts (turn_by next S) (2 * m) G (2 * k) (suc (2 * k)) la lb ring (omega arith))

    -- taken out again, the two orbits become one
    pub put_finer : Finer (lead_by next m (add S k)) (lead_by next m S) (2 * m)
    put_finer =
        subst (λ (h : ℕ → ℕ). Finer (lead_by next m (add S k)) (lead_in h (2 * m)) (2 * m))
        (ap (λ (h : ℕ → ℕ). exchanged h (2 * k) (suc (2 * k))) (sym more) ∙ exchanged_twice (turn_by next S) (2 * k) (suc (2 * k)))
        (exchange_keeps (turn_by next (add S k)) (2 * m) (turn_one next m F (add S k)) (2 * k) (suc (2 * k)) la lb put_parts)

  pub put_most : orbits_by next m (add S k) ≤ orbits_by next m S + 1
  put_most = ⊎_elim (λ e. omega (arith, put_ring e)) (λ e. omega (arith, put_apart e)) (equal_or_not (lead_by next m S (2 * k)) (lead_by next m S (suc (2 * k))))

-- the edges below k that join two orbits when they are put in
abbrev pub tree : (ℕ → ℕ) → ℕ → ℕ → ℕ → Bool
tree next m zero = none
tree next m (suc k) = pick (eqb (lead_by next m (tree next m k) (2 * k)) (lead_by next m (tree next m k) (suc (2 * k)))) (tree next m k) (add (tree next m k) k)

pub record Grown (next : ℕ → ℕ) (m k : ℕ) (S : ℕ → Bool) : Type 0 where
  pub only : (i : ℕ) → S i ≡ true → i < k
  pub flows : (d : ℕ) → d < 2 * m → lead_by next m S (next d) ≡ lead_by next m S d
  pub ties : (i : ℕ) → i < k → Ring next m S i
  pub size : orbits_by next m S + members S m ≡ orbits next (2 * m)

-- the edges of S and all edges below k
abbrev pub filled : (ℕ → Bool) → ℕ → ℕ → Bool
filled S zero = S
filled S (suc k) = pick (S k) (filled S k) (add (filled S k) k)

pub filled_from : (S : ℕ → Bool) (k i : ℕ) → filled S k i ≡ true → (S i ≡ true) ⊎ (i < k)
filled_from S zero i e = inl e
filled_from S (suc k) i e = by (S k) (filled_from S k i) e
  where
    later : (S i ≡ true) ⊎ (i < k) → (S i ≡ true) ⊎ (i < suc k)
    later (inl h) = inl h
    later (inr h) = inr (omega arith)

    by : (t : Bool) → (filled S k i ≡ true → (S i ≡ true) ⊎ (i < k)) → pick t (filled S k) (add (filled S k) k) i ≡ true → (S i ≡ true) ⊎ (i < suc k)
    by true ih h = later (ih h)
    by false ih h = ⊎_elim (λ z. later (ih z)) (λ z. inr (omega (arith, eqb-true i k z))) (or_cases (filled S k i) (eqb i k) h)

pub filled_out : (S : ℕ → Bool) (k : ℕ) → S k ≡ false → filled S k k ≡ false
filled_out S k out = not_true_false (filled S k k) (λ e. ⊎_elim (λ h. not_both h out) (λ h. omega arith) (filled_from S k k e))

filled_more : (S : ℕ → Bool) (k i : ℕ) → filled S k i ≡ true → filled S (suc k) i ≡ true
filled_more S k i e = by (S k)
  where
    by : (t : Bool) → pick t (filled S k) (add (filled S k) k) i ≡ true
    by true = e
    by false = or_left (filled S k i) (eqb i k) e

filled_keeps : (S : ℕ → Bool) (k i : ℕ) → S i ≡ true → filled S k i ≡ true
filled_keeps S zero i e = e
filled_keeps S (suc k) i e = filled_more S k i (filled_keeps S k i e)

pub filled_has : (S : ℕ → Bool) (k i : ℕ) → i < k → filled S k i ≡ true
filled_has S zero i l = absurd (omega arith)
filled_has S (suc k) i l = ⊎_elim (λ e. last e (S k) refl) (λ e. filled_more S k i (filled_has S k i (omega arith))) (equal_or_not i k)
  where
    last : i ≡ k → (t : Bool) → S k ≡ t → pick t (filled S k) (add (filled S k) k) i ≡ true
    last e true h = filled_keeps S k i (ap S e ∙ h)
    last e false h = add_there (filled S k) k i e

module _ (next : ℕ → ℕ) (m : ℕ) (F : OneToOne next (2 * m)) where
  pub grown : (k : ℕ) → k ≤ m → Grown next m k (tree next m k)
  grown zero l = record { only = λ i e. absurd (not_both e refl); flows = lead_next next (2 * m) F; ties = λ i h. absurd (omega arith); size = omega (arith, sum_none m) }
  grown (suc k) l = by (eqb (lead_by next m S (2 * k)) (lead_by next m S (suc (2 * k)))) refl (grown k (omega arith))
    where
      S : ℕ → Bool
      S = tree next m k

      by : (t : Bool) → eqb (lead_by next m S (2 * k)) (lead_by next m S (suc (2 * k))) ≡ t → Grown next m k S → Grown next m (suc k) (pick t S (add S k))
      by true e g =
          record {
            only = λ i h. omega (arith, g.only i h);
            flows = g.flows;
            ties = λ i h. ⊎_elim (λ q. subst (Ring next m S) (sym q) (eqb-true (lead_by next m S (2 * k)) (lead_by next m S (suc (2 * k))) e)) (λ q. g.ties i (omega arith)) (equal_or_not i k);
            size = g.size;
          }
      by false e g =
          record {
            only = λ i h. ⊎_elim (λ z. omega (arith, g.only i z)) (λ z. omega (arith, eqb-true i k z)) (or_cases (S i) (eqb i k) h);
            flows = λ d h. keeps (next d) d (F.below d h) h (g.flows d h);
            ties = λ i h. ⊎_elim (λ q. subst (Ring next m (add S k)) (sym q) (put_meets next m F S k out l apart)) (λ q. keeps (2 * i) (suc (2 * i)) (omega arith) (omega arith) (g.ties i (omega arith))) (equal_or_not i k);
            size = omega (arith, g.size, put_apart next m F S k out l apart, members_add S k m out l);
          }
        where
          out : S k ≡ false
          out = not_true_false (S k) (λ h. omega (arith, g.only k h))

          apart : Ring next m S k → ⊥
          apart = eqb-false (lead_by next m S (2 * k)) (lead_by next m S (suc (2 * k))) e

          keeps : Finer (lead_by next m S) (lead_by next m (add S k)) (2 * m)
          keeps = put_keeps next m F S k out l apart

  abbrev pub whole : ℕ → Bool
  whole = tree next m m

  -- each edge that is no tree edge adds at most one orbit
  pub filled_most : (S : ℕ → Bool) (k : ℕ) → k ≤ m → orbits_by next m (filled S k) + members S m ≤ orbits_by next m S + members (filled S k) m
  filled_most S zero l = omega arith
  filled_most S (suc k) l = by (S k) refl (filled_most S k (omega arith))
    where
      U : ℕ → Bool
      U = filled S k

      by : (t : Bool) → S k ≡ t → orbits_by next m U + members S m ≤ orbits_by next m S + members U m → orbits_by next m (pick t U (add U k)) + members S m ≤ orbits_by next m S + members (pick t U (add U k)) m
      by true e ih = ih
      by false e ih = omega (arith, put_most next m F U k (filled_out S k e) l, members_add U k m (filled_out S k e) l)

  pub all_filled : (S : ℕ → Bool) → members (filled S m) m ≡ m
  all_filled S = sum_cong m (λ i. when (filled S m i) 1) (λ i. 1) (λ i l. ap (λ (t : Bool). when t 1) (filled_has S m i l)) ∙ sum_ones m

  pub filled_turn : (S : ℕ → Bool) (d : ℕ) → d < 2 * m → turn_by next (filled S m) d ≡ turn next d
  filled_turn S d l = ap next (across_in (filled S m) d (filled_has S m (d / 2) (omega arith)))

  pub turn_one_to_one : OneToOne (turn next) (2 * m)
  turn_one_to_one = turn_one next m F (λ i. true)

  pub vertices : (S : ℕ → Bool) → orbits_by next m (filled S m) ≡ orbits (turn next) (2 * m)
  vertices S = orbits_agree (turn_by next (filled S m)) (turn next) (2 * m) (turn_one next m F (filled S m)) turn_one_to_one (filled_turn S)

  pub whole_next : (d : ℕ) → d < 2 * m → lead_by next m whole (next d) ≡ lead_by next m whole d
  whole_next = (grown m (le_refl m)).flows

  pub whole_twin : (d : ℕ) → d < 2 * m → lead_by next m whole (twin d) ≡ lead_by next m whole d
  whole_twin = at_dart (λ x y. lead_by next m whole y ≡ lead_by next m whole x) m (λ i h. sym ((grown m (le_refl m)).ties i h)) (grown m (le_refl m)).ties

  -- with the whole tree put in the orbits are the components: what is kept by next and twin is the same all over one
  pub whole_finer : (K : ℕ → ℕ) → ((d : ℕ) → d < 2 * m → K (next d) ≡ K d) → ((d : ℕ) → d < 2 * m → K (twin d) ≡ K d) → Finer (lead_by next m whole) K (2 * m)
  whole_finer K h t = lead_finer (turn_by next whole) (2 * m) (turn_one next m F whole) K (λ x l. h (across whole x) (across_below whole m x l) ∙ crossed x l)
    where
      crossed : (x : ℕ) → x < 2 * m → K (across whole x) ≡ K x
      crossed x l = ⊎_elim (λ e. ap K (across_in whole x e) ∙ t x l) (λ e. ap K (across_out whole x e)) (either (whole (x / 2)))

  -- Euler's inequality over components; the orbits of turn are the vertices, those of next the faces
  pub euler_components : orbits (turn next) (2 * m) + orbits next (2 * m) ≤ m + 2 * orbits_by next m whole
  euler_components = omega (arith, vertices whole, filled_most whole m (le_refl m), all_filled whole, (grown m (le_refl m)).size)

  module _ (linked : Connected next (2 * m)) where
    whole_one : (d e : ℕ) → d < 2 * m → e < 2 * m → lead_by next m whole e ≡ lead_by next m whole d
    whole_one d e l k =
        eqb-true (L e) (L d)
        (linked (λ x. eqb (L x) (L d)) d l (eq-eqb (L d) (L d) refl)
        (λ x h q. eq-eqb (L (next x)) (L d) (whole_next x h ∙ eqb-true (L x) (L d) q))
        (λ x h q. eq-eqb (L (twin x)) (L d) (whole_twin x h ∙ eqb-true (L x) (L d) q))
        e k)
      where
        L : ℕ → ℕ
        L = lead_by next m whole

    pub whole_orbits : orbits_by next m whole ≤ 1
    whole_orbits =
        omega (
          arith,
          orbits_classes (turn_by next whole) (2 * m) (turn_one next m F whole),
          classes_one (2 * m) (lead_by next m whole) (lead_labels (turn_by next whole) (2 * m) (turn_one next m F whole)) (λ i j l k. whole_one j i k l),
        )

    -- Euler's inequality
    pub euler : orbits (turn next) (2 * m) + orbits next (2 * m) ≤ m + 2
    euler = omega (arith, euler_components, whole_orbits)
