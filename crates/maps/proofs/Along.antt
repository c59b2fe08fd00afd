-- Sums over the numbers of one label, such as those of one orbit.
use mathlib.Core.Path.{◌≡◌, refl, sym, ap, ◌∙◌}
use mathlib.Core.Bool.{Bool, true, false}
use mathlib.Core.List.{List}
use Prim.Native.Nat.{ℕ, suc, ◌+◌, ◌≤◌, ◌<◌}
use native.Mathlib.Omega.{arith}
use borrow.Author.Tests.{eqb-true, eq-eqb, ne_eqb}
use lib.Dec.{eqb}
use lib.ListN.{length}
use Rattle.finite.specs.Base.{when, is_in}
use Rattle.finite.proofs.Sums.{sum_below, sum_over, sum_cong, sum_none, sum_add, sum_swap, sum_at, sum_when, when_add, when_swap}
use Rattle.finite.proofs.Tests.{same_test}
use Rattle.finite.proofs.Members.{all_of}
use Rattle.finite.proofs.Pigeonhole.{at_most}
use Rattle.finite.proofs.Orbit.{OneToOne, start, walk, rest, orbit, lead_in, stops, goes, enough, walk_met, walk_distinct, walk_below, orbit_sum, orbit_sym, lead-in, lead_below, lead_same, sum_through}
use Rattle.maps.proofs.Labels.{Labels, Finer}
use Rattle.maps.proofs.Cycles.{lead_next, in_orbit, lead_labels}

-- the sum over the numbers below n that have label r
abbrev pub sum_along : ℕ → (ℕ → ℕ) → ℕ → (ℕ → ℕ) → ℕ
sum_along n L r w = sum_below n (λ i. when (eqb r (L i)) (w i))

module _ (n : ℕ) (L : ℕ → ℕ) (r : ℕ) where
  pub along_add : (v w : ℕ → ℕ) → sum_along n L r (λ i. v i + w i) ≡ sum_along n L r v + sum_along n L r w
  along_add v w =
      sum_cong n (λ i. when (eqb r (L i)) (v i + w i)) (λ i. when (eqb r (L i)) (v i) + when (eqb r (L i)) (w i)) (λ i l. when_add (eqb r (L i)) (v i) (w i))
      ∙ sum_add n (λ i. when (eqb r (L i)) (v i)) (λ i. when (eqb r (L i)) (w i))

  pub along_same : (v w : ℕ → ℕ) → ((i : ℕ) → i < n → v i ≡ w i) → sum_along n L r v ≡ sum_along n L r w
  along_same v w h = sum_cong n (λ i. when (eqb r (L i)) (v i)) (λ i. when (eqb r (L i)) (w i)) (λ i l. ap (when (eqb r (L i))) (h i l))

  -- .. where only those of the label need be the same
  pub along_alike : (v w : ℕ → ℕ) → ((i : ℕ) → i < n → L i ≡ r → v i ≡ w i) → sum_along n L r v ≡ sum_along n L r w
  along_alike v w h = sum_cong n (λ i. when (eqb r (L i)) (v i)) (λ i. when (eqb r (L i)) (w i)) (λ i l. by i l (eqb r (L i)) refl)
    where
      by : (i : ℕ) → i < n → (t : Bool) → eqb r (L i) ≡ t → when t (v i) ≡ when t (w i)
      by i l true e = h i l (sym (eqb-true r (L i) e))
      by i l false e = refl

  pub along_at : (a : ℕ) (w : ℕ → ℕ) → a < n → sum_along n L r (λ i. when (eqb i a) (w i)) ≡ when (eqb r (L a)) (w a)
  along_at a w l =
      sum_cong n (λ i. when (eqb r (L i)) (when (eqb i a) (w i))) (λ i. when (eqb i a) (when (eqb r (L i)) (w i))) (λ i k. when_swap (eqb r (L i)) (eqb i a) (w i))
      ∙ sum_at n a (λ i. when (eqb r (L i)) (w i)) l

-- a class made of classes: their sums are added
pub along_coarser : (n : ℕ) (L J : ℕ → ℕ) → Labels L n → Finer L J n → (w : ℕ → ℕ) (c : ℕ) → sum_along n J c w ≡ sum_below n (λ r. when (eqb c (J r)) (sum_along n L r w))
along_coarser n L J A f w c =
    sum_cong n (λ i. when (eqb c (J i)) (w i)) (λ i. sum_below n (λ r. when (eqb r (L i)) (when (eqb c (J r)) (w i)))) each
    ∙ sum_swap n n (λ i r. when (eqb r (L i)) (when (eqb c (J r)) (w i)))
    ∙ sum_cong n (λ r. sum_below n (λ i. when (eqb r (L i)) (when (eqb c (J r)) (w i)))) (λ r. when (eqb c (J r)) (sum_along n L r w)) outside
  where
    each : (i : ℕ) → i < n → when (eqb c (J i)) (w i) ≡ sum_below n (λ r. when (eqb r (L i)) (when (eqb c (J r)) (w i)))
    each i l =
        ap (λ (x : ℕ). when (eqb c x) (w i)) (f i (L i) l (A.below i l) (sym (A.again i l)))
        ∙ sym (sum_at n (L i) (λ r. when (eqb c (J r)) (w i)) (A.below i l))

    outside : (r : ℕ) → r < n → sum_below n (λ i. when (eqb r (L i)) (when (eqb c (J r)) (w i))) ≡ when (eqb c (J r)) (sum_along n L r w)
    outside r l =
        sum_cong n (λ i. when (eqb r (L i)) (when (eqb c (J r)) (w i))) (λ i. when (eqb c (J r)) (when (eqb r (L i)) (w i)))
        (λ i k. when_swap (eqb r (L i)) (eqb c (J r)) (w i))
        ∙ sym (sum_when (eqb c (J r)) n (λ i. when (eqb r (L i)) (w i)))

module _ (f : ℕ → ℕ) (n : ℕ) (F : OneToOne f n) (w : ℕ → ℕ) where
  -- the sum over the orbit of a lowest number; no orbit has another for its label
  pub along_orbit : (r : ℕ) → r < n → r ≡ lead_in f n r → sum_along n (lead_in f n) r w ≡ sum_over (orbit f n r) w
  along_orbit r l e =
      sum_cong n (λ i. when (eqb r (lead_in f n i)) (w i)) (λ i. when (is_in i (orbit f n r)) (w i)) (λ i k. ap (λ (t : Bool). when t (w i)) (there i k))
      ∙ sym (orbit_sum f n F r l w)
    where
      there : (i : ℕ) → i < n → eqb r (lead_in f n i) ≡ is_in i (orbit f n r)
      there i k =
          same_test (eqb r (lead_in f n i)) (is_in i (orbit f n r)) (λ q. in_orbit f n F r i l k (sym e ∙ eqb-true r (lead_in f n i) q))
          (λ q. eq-eqb r (lead_in f n i) (e ∙ sym (lead_same f n F r i l q)))

  pub along_none : (r : ℕ) → (r ≡ lead_in f n r → ⊥) → sum_along n (lead_in f n) r w ≡ 0
  along_none r e =
      sum_cong n (λ i. when (eqb r (lead_in f n i)) (w i)) (λ i. 0)
      (λ i k. ap (λ (t : Bool). when t (w i)) (ne_eqb r (lead_in f n i) (λ q. e (q ∙ sym ((lead_labels f n F).again i k) ∙ ap (lead_in f n) (sym q)))))
      ∙ sum_none n

  -- an orbit's sum is the same taken one step on
  pub along_next : (r : ℕ) → sum_along n (lead_in f n) r (λ i. w (f i)) ≡ sum_along n (lead_in f n) r w
  along_next r =
      sum_cong n (λ i. when (eqb r (lead_in f n i)) (w (f i))) (λ i. when (eqb r (lead_in f n (f i))) (w (f i)))
      (λ i h. ap (λ (x : ℕ). when (eqb r x) (w (f i))) (sym (lead_next f n F i h)))
      ∙ sum_through f n F (λ i. when (eqb r (lead_in f n i)) (w i))

-- what is left of d's orbit from d on, before its lowest comes again
abbrev pub left : (ℕ → ℕ) → ℕ → (ℕ → ℕ) → ℕ → ℕ
left f n w d = sum_over (walk f n (lead_in f n d) d) w

module _ (f : ℕ → ℕ) (n : ℕ) (F : OneToOne f n) (w : ℕ → ℕ) (d : ℕ) (l : d < n) where
  at_next : left f n w (f d) ≡ sum_over (walk f n (lead_in f n d) (f d)) w
  at_next = ap (λ (x : ℕ). sum_over (walk f n x (f d)) w) (lead_next f n F d l)

  first : left f n w d ≡ w d + sum_over (rest f n (lead_in f n d) d) w
  first = ap (λ (r : List ℕ). sum_over r w) (sym (enough f n (lead_in f n d) d short))
    where
      short : length (walk f (suc n) (lead_in f n d) d) ≤ n
      short =
          at_most n (walk f (suc n) (lead_in f n d) d)
          (walk_distinct f n F (suc n) (walk_met f n (lead_in f n d) start d (orbit_sym f n F d (lead_in f n d) l (lead-in f n F d l))) (lead_below f n F d l))
          (all_of n (walk f (suc n) (lead_in f n d) d) (walk_below f n F (suc n) (lead_in f n d) d l))

  pub left_last : f d ≡ lead_in f n d → (left f n w d ≡ w d) × (left f n w (f d) ≡ sum_over (orbit f n (lead_in f n d)) w)
  left_last e =
      omega (arith, first, ap (λ (r : List ℕ). sum_over r w) (stops f n (lead_in f n d) d e), at_next, ap (λ (x : ℕ). sum_over (walk f n (lead_in f n d) x) w) e)

  pub left_next : (f d ≡ lead_in f n d → ⊥) → left f n w d ≡ w d + left f n w (f d)
  left_next e = omega (arith, first, ap (λ (r : List ℕ). sum_over r w) (goes f n (lead_in f n d) d e), at_next)
