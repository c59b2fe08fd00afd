-- On a plane map, weights of steps that add to nothing around each face and each vertex are the differences of values at the darts.
-- A weight is a difference of two numbers, w and w⁻; which differences count as nothing is a parameter: 0 alone, or the multiples of 4, ..
use mathlib.Core.Path.{◌≡◌, refl, sym, ap, subst, ◌∙◌}
use mathlib.Core.Bool.{Bool, true, false}
use mathlib.Core.Logic.{⊎_elim}
use Prim.Native.Nat.{ℕ, zero, suc, ◌+◌, ◌*◌, ◌/◌, ◌≤◌, ◌<◌, suc-le-suc}
use native.Mathlib.Omega.{arith}
use native.Mathlib.Nat.{le_refl}
use borrow.Author.Tests.{eqb-true, eq-eqb, ne_eqb}
use lib.Dec.{eqb}
use Rattle.finite.specs.Base.{pick, when}
use Rattle.maps.specs.Maps.{twin, turn, Connected}
use Rattle.finite.proofs.Sums.{sum_below, sum_over, sum_add, sum_at}
use Rattle.finite.proofs.Tests.{equal_or_not, not_both, or_cases}
use Rattle.finite.proofs.Orbit.{OneToOne, orbit, lead_in, lead_below}
use Rattle.maps.proofs.Labels.{Labels, Finer}
use Rattle.maps.proofs.Cycles.{orbits, at_swap, lead_next, lead_labels, lead_finer}
use Rattle.maps.proofs.Darts.{at_dart, twin_below, twin_twin, twin_first, add, members, add_there, add_other, members_add, turn_by, turn_one}
use Rattle.maps.proofs.Euler.{lead_by, orbits_by, Ring, put_apart, put_ring, put_parts, put_finer, tree, Grown, grown, filled, filled_out, filled_has, filled_most, all_filled, filled_turn, turn_one_to_one, vertices, whole_orbits}
use Rattle.maps.proofs.Along.{sum_along, along_add, along_same, along_at, along_coarser, along_orbit, along_none, along_next, left, left_last, left_next}

-- p - q counts as nothing
pub record Zeros (Nil : ℕ → ℕ → Type 0) : Type 0 where
  pub same : {p q : ℕ} → p ≡ q → Nil p q
  pub both : {p q r s : ℕ} → Nil p q → Nil r s → Nil (p + r) (q + s)
  pub back : {p q : ℕ} → Nil p q → Nil q p
  pub shift : {p q r s : ℕ} → Nil p q → p + s ≡ r + q → Nil r s

-- values at the darts that fit the weights t along all darts, and u across the edges of S
pub record Fit (Nil : ℕ → ℕ → Type 0) (next t t⁻ u u⁻ : ℕ → ℕ) (m : ℕ) (S : ℕ → Bool) : Type 0 where
  pub at : ℕ → ℕ
  pub at⁻ : ℕ → ℕ
  pub onward : (d : ℕ) → d < 2 * m → Nil (at (next d) + (at⁻ d + t⁻ d)) (at⁻ (next d) + (at d + t d))
  pub over : (i : ℕ) → i < m → S i ≡ true → Nil (at (suc (2 * i)) + (at⁻ (2 * i) + u⁻ (2 * i))) (at⁻ (suc (2 * i)) + (at (2 * i) + u (2 * i)))

-- .. and across all edges
pub record Valued (Nil : ℕ → ℕ → Type 0) (next t t⁻ u u⁻ : ℕ → ℕ) (n : ℕ) : Type 0 where
  pub at : ℕ → ℕ
  pub at⁻ : ℕ → ℕ
  pub onward : (d : ℕ) → d < n → Nil (at (next d) + (at⁻ d + t⁻ d)) (at⁻ (next d) + (at d + t d))
  pub across : (d : ℕ) → d < n → Nil (at (twin d) + (at⁻ d + u⁻ d)) (at⁻ (twin d) + (at d + u d))

-- how far the values fail to fit across the edge of d: with the values and weights exchanged, the same the other way round
abbrev off : (u at at⁻ : ℕ → ℕ) → ℕ → ℕ
off u at at⁻ d = u d + (at d + at⁻ (twin d))

-- the weights of the darts whose edges are in U
abbrev within : (ℕ → Bool) → (ℕ → ℕ) → ℕ → ℕ
within U w i = when (U (i / 2)) (w i)

-- one more edge brings the weights of its two darts
module _ (U : ℕ → Bool) (k : ℕ) (out : U k ≡ false) where
  within_add : (w : ℕ → ℕ) (i : ℕ) → within (add U k) w i ≡ within U w i + (when (eqb i (2 * k)) (w i) + when (eqb i (suc (2 * k))) (w i))
  within_add w i =
      at_swap (2 * k) (suc (2 * k)) i
      (λ e. omega (arith, shown (add_there U k (i / 2) (omega arith)), hidden (not_yet (omega arith)), shown (eq-eqb i (2 * k) e), hidden (ne_eqb i (suc (2 * k)) (omega arith))))
      (λ e. omega (arith, shown (add_there U k (i / 2) (omega arith)), hidden (not_yet (omega arith)), hidden (ne_eqb i (2 * k) (omega arith)), shown (eq-eqb i (suc (2 * k)) e)))
      (λ p q. omega (arith, ap (λ (b : Bool). when b (w i)) (add_other U k (i / 2) (omega arith)), hidden (ne_eqb i (2 * k) p), hidden (ne_eqb i (suc (2 * k)) q)))
    where
      not_yet : i / 2 ≡ k → U (i / 2) ≡ false
      not_yet e = ap U e ∙ out

      shown : {b : Bool} → b ≡ true → when b (w i) ≡ w i
      shown e = ap (λ (b : Bool). when b (w i)) e

      hidden : {b : Bool} → b ≡ false → when b (w i) ≡ 0
      hidden e = ap (λ (b : Bool). when b (w i)) e

  along_more : (m : ℕ) → k < m → (L : ℕ → ℕ) → L (2 * k) ≡ L (suc (2 * k)) → (c : ℕ) (w : ℕ → ℕ)
      → sum_along (2 * m) L c (within (add U k) w) ≡ sum_along (2 * m) L c (within U w) + when (eqb c (L (2 * k))) (w (2 * k) + w (suc (2 * k)))
  along_more m l L ring c w =
      omega (
        arith,
        along_same n L c (within (add U k) w) (λ i. within U w i + (at_first i + at_second i)) (λ i h. within_add w i),
        along_add n L c (within U w) (λ i. at_first i + at_second i),
        along_add n L c at_first at_second,
        along_at n L c (2 * k) w (omega arith),
        along_at n L c (suc (2 * k)) w (omega arith),
        ap (λ (x : ℕ). when (eqb c x) (w (suc (2 * k)))) ring,
        when_both (eqb c (L (2 * k))),
      )
    where
      n : ℕ
      n = 2 * m

      at_first : ℕ → ℕ
      at_first i = when (eqb i (2 * k)) (w i)

      at_second : ℕ → ℕ
      at_second i = when (eqb i (suc (2 * k))) (w i)

      when_both : (b : Bool) → when b (w (2 * k) + w (suc (2 * k))) ≡ when b (w (2 * k)) + when b (w (suc (2 * k)))
      when_both true = refl
      when_both false = omega arith

module _ (Nil : ℕ → ℕ → Type 0) (Z : Zeros Nil) where
  sum_nil : (n : ℕ) (f f⁻ : ℕ → ℕ) → ((i : ℕ) → i < n → Nil (f i) (f⁻ i)) → Nil (sum_below n f) (sum_below n f⁻)
  sum_nil zero f f⁻ h = Z.same refl
  sum_nil (suc n) f f⁻ h = Z.both (h 0 (omega arith)) (sum_nil n (λ i. f (suc i)) (λ i. f⁻ (suc i)) (λ i l. h (suc i) (suc-le-suc l)))

  when_nil : (b : Bool) {x y : ℕ} → Nil x y → Nil (when b x) (when b y)
  when_nil true h = h
  when_nil false h = Z.same refl

  along_nil : (n : ℕ) (L : ℕ → ℕ) (r : ℕ) (w w⁻ : ℕ → ℕ) → ((i : ℕ) → i < n → Nil (w i) (w⁻ i)) → Nil (sum_along n L r w) (sum_along n L r w⁻)
  along_nil n L r w w⁻ h = sum_nil n (λ i. when (eqb r (L i)) (w i)) (λ i. when (eqb r (L i)) (w⁻ i)) (λ i l. when_nil (eqb r (L i)) (h i l))

  coarser_nil : (n : ℕ) (L J : ℕ → ℕ) → Labels L n → Finer L J n → (w w⁻ : ℕ → ℕ) → ((r : ℕ) → r < n → Nil (sum_along n L r w) (sum_along n L r w⁻)) → (c : ℕ) → Nil (sum_along n J c w) (sum_along n J c w⁻)
  coarser_nil n L J A f w w⁻ h c =
      Z.shift
      (sum_nil n (λ r. when (eqb c (J r)) (sum_along n L r w)) (λ r. when (eqb c (J r)) (sum_along n L r w⁻)) (λ r l. when_nil (eqb c (J r)) (h r l)))
      (omega (arith, along_coarser n L J A f w c, along_coarser n L J A f w⁻ c))

  -- orbits whose weights add to nothing
  module _ (f : ℕ → ℕ) (n : ℕ) (F : OneToOne f n) (w w⁻ : ℕ → ℕ) (closed : (d : ℕ) → d < n → Nil (sum_over (orbit f n d) w) (sum_over (orbit f n d) w⁻)) where
    orbit_nil : (r : ℕ) → r < n → Nil (sum_along n (lead_in f n) r w) (sum_along n (lead_in f n) r w⁻)
    orbit_nil r l =
        ⊎_elim (λ e. Z.shift (closed r l) (omega (arith, along_orbit f n F w r l e, along_orbit f n F w⁻ r l e)))
        (λ e. Z.same (along_none f n F w r e ∙ sym (along_none f n F w⁻ r e)))
        (equal_or_not r (lead_in f n r))

    left_nil : (d : ℕ) → d < n → Nil (left f n w⁻ (f d) + (left f n w d + w⁻ d)) (left f n w (f d) + (left f n w⁻ d + w d))
    left_nil d l =
        ⊎_elim
        (λ e. Z.shift (Z.back (closed (lead_in f n d) (lead_below f n F d l))) (omega (arith, left_last f n F w d l e, left_last f n F w⁻ d l e)))
        (λ e. Z.same (omega (arith, left_next f n F w d l e, left_next f n F w⁻ d l e)))
        (equal_or_not (f d) (lead_in f n d))

  module _ (next t t⁻ u u⁻ : ℕ → ℕ) (m : ℕ) (F : OneToOne next (2 * m)) (faces : (d : ℕ) → d < 2 * m → Nil (sum_over (orbit next (2 * m) d) t) (sum_over (orbit next (2 * m) d) t⁻)) where
    -- along each face, then edge by edge over the tree, with all values on the far side moved along
    tree_fit : (k : ℕ) → k ≤ m → Fit Nil next t t⁻ u u⁻ m (tree next m k)
    tree_fit zero l =
        record {
          at = left next (2 * m) t⁻;
          at⁻ = left next (2 * m) t;
          onward = left_nil next (2 * m) F t t⁻ faces;
          over = λ i h e. absurd (not_both e refl);
        }
    tree_fit (suc k) l = by (eqb (L (2 * k)) (L (suc (2 * k)))) refl (tree_fit k (omega arith))
      where
        S : ℕ → Bool
        S = tree next m k

        L : ℕ → ℕ
        L = lead_by next m S

        g : Grown next m k S
        g = grown next m F k (omega arith)

        by : (b : Bool) → eqb (L (2 * k)) (L (suc (2 * k))) ≡ b → Fit Nil next t t⁻ u u⁻ m S → Fit Nil next t t⁻ u u⁻ m (pick b S (add S k))
        by true e p = p
        by false e p = record { at = λ d. p.at d + far d by+; at⁻ = λ d. p.at⁻ d + far d by_; onward = onward; over = over }
          where
            by+ : ℕ
            by+ = p.at (2 * k) + (u (2 * k) + p.at⁻ (suc (2 * k)))

            by_ : ℕ
            by_ = p.at⁻ (2 * k) + (u⁻ (2 * k) + p.at (suc (2 * k)))

            far : ℕ → ℕ → ℕ
            far d x = when (eqb (L d) (L (suc (2 * k)))) x

            alike : (d e x : ℕ) → L d ≡ L e → far d x ≡ far e x
            alike d e x q = ap (λ (y : ℕ). when (eqb y (L (suc (2 * k)))) x) q

            onward : (d : ℕ) → d < 2 * m → Nil (p.at (next d) + far (next d) by+ + (p.at⁻ d + far d by_ + t⁻ d)) (p.at⁻ (next d) + far (next d) by_ + (p.at d + far d by+ + t d))
            onward d h = Z.shift (p.onward d h) (omega (arith, alike (next d) d by+ (g.flows d h), alike (next d) d by_ (g.flows d h)))

            Over : ℕ → Type 0
            Over i =
                Nil (p.at (suc (2 * i)) + far (suc (2 * i)) by+ + (p.at⁻ (2 * i) + far (2 * i) by_ + u⁻ (2 * i)))
                (p.at⁻ (suc (2 * i)) + far (suc (2 * i)) by_ + (p.at (2 * i) + far (2 * i) by+ + u (2 * i)))

            there : (x : ℕ) → far (suc (2 * k)) x ≡ x
            there x = ap (λ (b : Bool). when b x) (eq-eqb (L (suc (2 * k))) (L (suc (2 * k))) refl)

            here : (x : ℕ) → far (2 * k) x ≡ 0
            here x = ap (λ (b : Bool). when b x) e

            over : (i : ℕ) → i < m → add S k i ≡ true → Over i
            over i h q =
                ⊎_elim
                (λ z. let tie : L (2 * i) ≡ L (suc (2 * i)) = g.ties i (g.only i z) in
                Z.shift (p.over i h z) (omega (arith, alike (2 * i) (suc (2 * i)) by+ tie, alike (2 * i) (suc (2 * i)) by_ tie)))
                (λ z. subst Over (sym (eqb-true i k z)) (Z.same (omega (arith, there by+, there by_, here by+, here by_))))
                (or_cases (S i) (eqb i k) q)

  -- values that fit across some edges
  module _ (next u u⁻ at at⁻ : ℕ → ℕ) (m : ℕ) (F : OneToOne next (2 * m)) (pairs : (d : ℕ) → d < 2 * m → Nil (u d + u (twin d)) (u⁻ d + u⁻ (twin d))) where
    abbrev w : ℕ → ℕ
    w = off u at at⁻

    abbrev w⁻ : ℕ → ℕ
    w⁻ = off u⁻ at⁻ at

    off_pair : (d : ℕ) → d < 2 * m → Nil (w d + w (twin d)) (w⁻ d + w⁻ (twin d))
    off_pair d l = Z.shift (pairs d l) (omega (arith, ap at (twin_twin d), ap at⁻ (twin_twin d)))

    pair : (i : ℕ) → i < m → Nil (w (2 * i) + w (suc (2 * i))) (w⁻ (2 * i) + w⁻ (suc (2 * i)))
    pair i l = Z.shift (off_pair (2 * i) (omega arith)) (omega (arith, ap w (twin_first i), ap w⁻ (twin_first i)))

    abbrev Fits : (ℕ → Bool) → Type 0
    Fits U = (d : ℕ) → d < 2 * m → U (d / 2) ≡ true → Nil (w d) (w⁻ d)

    -- over the orbits with the edges of U put in, the failures of these edges add to nothing
    abbrev Closed : (ℕ → Bool) → Type 0
    Closed U = (c : ℕ) → Nil (sum_along (2 * m) (lead_by next m U) c (within U w)) (sum_along (2 * m) (lead_by next m U) c (within U w⁻))

    -- edge k, whose darts are in one orbit of those that the edges of U give
    module _ (U : ℕ → Bool) (k : ℕ) (out : U k ≡ false) (l : k < m) (ring : Ring next m U k) where
      -- with edge k taken out
      closed_less : Closed (add U k) → Closed U
      closed_less closed c =
          Z.shift
          (Z.both
          (coarser_nil (2 * m) (lead_by next m (add U k)) (lead_by next m U) labels (put_finer next m F U k out l ring) (within (add U k) w) (within (add U k) w⁻) (λ r h. closed r) c)
          (when_nil (eqb c (lead_by next m U (2 * k))) (Z.back (pair k l))))
          (omega (arith, along_more U k out m l (lead_by next m U) ring c w, along_more U k out m l (lead_by next m U) ring c w⁻))
        where
          labels : Labels (lead_by next m (add U k)) (2 * m)
          labels = lead_labels (turn_by next (add U k)) (2 * m) (turn_one next m F (add U k))

      -- edge k fits, if the edges of U do: only one of its two darts is in the orbit
      new_fits : Closed (add U k) → Fits U → Nil (w (2 * k)) (w⁻ (2 * k))
      new_fits closed fits =
          Z.shift (Z.both (closed (L (2 * k))) (Z.back (sum_nil n (λ i. term i w + only i w⁻) (λ i. term i w⁻ + only i w) each)))
          (omega (arith, sum_add n (λ i. term i w) (λ i. only i w⁻), sum_add n (λ i. term i w⁻) (λ i. only i w), sum_at n (2 * k) w (omega arith), sum_at n (2 * k) w⁻ (omega arith)))
        where
          n : ℕ
          n = 2 * m

          L : ℕ → ℕ
          L = lead_by next m (add U k)

          term : ℕ → (ℕ → ℕ) → ℕ
          term i v = when (eqb (L (2 * k)) (L i)) (within (add U k) v i)

          only : ℕ → (ℕ → ℕ) → ℕ
          only i v = when (eqb i (2 * k)) (v i)

          each : (i : ℕ) → i < n → Nil (term i w + only i w⁻) (term i w⁻ + only i w)
          each i h =
              at_swap (2 * k) (suc (2 * k)) i
              (λ e. Z.same (omega (arith, first e w, first e w⁻, first_only e w, first_only e w⁻)))
              (λ e. Z.same (omega (arith, second e w, second e w⁻, no_only (omega arith) w, no_only (omega arith) w⁻)))
              (λ p q. Z.shift (when_nil (eqb (L (2 * k)) (L i)) (old (omega arith))) (omega (arith, no_only p w, no_only p w⁻)))
            where
              first : i ≡ 2 * k → (v : ℕ → ℕ) → term i v ≡ v i
              first e v =
                  ap (λ (b : Bool). when b (within (add U k) v i)) (eq-eqb (L (2 * k)) (L i) (ap L (sym e)))
                  ∙ ap (λ (b : Bool). when b (v i)) (add_there U k (i / 2) (omega arith))

              first_only : i ≡ 2 * k → (v : ℕ → ℕ) → only i v ≡ v i
              first_only e v = ap (λ (b : Bool). when b (v i)) (eq-eqb i (2 * k) e)

              second : i ≡ suc (2 * k) → (v : ℕ → ℕ) → term i v ≡ 0
              second e v =
                  ap (λ (b : Bool). when b (within (add U k) v i)) (ne_eqb (L (2 * k)) (L i) (λ q. put_parts next m F U k out l ring (q ∙ ap L e)))

              no_only : (i ≡ 2 * k → ⊥) → (v : ℕ → ℕ) → only i v ≡ 0
              no_only e v = ap (λ (b : Bool). when b (v i)) (ne_eqb i (2 * k) e)

              old : (i / 2 ≡ k → ⊥) → Nil (within (add U k) w i) (within (add U k) w⁻ i)
              old e = subst (λ (b : Bool). Nil (when b (w i)) (when b (w⁻ i))) (sym (add_other U k (i / 2) e)) (if_there (U (i / 2)) refl)
                where
                  if_there : (b : Bool) → U (i / 2) ≡ b → Nil (when b (w i)) (when b (w⁻ i))
                  if_there true q = fits i h q
                  if_there false q = Z.same refl

    -- edge after edge, where each gives one orbit more
    module _ (S : ℕ → Bool) (start_fits : Fits S) where
      abbrev Tight : (ℕ → Bool) → Type 0
      Tight U = orbits_by next m U + members S m ≡ orbits_by next m S + members U m

      all_fit : (k : ℕ) → k ≤ m → Tight (filled S k) → Closed (filled S k) → Fits (filled S k)
      all_fit zero l = λ tight closed. start_fits
      all_fit (suc k) l = by (S k) refl (all_fit k (omega arith))
        where
          U : ℕ → Bool
          U = filled S k

          by : (b : Bool) → S k ≡ b → (Tight U → Closed U → Fits U) → Tight (pick b U (add U k)) → Closed (pick b U (add U k)) → Fits (pick b U (add U k))
          by true e ih tight closed d h q = ih tight closed d h q
          by false e ih tight closed d h q = ⊎_elim (fits d h) (λ z. new (eqb-true (d / 2) k z)) (or_cases (U (d / 2)) (eqb (d / 2) k) q)
            where
              out : U k ≡ false
              out = filled_out S k e

              ring : Ring next m U k
              ring =
                  ⊎_elim (λ z. z) (λ z. absurd (omega (arith, put_apart next m F U k out l z, members_add U k m out l, filled_most next m F S k (omega arith))))
                  (equal_or_not (lead_by next m U (2 * k)) (lead_by next m U (suc (2 * k))))

              fits : Fits U
              fits = ih (omega (arith, put_ring next m F U k out l ring, members_add U k m out l)) (closed_less U k out l ring closed)

              first : Nil (w (2 * k)) (w⁻ (2 * k))
              first = new_fits U k out l ring closed fits

              second : Nil (w (suc (2 * k))) (w⁻ (suc (2 * k)))
              second = Z.shift (Z.both (pair k l) (Z.back first)) (omega arith)

              new : d / 2 ≡ k → Nil (w d) (w⁻ d)
              new z =
                  at_swap (2 * k) (suc (2 * k)) d (λ a. subst (λ (x : ℕ). Nil (w x) (w⁻ x)) (sym a) first) (λ b. subst (λ (x : ℕ). Nil (w x) (w⁻ x)) (sym b) second)
                  (λ a b. absurd (omega arith))

  -- a connected map with as many vertices and faces as the plane allows; around a vertex one goes across and on
  pub valued : (next t t⁻ u u⁻ : ℕ → ℕ) (m : ℕ) → OneToOne next (2 * m) → Connected next (2 * m)
      → orbits (turn next) (2 * m) + orbits next (2 * m) ≡ m + 2
      → ((d : ℕ) → d < 2 * m → Nil (u d + u (twin d)) (u⁻ d + u⁻ (twin d)))
      → ((d : ℕ) → d < 2 * m → Nil (sum_over (orbit next (2 * m) d) t) (sum_over (orbit next (2 * m) d) t⁻))
      → ((d : ℕ) → d < 2 * m → Nil (sum_over (orbit (turn next) (2 * m) d) (λ e. u e + t (twin e))) (sum_over (orbit (turn next) (2 * m) d) (λ e. u⁻ e + t⁻ (twin e))))
      → Valued Nil next t t⁻ u u⁻ (2 * m)
  valued next t t⁻ u u⁻ m F linked plane pairs faces posts =
      record { at = g.at; at⁻ = g.at⁻; onward = g.onward; across = λ d l. Z.shift (Z.back (fits d l (filled_has S m (d / 2) (omega arith)))) (omega arith) }
    where
      n : ℕ
      n = 2 * m

      S : ℕ → Bool
      S = tree next m m

      g : Fit Nil next t t⁻ u u⁻ m S
      g = tree_fit next t t⁻ u u⁻ m F faces m (le_refl m)

      T : OneToOne (turn next) n
      T = turn_one_to_one next m F

      L : ℕ → ℕ
      L = lead_in (turn next) n

      v : ℕ → ℕ
      v = off u g.at g.at⁻

      v⁻ : ℕ → ℕ
      v⁻ = off u⁻ g.at⁻ g.at

      tree_fits : (d : ℕ) → d < n → S (d / 2) ≡ true → Nil (v d) (v⁻ d)
      tree_fits d l = at_dart (λ x y. S (x / 2) ≡ true → Nil (v x) (v⁻ x)) m first second d l
        where
          first : (i : ℕ) → i < m → S (2 * i / 2) ≡ true → Nil (v (2 * i)) (v⁻ (2 * i))
          first i h e =
              Z.shift (Z.back (g.over i h (ap S (omega arith) ∙ e))) (omega (arith, ap g.at (twin_first i), ap g.at⁻ (twin_first i)))

          second : (i : ℕ) → i < m → S (suc (2 * i) / 2) ≡ true → Nil (v (suc (2 * i))) (v⁻ (suc (2 * i)))
          second i h e =
              Z.shift (Z.both (pair next u u⁻ g.at g.at⁻ m F pairs i h) (Z.back (first i h (ap S (omega arith) ∙ e)))) (omega arith)

      -- around a vertex the values come back, so the failures add to what the weights add to
      around : (r : ℕ) → r < n → Nil (sum_along n L r v) (sum_along n L r v⁻)
      around r l =
          Z.shift
          (Z.both (orbit_nil (turn next) n T (λ e. u e + t (twin e)) (λ e. u⁻ e + t⁻ (twin e)) posts r l)
          (along_nil n L r (λ i. v i + (u⁻ i + t⁻ (twin i) + (g.at⁻ i + g.at (turn next i)))) (λ i. v⁻ i + (u i + t (twin i) + (g.at i + g.at⁻ (turn next i)))) each))
          (omega (arith, parts v (λ i. u⁻ i + t⁻ (twin i)) g.at⁻ g.at, parts v⁻ (λ i. u i + t (twin i)) g.at g.at⁻))
        where
          each : (i : ℕ) → i < n → Nil (v i + (u⁻ i + t⁻ (twin i) + (g.at⁻ i + g.at (turn next i)))) (v⁻ i + (u i + t (twin i) + (g.at i + g.at⁻ (turn next i))))
          each i h = Z.shift (g.onward (twin i) (twin_below m i h)) (omega arith)

          parts : (a b c d : ℕ → ℕ) → sum_along n L r (λ i. a i + (b i + (c i + d (turn next i)))) ≡ sum_along n L r a + (sum_along n L r b + (sum_along n L r c + sum_along n L r d))
          parts a b c d =
              omega (arith, along_add n L r a (λ i. b i + (c i + d (turn next i))), along_add n L r b (λ i. c i + d (turn next i)), along_add n L r c (λ i. d (turn next i)), along_next (turn next) n T d r)

      closed : (c : ℕ) → Nil (sum_along n (lead_by next m (filled S m)) c (within (filled S m) v)) (sum_along n (lead_by next m (filled S m)) c (within (filled S m) v⁻))
      closed =
          coarser_nil n L (lead_by next m (filled S m)) (lead_labels (turn next) n T)
          (lead_finer (turn next) n T (lead_by next m (filled S m))
          (λ x l. ap (lead_by next m (filled S m)) (sym (filled_turn next m F S x l)) ∙ lead_next (turn_by next (filled S m)) n (turn_one next m F (filled S m)) x l))
          (within (filled S m) v) (within (filled S m) v⁻)
          (λ r l. Z.shift (around r l) (omega (arith, along_same n L r (within (filled S m) v) v (everywhere v), along_same n L r (within (filled S m) v⁻) v⁻ (everywhere v⁻))))
        where
          everywhere : (a : ℕ → ℕ) (i : ℕ) → i < n → within (filled S m) a i ≡ a i
          everywhere a i h = ap (λ (b : Bool). when b (a i)) (filled_has S m (i / 2) (omega arith))

      fits : (d : ℕ) → d < n → filled S m (d / 2) ≡ true → Nil (v d) (v⁻ d)
      fits =
          all_fit next u u⁻ g.at g.at⁻ m F pairs S tree_fits m (le_refl m)
          (omega (arith, vertices next m F S, all_filled next m F S, (grown next m F m (le_refl m)).size, whole_orbits next m F linked, filled_most next m F S m (le_refl m)))
          closed
