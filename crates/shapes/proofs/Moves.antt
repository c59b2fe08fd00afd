-- Units moved from face to face across strips: between any two faces, as many as wanted.
use mathlib.Core.Path.{◌≡◌, refl, sym, ap, subst, ◌∙◌}
use mathlib.Core.Bool.{Bool, true}
use mathlib.Core.List.{List, [], ◌∷◌}
use Prim.Native.Nat.{ℕ, zero, suc, ◌+◌, ◌<◌}
use native.Mathlib.Omega.{arith}
use borrow.Author.Tests.{eqb-true, eq-eqb}
use lib.Dec.{eqb}
use lib.ListN.{length, get_or}
use Rattle.finite.proofs.Sums.{when_add, when_swap, when_zero, sum_over, sum_cong, sum_at, sum_over_cong}
use Rattle.finite.proofs.Tests.{same_test, eqb_turned}
use Rattle.embedding.specs.Plates.{when, Plate, darts, twin, leaves, face_of, faces, connected}
use Rattle.embedding.proofs.Rotation.{Ordered, twin_twin, twin_dart, after_below}
use Rattle.embedding.proofs.Dual.{dual_spreads}
use Rattle.embedding.specs.Read.{face_number}
use Rattle.shapes.proofs.Places.{index_sum, index_after, index_of_lead, face_below_darts}

pub over_add : (ds : List ℕ) (f g : ℕ → ℕ) → sum_over ds (λ d. f d + g d) ≡ sum_over ds f + sum_over ds g
over_add [] f g = refl
over_add (d ∷ ds) f g = omega (arith, over_add ds f g)

eqb_twin : (d e : ℕ) → eqb (twin d) e ≡ eqb d (twin e)
eqb_twin d e =
    same_test (eqb (twin d) e) (eqb d (twin e)) (λ h. eq-eqb d (twin e) (sym (twin_twin d) ∙ ap twin (eqb-true (twin d) e h))) (λ h. eq-eqb (twin d) e (ap twin (eqb-true d (twin e) h) ∙ twin_twin e))

-- what leaves the i-th face and what comes to it, of units by dart
abbrev pub goes : Plate → (ℕ → ℕ) → ℕ → ℕ
goes p z i = sum_over (face_of p (get_or (faces p) i 0)) z

abbrev pub comes : Plate → (ℕ → ℕ) → ℕ → ℕ
comes p z i = sum_over (face_of p (get_or (faces p) i 0)) (λ d. z (twin d))

-- n units from one face to another
pub record Moves (p : Plate) (from to n : ℕ) : Type 0 where
  pub by : ℕ → ℕ
  pub kept : (i : ℕ) → i < length (faces p) → goes p by i + when (eqb i to) n ≡ comes p by i + when (eqb i from) n

module _ (p : Plate) where
  pub stay : (j n : ℕ) → Moves p j j n
  stay j n = record { by = λ d. 0; kept = λ i l. refl }

  -- one after the other
  pub onward : (j k l n : ℕ) → Moves p j k n → Moves p k l n → Moves p j l n
  onward j k l n a b = record {
    by = λ d. a.by d + b.by d;
    kept = λ i h. omega (arith, over_add (face_of p (get_or (faces p) i 0)) a.by b.by, over_add (face_of p (get_or (faces p) i 0)) (λ d. a.by (twin d)) (λ d. b.by (twin d)), a.kept i h, b.kept i h);
  }

  pub turned : (j k n : ℕ) → Moves p j k n → Moves p k j n
  turned j k n a = record {
    by = λ d. a.by (twin d);
    kept = λ i h. omega (arith, a.kept i h, sum_over_cong (face_of p (get_or (faces p) i 0)) (λ d. a.by (twin (twin d))) a.by (λ d. ap a.by (twin_twin d)));
  }

  pub many : (j k : ℕ) → Moves p j k 1 → (n : ℕ) → Moves p j k n
  many j k a zero = record { by = λ d. 0; kept = λ i l. omega (arith, when_zero (eqb i j), when_zero (eqb i k)) }
  many j k a (suc n) =
      let b = many j k a n in
      record {
        by = λ d. a.by d + b.by d;
        kept = λ i h. omega (
          arith,
          over_add (face_of p (get_or (faces p) i 0)) a.by b.by,
          over_add (face_of p (get_or (faces p) i 0)) (λ d. a.by (twin d)) (λ d. b.by (twin d)),
          a.kept i h,
          b.kept i h,
          one_more i j n,
          one_more i k n,
        );
      }
    where
      one_more : (i j n : ℕ) → when (eqb i j) (suc n) ≡ when (eqb i j) 1 + when (eqb i j) n
      one_more i j n = let q : suc n ≡ 1 + n = omega arith in ap (when (eqb i j)) q ∙ when_add (eqb i j) 1 n

module _ (p : Plate) (o : Ordered p) where
  -- a unit on one dart
  unit_at : (d : ℕ) → d < darts p → (i : ℕ) → i < length (faces p) → sum_over (face_of p (get_or (faces p) i 0)) (λ e. when (eqb e d) 1) ≡ when (eqb i (face_number p d)) 1
  unit_at d l i k =
      sym (index_sum p o i k (λ e. when (eqb e d) 1))
      ∙ sum_cong (darts p) (λ e. when (eqb (face_number p e) i) (when (eqb e d) 1)) (λ e. when (eqb e d) (when (eqb (face_number p e) i) 1)) (λ e h. when_swap (eqb (face_number p e) i) (eqb e d) 1)
      ∙ sum_at (darts p) d (λ e. when (eqb (face_number p e) i) 1) l
      ∙ ap (λ (b : Bool). when b 1) (eqb_turned (face_number p d) i)

  across : (d : ℕ) → d < darts p → Moves p (face_number p d) (face_number p (twin d)) 1
  across d l = record { by = λ e. when (eqb e d) 1; kept = λ i h. omega (arith, unit_at d l i h, unit_at (twin d) (twin_dart p o d l) i h, over i) }
    where
      over : (i : ℕ) → comes p (λ e. when (eqb e d) 1) i ≡ goes p (λ e. when (eqb e (twin d)) 1) i
      over i = sum_over_cong (face_of p (get_or (faces p) i 0)) (λ e. when (eqb (twin e) d) 1) (λ e. when (eqb e (twin d)) 1) (λ e. ap (λ (b : Bool). when b 1) (eqb_twin e d))

  -- from the face of a dart of post 0 to each face
  module _ (c : connected p ≡ true) (r : ℕ) (r-dart : r < darts p) (r-first : leaves p r ≡ 0) where
    to_dart : (e : ℕ) → e < darts p → Moves p (face_number p r) (face_number p e) 1
    to_dart =
        dual_spreads p o (λ e. Moves p (face_number p r) (face_number p e) 1)
        (λ d l m. subst (λ (k : ℕ). Moves p (face_number p r) k 1) (sym (index_after p o d l (after_below p o d l))) m)
        (λ d l m. onward p (face_number p r) (face_number p d) (face_number p (twin d)) 1 m (across d l))
        c r r-dart r-first (stay p (face_number p r) 1)

    pub to_face : (n i : ℕ) → i < length (faces p) → Moves p (face_number p r) i n
    to_face n i l = subst (λ (k : ℕ). Moves p (face_number p r) k n) (index_of_lead p o i l) (many p _ _ (to_dart (get_or (faces p) i 0) (face_below_darts p o i l)) n)
