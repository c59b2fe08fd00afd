-- What the faces of a plate supply and take together.
use mathlib.Core.Path.{◌≡◌, refl, sym, ap, ◌∙◌}
use mathlib.Core.Bool.{Bool, true, false}
use mathlib.Core.List.{List, [], ◌∷◌}
use Prim.Native.Nat.{ℕ, zero, suc, ◌+◌, ◌*◌, ◌≤◌, ◌<◌}
use native.Mathlib.Omega.{arith}
use lib.Dec.{eqb}
use lib.ListN.{length, get_or}
use Rattle.finite.proofs.Members.{in_none}
use Rattle.finite.proofs.Sums.{sum_below, sum_cong, sum_add, sum_at, sum_over_places, sum_constant}
use Rattle.finite.proofs.Tests.{eqb_turned}
use Rattle.embedding.specs.Plates.{pick, when, is_in, Plate, darts, face_of, faces}
use Rattle.embedding.proofs.Rotation.{Ordered}
use Rattle.embedding.proofs.Faces.{face_start, faces_degrees}
use Rattle.embedding.proofs.Faultless.{Faultless}
use Rattle.shapes.specs.NetworkOf.{is_outer, face_supply, face_demand}
use Rattle.embedding.specs.Read.{face_number}
use Rattle.shapes.proofs.Places.{index_below, index_test, face_below_darts}

sum_twice : (n : ℕ) (g : ℕ → ℕ) → sum_below n (λ i. 2 * g i) ≡ 2 * sum_below n g
sum_twice zero g = refl
sum_twice (suc n) g = omega (arith, sum_twice n (λ i. g (suc i)))

supply_rest : (b : Bool) → pick b 0 4 + when b 4 ≡ 4
supply_rest true = refl
supply_rest false = refl

demand_rest : (b : Bool) → pick b 4 0 ≡ when b 4
demand_rest true = refl
demand_rest false = refl

in_long : (x : ℕ) (xs : List ℕ) → is_in x xs ≡ true → 1 ≤ length xs
in_long x [] e = absurd (in_none x e)
in_long x (y ∷ ys) e = omega arith

module _ (p : Plate) (o : Ordered p) where
  -- a dart is in one face
  pub one_place : (d c : ℕ) → d < darts p → sum_below (length (faces p)) (λ i. when (is_in d (face_of p (get_or (faces p) i 0))) c) ≡ c
  one_place d c l =
      sum_cong (length (faces p)) (λ i. when (is_in d (face_of p (get_or (faces p) i 0))) c) (λ i. when (eqb i (face_number p d)) c)
      (λ i k. ap (λ (b : Bool). when b c) (sym (index_test p o d l i k) ∙ eqb_turned (face_number p d) i))
      ∙ sum_at (length (faces p)) (face_number p d) (λ i. c) (index_below p o d l)

  pub face_some : (i : ℕ) → i < length (faces p) → 1 ≤ length (face_of p (get_or (faces p) i 0))
  face_some i l = let d = get_or (faces p) i 0 in in_long d (face_of p d) (face_start p o d (face_below_darts p o i l))

  module _ (f : Faultless p) where
    abbrev F : ℕ
    F = length (faces p)

    abbrev outer : ℕ → Bool
    outer i = is_outer p (get_or (faces p) i 0)

    one_outer : sum_below F (λ i. when (outer i) 4) ≡ 4
    one_outer = one_place p.outer 4 f.outer_dart

    -- four from each but the outer
    pub faces_supply : sum_below F (λ i. face_supply p (get_or (faces p) i 0)) + 4 ≡ 4 * F
    faces_supply =
        omega (
          arith,
          one_outer,
          sum_add F (λ i. face_supply p (get_or (faces p) i 0)) (λ i. when (outer i) 4),
          sum_constant F 4,
          sum_cong F (λ i. face_supply p (get_or (faces p) i 0) + when (outer i) 4) (λ i. 4) (λ i l. supply_rest (outer i)),
        )

    -- two to each of their darts, and four to the outer
    pub faces_demand : sum_below F (λ i. face_demand p (get_or (faces p) i 0)) ≡ 2 * darts p + 4
    faces_demand =
        let long : ℕ → ℕ = λ i. length (face_of p (get_or (faces p) i 0)) in
        omega (
          arith,
          one_outer,
          sum_cong F (λ i. face_demand p (get_or (faces p) i 0)) (λ i. 2 * long i + when (outer i) 4) (λ i l. ap (λ (k : ℕ). 2 * long i + k) (demand_rest (outer i))),
          sum_add F (λ i. 2 * long i) (λ i. when (outer i) 4),
          sum_twice F long,
          faces_degrees p o,
          sum_over_places (faces p) (λ d. length (face_of p d)),
        )
