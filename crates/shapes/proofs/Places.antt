-- The place of a dart's face among the faces.
use mathlib.Core.Path.{◌≡◌, refl, sym, ap, subst, ◌∙◌}
use mathlib.Core.Bool.{Bool, true}
use mathlib.Core.List.{List, [], ◌∷◌}
use Prim.Native.Nat.{ℕ, zero, suc, ◌<◌}
use native.Mathlib.Nat.{le_of_suc-le-suc}
use native.Mathlib.Omega.{arith}
use borrow.Author.Tests.{eqb-true, eq-eqb}
use lib.Dec.{eqb}
use lib.ListN.{length, get_or}
use Rattle.finite.proofs.Members.{distinct_head, distinct_rest, get_d_in}
use Rattle.finite.proofs.Sums.{sum_below, sum_over, sum_cong}
use Rattle.finite.proofs.Tests.{not_both, same_test}
use Rattle.embedding.specs.Plates.{when, is_in, distinct, Plate, darts, after, face_of, faces}
use Rattle.embedding.proofs.Rotation.{Ordered}
use Rattle.embedding.proofs.Faces.{faces_below, faces_distinct, face_start, face_next, face_sum, lead_face, face_lead}
use Rattle.embedding.specs.Read.{face_number}
use Rattle.embedding.proofs.Answers.{number_below, number_lead}

-- distinct numbers stand at distinct places
distinct_places : (xs : List ℕ) → distinct xs ≡ true → (i j : ℕ) → i < length xs → j < length xs → get_or xs i 0 ≡ get_or xs j 0 → i ≡ j
distinct_places [] d i j l k e = absurd (omega arith)
distinct_places (x ∷ xs) d zero zero l k e = refl
distinct_places (x ∷ xs) d zero (suc j) l k e = absurd (not_both (subst (λ (z : ℕ). is_in z xs ≡ true) (sym e) (get_d_in xs j (le_of_suc-le-suc k))) (distinct_head x xs d))
distinct_places (x ∷ xs) d (suc i) zero l k e = absurd (not_both (subst (λ (z : ℕ). is_in z xs ≡ true) e (get_d_in xs i (le_of_suc-le-suc l))) (distinct_head x xs d))
distinct_places (x ∷ xs) d (suc i) (suc j) l k e = ap suc (distinct_places xs (distinct_rest x xs d) i j (le_of_suc-le-suc l) (le_of_suc-le-suc k) e)

module _ (p : Plate) (o : Ordered p) where
  -- the i-th face
  abbrev face : ℕ → List ℕ
  face i = face_of p (get_or (faces p) i 0)

  module _ (d : ℕ) (l : d < darts p) where
    pub index_below : face_number p d < length (faces p)
    index_below = number_below p o d l

    pub index_test : (i : ℕ) → i < length (faces p) → eqb (face_number p d) i ≡ is_in d (face i)
    index_test i k =
        same_test (eqb (face_number p d) i) (is_in d (face i))
        (λ e. subst (λ (g : ℕ). is_in d (face_of p g) ≡ true) (sym (number_lead p o d l) ∙ ap (λ (j : ℕ). get_or (faces p) j 0) (eqb-true (face_number p d) i e)) (lead_face p o d l))
        (λ e. eq-eqb (face_number p d) i (distinct_places (faces p) (faces_distinct p) (face_number p d) i index_below k
        (number_lead p o d l ∙ sym (face_lead p o (get_or (faces p) i 0) d l (get_d_in (faces p) i k) e))))

    pub index_in : is_in d (face (face_number p d)) ≡ true
    index_in = sym (index_test (face_number p d) index_below) ∙ eq-eqb (face_number p d) (face_number p d) refl

  pub face_below_darts : (i : ℕ) → i < length (faces p) → get_or (faces p) i 0 < darts p
  face_below_darts i l = faces_below p (get_or (faces p) i 0) (get_d_in (faces p) i l)

  pub index_after : (d : ℕ) → d < darts p → after p d < darts p → face_number p (after p d) ≡ face_number p d
  index_after d l k =
      let i : ℕ = face_number p d in
      eqb-true (face_number p (after p d)) i (index_test (after p d) k i (index_below d l) ∙ face_next p o (get_or (faces p) i 0) (face_below_darts i (index_below d l)) d (index_in d l))

  pub index_of_lead : (i : ℕ) → i < length (faces p) → face_number p (get_or (faces p) i 0) ≡ i
  index_of_lead i l =
      let d = get_or (faces p) i 0 in
      eqb-true (face_number p d) i (index_test d (face_below_darts i l) i l ∙ face_start p o d (face_below_darts i l))

  -- a sum over the darts whose face is the i-th
  pub index_sum : (i : ℕ) → i < length (faces p) → (g : ℕ → ℕ) → sum_below (darts p) (λ d. when (eqb (face_number p d) i) (g d)) ≡ sum_over (face i) g
  index_sum i l g =
      sum_cong (darts p) (λ d. when (eqb (face_number p d) i) (g d)) (λ d. when (is_in d (face i)) (g d)) (λ d k. ap (λ (b : Bool). when b (g d)) (index_test d k i l))
      ∙ sym (face_sum p o (get_or (faces p) i 0) (face_below_darts i l) g)
