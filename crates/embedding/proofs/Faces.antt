-- Faces: each dart lies in one face, so a sum over the faces of sums over their darts is one over all darts.
use mathlib.Core.Path.{◌≡◌, refl, sym, ap, subst, ◌∙◌, fun_ext}
use mathlib.Core.Bool.{Bool, true, false, ◌&&◌}
use mathlib.Core.List.{List, [], ◌∷◌, ◌++◌}
use mathlib.Core.Logic.{⊎_elim}
use Prim.Native.Nat.{ℕ, zero, suc, ◌+◌, ◌≤◌, ◌<◌, zero-le}
use native.Mathlib.Omega.{arith}
use native.Mathlib.Nat.{zero-add}
use borrow.Author.Tests.{eqb-true}
use lib.Dec.{eqb}
use lib.ListN.{length}
use Rattle.finite.specs.Walks.{walk, orbit, lowest}
use Rattle.finite.proofs.Members.{in_none, in_here, in_one, in_append, in_left, in_right, distinct_more}
use Rattle.finite.proofs.Orbit.{orbit_same, lead_same, lead_lowest, leads, orbits_sum, orbit_distinct, orbit_below, orbit_all_below, orbit_closes, orbit_start, orbit_next, orbit_back, orbit_sum, orbit_sym, lead-in, lead_le}
use Rattle.finite.proofs.Sums.{sum_below, sum_over, sum_cong, sum_ones, sum_from, sum_over_append, sum_over_ones, sum_over_cong}
use Rattle.finite.proofs.Tests.{equal_or_not, not_true_false, and_both}
use Rattle.embedding.specs.Plates.{pick, when, is_in, Plate, darts, distinct, all_below, last_of, after, walk_from, face_of, is_lowest, faces_from, faces}
pub use Rattle.embedding.specs.Read.{lead}
use Rattle.embedding.proofs.Rotation.{Ordered, after_one_to_one}

picked_sum : (b : Bool) (d : ℕ) (h : ℕ → ℕ) → sum_over (pick b (d ∷ []) []) h ≡ when b (h d)
picked_sum true d h = omega arith
picked_sum false d h = refl

picked_in : (b : Bool) (x d : ℕ) → is_in x (pick b (d ∷ []) []) ≡ true → (b ≡ true) × (x ≡ d)
picked_in true x d e = (refl, in_one x d e)
picked_in false x d e = absurd (in_none x e)

in_picked : (b : Bool) (d : ℕ) → b ≡ true → is_in d (pick b (d ∷ []) []) ≡ true
in_picked b d e = subst (λ (c : Bool). is_in d (pick c (d ∷ []) []) ≡ true) (sym e) (in_here d [])

distinct_picked : (b : Bool) (d : ℕ) (ds : List ℕ) → is_in d ds ≡ false → distinct ds ≡ true → distinct (pick b (d ∷ []) [] ++ ds) ≡ true
distinct_picked true d ds e h = distinct_more d ds e h
distinct_picked false d ds e h = h

module _ (p : Plate) where
  walk_is : (k s d : ℕ) → walk_from k p s d ≡ walk (after p) k s d
  walk_is zero s d = refl
  walk_is (suc k) s d = ap (λ (r : List ℕ). d ∷ elim (eqb (after p d) s) as (λ b. List ℕ) [ true ↦ [] | false ↦ r ]) (walk_is k s (after p d))

  pub face_is : face_of p ≡ orbit (after p) (darts p)
  face_is = fun_ext (λ d. walk_is (darts p) d d)

  -- a sum over the faces, one for each lowest dart
  pub sum_over_faces : (h : ℕ → ℕ) → sum_over (faces p) h ≡ sum_below (darts p) (λ d. when (is_lowest d (face_of p d)) (h d))
  sum_over_faces h =
      sum_from (λ n a. sum_over (faces_from n a p) h) lowest_only (λ a. refl)
      (λ n a. sum_over_append (pick (is_lowest a (face_of p a)) (a ∷ []) []) (faces_from n (suc a) p) h ∙ ap (λ (s : ℕ). s + sum_over (faces_from n (suc a) p) h) (picked_sum (is_lowest a (face_of p a)) a h))
      (darts p) 0
      ∙ sum_cong (darts p) (λ i. lowest_only (0 + i)) lowest_only (λ i l. ap lowest_only (zero-add i))
    where
      lowest_only : ℕ → ℕ
      lowest_only d = when (is_lowest d (face_of p d)) (h d)

  pub from_in : (n a x : ℕ) → is_in x (faces_from n a p) ≡ true → (a ≤ x) × (x < a + n) × (is_lowest x (face_of p x) ≡ true)
  from_in zero a x e = absurd (in_none x e)
  from_in (suc n) a x e = ⊎_elim here (λ z. later (from_in n (suc a) x z)) (in_append x (pick (is_lowest a (face_of p a)) (a ∷ []) []) (faces_from n (suc a) p) e)
    where
      here : is_in x (pick (is_lowest a (face_of p a)) (a ∷ []) []) ≡ true → (a ≤ x) × (x < a + suc n) × (is_lowest x (face_of p x) ≡ true)
      here z =
          let q = picked_in (is_lowest a (face_of p a)) x a z in
          (omega arith, omega arith, subst (λ (y : ℕ). is_lowest y (face_of p y) ≡ true) (sym q.1) q.0)

      later : (suc a ≤ x) × (x < suc a + n) × (is_lowest x (face_of p x) ≡ true) → (a ≤ x) × (x < a + suc n) × (is_lowest x (face_of p x) ≡ true)
      later h = (omega arith, omega arith, h.2)

  in_from : (n a x : ℕ) → a ≤ x → x < a + n → is_lowest x (face_of p x) ≡ true → is_in x (faces_from n a p) ≡ true
  in_from zero a x l k h = absurd (omega arith)
  in_from (suc n) a x l k h =
      ⊎_elim (λ q. in_left x (pick (is_lowest a (face_of p a)) (a ∷ []) []) (faces_from n (suc a) p) (here q))
      (λ q. in_right x (pick (is_lowest a (face_of p a)) (a ∷ []) []) (faces_from n (suc a) p) (in_from n (suc a) x (omega arith) (omega arith) h))
      (equal_or_not x a)
    where
      here : x ≡ a → is_in x (pick (is_lowest a (face_of p a)) (a ∷ []) []) ≡ true
      here q = subst (λ (y : ℕ). is_in x (pick (is_lowest y (face_of p y)) (y ∷ []) []) ≡ true) q (in_picked (is_lowest x (face_of p x)) x h)

  from_distinct : (n a : ℕ) → distinct (faces_from n a p) ≡ true
  from_distinct zero a = refl
  from_distinct (suc n) a =
      distinct_picked (is_lowest a (face_of p a)) a (faces_from n (suc a) p)
      (not_true_false (is_in a (faces_from n (suc a) p)) (λ e. omega (arith, (from_in n (suc a) a e).0)))
      (from_distinct n (suc a))

  -- the list of faces: each lowest dart once
  pub faces_distinct : distinct (faces p) ≡ true
  faces_distinct = from_distinct (darts p) 0

  pub faces_below : (d : ℕ) → is_in d (faces p) ≡ true → d < darts p
  faces_below d e = omega (arith, (from_in (darts p) 0 d e).1)

  pub faces_lowest : (d : ℕ) → is_in d (faces p) ≡ true → is_lowest d (face_of p d) ≡ true
  faces_lowest d e = (from_in (darts p) 0 d e).2

  pub lowest_faces : (d : ℕ) → d < darts p → is_lowest d (face_of p d) ≡ true → is_in d (faces p) ≡ true
  lowest_faces d l h = in_from (darts p) 0 d zero-le (omega arith) h

module _ (p : Plate) (o : Ordered p) where
  -- what holds of orbits holds of faces
  by_orbit : (S : (ℕ → List ℕ) → Type 0) → S (orbit (after p) (darts p)) → S (face_of p)
  by_orbit S = subst S (sym (face_is p))

  module _ (d : ℕ) (l : d < darts p) where
    pub face_start : is_in d (face_of p d) ≡ true
    face_start = by_orbit (λ F. is_in d (F d) ≡ true) (orbit_start (after p) (darts p) (after_one_to_one p o) d l)

    pub face_distinct : distinct (face_of p d) ≡ true
    face_distinct = by_orbit (λ F. distinct (F d) ≡ true) (orbit_distinct (after p) (darts p) (after_one_to_one p o) d l)

    pub face_below : (x : ℕ) → is_in x (face_of p d) ≡ true → x < darts p
    face_below = by_orbit (λ F. (x : ℕ) → is_in x (F d) ≡ true → x < darts p) (orbit_below (after p) (darts p) (after_one_to_one p o) d l)

    pub face_all_below : all_below (darts p) (face_of p d) ≡ true
    face_all_below = by_orbit (λ F. all_below (darts p) (F d) ≡ true) (orbit_all_below (after p) (darts p) (after_one_to_one p o) d l)

    pub face_closes : after p (last_of (face_of p d)) ≡ d
    face_closes = by_orbit (λ F. after p (last_of (F d)) ≡ d) (orbit_closes (after p) (darts p) (after_one_to_one p o) d l)

    pub face_next : (x : ℕ) → is_in x (face_of p d) ≡ true → is_in (after p x) (face_of p d) ≡ true
    face_next = by_orbit (λ F. (x : ℕ) → is_in x (F d) ≡ true → is_in (after p x) (F d) ≡ true) (orbit_next (after p) (darts p) (after_one_to_one p o) d l)

    pub face_back : (x : ℕ) → x < darts p → is_in (after p x) (face_of p d) ≡ true → is_in x (face_of p d) ≡ true
    face_back =
        by_orbit (λ F. (x : ℕ) → x < darts p → is_in (after p x) (F d) ≡ true → is_in x (F d) ≡ true) (orbit_back (after p) (darts p) (after_one_to_one p o) d l)

    pub face_sum : (g : ℕ → ℕ) → sum_over (face_of p d) g ≡ sum_below (darts p) (λ i. when (is_in i (face_of p d)) (g i))
    face_sum =
        by_orbit (λ F. (g : ℕ → ℕ) → sum_over (F d) g ≡ sum_below (darts p) (λ i. when (is_in i (F d)) (g i))) (orbit_sum (after p) (darts p) (after_one_to_one p o) d l)

    pub lead_in_face : is_in (lead p d) (face_of p d) ≡ true
    lead_in_face = by_orbit (λ F. is_in (lowest d (F d)) (F d) ≡ true) (lead-in (after p) (darts p) (after_one_to_one p o) d l)

    pub lead_dart : lead p d < darts p
    lead_dart = face_below (lead p d) lead_in_face

    pub lead_least : (x : ℕ) → is_in x (face_of p d) ≡ true → lead p d ≤ x
    lead_least = by_orbit (λ F. (x : ℕ) → is_in x (F d) ≡ true → lowest d (F d) ≤ x) (lead_le (after p) (darts p) (after_one_to_one p o) d l)

    pub lead_in_faces : is_in (lead p d) (faces p) ≡ true
    lead_in_faces =
        lowest_faces p (lead p d) lead_dart (by_orbit (λ F. is_lowest (lowest d (F d)) (F (lowest d (F d))) ≡ true) (lead_lowest (after p) (darts p) (after_one_to_one p o) d l))

    -- e lies in d's face
    module _ (e : ℕ) (h : is_in e (face_of p d) ≡ true) where
      h_orbit : is_in e (orbit (after p) (darts p) d) ≡ true
      h_orbit = subst (λ (F : ℕ → List ℕ). is_in e (F d) ≡ true) (face_is p) h

      pub face_sym : is_in d (face_of p e) ≡ true
      face_sym = by_orbit (λ F. is_in d (F e) ≡ true) (orbit_sym (after p) (darts p) (after_one_to_one p o) d e l h_orbit)

      pub face_same : (x : ℕ) → is_in x (face_of p d) ≡ is_in x (face_of p e)
      face_same = by_orbit (λ F. (x : ℕ) → is_in x (F d) ≡ is_in x (F e)) (orbit_same (after p) (darts p) (after_one_to_one p o) d e l h_orbit)

      pub lead_of_face : lead p e ≡ lead p d
      lead_of_face = by_orbit (λ F. lowest e (F e) ≡ lowest d (F d)) (lead_same (after p) (darts p) (after_one_to_one p o) d e l h_orbit)

  -- the one face of a dart is that of its lead
  pub lead_face : (e : ℕ) → e < darts p → is_in e (face_of p (lead p e)) ≡ true
  lead_face e l = face_sym e l (lead p e) (lead_in_face e l)

  pub face_lead : (d e : ℕ) → e < darts p → is_in d (faces p) ≡ true → is_in e (face_of p d) ≡ true → d ≡ lead p e
  face_lead d e k i h =
      eqb-true d (lead p e)
      (sym (by_orbit (λ F. is_lowest d (F d) && is_in e (F d) ≡ eqb d (lowest e (F e))) (leads (after p) (darts p) (after_one_to_one p o) d e (faces_below p d i) k))
      ∙ and_both (is_lowest d (face_of p d)) (is_in e (face_of p d)) (faces_lowest p d i) h)

  -- darts with one lead are in one face
  pub same_face : (d e : ℕ) → d < darts p → e < darts p → lead p e ≡ lead p d → is_in e (face_of p d) ≡ true
  same_face d e l k q = face_same d l (lead p d) (lead_in_face d l) e ∙ subst (λ (u : ℕ). is_in e (face_of p u) ≡ true) q (lead_face e k)

  -- each dart lies in one face
  pub faces_sum : (g : ℕ → ℕ) → sum_over (faces p) (λ d. sum_over (face_of p d) g) ≡ sum_below (darts p) g
  faces_sum g =
      sum_over_faces p (λ d. sum_over (face_of p d) g)
      ∙ by_orbit (λ F. sum_below (darts p) (λ d. when (is_lowest d (F d)) (sum_over (F d) g)) ≡ sum_below (darts p) g) (orbits_sum (after p) (darts p) (after_one_to_one p o) g)

  pub faces_degrees : sum_over (faces p) (λ d. length (face_of p d)) ≡ darts p
  faces_degrees =
      sum_over_cong (faces p) (λ d. length (face_of p d)) (λ d. sum_over (face_of p d) (λ i. 1)) (λ d. sym (sum_over_ones (face_of p d)))
      ∙ faces_sum (λ i. 1) ∙ sum_ones (darts p)
