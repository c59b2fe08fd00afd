-- The verdict from what was summed: the tests of the sums are those of the posts and of the faces.
use mathlib.Core.Path.{◌≡◌, refl, sym, ap, ◌∙◌}
use mathlib.Core.Bool.{Bool}
use mathlib.Core.List.{List}
use Prim.Native.Nat.{ℕ, zero, suc, ◌+◌, ◌<◌}
use native.Mathlib.Omega.{arith}
use lib.Dec.{eqb}
use lib.ListN.{length, get_or}
use Rattle.finite.specs.Tables.{Table}
use Rattle.finite.proofs.Tests.{same_test, eqb_turned, from_each, each_from, over_each, each_over}
use Rattle.embedding.specs.Plates.{is_in, Plate, darts, twin, faces, face_of}
use Rattle.embedding.specs.Read.{meant, face_number}
use Rattle.embedding.specs.declared.Plate.{Plate as Held}
use Rattle.shapes.specs.Shapes.{angle_sum, posts_ok, plus_side, minus_side, face_ok, faces_ok, shape_of}
use Rattle.shapes.specs.Judge.{post_angles, face_plus, face_minus, all_four, turns_ok, all_turn}
use Rattle.embedding.proofs.Rotation.{Ordered}
use Rattle.shapes.proofs.Accepted.{ordered}
use Rattle.shapes.proofs.HeldPlate.{few_posts, few_faces, ends_are, faces_are, outer_below}
use Rattle.shapes.proofs.Places.{index_test}
use Rattle.shapes.proofs.Sides.{plus_group, minus_group, angle_group}

fours : (p : Plate) (al sums : List ℕ) (n v : ℕ) → ((i : ℕ) → i < v + n → get_or sums i 0 ≡ angle_sum (darts p) 0 p i al) → all_four n v sums ≡ posts_ok n v p al
fours p al sums zero v h = refl
fours p al sums (suc n) v h = cc (h v (omega arith), fours p al sums n (suc v) (λ i l. h i (omega arith)))

-- a test counted up from 0 and a test over a list
turns : (p : Plate) (al : List ℕ) (ws : List (List Bool)) (ds : List ℕ) (outer : ℕ) (plus minus : List ℕ)
    → ((i : ℕ) → i < length ds → turns_ok (eqb i outer) (get_or plus i 0) (get_or minus i 0) ≡ face_ok p al ws (get_or ds i 0))
    → all_turn (length ds) 0 outer plus minus ≡ faces_ok p al ws ds
turns p al ws ds outer plus minus h =
    same_test (all_turn (length ds) 0 outer plus minus) (faces_ok p al ws ds)
    (λ e. each_over (faces_ok p al ws) (face_ok p al ws) refl (λ x xs. refl) ds (λ i l. sym (h i l) ∙ from_each counted here (λ b. refl) (λ n b. refl) (length ds) 0 e i (omega arith) (omega arith)))
    (λ e. each_from counted here (λ b. refl) (λ n b. refl) (length ds) 0 (λ i k l. h i (omega arith) ∙ over_each (faces_ok p al ws) (face_ok p al ws) refl (λ x xs. refl) ds e i (omega arith)))
  where
    counted : ℕ → ℕ → Bool
    counted n k = all_turn n k outer plus minus

    here : ℕ → Bool
    here k = turns_ok (eqb k outer) (get_or plus k 0) (get_or minus k 0)

module _ (q : Held) (al : List ℕ) (al_long : length al ≡ q.darts) where
  abbrev p : Plate
  p = meant q

  o : Ordered p
  o = ordered p q.accepted

  pub posts_tested : (sums : List ℕ) → Table 64 (post_angles q.ends al) sums → all_four q.posts 0 sums ≡ posts_ok (meant q).posts 0 (meant q) al
  posts_tested sums t =
      ap (λ (n : ℕ). all_four n 0 sums) q.stands.same_posts
      ∙ fours p al sums p.posts 0
      (λ v l. t.at v (omega (arith, few_posts q, q.stands.same_posts)) ∙ angle_group p al (length al) (al_long ∙ q.stands.dart_count) (λ d. get_or q.ends (twin d) 0) (ends_are q) v)

  module _ (rs : List ℕ) (rs-long : length rs ≡ q.darts) (plus minus : List ℕ) (outer : ℕ) (tp : Table 66 (face_plus q.face rs) plus) (tm : Table 66 (face_minus q.face al rs) minus)
      (out : outer ≡ get_or q.face q.outer 0) where
    outer_is : (i : ℕ) → i < length (faces p) → eqb i outer ≡ is_in p.outer (face_of p (get_or (faces p) i 0))
    outer_is i l =
        let e : outer ≡ face_number p p.outer = out ∙ faces_are q q.outer (outer_below q) ∙ ap (face_number p) q.stands.outer_dart in
        eqb_turned i outer ∙ ap (λ (k : ℕ). eqb k i) e ∙ index_test p o p.outer (omega (arith, outer_below q, q.stands.outer_dart)) i l

    face_tested : (i : ℕ) → i < length (faces p) → turns_ok (eqb i outer) (get_or plus i 0) (get_or minus i 0) ≡ face_ok p al (shape_of p al rs).words (get_or (faces p) i 0)
    face_tested i l =
        let few : i < 66 = omega (arith, few_faces q, q.stands.face_count) in
        let long : length rs ≡ darts p = rs-long ∙ q.stands.dart_count in
        let key : ℕ → ℕ = λ d. get_or q.face d 0 in
        let e = outer_is i l in
        let f : get_or plus i 0 ≡ plus_side (face_of p (get_or (faces p) i 0)) (shape_of p al rs).words = tp.at i few ∙ plus_group p o rs long (length rs) long key (faces_are q) i l in
        let g : get_or minus i 0 ≡ minus_side (face_of p (get_or (faces p) i 0)) al (shape_of p al rs).words = tm.at i few ∙ minus_group p o rs long (length al) (al_long ∙ q.stands.dart_count) key (faces_are q) i l al in
        rw (e, f, g)

    pub faces_tested : all_turn q.faces 0 outer plus minus ≡ faces_ok (meant q) al (shape_of (meant q) al rs).words (faces (meant q))
    faces_tested = ap (λ (n : ℕ). all_turn n 0 outer plus minus) q.stands.face_count ∙ turns p al (shape_of p al rs).words (faces p) outer plus minus face_tested
