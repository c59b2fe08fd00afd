-- What `meets` tests, as facts, and back; the conditions on faces are those of a flow.
use mathlib.Core.Path.{◌≡◌, refl, ap}
use mathlib.Core.Bool.{Bool, true, false, ◌&&◌}
use mathlib.Core.List.{List, [], ◌∷◌}
use Prim.Native.Nat.{ℕ, ◌+◌, ◌*◌, ◌<◌}
use native.Mathlib.Omega.{arith}
use borrow.Author.Tests.{eqb-true, eq-eqb, ltb-true}
use lib.Dec.{eqb, ltb}
use lib.ListN.{length, get_or}
use Rattle.finite.proofs.Members.{all_of}
use Rattle.finite.proofs.Tests.{and_left, and_right, and_both, from_each, each_from}
use Rattle.embedding.specs.Plates.{pick, is_in, all_below, Plate, darts, twin, face_of, faces}
use Rattle.embedding.proofs.Rotation.{Ordered}
use Rattle.embedding.proofs.Faces.{faces_below, face_all_below}
use Rattle.shapes.specs.Shapes.{Shape, rights, lefts, turned_over, same_word, nth_w, count_w, rights_of, plus_side, minus_side, angles_ok, posts_ok, twins_ok_from, face_ok, faces_ok, meets}
use Rattle.shapes.specs.Claims.{corners_of, goes_out, comes_in, balanced, all_balanced}
use Rattle.shapes.proofs.Words.{rights_turned, rights_at, word_eq, word_refl}

-- H2: the twin's word is the word turned over
abbrev pub Twinned : ℕ → List (List Bool) → Type 0
Twinned n ws = (d : ℕ) → d < n → nth_w ws (twin d) ≡ turned_over (nth_w ws d) []

pub record Meets (p : Plate) (s : Shape) : Type 0 where
  pub angles_long : length s.angles ≡ darts p
  pub words_long : count_w s.words ≡ darts p
  pub angles-ok : angles_ok s.angles ≡ true
  pub twins : Twinned (darts p) s.words
  pub posts-ok : posts_ok p.posts 0 p s.angles ≡ true
  pub faces-ok : faces_ok p s.angles s.words (faces p) ≡ true

module _ (p : Plate) (s : Shape) where
  turned : ℕ → Bool
  turned d = same_word (nth_w s.words (twin d)) (turned_over (nth_w s.words d) [])

  pub meets_facts : meets p s ≡ true → Meets p s
  unfolding turned
  meets_facts e =
      let l1 = eqb (length s.angles) (darts p) in
      let l2 = eqb (count_w s.words) (darts p) in
      let ok = angles_ok s.angles in
      let twins-ok = twins_ok_from (darts p) 0 s.words in
      let at_posts = posts_ok p.posts 0 p s.angles in
      let at-faces = faces_ok p s.angles s.words (faces p) in
      let e1 : l2 && (ok && (twins-ok && (at_posts && at-faces))) ≡ true = and_right l1 _ e in
      let e2 : ok && (twins-ok && (at_posts && at-faces)) ≡ true = and_right l2 _ e1 in
      let e3 : twins-ok && (at_posts && at-faces) ≡ true = and_right ok _ e2 in
      let e4 : at_posts && at-faces ≡ true = and_right twins-ok _ e3 in
      record {
        angles_long = eqb-true _ _ (and_left l1 _ e);
        words_long = eqb-true _ _ (and_left l2 _ e1);
        angles-ok = and_left ok _ e2;
        twins = λ d l. word_eq _ _ (from_each (λ n a. twins_ok_from n a s.words) turned (λ a. refl) (λ n a. refl) (darts p) 0 (and_left twins-ok _ e3) d (omega arith) (omega arith));
        posts-ok = and_left at_posts _ e4;
        faces-ok = and_right at_posts _ e4;
      }

  pub facts_meets : Meets p s → meets p s ≡ true
  unfolding turned
  facts_meets m =
      and_both _ _ (eq-eqb _ _ m.angles_long) (and_both _ _ (eq-eqb _ _ m.words_long) (and_both _ _ m.angles-ok (and_both _ _
      (each_from (λ n a. twins_ok_from n a s.words) turned (λ a. refl) (λ n a. refl) (darts p) 0 (λ d l k. same_of d (m.twins d (omega arith))))
      (and_both _ _ m.posts-ok m.faces-ok))))
    where
      same_of : (d : ℕ) → nth_w s.words (twin d) ≡ turned_over (nth_w s.words d) [] → same_word (nth_w s.words (twin d)) (turned_over (nth_w s.words d) []) ≡ true
      same_of d q = rw q (word_refl (turned_over (nth_w s.words d) []))

-- left bends are the twin's right bends
pub lefts_at : (n : ℕ) (ws : List (List Bool)) → Twinned n ws → (d : ℕ) → d < n → lefts (nth_w ws d) ≡ get_or (rights_of ws) (twin d) 0
lefts_at n ws t d l = omega (arith, rights_turned (nth_w ws d) [], ap rights (t d l), rights_at ws (twin d))

module _ (al : List ℕ) (ws : List (List Bool)) where
  plus_goes : (ds : List ℕ) → plus_side ds ws ≡ goes_out ds (rights_of ws) + 2 * length ds
  plus_goes [] = refl
  plus_goes (d ∷ ds) = omega (arith, plus_goes ds, rights_at ws d)

  minus_comes : (n : ℕ) → Twinned n ws → (ds : List ℕ) → all_below n ds ≡ true → minus_side ds al ws ≡ comes_in ds (rights_of ws) + corners_of ds al
  minus_comes n t [] a = refl
  minus_comes n t (d ∷ ds) a =
      omega (arith, minus_comes n t ds (and_right (ltb d n) (all_below n ds) a), lefts_at n ws t d (ltb-true d n (and_left (ltb d n) (all_below n ds) a)))

sides_test : (outer : Bool) (plus minus out corners come k : ℕ) → plus ≡ out + k → minus ≡ come + corners
    → pick outer (eqb (plus + 4) minus) (eqb plus (minus + 4)) ≡ pick outer (eqb (out + (k + 4)) (corners + come)) (eqb (out + k) (corners + (come + 4)))
sides_test true plus minus out corners come k e h =
    let a : plus + 4 ≡ out + (k + 4) = omega arith in
    let b : minus ≡ corners + come = omega arith in
    cc
sides_test false plus minus out corners come k e h =
    let a : minus + 4 ≡ corners + (come + 4) = omega arith in
    cc

module _ (p : Plate) (o : Ordered p) (al : List ℕ) (ws : List (List Bool)) (t : Twinned (darts p) ws) where
  face_is_balanced : (d : ℕ) → d < darts p → face_ok p al ws d ≡ balanced p al (rights_of ws) d
  face_is_balanced d l =
      sides_test (is_in p.outer (face_of p d)) (plus_side (face_of p d) ws) (minus_side (face_of p d) al ws) (goes_out (face_of p d) (rights_of ws)) (corners_of (face_of p d) al) (comes_in (face_of p d) (rights_of ws))
      (2 * length (face_of p d)) (plus_goes al ws (face_of p d)) (minus_comes al ws (darts p) t (face_of p d) (face_all_below p o d l))

  list_is_balanced : (ds : List ℕ) → all_below (darts p) ds ≡ true → faces_ok p al ws ds ≡ all_balanced p al (rights_of ws) ds
  list_is_balanced [] a = refl
  list_is_balanced (d ∷ ds) a =
      cc (face_is_balanced d (ltb-true d (darts p) (and_left (ltb d (darts p)) (all_below (darts p) ds) a)), list_is_balanced ds (and_right (ltb d (darts p)) (all_below (darts p) ds) a))

  pub faces_are_balanced : faces_ok p al ws (faces p) ≡ all_balanced p al (rights_of ws) (faces p)
  faces_are_balanced = list_is_balanced (faces p) (all_of (darts p) (faces p) (faces_below p))
