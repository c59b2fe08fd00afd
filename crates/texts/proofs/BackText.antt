-- An accepted text, back and to text: its entries are those of the plate with the words and angles that it gives,
-- and its words are those that its counts give. Assumes nothing.
use mathlib.Core.Path.{◌≡◌, refl, sym, ap, subst, ◌∙◌}
use mathlib.Core.Bool.{Bool, true, false, ◌&&◌}
use mathlib.Core.List.{List, []}
use Prim.Native.Nat.{ℕ, ◌≤◌, ◌<◌, min}
use native.Mathlib.Omega.{arith}
use lib.Dec.{leb}
use lib.ListN.{length, get_or}
use borrow.Author.Tests.{eq-eqb, le-leb}
use Rattle.finite.proofs.Tests.{and_left, and_both, each_over, and_assoc, from_each}
use Rattle.embedding.proofs.Rotation.{Ordered, twin_even}
use Rattle.shapes.specs.Claims.{Accepted}
use Rattle.shapes.proofs.Accepted.{ordered}
use Rattle.shapes.proofs.Words.{rights_at, rights_long, word_eq}
use Rattle.shapes.proofs.OneWord.{words_fixed}
use Rattle.shapes.proofs.Tamassia.{two_to_a_strip}
use Rattle.shapes.proofs.Meets.{Twinned, lefts_at}
use Rattle.plates.specs.Plates.{Plate, is_in, distinct, twin, darts, strips, faces}
use Rattle.plates.specs.Shapes.{shape, turned_over, same_word, nth_w, count_w, angles_ok, twins_ok_from, posts_ok, faces_ok, meets, rights_of, shape_of}
use Rattle.plates.specs.Text.{Entry, all_formed, formed, text_of}
use Rattle.plates.specs.Grammar.{entries_in}
use Rattle.plates.specs.Lines.{face_entries, face_text, sequence, is_mixed, word_of, angle_of, words_by, angles_by, both_ways}
use Rattle.texts.proofs.Grammar.{exact}
use Rattle.texts.proofs.Refill.{darts_of, refill_cong, refill_same, refill_own, same_darts, word_unmixed, angle_range, angles_long, words_long, angle_at, word_at_lem, plan_filled}
use Rattle.texts.proofs.Around.{around, plan_darts, all-distinct, all-below, all_there_lem}
use Rattle.texts.proofs.OneWay.{word_one, ways_none}
use Rattle.texts.proofs.Placed.{Told}
use Rattle.texts.proofs.TextBack.{outer_below}

module _ (p : Plate) (acc : Accepted p) (t : List ℕ) (told : Told p t) where
  abbrev es : List Entry
  es = entries_in t

  abbrev plan : List Entry
  plan = face_entries p [] []

  abbrev a : List ℕ
  a = angles_by (darts p) 0 es

  abbrev ws : List (List Bool)
  ws = words_by (darts p) 0 es

  o : Ordered p
  o = ordered p acc

  written : (text_of es ≡ t) × (formed es ≡ true)
  written = exact.read t told.form

  es_darts : darts_of es ≡ around p (sequence p)
  es_darts = same_darts es plan told.same-faces ∙ plan_darts p

  there : (d : ℕ) → d < darts p → is_in d (darts_of es) ≡ true
  there d l = ap (is_in d) es_darts ∙ all_there_lem p o (outer_below p acc) d l

  below : (d : ℕ) → is_in d (darts_of es) ≡ true → d < darts p
  below d h = all-below p o (outer_below p acc) d (sym (ap (is_in d) es_darts) ∙ h)

  -- the entries are the plate's
  entries_are : face_entries p a ws ≡ es
  entries_are =
      plan_filled p a ws
      ∙ sym (refill_same (nth_w ws) (λ d. get_or a d 0) es plan told.same-faces)
      ∙ refill_cong (nth_w ws) (λ d. word_of d es) (λ d. get_or a d 0) (λ d. angle_of d es) es (λ d h. (word_at_lem (darts p) d es (below d h), angle_at (darts p) d es (below d h)))
      ∙ refill_own es (ap distinct es_darts ∙ all-distinct p o (outer_below p acc))

  pub text_again : face_text p a ws ≡ t
  text_again = ap text_of entries_are ∙ written.0

  -- the angles that it gives
  angle_fine : (d : ℕ) → d < darts p → (1 ≤ get_or a d 0) × (get_or a d 0 ≤ 4)
  angle_fine d l = subst (λ (x : ℕ). (1 ≤ x) × (x ≤ 4)) (sym (angle_at (darts p) d es l)) (angle_range d es (and_left (all_formed es) _ written.1) (there d l))

  pub angles_fine : angles_ok a ≡ true
  angles_fine =
      each_over angles_ok (λ x. leb 1 x && leb x 4) refl (λ x xs. and_assoc (leb 1 x) (leb x 4) (angles_ok xs)) a
      (λ d l.
      let (lo, hi) = angle_fine d (omega (arith, angles_long (darts p) 0 es)) in
      and_both _ _ (le-leb 1 (get_or a d 0) lo) (le-leb (get_or a d 0) 4 hi))

  rights_many : length (rights_of ws) ≡ darts p
  rights_many = rights_long ws ∙ words_long (darts p) 0 es

  -- where words agree across strips
  module _ (twins-ok : twins_ok_from (darts p) 0 ws ≡ true) where
    twinned : Twinned (darts p) ws
    twinned d l =
        word_eq (nth_w ws (twin d)) (turned_over (nth_w ws d) [])
        (from_each (λ n d. twins_ok_from n d ws) (λ d. same_word (nth_w ws (twin d)) (turned_over (nth_w ws d) [])) (λ d. refl) (λ n d. refl) (darts p) 0 twins-ok d (omega arith) (omega arith))

    read_straight : (d : ℕ) → d < darts p → min (get_or (rights_of ws) d 0) (get_or (rights_of ws) (twin d) 0) ≡ 0
    read_straight d l =
        let one = word_one (nth_w ws d) (ap is_mixed (word_at_lem (darts p) d es l) ∙ word_unmixed d es told.unmixed) in
        omega (arith, one, rights_at ws d, lefts_at (darts p) ws twinned d l)

    pub read_one_way : both_ways (rights_of ws) ≡ false
    read_one_way = ways_none (rights_of ws) (λ d e l.
        omega (arith, read_straight d (omega (arith, rights_many)), ap (λ (k : ℕ). get_or (rights_of ws) k 0) (twin_even d e)))

    -- the words are those that the counts give
    pub words_counted : shape_of p a (rights_of ws) ≡ shape a ws
    words_counted =
        let two = two_to_a_strip p o in
        ap (shape a) (sym (words_fixed (strips p) ws (words_long (darts p) 0 es ∙ sym two)
        (subst (λ (n : ℕ). Twinned n ws) (sym two) twinned)
        (subst (λ (n : ℕ). (d : ℕ) → d < n → min (get_or (rights_of ws) d 0) (get_or (rights_of ws) (twin d) 0) ≡ 0) (sym two) read_straight)))

  -- where the shape meets the conditions too
  pub read_meets : twins_ok_from (darts p) 0 ws ≡ true → posts_ok p.posts 0 p a ≡ true → faces_ok p a ws (faces p) ≡ true → meets p (shape a ws) ≡ true
  read_meets twins-ok posts-ok faces-ok =
      and_both _ _ (eq-eqb (length a) (darts p) (angles_long (darts p) 0 es))
      (and_both _ _ (eq-eqb (count_w ws) (darts p) (words_long (darts p) 0 es))
      (and_both _ _ angles_fine
      (and_both _ _ twins-ok
      (and_both _ _ posts-ok faces-ok))))
