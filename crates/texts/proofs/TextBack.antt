-- A sound file that bends no strip both ways, to text and back: its entries are read, and each dart's word and angle are found in them. Assumes nothing.
use mathlib.Core.Path.{◌≡◌, refl, sym, ap, subst, ◌∙◌}
use mathlib.Core.Bool.{Bool, true, false, ◌&&◌}
use mathlib.Core.List.{List, []}
use Prim.Native.Nat.{ℕ, ◌≤◌, ◌<◌, min}
use native.Mathlib.Omega.{arith}
use lib.Dec.{eqb, leb}
use lib.ListN.{length, get_or}
use lib.Seq.{ext_get_or}
use borrow.Author.Tests.{le-leb, leb-true}
use Rattle.finite.proofs.Tests.{and_left, and_right, and_both, and_assoc, over_each}
use Rattle.embedding.proofs.Rotation.{Ordered, twin_below}
use Rattle.shapes.specs.Claims.{Accepted}
use Rattle.shapes.proofs.Accepted.{faultless, ordered}
use Rattle.shapes.proofs.Words.{words_ext, rights_at}
use Rattle.shapes.proofs.Meets.{Meets, meets_facts, lefts_at}
use Rattle.plates.specs.Plates.{Plate, is_in, twin, darts, faces}
use Rattle.plates.specs.Shapes.{shape, rights, lefts, nth_w, count_w, angles_ok, twins_ok_from, posts_ok, faces_ok, meets, rights_of, pair_sums, all_within}
use Rattle.plates.specs.Text.{Entry, entry, entry_formed, formed}
use Rattle.plates.specs.Grammar.{form_ok, entries_in}
use Rattle.plates.specs.Lines.{face_entries, face_text, same_faces, some_mixed, word_of, angle_of, words_by, angles_by}
use Rattle.texts.proofs.Grammar.{exact}
use Rattle.texts.proofs.Refill.{darts_of, refill, word_found, angle_found, same_refill, refill_closed, refill_formed, refill_unmixed, angles_long, words_long, angle_at, word_at_lem, plan_filled}
use Rattle.texts.proofs.Around.{plan_darts, all_there_lem, all-below, plan_closed}
use Rattle.texts.proofs.OneWay.{one_word, word-long}
use Rattle.texts.proofs.Placed.{Placed}

-- the test of angles, at each dart
pub angle_in : (a : List ℕ) → angles_ok a ≡ true → (d : ℕ) → d < length a → (1 ≤ get_or a d 0) × (get_or a d 0 ≤ 4)
angle_in a h d l =
    let t = over_each angles_ok (λ x. leb 1 x && leb x 4) refl (λ x xs. and_assoc (leb 1 x) (leb x 4) (angles_ok xs)) a h d l in
    (leb-true 1 (get_or a d 0) (and_left (leb 1 (get_or a d 0)) _ t), leb-true (get_or a d 0) 4 (and_right (leb 1 (get_or a d 0)) _ t))

module _ (p : Plate) (acc : Accepted p) where
  pub outer_below : p.outer < darts p
  outer_below = (faultless p acc).outer_dart

module _ (p : Plate) (acc : Accepted p) (a : List ℕ) (ws : List (List Bool)) (m : meets p (shape a ws) ≡ true)
    (straight : (d : ℕ) → d < darts p → min (get_or (rights_of ws) d 0) (get_or (rights_of ws) (twin d) 0) ≡ 0)
    (few : (d : ℕ) → d < darts p → get_or (rights_of ws) d 0 ≤ 255) where
  abbrev plan : List Entry
  plan = face_entries p [] []

  abbrev F : ℕ → List Bool
  F = nth_w ws

  abbrev A : ℕ → ℕ
  A d = get_or a d 0

  abbrev es : List Entry
  es = face_entries p a ws

  o : Ordered p
  o = ordered p acc

  facts : Meets p (shape a ws)
  facts = meets_facts p (shape a ws) m

  is_filled : es ≡ refill F A plan
  is_filled = plan_filled p a ws

  planned : (d : ℕ) → is_in d (darts_of plan) ≡ true → d < darts p
  planned d h = all-below p o (outer_below p acc) d (subst (λ (l : List ℕ). is_in d l ≡ true) (plan_darts p) h)

  there : (d : ℕ) → d < darts p → is_in d (darts_of plan) ≡ true
  there d l = subst (λ (x : List ℕ). is_in d x ≡ true) (sym (plan_darts p)) (all_there_lem p o (outer_below p acc) d l)

  word_counts : (d : ℕ) → d < darts p → (rights (F d) ≡ get_or (rights_of ws) d 0) × (lefts (F d) ≡ get_or (rights_of ws) (twin d) 0)
  word_counts d l = (sym (rights_at ws d), lefts_at (darts p) ws facts.twins d l)

  entry-ok : (d : ℕ) → is_in d (darts_of plan) ≡ true → entry_formed (entry d (F d) (A d) true) ≡ true
  entry-ok d h =
      let l = planned d h in
      let (r, q) = word_counts d l in
      let (lo, hi) = angle_in a facts.angles-ok d (omega (arith, facts.angles_long)) in
      and_both _ _ (le-leb (length (F d)) 255 (omega (arith, word-long (F d), straight d l, few d l, few (twin d) (twin_below (darts p) d o.even l))))
      (and_both _ _ (le-leb 1 (A d) lo) (le-leb (A d) 4 hi))

  es_formed : formed es ≡ true
  es_formed = subst (λ (x : List Entry). formed x ≡ true) (sym is_filled)
      (and_both _ _ (refill_formed F A plan entry-ok) (refill_closed F A true plan ∙ plan_closed p o (outer_below p acc)))

  es_unmixed : some_mixed es ≡ false
  es_unmixed = ap some_mixed is_filled ∙ refill_unmixed F A plan (λ d h.
      let l = planned d h in let (r, q) = word_counts d l in one_word (F d) (omega (arith, straight d l)))

  es_same : same_faces es plan ≡ true
  es_same = ap (λ (x : List Entry). same_faces x plan) is_filled ∙ same_refill F A plan

  angles_again : angles_by (darts p) 0 es ≡ a
  angles_again = ext_get_or 0 (angles_by (darts p) 0 es) a (angles_long (darts p) 0 es ∙ sym facts.angles_long)
      (λ d l. let k : d < darts p = omega (arith, angles_long (darts p) 0 es) in
      angle_at (darts p) d es k ∙ ap (λ (x : List Entry). angle_of d x) is_filled ∙ angle_found F A d plan (there d k))

  words_again : words_by (darts p) 0 es ≡ ws
  words_again = words_ext (words_by (darts p) 0 es) ws (words_long (darts p) 0 es ∙ sym facts.words_long)
      (λ d l. let k : d < darts p = omega (arith, words_long (darts p) 0 es) in
      word_at_lem (darts p) d es k ∙ ap (λ (x : List Entry). word_of d x) is_filled ∙ word_found F A d plan (there d k))

  -- the text is read as these entries
  abbrev t : List ℕ
  t = face_text p a ws

  read : (form_ok t ≡ true) × (entries_in t ≡ es)
  read = exact.back es es_formed

  pub angles_come : angles_by (darts p) 0 (entries_in t) ≡ a
  angles_come = ap (angles_by (darts p) 0) read.1 ∙ angles_again

  pub words_come : words_by (darts p) 0 (entries_in t) ≡ ws
  words_come = ap (words_by (darts p) 0) read.1 ∙ words_again

  pub text_placed : (ls : List ℕ) → all_within ls (pair_sums (rights_of ws)) ≡ true → Placed p ls t
  text_placed ls kept = record {
    told = record {
      form = read.0;
      unmixed = ap some_mixed read.1 ∙ es_unmixed;
      same-faces = ap (λ (x : List Entry). same_faces x plan) read.1 ∙ es_same;
    };
    twins-ok = ap (twins_ok_from (darts p) 0) words_come ∙ and_left (twins_ok_from (darts p) 0 ws) _ m_twins;
    posts-ok = ap (posts_ok p.posts 0 p) angles_come ∙ facts.posts-ok;
    faces-ok = (λ i. faces_ok p (angles_come i) (words_come i) (faces p)) ∙ facts.faces-ok;
    limits_kept = ap (λ (v : List (List Bool)). all_within ls (pair_sums (rights_of v))) words_come ∙ kept;
  }
    where
      m_twins : (twins_ok_from (darts p) 0 ws && (posts_ok p.posts 0 p a && faces_ok p a ws (faces p))) ≡ true
      m_twins = and_right (angles_ok a) _ (and_right (eqb (count_w ws) (darts p)) _ (and_right (eqb (length a) (darts p)) _ m))
