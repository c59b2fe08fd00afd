-- Words without mixture agree across a strip exactly where their counts do. Assumes nothing.
use mathlib.Core.Path.{◌≡◌, refl, sym, ap, subst, ◌∙◌}
use mathlib.Core.Bool.{Bool, true, false, ◌&&◌}
use mathlib.Core.List.{List, []}
use Prim.Native.Nat.{ℕ, ◌%◌, ◌≤◌, ◌<◌}
use native.Mathlib.Omega.{arith}
use lib.Dec.{eqb}
use lib.ListN.{get_or}
use borrow.Author.Tests.{eqb-true, eq-eqb}
use Rattle.finite.proofs.Tests.{and_left, and_right, and_both, same_test, from_each, each_from}
use Rattle.embedding.proofs.Rotation.{twin_below}
use Rattle.shapes.proofs.Words.{rights_turned, turned_twice, word_eq, word_refl}
use Rattle.shapes.proofs.OneWord as W
use Rattle.plates.specs.Plates.{twin}
use Rattle.plates.specs.Shapes.{rights, lefts, turned_over, same_word, nth_w, even_word, twins_ok_from}
use Rattle.plates.specs.Text.{Entry}
use Rattle.plates.specs.Lines.{is_mixed, some_mixed, word_of, words_by}
use Rattle.texts.specs.Parses.{twin_counts, Tables}
use Rattle.texts.proofs.OneWay.{word_one}
use Rattle.texts.proofs.Refill.{word_at_lem, word_unmixed}

rights_over : (w : List Bool) → rights (turned_over w []) ≡ lefts w
rights_over w = omega (arith, rights_turned w [])

lefts_over : (w : List Bool) → lefts (turned_over w []) ≡ rights w
lefts_over w = omega (arith, rights_turned (turned_over w []) [], ap rights (turned_twice w))

-- two words of one digit each
counts_test : (u w : List Bool) → is_mixed u ≡ false → is_mixed w ≡ false → same_word u (turned_over w []) ≡ (eqb (rights u) (lefts w) && eqb (lefts u) (rights w))
counts_test u w mu mw = same_test (same_word u (turned_over w [])) (eqb (rights u) (lefts w) && eqb (lefts u) (rights w)) there back
  where
    there : same_word u (turned_over w []) ≡ true → (eqb (rights u) (lefts w) && eqb (lefts u) (rights w)) ≡ true
    there h =
        let q = word_eq u (turned_over w []) h in
        and_both _ _ (eq-eqb (rights u) (lefts w) (ap rights q ∙ rights_over w)) (eq-eqb (lefts u) (rights w) (ap lefts q ∙ lefts_over w))

    back : (eqb (rights u) (lefts w) && eqb (lefts u) (rights w)) ≡ true → same_word u (turned_over w []) ≡ true
    back h =
        let a = eqb-true (rights u) (lefts w) (and_left (eqb (rights u) (lefts w)) _ h) in
        let b = eqb-true (lefts u) (rights w) (and_right (eqb (rights u) (lefts w)) _ h) in
        let v = turned_over w [] in
        let one : u ≡ even_word (rights u) (lefts u) = W.one_word u (word_one u mu) in
        let two : v ≡ even_word (rights v) (lefts v) = W.one_word v (omega (arith, rights_over w, lefts_over w, word_one w mw)) in
        let r : rights u ≡ rights v = a ∙ sym (rights_over w) in
        let l : lefts u ≡ lefts v = b ∙ sym (lefts_over w) in
        let same : u ≡ v = one ∙ (λ i. even_word (r i) (l i)) ∙ sym two in
        subst (λ (x : List Bool). same_word u x ≡ true) same (word_refl u)

-- all darts of a text's tables
module _ (n : ℕ) (even : n % 2 ≡ 0) (few : n ≤ 256) (es : List Entry) (unmixed : some_mixed es ≡ false) {a r l : List ℕ} (tables : Tables es a r l) where
  abbrev ws : List (List Bool)
  ws = words_by n 0 es

  abbrev by-counts : ℕ → Bool
  by-counts d = eqb (get_or r (twin d) 0) (get_or l d 0) && eqb (get_or l (twin d) 0) (get_or r d 0)

  abbrev by_words : ℕ → Bool
  by_words d = same_word (nth_w ws (twin d)) (turned_over (nth_w ws d) [])

  one_dart : (d : ℕ) → d < n → by-counts d ≡ by_words d
  one_dart d k =
      let t = twin_below n d even k in
      let rt = tables.rights.at (twin d) (omega arith) in
      let ld = tables.lefts.at d (omega arith) in
      let lt = tables.lefts.at (twin d) (omega arith) in
      let rd = tables.rights.at d (omega arith) in
      let wt = word_at_lem n (twin d) es t in
      let wd = word_at_lem n d es k in
      (λ i. eqb (rt i) (ld i) && eqb (lt i) (rd i))
      ∙ sym (counts_test (word_of (twin d) es) (word_of d es) (word_unmixed (twin d) es unmixed) (word_unmixed d es unmixed))
      ∙ sym (λ i. same_word (wt i) (turned_over (wd i) []))

  pub twins_by_counts : twin_counts n 0 r l ≡ twins_ok_from n 0 ws
  twins_by_counts =
      same_test (twin_counts n 0 r l) (twins_ok_from n 0 ws)
      (λ h. each_from (λ m d. twins_ok_from m d ws) by_words (λ d. refl) (λ m d. refl) n 0 (λ d lo hi.
      sym (one_dart d (omega arith)) ∙ from_each (λ m d. twin_counts m d r l) by-counts (λ d. refl) (λ m d. refl) n 0 h d lo hi))
      (λ h. each_from (λ m d. twin_counts m d r l) by-counts (λ d. refl) (λ m d. refl) n 0 (λ d lo hi.
      one_dart d (omega arith) ∙ from_each (λ m d. twins_ok_from m d ws) by_words (λ d. refl) (λ m d. refl) n 0 h d lo hi))
