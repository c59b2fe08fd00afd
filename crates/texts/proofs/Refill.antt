-- Entries whose words and angles are given by their darts: found again by dart, and fixed by darts and ends of lines alone. Assumes nothing.
use mathlib.Core.Path.{◌≡◌, refl, sym, ap, subst, ◌∙◌}
use mathlib.Core.Bool.{Bool, true, false, ◌&&◌, ◌||◌}
use mathlib.Core.List.{List, [], ◌∷◌, ◌++◌}
use Prim.Native.Nat.{ℕ, zero, suc, ◌+◌, ◌≤◌, ◌<◌}
use native.Mathlib.Nat.{zero-add, add-zero}
use native.Mathlib.Omega.{arith}
use lib.Dec.{eqb, leb}
use lib.ListN.{length, get_or}
use borrow.Author.Tests.{eqb-true, eq-eqb, ne_eqb, leb-true}
use Rattle.finite.proofs.Tests.{and_left, and_right, and_both, or_left_false, or_right_false, not_both}
use Rattle.finite.proofs.Members.{in_none, in_here, in_more, distinct_head, distinct_rest}
use Rattle.shapes.proofs.Words.{same_bend, bend_same}
use Rattle.plates.specs.Plates.{Plate, pick, is_in, distinct, face_of}
use Rattle.plates.specs.Shapes.{same_b, nth_w, count_w}
use Rattle.plates.specs.Text.{Entry, entry, entry_formed, all_formed, closed}
pub use Rattle.plates.specs.Lines.{darts_of}
pub use Rattle.texts.specs.Plan.{refill}
use Rattle.plates.specs.Lines.{line, lines, sequence, face_entries, same_faces, is_mixed, some_mixed, word_of, angle_of, words_by, angles_by}

pub refill_cong : (F G : ℕ → List Bool) (A B : ℕ → ℕ) (es : List Entry) → ((d : ℕ) → is_in d (darts_of es) ≡ true → (F d ≡ G d) × (A d ≡ B d)) → refill F A es ≡ refill G B es
refill_cong F G A B [] h = refl
refill_cong F G A B (e ∷ es) h =
    let (f, a) = h e.dart (in_here e.dart (darts_of es)) in
    let r = refill_cong F G A B es (λ d k. h d (in_more d e.dart (darts_of es) k)) in
    λ i. entry e.dart (f i) (a i) e.ends ∷ r i

-- darts and ends of lines are all that counts
module _ (F : ℕ → List Bool) (A : ℕ → ℕ) where
  pub refill_same : (es xs : List Entry) → same_faces es xs ≡ true → refill F A es ≡ refill F A xs
  refill_same [] [] h = refl
  refill_same [] (x ∷ xs) h = absurd (not_both h refl)
  refill_same (e ∷ es) [] h = absurd (not_both h refl)
  refill_same (e ∷ es) (x ∷ xs) h =
      let here = and_left (eqb e.dart x.dart && same_b e.ends x.ends) _ h in
      let d = eqb-true e.dart x.dart (and_left (eqb e.dart x.dart) _ here) in
      let b = same_bend e.ends x.ends (and_right (eqb e.dart x.dart) _ here) in
      let r = refill_same es xs (and_right (eqb e.dart x.dart && same_b e.ends x.ends) _ h) in
      λ i. entry (d i) (F (d i)) (A (d i)) (b i) ∷ r i

  pub same_refill : (xs : List Entry) → same_faces (refill F A xs) xs ≡ true
  same_refill [] = refl
  same_refill (x ∷ xs) = and_both _ _ (and_both _ _ (eq-eqb x.dart x.dart refl) (bend_same x.ends)) (same_refill xs)

  darts_refill : (xs : List Entry) → darts_of (refill F A xs) ≡ darts_of xs
  darts_refill [] = refl
  darts_refill (x ∷ xs) = ap (λ (l : List ℕ). x.dart ∷ l) (darts_refill xs)

  -- found again
  pub word_found : (d : ℕ) (xs : List Entry) → is_in d (darts_of xs) ≡ true → word_of d (refill F A xs) ≡ F d
  word_found d [] h = absurd (in_none d h)
  word_found d (x ∷ xs) h = go (eqb d x.dart) refl h (word_found d xs)
    where
      go : (b : Bool) → eqb d x.dart ≡ b → (b || is_in d (darts_of xs)) ≡ true → (is_in d (darts_of xs) ≡ true → word_of d (refill F A xs) ≡ F d) → pick b (F x.dart) (word_of d (refill F A xs)) ≡ F d
      go true e k ih = ap F (sym (eqb-true d x.dart e))
      go false e k ih = ih k

  pub angle_found : (d : ℕ) (xs : List Entry) → is_in d (darts_of xs) ≡ true → angle_of d (refill F A xs) ≡ A d
  angle_found d [] h = absurd (in_none d h)
  angle_found d (x ∷ xs) h = go (eqb d x.dart) refl h (angle_found d xs)
    where
      go : (b : Bool) → eqb d x.dart ≡ b → (b || is_in d (darts_of xs)) ≡ true → (is_in d (darts_of xs) ≡ true → angle_of d (refill F A xs) ≡ A d) → pick b (A x.dart) (angle_of d (refill F A xs)) ≡ A d
      go true e k ih = ap A (sym (eqb-true d x.dart e))
      go false e k ih = ih k

  pub refill_closed : (b : Bool) (xs : List Entry) → closed b (refill F A xs) ≡ closed b xs
  refill_closed b [] = refl
  refill_closed b (x ∷ xs) = refill_closed x.ends xs

  pub refill_formed : (xs : List Entry) → ((d : ℕ) → is_in d (darts_of xs) ≡ true → entry_formed (entry d (F d) (A d) true) ≡ true) → all_formed (refill F A xs) ≡ true
  refill_formed [] h = refl
  refill_formed (x ∷ xs) h = and_both _ _ (h x.dart (in_here x.dart (darts_of xs))) (refill_formed xs (λ d k. h d (in_more d x.dart (darts_of xs) k)))

  pub refill_unmixed : (xs : List Entry) → ((d : ℕ) → is_in d (darts_of xs) ≡ true → is_mixed (F d) ≡ false) → some_mixed (refill F A xs) ≡ false
  refill_unmixed [] h = refl
  refill_unmixed (x ∷ xs) h =
      ap (λ (b : Bool). b || some_mixed (refill F A xs)) (h x.dart (in_here x.dart (darts_of xs)))
      ∙ refill_unmixed xs (λ d k. h d (in_more d x.dart (darts_of xs) k))

pub same_darts : (es xs : List Entry) → same_faces es xs ≡ true → darts_of es ≡ darts_of xs
same_darts es xs h =
    let F : ℕ → List Bool = λ d. [] in
    let A : ℕ → ℕ = λ d. 0 in
    sym (darts_refill F A es) ∙ ap darts_of (refill_same F A es xs h) ∙ darts_refill F A xs

-- entries of distinct darts are filled with what is found in them
pub refill_own : (es : List Entry) → distinct (darts_of es) ≡ true → refill (λ d. word_of d es) (λ d. angle_of d es) es ≡ es
refill_own [] h = refl
refill_own (e ∷ es) h =
    let own : eqb e.dart e.dart ≡ true = eq-eqb e.dart e.dart refl in
    let rest = refill_cong (λ d. word_of d (e ∷ es)) (λ d. word_of d es) (λ d. angle_of d (e ∷ es)) (λ d. angle_of d es) es other ∙ refill_own es (distinct_rest e.dart (darts_of es) h) in
    λ i. entry e.dart (pick (own i) e.word (word_of e.dart es)) (pick (own i) e.angle (angle_of e.dart es)) e.ends ∷ rest i
  where
    other : (d : ℕ) → is_in d (darts_of es) ≡ true → (word_of d (e ∷ es) ≡ word_of d es) × (angle_of d (e ∷ es) ≡ angle_of d es)
    other d k =
        let n : eqb d e.dart ≡ false = ne_eqb d e.dart (λ q. not_both (subst (λ (x : ℕ). is_in x (darts_of es) ≡ true) q k) (distinct_head e.dart (darts_of es) h)) in
        (ap (λ (b : Bool). pick b e.word (word_of d es)) n, ap (λ (b : Bool). pick b e.angle (angle_of d es)) n)

-- a word that is found is that of an entry, and so is an angle
pub word_unmixed : (d : ℕ) (es : List Entry) → some_mixed es ≡ false → is_mixed (word_of d es) ≡ false
word_unmixed d [] h = refl
word_unmixed d (e ∷ es) h = go (eqb d e.dart) (word_unmixed d es)
  where
    go : (b : Bool) → (some_mixed es ≡ false → is_mixed (word_of d es) ≡ false) → is_mixed (pick b e.word (word_of d es)) ≡ false
    go true ih = or_left_false (is_mixed e.word) (some_mixed es) h
    go false ih = ih (or_right_false (is_mixed e.word) (some_mixed es) h)

pub angle_range : (d : ℕ) (es : List Entry) → all_formed es ≡ true → is_in d (darts_of es) ≡ true → (1 ≤ angle_of d es) × (angle_of d es ≤ 4)
angle_range d [] a h = absurd (in_none d h)
angle_range d (e ∷ es) a h = go (eqb d e.dart) h (angle_range d es)
  where
    here : (leb 1 e.angle && leb e.angle 4) ≡ true
    here = and_right (leb (length e.word) 255) _ (and_left (entry_formed e) (all_formed es) a)

    go : (b : Bool) → (b || is_in d (darts_of es)) ≡ true → (all_formed es ≡ true → is_in d (darts_of es) ≡ true → (1 ≤ angle_of d es) × (angle_of d es ≤ 4))
        → (1 ≤ pick b e.angle (angle_of d es)) × (pick b e.angle (angle_of d es) ≤ 4)
    go true k ih = (leb-true 1 e.angle (and_left (leb 1 e.angle) _ here), leb-true e.angle 4 (and_right (leb 1 e.angle) _ here))
    go false k ih = ih (and_right (entry_formed e) (all_formed es) a) k

pub word_fits : (d : ℕ) (es : List Entry) → all_formed es ≡ true → length (word_of d es) ≤ 255
word_fits d [] h = omega arith
word_fits d (e ∷ es) h = go (eqb d e.dart) (word_fits d es (and_right (entry_formed e) (all_formed es) h))
  where
    go : (b : Bool) → length (word_of d es) ≤ 255 → length (pick b e.word (word_of d es)) ≤ 255
    go true ih = leb-true (length e.word) 255 (and_left (leb (length e.word) 255) _ (and_left (entry_formed e) (all_formed es) h))
    go false ih = ih

-- by dart, from d on
pub angles_long : (n d : ℕ) (es : List Entry) → length (angles_by n d es) ≡ n
angles_long zero d es = refl
angles_long (suc n) d es = ap suc (angles_long n (suc d) es)

pub words_long : (n d : ℕ) (es : List Entry) → count_w (words_by n d es) ≡ n
words_long zero d es = refl
words_long (suc n) d es = ap suc (words_long n (suc d) es)

module _ {B : Type 0} (f : ℕ → B) where
  here_from : (d : ℕ) → f d ≡ f (d + 0)
  here_from d = ap f (sym (add-zero d))

  next_from : (d i : ℕ) → f (suc d + i) ≡ f (d + suc i)
  next_from d i = let e : suc d + i ≡ d + suc i = omega arith in ap f e

angles_from : (n d i : ℕ) (es : List Entry) → i < n → get_or (angles_by n d es) i 0 ≡ angle_of (d + i) es
angles_from zero d i es l = absurd (omega arith)
angles_from (suc n) d zero es l = here_from (λ x. angle_of x es) d
angles_from (suc n) d (suc i) es l = angles_from n (suc d) i es (omega arith) ∙ next_from (λ x. angle_of x es) d i

words-from : (n d i : ℕ) (es : List Entry) → i < n → nth_w (words_by n d es) i ≡ word_of (d + i) es
words-from zero d i es l = absurd (omega arith)
words-from (suc n) d zero es l = here_from (λ x. word_of x es) d
words-from (suc n) d (suc i) es l = words-from n (suc d) i es (omega arith) ∙ next_from (λ x. word_of x es) d i

pub angle_at : (n d : ℕ) (es : List Entry) → d < n → get_or (angles_by n 0 es) d 0 ≡ angle_of d es
angle_at n d es l = angles_from n 0 d es l ∙ ap (λ (x : ℕ). angle_of x es) (zero-add d)

pub word_at_lem : (n d : ℕ) (es : List Entry) → d < n → nth_w (words_by n 0 es) d ≡ word_of d es
word_at_lem n d es l = words-from n 0 d es l ∙ ap (λ (x : ℕ). word_of x es) (zero-add d)

-- the entries of a plate are its plan filled
line_filled : (a : List ℕ) (ws : List (List Bool)) (ds : List ℕ) → line a ws ds ≡ refill (nth_w ws) (λ d. get_or a d 0) (line [] [] ds)
line_filled a ws [] = refl
line_filled a ws (d ∷ []) = refl
line_filled a ws (d ∷ (e ∷ ds)) = ap (λ (l : List Entry). entry d (nth_w ws d) (get_or a d 0) false ∷ l) (line_filled a ws (e ∷ ds))

refill_append : (F : ℕ → List Bool) (A : ℕ → ℕ) (xs ys : List Entry) → refill F A (xs ++ ys) ≡ refill F A xs ++ refill F A ys
refill_append F A [] ys = refl
refill_append F A (x ∷ xs) ys = ap (λ (l : List Entry). entry x.dart (F x.dart) (A x.dart) x.ends ∷ l) (refill_append F A xs ys)

lines_filled : (p : Plate) (a : List ℕ) (ws : List (List Bool)) (ds : List ℕ) → lines p a ws ds ≡ refill (nth_w ws) (λ d. get_or a d 0) (lines p [] [] ds)
lines_filled p a ws [] = refl
lines_filled p a ws (d ∷ ds) =
    (λ i. line_filled a ws (face_of p d) i ++ lines_filled p a ws ds i)
    ∙ sym (refill_append (nth_w ws) (λ d. get_or a d 0) (line [] [] (face_of p d)) (lines p [] [] ds))

pub plan_filled : (p : Plate) (a : List ℕ) (ws : List (List Bool)) → face_entries p a ws ≡ refill (nth_w ws) (λ d. get_or a d 0) (face_entries p [] [])
plan_filled p a ws = lines_filled p a ws (sequence p)
