-- Words of bends: counts, turning over, the words that counts give.
use mathlib.Core.Path.{◌≡◌, refl, sym, ap, ◌∙◌}
use mathlib.Core.Bool.{Bool, true, false, not}
use mathlib.Core.List.{List, [], ◌∷◌}
use mathlib.Core.Logic.{⊎_elim}
use Prim.Native.Nat.{ℕ, zero, suc, ◌+◌, ◌-◌, ◌%◌, ◌<◌}
use native.Mathlib.Omega.{arith}
use lib.ListN.{length, get_or, drop}
use lib.Seq.{get_or-drop}
use Rattle.finite.proofs.Tests.{and_left, and_right, and_both}
use Rattle.embedding.specs.Plates.{twin}
use Rattle.embedding.proofs.Rotation.{twin_cases}
use Rattle.shapes.specs.Shapes.{rights, lefts, turned_over, same_b, same_word, nth_w, count_w, rights_of, some_false, join_b, even_word, words_from}

-- turned over
pub rights_turned : (w acc : List Bool) → rights (turned_over w acc) ≡ lefts w + rights acc
rights_turned [] acc = omega arith
rights_turned (true ∷ bs) acc = rights_turned bs (false ∷ acc)
rights_turned (false ∷ bs) acc = omega (arith, rights_turned bs (true ∷ acc))

not_not : (b : Bool) → not (not b) ≡ b
not_not true = refl
not_not false = refl

join_none : (w : List Bool) → join_b w [] ≡ w
join_none [] = refl
join_none (b ∷ bs) = ap (λ (r : List Bool). b ∷ r) (join_none bs)

turned_back : (w acc r : List Bool) → turned_over (turned_over w acc) r ≡ turned_over acc (join_b w r)
turned_back [] acc r = refl
turned_back (b ∷ bs) acc r = turned_back bs (not b ∷ acc) r ∙ ap (λ (c : Bool). turned_over acc (c ∷ join_b bs r)) (not_not b)

pub turned_twice : (w : List Bool) → turned_over (turned_over w []) [] ≡ w
turned_twice w = turned_back w [] [] ∙ join_none w

-- the test of words
pub same_bend : (a b : Bool) → same_b a b ≡ true → a ≡ b
same_bend true b e = sym e
same_bend false true e = e
same_bend false false e = refl

pub bend_same : (b : Bool) → same_b b b ≡ true
bend_same true = refl
bend_same false = refl

pub word_eq : (w u : List Bool) → same_word w u ≡ true → w ≡ u
word_eq [] [] e = refl
word_eq [] (y ∷ ys) e = let z : ◌≡◌ {A = ℕ} 0 1 = cc in absurd (omega arith)
word_eq (x ∷ xs) [] e = let z : ◌≡◌ {A = ℕ} 0 1 = cc in absurd (omega arith)
word_eq (x ∷ xs) (y ∷ ys) e = cc (same_bend x y (and_left (same_b x y) (same_word xs ys) e), word_eq xs ys (and_right (same_b x y) (same_word xs ys) e))

pub word_refl : (w : List Bool) → same_word w w ≡ true
word_refl [] = refl
word_refl (x ∷ xs) = and_both (same_b x x) (same_word xs xs) (bend_same x) (word_refl xs)

-- words by dart
pub rights_at : (ws : List (List Bool)) (d : ℕ) → get_or (rights_of ws) d 0 ≡ rights (nth_w ws d)
rights_at [] d = refl
rights_at (w ∷ ws) zero = refl
rights_at (w ∷ ws) (suc d) = rights_at ws d

pub rights_long : (ws : List (List Bool)) → length (rights_of ws) ≡ count_w ws
rights_long [] = refl
rights_long (w ∷ ws) = ap suc (rights_long ws)

pub words_ext : (ws us : List (List Bool)) → count_w ws ≡ count_w us → ((d : ℕ) → d < count_w ws → nth_w ws d ≡ nth_w us d) → ws ≡ us
words_ext [] [] e h = refl
words_ext [] (u ∷ us) e h = absurd (omega arith)
words_ext (w ∷ ws) [] e h = absurd (omega arith)
words_ext (w ∷ ws) (u ∷ us) e h = cc (h 0 (omega arith), words_ext ws us (omega arith) (λ d l. h (suc d) (omega arith)))

-- rights, then lefts
rights_false : (l : ℕ) → rights (some_false l) ≡ 0
rights_false zero = refl
rights_false (suc l) = rights_false l

lefts_false : (l : ℕ) → lefts (some_false l) ≡ l
lefts_false zero = refl
lefts_false (suc l) = ap suc (lefts_false l)

pub rights_even : (r l : ℕ) → rights (even_word r l) ≡ r
rights_even zero l = rights_false l
rights_even (suc r) l = ap suc (rights_even r l)

pub lefts_even : (r l : ℕ) → lefts (even_word r l) ≡ l
lefts_even zero l = lefts_false l
lefts_even (suc r) l = lefts_even r l

-- the words that counts give: the word of an even dart, and the next one's
pub words_count : (m : ℕ) (rs : List ℕ) → count_w (words_from m rs) ≡ m + m
words_count zero rs = refl
words_count (suc m) rs = omega (arith, words_count m (drop 2 rs))

pub words_even : (m : ℕ) (rs : List ℕ) (d : ℕ) → d % 2 ≡ 0 → d < m + m → nth_w (words_from m rs) d ≡ even_word (get_or rs d 0) (get_or rs (suc d) 0)
words_even zero rs d e l = absurd (omega arith)
words_even (suc m) rs zero e l = refl
words_even (suc m) rs (suc zero) e l = absurd (omega arith)
words_even (suc m) rs (suc (suc d)) e l =
    words_even m (drop 2 rs) d (omega arith) (omega arith)
    ∙ cc (get_or-drop 2 rs d 0 ∙ ap (λ (k : ℕ). get_or rs k 0) two, get_or-drop 2 rs (suc d) 0 ∙ ap (λ (k : ℕ). get_or rs k 0) three)
  where
    two : 2 + d ≡ suc (suc d)
    two = omega arith

    three : 2 + suc d ≡ suc (suc (suc d))
    three = omega arith

pub words_odd : (m : ℕ) (rs : List ℕ) (d : ℕ) → d % 2 ≡ 0 → d < m + m → nth_w (words_from m rs) (suc d) ≡ turned_over (nth_w (words_from m rs) d) []
words_odd zero rs d e l = absurd (omega arith)
words_odd (suc m) rs zero e l = refl
words_odd (suc m) rs (suc zero) e l = absurd (omega arith)
words_odd (suc m) rs (suc (suc d)) e l = words_odd m (drop 2 rs) d (omega arith) (omega arith)

pub words_twins : (m : ℕ) (rs : List ℕ) (d : ℕ) → d < m + m → nth_w (words_from m rs) (twin d) ≡ turned_over (nth_w (words_from m rs) d) []
words_twins m rs d l =
    ⊎_elim (λ h. ap (nth_w ws) h.1 ∙ words_odd m rs d h.0 l)
    (λ h.
    let q : suc (d - 1) ≡ d = omega arith in
    ap (nth_w ws) h.1 ∙ sym (turned_twice (nth_w ws (d - 1))) ∙ ap (λ (w : List Bool). turned_over w []) (sym (words_odd m rs (d - 1) (omega arith) (omega arith)) ∙ ap (nth_w ws) q))
    (twin_cases d)
  where
    ws : List (List Bool)
    ws = words_from m rs

-- their counts are these
pub words_rights : (m : ℕ) (rs : List ℕ) → length rs ≡ m + m → rights_of (words_from m rs) ≡ rs
words_rights zero [] e = refl
words_rights zero (a ∷ rs) e = absurd (omega arith)
words_rights (suc m) [] e = absurd (omega arith)
words_rights (suc m) (a ∷ []) e = absurd (omega arith)
words_rights (suc m) (a ∷ (b ∷ rs)) e =
    cc (rights_even a b, rights_turned (even_word a b) [] ∙ more (lefts (even_word a b)) (lefts_even a b), words_rights m rs (omega arith))
  where
    more : (k : ℕ) → k ≡ b → k + 0 ≡ b
    more k h = omega arith
