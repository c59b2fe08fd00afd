-- No strip bends both ways: in the counts, for each dart and its twin, and in the words. Assumes nothing.
use mathlib.Core.Path.{◌≡◌, refl, ap, ◌∙◌}
use mathlib.Core.Bool.{Bool, true, false, ◌&&◌, ◌||◌}
use mathlib.Core.List.{List, [], ◌∷◌}
use mathlib.Core.Logic.{⊎_elim}
use Prim.Native.Nat.{ℕ, zero, suc, ◌+◌, ◌-◌, ◌/◌, ◌%◌, ◌<◌, min}
use native.Mathlib.Omega.{arith}
use lib.Dec.{ltb}
use lib.ListN.{length, get_or}
use borrow.Author.Tests.{ltb-true, ltb-false}
use Rattle.std.specs.List.{list_any}
use Rattle.std.specs.Simd.{first_chunks}
use Rattle.finite.proofs.Tests.{or_left_false, or_right_false, not_true_false, and_left, and_right}
use Rattle.embedding.proofs.Rotation.{twin_cases}
use Rattle.plates.specs.Plates.{twin}
use Rattle.plates.specs.Shapes.{rights, lefts}
use Rattle.plates.specs.Lines.{is_mixed, both_ways}

one_zero : (x y : ℕ) → (ltb 0 x && ltb 0 y) ≡ false → min x y ≡ 0
one_zero x y e = go (ltb 0 x) refl (ltb 0 y) refl e
  where
    go : (a : Bool) → ltb 0 x ≡ a → (b : Bool) → ltb 0 y ≡ b → (a && b) ≡ false → min x y ≡ 0
    go true p true q h = let z : ◌≡◌ {A = ℕ} 0 1 = cc in absurd (omega arith)
    go true p false q h = omega (arith, ltb-false 0 y q)
    go false p b q h = omega (arith, ltb-false 0 x p)

zero_one : (x y : ℕ) → min x y ≡ 0 → (ltb 0 x && ltb 0 y) ≡ false
zero_one x y e =
    not_true_false (ltb 0 x && ltb 0 y)
    (λ h. omega (arith, ltb-true 0 x (and_left (ltb 0 x) (ltb 0 y) h), ltb-true 0 y (and_right (ltb 0 x) (ltb 0 y) h)))

-- of an even dart and the next one
pairs_one : (rs : List ℕ) (d : ℕ) → both_ways rs ≡ false → d % 2 ≡ 0 → suc d < length rs → min (get_or rs d 0) (get_or rs (suc d) 0) ≡ 0
pairs_one [] d h e l = absurd (omega arith)
pairs_one (x ∷ []) d h e l = absurd (omega arith)
pairs_one (x ∷ (y ∷ rs)) zero h e l = one_zero x y (or_left_false (ltb 0 x && ltb 0 y) (both_ways rs) h)
pairs_one (x ∷ (y ∷ rs)) (suc zero) h e l = absurd (omega arith)
pairs_one (x ∷ (y ∷ rs)) (suc (suc d)) h e l = pairs_one rs d (or_right_false (ltb 0 x && ltb 0 y) (both_ways rs) h) (omega arith) (omega arith)

pub one_way : (rs : List ℕ) → length rs % 2 ≡ 0 → both_ways rs ≡ false → (d : ℕ) → d < length rs → min (get_or rs d 0) (get_or rs (twin d) 0) ≡ 0
one_way rs even h d l =
    ⊎_elim (λ t. omega (arith, pairs_one rs d h t.0 (omega arith), ap (λ (k : ℕ). get_or rs k 0) t.1))
    (λ t.
    let q : suc (d - 1) ≡ d = omega arith in
    omega (arith, pairs_one rs (d - 1) h (omega arith) (omega arith), ap (λ (k : ℕ). get_or rs k 0) t.1, ap (λ (k : ℕ). get_or rs k 0) q))
    (twin_cases d)

pub ways_none : (rs : List ℕ) → ((d : ℕ) → d % 2 ≡ 0 → suc d < length rs → min (get_or rs d 0) (get_or rs (suc d) 0) ≡ 0) → both_ways rs ≡ false
ways_none [] h = refl
ways_none (x ∷ []) h = refl
ways_none (x ∷ (y ∷ rs)) h =
    ap (λ (b : Bool). b || both_ways rs) (zero_one x y (h 0 refl (omega arith)))
    ∙ ways_none rs (λ d e l. h (suc (suc d)) (omega arith) (omega arith))

-- strips as pairs
pub ways_any : (k : ℕ) (rs : List ℕ) → length rs / 2 ≡ k → list_any (λ p. ltb 0 (get_or p 0 0) && ltb 0 (get_or p 1 0)) (first_chunks 2 k rs) ≡ both_ways rs
ways_any zero [] e = refl
ways_any zero (x ∷ []) e = refl
ways_any zero (x ∷ (y ∷ rs)) e = absurd (omega arith)
ways_any (suc k) [] e = absurd (omega arith)
ways_any (suc k) (x ∷ []) e = absurd (omega arith)
ways_any (suc k) (x ∷ (y ∷ rs)) e = ap (λ (b : Bool). (ltb 0 x && ltb 0 y) || b) (ways_any k rs (omega arith))

-- words
pub word_one : (w : List Bool) → is_mixed w ≡ false → min (rights w) (lefts w) ≡ 0
word_one w h = one_zero (rights w) (lefts w) h

pub one_word : (w : List Bool) → min (rights w) (lefts w) ≡ 0 → is_mixed w ≡ false
one_word w h = zero_one (rights w) (lefts w) h

pub word-long : (w : List Bool) → length w ≡ rights w + lefts w
word-long [] = refl
word-long (true ∷ bs) = omega (arith, word-long bs)
word-long (false ∷ bs) = omega (arith, word-long bs)
