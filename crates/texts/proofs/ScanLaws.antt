-- Laws of scanning a text from its front: runs, numbers, digits, and the parts of an entry. Assumes nothing.
use mathlib.Core.Path.{◌≡◌, refl, sym, ap, ◌∙◌}
use mathlib.Core.Bool.{Bool, true, false, cond, ◌&&◌, ◌||◌, not}
use mathlib.Core.List.{List, [], ◌∷◌}
use Prim.Native.Nat.{ℕ, suc, ◌+◌, ◌-◌, ◌*◌, ◌^◌, ◌≤◌, ◌<◌, min}
use native.Mathlib.Nat.{add-zero}
use native.Mathlib.Numerals.{add-one}
use native.Mathlib.Omega.{arith}
use lib.Dec.{eqb, ltb, leb}
use lib.ListN.{length, get_or, take, drop, length-drop}
use lib.Seq.{length-take-le, get_or-take, drop-drop}
use borrow.Author.Tests.{lt-ltb, ltb-true, le-leb, eqb-true}
use Rattle.std.specs.Prelude.{Some, None}
use Rattle.std.specs.List.{prefix_len, count_by, fold}
use Rattle.std.proofs.lemmas.List.{get_or-drop}
use Rattle.std.proofs.lemmas.List.Folds.{length-prefix_len}
use Rattle.std.proofs.lemmas.List.Recursion.{is_count_by}
use Rattle.finite.proofs.Tests.{and_left, and_right, and_both}
use Rattle.plates.specs.Plates.{pick}
use Rattle.plates.specs.Shapes.{rights, lefts}
use Rattle.plates.specs.Listing.{number_of}
use Rattle.plates.specs.Grammar.{is_bend, run_of, number_long, number_ok, bends, word_long, word_ok, word_in, angle_ok, from_word, from_angle, entry_ok, entry_in, behind}
use Rattle.texts.specs.Parses.{held, bends_in, capped, space_read, number_read, word_read, angle_read, entry_read}
use Rattle.texts.specs.declared.entries.Word.{Word}
use Rattle.texts.proofs.Runs.{run_most, stands_at}
use Rattle.texts.proofs.OneWay.{word-long}
use Rattle.texts.proofs.EntryRead.{bends_long}

-- a run is what `take_while` takes
pub run_taken : (t : ℕ → Bool) (s : List ℕ) → length (take (prefix_len t s) s) ≡ run_of t s
run_taken t s = length-prefix_len t s ∙ same_run s
  where
    one : (b : Bool) {m n : ℕ} → m ≡ n → cond b (1 + m) 0 ≡ pick b (suc n) 0
    one true e = omega (arith, e)
    one false e = refl

    same_run : (s : List ℕ) → prefix_len t s ≡ run_of t s
    same_run [] = refl
    same_run (x ∷ xs) = one (t x) (same_run xs)

-- a number is folded as its digits come, and no further than the cap
abbrev pub add_digit : ℕ → ℕ → ℕ
add_digit n x = min (min (min (n * 10) (2 ^ 64 - 1) + (x - 48)) (2 ^ 64 - 1)) 1000

folded_from : (acc m : ℕ) (xs : List ℕ) → m ≡ capped acc → fold add_digit m xs ≡ capped (number_of acc xs)
folded_from acc m [] e = e
folded_from acc m (x ∷ xs) e = folded_from (10 * acc + (x - 48)) (add_digit m x) xs (omega arith)

pub number_folded : (xs : List ℕ) → fold add_digit 0 xs ≡ capped (number_of 0 xs)
number_folded xs = folded_from 0 0 xs refl

-- the digits 0 of a word are its right bends
pub zeros_counted : (xs : List ℕ) → count_by (λ x. eqb x 48) xs ≡ rights (bends xs)
zeros_counted xs = sym (is_count_by (λ l. rights (bends l)) (λ x. eqb x 48) refl (λ x l. first (eqb x 48) (bends l)) xs)
  where
    first : (b : Bool) (w : List Bool) → rights (b ∷ w) ≡ cond b (1 + rights w) (rights w)
    first true w = omega arith
    first false w = refl

-- what a reader gives
pub picked : {A : Type 0} (b : Bool) {x y : A} → pick b (Some x) None ≡ Some y → (b ≡ true) × (x ≡ y)
picked true e = (refl, cc)
picked false e = absurd (cc)

pub unpicked : {A : Type 0} (b : Bool) (x : A) → pick b (Some x) None ≡ None → b ≡ false
unpicked true x e = absurd (cc)
unpicked false x e = refl

-- a space behind n bytes
space_behind : (s : List ℕ) (n : ℕ) {rest : List ℕ} → space_read (drop n s) ≡ Some rest → (eqb (get_or s n 0) 32 ≡ true) × (rest ≡ drop (suc n) s)
space_behind s n e =
    let (b, r) = picked (eqb (get_or (drop n s) 0 0) 32) e in
    (sym (ap (λ (x : ℕ). eqb x 32) (get_or-drop n s 0 0 ∙ ap (λ (k : ℕ). get_or s k 0) (add-zero n))) ∙ b, sym r ∙ drop-drop 1 n s ∙ ap (λ (k : ℕ). drop k s) (add-one n))

pub number_got : (s : List ℕ) {n value : ℕ} {d u rest : List ℕ} → n ≡ number_long s → d ≡ take n s → length d ≡ n → (ltb 0 (length d) && (eqb (length d) 1 || not (eqb (get_or d 0 0) 48))) ≡ true → u ≡ drop n s → space_read u ≡ Some rest → value ≡ capped (number_of 0 d) → number_read s ≡ Some (value, rest)
number_got s {n} {value} {d} {u} {rest} n-is d-is long test u-is space value-is =
    let (behind-is, rest-is) = space_behind s n (ap space_read (sym u-is) ∙ space) in
    let some : 0 < n = omega (arith, long, ltb-true 0 (length d) (and_left (ltb 0 (length d)) _ test)) in
    let first : get_or s 0 0 ≡ get_or d 0 0 = sym (ap (λ (l : List ℕ). get_or l 0 0) d-is ∙ get_or-take n s 0 0 some) in
    let lead : (eqb n 1 || not (eqb (get_or s 0 0) 48)) ≡ true = (λ i. eqb (sym long i) 1 || not (eqb (first i) 48)) ∙ and_right (ltb 0 (length d)) _ test in
    let ok : number_ok s ≡ true = ap (λ (k : ℕ). ltb 0 k && ((eqb k 1 || not (eqb (get_or s 0 0) 48)) && eqb (get_or s k 0) 32)) (sym n-is) ∙ and_both (ltb 0 n) _ (lt-ltb 0 n some) (and_both (eqb n 1 || not (eqb (get_or s 0 0) 48)) _ lead behind-is) in
    ap (λ (b : Bool). pick b (Some (capped (number_of 0 (take (number_long s) s)), from_word s)) None) ok
    ∙ ap (λ (k : ℕ). Some (capped (number_of 0 (take k s)), drop (suc k) s)) (sym n-is)
    ∙ (λ i. Some (sym (value-is ∙ ap (λ (l : List ℕ). capped (number_of 0 l)) d-is) i, sym rest-is i))

pub word_got : (s : List ℕ) {run long right left : ℕ} {rest : List ℕ} → run ≡ run_of is_bend s → long ≡ word_long s → 0 < long → long ≤ 255 → space_read (drop long s) ≡ Some rest → right ≡ rights (bends (take run s)) → left ≡ run - right → word_read s ≡ Some (record { right = right; left = left }, rest)
word_got s {run} {long} {right} {left} {rest} run-is long-is some few space right-is left-is =
    let (behind-is, rest-is) = space_behind s long space in
    let ok : word_ok s ≡ true = ap (λ (k : ℕ). ltb 0 k && (leb k 255 && eqb (get_or s k 0) 32)) (sym long-is) ∙ and_both (ltb 0 long) _ (lt-ltb 0 long some) (and_both (leb long 255) _ (le-leb long 255 few) behind-is) in
    let right-of : right ≡ rights (word_in s) = right-is ∙ ap (λ (k : ℕ). rights (bends (take k s))) run-is in
    let left-of : left ≡ lefts (word_in s) = omega (arith, left-is, run-is, right-of, word-long (word_in s), bends_long (take (run_of is_bend s) s), length-take-le (run_of is_bend s) s (run_most is_bend s)) in
    ap (λ (b : Bool). pick b (Some (bends_in (word_in s), drop (suc (word_long s)) s)) None) ok
    ∙ ap (λ (k : ℕ). Some (bends_in (word_in s), drop (suc k) s)) (sym long-is)
    ∙ (λ i. Some (record { right = sym right-of i; left = sym left-of i }, sym rest-is i))

-- no angle, and so no entry
module _ (s : List ℕ) {dart : ℕ} {bent : Word} {u v : List ℕ} (number : number_read s ≡ Some (dart, u)) (word : word_read u ≡ Some (bent, v)) where
  from_word_is : u ≡ from_word s
  from_word_is = ap (λ (p : ℕ × List ℕ). p.1) (sym (picked (number_ok s) number).1)

  from_angle_is : v ≡ from_angle s
  from_angle_is = ap (λ (p : Word × List ℕ). p.1) (sym (picked (word_ok u) word).1) ∙ ap (λ (x : List ℕ). drop (suc (word_long x)) x) from_word_is

  pub no_angle : angle_read v ≡ None → entry_read s ≡ None
  no_angle e =
      let n = (picked (number_ok s) number).0 in
      let w : word_ok (from_word s) ≡ true = ap word_ok (sym from_word_is) ∙ (picked (word_ok u) word).0 in
      let a : angle_ok (from_angle s) ≡ false = ap angle_ok (sym from_angle_is) ∙ unpicked (angle_ok v) _ e in
      (λ i. pick (n i && (w i && a i)) (Some (held (entry_in s), behind s)) None)

-- the text behind an entry is shorter
pub behind_shorter : (s : List ℕ) → entry_ok s ≡ true → length (behind s) < length s
behind_shorter s ok =
    let n = number_long s in
    let space = eqb-true (get_or s n 0) 32 (and_right (eqb n 1 || not (eqb (get_or s 0 0) 48)) _ (and_right (ltb 0 n) _ (and_left (number_ok s) _ ok))) in
    omega (arith, stands_at s n 31 space, length-drop (suc n) s, length-drop (suc (word_long (from_word s))) (from_word s), length-drop 2 (from_angle s))
