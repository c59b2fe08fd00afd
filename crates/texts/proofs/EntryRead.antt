-- An entry that is read at the front of a text is written there. Assumes nothing.
use mathlib.Core.Path.{◌≡◌, refl, sym, ap, subst, ◌∙◌}
use mathlib.Core.Bool.{Bool, true, false, ◌&&◌, ◌||◌, not}
use mathlib.Core.List.{List, [], ◌∷◌, ◌++◌, append_assoc}
use mathlib.Core.Logic.{⊎_elim}
use Prim.Native.Nat.{ℕ, suc, ◌+◌, ◌-◌, ◌≤◌, ◌<◌}
use native.Mathlib.Omega.{arith}
use lib.Dec.{eqb, ltb, leb}
use lib.ListN.{length, get_or, take, drop}
use lib.Seq.{get_or-take, length-take-le}
use borrow.Author.Tests.{ltb-true, leb-true, le-leb, eqb-true, eqb-false, not-true}
use Rattle.finite.proofs.Tests.{and_left, and_right, and_both, or_cases}
use Rattle.plates.specs.Plates.{pick}
use Rattle.plates.specs.Listing.{decimal, number_of}
use Rattle.plates.specs.Text.{bend_digit, bend_digits, word_text, entry_text, entry_formed}
use Rattle.plates.specs.Grammar.{is_digit, is_bend, run_of, number_long, number_ok, bends, is_dash, word_long, word_ok, word_in, angle_ok, from_word, from_angle, entry_ok, entry_in, behind}
use Rattle.texts.proofs.DecimalOnly.{Digits, decimal_only}
use Rattle.texts.proofs.Runs.{run_most, run_in, parted}

-- a number and its space
module _ (s : List ℕ) (ok : number_ok s ≡ true) where
  abbrev n : ℕ
  n = number_long s

  abbrev from_zero : Bool
  from_zero = (eqb n 1 || not (eqb (get_or s 0 0) 48)) && eqb (get_or s n 0) 32

  some : 0 < n
  some = ltb-true 0 n (and_left (ltb 0 n) from_zero ok)

  no_zero : (eqb n 1 || not (eqb (get_or s 0 0) 48)) ≡ true
  no_zero = and_left (eqb n 1 || not (eqb (get_or s 0 0) 48)) _ (and_right (ltb 0 n) from_zero ok)

  space : get_or s n 0 ≡ 32
  space = eqb-true (get_or s n 0) 32 (and_right (eqb n 1 || not (eqb (get_or s 0 0) 48)) _ (and_right (ltb 0 n) from_zero ok))

  digits_long : length (take n s) ≡ n
  digits_long = length-take-le n s (run_most is_digit s)

  digits : Digits (take n s)
  digits = record {
    digits = λ i l.
        let j : i < n = omega (arith, digits_long) in
        let t = run_in is_digit s i j in
        subst (λ (x : ℕ). (48 ≤ x) × (x ≤ 57)) (sym (get_or-take n s i 0 j)) (leb-true 48 (get_or s i 0) (and_left (leb 48 (get_or s i 0)) _ t), leb-true (get_or s i 0) 57 (and_right (leb 48 (get_or s i 0)) _ t));
    some = omega (arith, digits_long, some);
    no_zero = λ z. ⊎_elim (λ q. digits_long ∙ eqb-true n 1 q)
        (λ q. absurd (eqb-false (get_or s 0 0) 48 (not-true (eqb (get_or s 0 0) 48) q) (sym (get_or-take n s 0 0 some) ∙ z))) (or_cases (eqb n 1) (not (eqb (get_or s 0 0) 48)) no_zero);
  }

  number_read : s ≡ decimal (number_of 0 (take n s)) ++ (32 ∷ from_word s)
  number_read = parted s n 31 space ∙ ap (λ (l : List ℕ). l ++ (32 ∷ from_word s)) (sym (decimal_only (take n s) digits))

-- a word and its space
bend_of : (x : ℕ) → is_bend x ≡ true → bend_digit (eqb x 48) ≡ x
bend_of x e = go (eqb x 48) refl
  where
    go : (b : Bool) → eqb x 48 ≡ b → bend_digit b ≡ x
    go true q = sym (eqb-true x 48 q)
    go false q =
        let lo : 48 ≤ x = leb-true 48 x (and_left (leb 48 x) _ e) in
        let hi : x ≤ 49 = leb-true x 49 (and_right (leb 48 x) _ e) in
        omega (arith, eqb-false x 48 q)

bends_of : (xs : List ℕ) → ((i : ℕ) → i < length xs → is_bend (get_or xs i 0) ≡ true) → bend_digits (bends xs) ≡ xs
bends_of [] h = refl
bends_of (x ∷ xs) h = cc (bend_of x (h 0 (omega arith)), bends_of xs (λ i l. h (suc i) (omega arith)))

word_of_lem : (xs : List ℕ) → 0 < length xs → ((i : ℕ) → i < length xs → is_bend (get_or xs i 0) ≡ true) → word_text (bends xs) ≡ xs
word_of_lem [] l h = absurd (omega arith)
word_of_lem (x ∷ xs) l h = bends_of (x ∷ xs) h

pub bends_long : (xs : List ℕ) → length (bends xs) ≡ length xs
bends_long [] = refl
bends_long (x ∷ xs) = ap suc (bends_long xs)

no_bend : (s : List ℕ) → get_or s 0 0 ≡ 45 → run_of is_bend s ≡ 0
no_bend [] e = refl
no_bend (x ∷ xs) e = ap (λ (y : ℕ). pick (is_bend y) (suc (run_of is_bend xs)) 0) e

module _ (s : List ℕ) (ok : word_ok s ≡ true) where
  abbrev m : ℕ
  m = word_long s

  word_space : get_or s m 0 ≡ 32
  word_space = eqb-true (get_or s m 0) 32 (and_right (leb m 255) _ (and_right (ltb 0 m) _ ok))

  word_some : 0 < m
  word_some = ltb-true 0 m (and_left (ltb 0 m) _ ok)

  word_most : m ≤ 255
  word_most = leb-true m 255 (and_left (leb m 255) _ (and_right (ltb 0 m) _ ok))

  abbrev Read : Type 0
  Read = (take m s ≡ word_text (word_in s)) × (length (word_in s) ≤ 255)

  dash : is_dash s ≡ true → Read
  dash e =
      let q : get_or s 0 0 ≡ 45 = eqb-true (get_or s 0 0) 45 e in
      let one : m ≡ 1 = ap (λ (b : Bool). pick b 1 (run_of is_bend s)) e in
      let none : word_in s ≡ [] = ap (λ (k : ℕ). bends (take k s)) (no_bend s q) in
      (ap (λ (k : ℕ). take k s) one ∙ first s q ∙ ap word_text (sym none), omega (arith, ap length none))
    where
      first : (s : List ℕ) → get_or s 0 0 ≡ 45 → take 1 s ≡ 45 ∷ []
      first [] e = absurd (omega arith)
      first (x ∷ xs) e = ap (λ (y : ℕ). y ∷ []) e

  no_dash : is_dash s ≡ false → Read
  no_dash e =
      let run : m ≡ run_of is_bend s = ap (λ (b : Bool). pick b 1 (run_of is_bend s)) e in
      let long : length (take (run_of is_bend s) s) ≡ run_of is_bend s = length-take-le (run_of is_bend s) s (run_most is_bend s) in (
        ap (λ (k : ℕ). take k s) run
            ∙ sym (word_of_lem (take (run_of is_bend s) s) (omega (arith, word_some)) (λ i l. let j : i < run_of is_bend s = omega arith in ap is_bend (get_or-take (run_of is_bend s) s i 0 j) ∙ run_in is_bend s i j)),
        omega (arith, bends_long (take (run_of is_bend s) s), word_most),
      )

  word_parts : Read
  word_parts = go (is_dash s) refl
    where
      go : (b : Bool) → is_dash s ≡ b → Read
      go true e = dash e
      go false e = no_dash e

  word_read : s ≡ word_text (word_in s) ++ (32 ∷ drop (suc m) s)
  word_read = parted s m 31 word_space ∙ ap (λ (l : List ℕ). l ++ (32 ∷ drop (suc m) s)) word_parts.0

  pub word_fits : length (word_in s) ≤ 255
  word_fits = word_parts.1

-- an angle and what ends it
module _ (s : List ℕ) (ok : angle_ok s ≡ true) where
  abbrev x : ℕ
  x = get_or s 0 0

  abbrev y : ℕ
  y = get_or s 1 0

  in_range : (leb 49 x && leb x 52) ≡ true
  in_range = and_left (leb 49 x && leb x 52) _ ok

  pub angle_least : 1 ≤ x - 48
  angle_least = omega (arith, leb-true 49 x (and_left (leb 49 x) _ in_range))

  pub angle_most : x - 48 ≤ 4
  angle_most = omega (arith, leb-true x 52 (and_right (leb 49 x) _ in_range))

  end_is : pick (eqb y 10) 10 32 ≡ y
  end_is = go (eqb y 10) refl (and_right (leb 49 x && leb x 52) _ ok)
    where
      go : (b : Bool) → eqb y 10 ≡ b → (b || eqb y 32) ≡ true → pick b 10 32 ≡ y
      go true q h = sym (eqb-true y 10 q)
      go false q h = sym (eqb-true y 32 h)

  angle_read : s ≡ (48 + (x - 48)) ∷ (pick (eqb y 10) 10 32 ∷ drop 2 s)
  angle_read = go s refl refl
    where
      go : (r : List ℕ) → x ≡ get_or r 0 0 → y ≡ get_or r 1 0 → r ≡ (48 + (x - 48)) ∷ (pick (eqb y 10) 10 32 ∷ drop 2 r)
      go [] p q = absurd (omega (arith, angle_least))
      go (a ∷ []) p q = absurd (no_end (eqb y 10) end_is q)
        where
          no_end : (b : Bool) → pick b 10 32 ≡ y → y ≡ 0 → ⊥
          no_end true e z = omega arith
          no_end false e z = omega arith
      go (a ∷ (b ∷ r)) p q =
          let h : a ≡ 48 + (x - 48) = omega (arith, angle_least) in
          let k : b ≡ pick (eqb y 10) 10 32 = sym q ∙ sym end_is in
          λ i. h i ∷ (k i ∷ r)

module _ (s : List ℕ) (ok : entry_ok s ≡ true) where
  ok_number : number_ok s ≡ true
  ok_number = and_left (number_ok s) _ ok

  ok_word : word_ok (from_word s) ≡ true
  ok_word = and_left (word_ok (from_word s)) _ (and_right (number_ok s) _ ok)

  ok_angle : angle_ok (from_angle s) ≡ true
  ok_angle = and_right (word_ok (from_word s)) _ (and_right (number_ok s) _ ok)

  pub entry-formed : entry_formed (entry_in s) ≡ true
  entry-formed = and_both _ _ (le-leb (length (word_in (from_word s))) 255 (word_fits (from_word s) ok_word))
      (and_both _ _ (le-leb 1 (get_or (from_angle s) 0 0 - 48) (angle_least (from_angle s) ok_angle)) (le-leb (get_or (from_angle s) 0 0 - 48) 4 (angle_most (from_angle s) ok_angle)))

  abbrev d : List ℕ
  d = decimal (entry_in s).dart

  abbrev w : List ℕ
  w = word_text (entry_in s).word

  pub entry_read : entry_text (entry_in s) ++ behind s ≡ s
  entry_read = joined ∙ ap (λ (l : List ℕ). d ++ (32 ∷ (w ++ (32 ∷ l)))) (sym (angle_read (from_angle s) ok_angle))
      ∙ ap (λ (l : List ℕ). d ++ (32 ∷ l)) (sym (word_read (from_word s) ok_word))
      ∙ sym (number_read s ok_number)
    where
      joined : entry_text (entry_in s) ++ behind s ≡ d ++ (32 ∷ (w ++ (32 ∷ ((48 + (entry_in s).angle) ∷ (pick (entry_in s).ends 10 32 ∷ behind s)))))
      joined = simp append_assoc
