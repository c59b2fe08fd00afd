-- An entry that is written at the front of a text is read there. Assumes nothing.
use mathlib.Core.Path.{◌≡◌, refl, sym, ap, subst, ◌∙◌}
use mathlib.Core.Bool.{Bool, true, false, ◌&&◌, ◌||◌, not}
use mathlib.Core.List.{List, [], ◌∷◌, ◌++◌, append_assoc}
use Prim.Native.Nat.{ℕ, zero, suc, ◌+◌, ◌-◌, ◌≤◌, ◌<◌}
use native.Mathlib.Omega.{arith}
use lib.Dec.{eqb, ltb, leb}
use lib.ListN.{length, get_or, take, drop, get_or-append}
use lib.Seq.{take_at, get_or_at, drop-append-add}
use borrow.Author.Tests.{lt-ltb, le-leb, leb-true, eq-eqb, ne_eqb}
use Rattle.finite.proofs.Tests.{and_left, and_right, and_both, or_left, or_right, equal_or_not}
use mathlib.Core.Logic.{⊎_elim}
use Rattle.plates.specs.Plates.{pick}
use Rattle.plates.specs.Listing.{decimal, number_of, Decimal}
use Rattle.plates.proofs.Decimals.{decimal_right}
use Rattle.plates.specs.Text.{Entry, entry, bend_digit, bend_digits, word_text, entry_text, entry_formed}
use Rattle.plates.specs.Grammar.{is_digit, is_bend, run_of, number_long, number_ok, bends, word_long, word_ok, word_in, angle_ok, from_word, from_angle, entry_ok, entry_in, behind}
use Rattle.texts.proofs.Runs.{run_over}

-- what is read at the front of s, u behind it
pub record NumberFront (d : ℕ) (s u : List ℕ) : Type 0 where
  pub ok : number_ok s ≡ true
  pub number : number_of 0 (take (number_long s) s) ≡ d
  pub rest : drop (suc (number_long s)) s ≡ u

drop_behind : (xs : List ℕ) (y : ℕ) (ys : List ℕ) → drop (suc (length xs)) (xs ++ (y ∷ ys)) ≡ ys
drop_behind xs y ys =
    let e : length xs + 1 ≡ suc (length xs) = omega arith in
    ap (λ (n : ℕ). drop n (xs ++ (y ∷ ys))) (sym e) ∙ drop-append-add xs (y ∷ ys) 1

module _ (d : ℕ) (u : List ℕ) where
  abbrev ds : List ℕ
  ds = decimal d

  abbrev s : List ℕ
  s = ds ++ (32 ∷ u)

  right : Decimal d ds
  right = decimal_right d

  long : number_long s ≡ length ds
  long = run_over is_digit ds 32 u (λ i l. and_both (leb 48 (get_or ds i 0)) (leb (get_or ds i 0) 57) (le-leb 48 (get_or ds i 0) (right.digits i l).0) (le-leb (get_or ds i 0) 57 (right.digits i l).1)) refl

  first : get_or s 0 0 ≡ get_or ds 0 0
  first = get_or-append ds (32 ∷ u) 0 0 (omega (arith, right.some))

  no_zero : (eqb (length ds) 1 || not (eqb (get_or s 0 0) 48)) ≡ true
  no_zero = ⊎_elim
      (λ q. or_left (eqb (length ds) 1) _ (eq-eqb (length ds) 1 (right.no_zero (sym first ∙ q))))
      (λ q. or_right (eqb (length ds) 1) _ (ap not (ne_eqb (get_or s 0 0) 48 q)))
      (equal_or_not (get_or s 0 0) 48)

  number_ok_lem : number_ok s ≡ true
  number_ok_lem = subst (λ (n : ℕ). (ltb 0 n && ((eqb n 1 || not (eqb (get_or s 0 0) 48)) && eqb (get_or s n 0) 32)) ≡ true) (sym long)
      (and_both (ltb 0 (length ds)) _ (lt-ltb 0 (length ds) (omega (arith, right.some)))
      (and_both (eqb (length ds) 1 || not (eqb (get_or s 0 0) 48)) _ no_zero (eq-eqb (get_or s (length ds) 0) 32 (get_or_at ds 32 u 0 (length ds) refl))))

  number_front : NumberFront d s u
  number_front = record {
    ok = number_ok_lem;
    number = ap (λ (n : ℕ). number_of 0 (take n s)) long ∙ ap (number_of 0) (take_at ds (32 ∷ u) (length ds) refl) ∙ right.number;
    rest = ap (λ (n : ℕ). drop (suc n) s) long ∙ drop_behind ds 32 u;
  }

pub record WordFront (w : List Bool) (s u : List ℕ) : Type 0 where
  pub ok : word_ok s ≡ true
  pub word : word_in s ≡ w
  pub rest : drop (suc (word_long s)) s ≡ u

bend_ok : (b : Bool) → is_bend (bend_digit b) ≡ true
bend_ok true = refl
bend_ok false = refl

not_dash : (b : Bool) → eqb (bend_digit b) 45 ≡ false
not_dash true = refl
not_dash false = refl

digits_ok : (w : List Bool) (i : ℕ) → i < length (bend_digits w) → is_bend (get_or (bend_digits w) i 0) ≡ true
digits_ok [] i l = absurd (omega arith)
digits_ok (b ∷ bs) zero l = bend_ok b
digits_ok (b ∷ bs) (suc i) l = digits_ok bs i (omega arith)

bend_back : (b : Bool) → eqb (bend_digit b) 48 ≡ b
bend_back true = refl
bend_back false = refl

bends_back : (w : List Bool) → bends (bend_digits w) ≡ w
bends_back [] = refl
bends_back (b ∷ bs) = cc (bend_back b, bends_back bs)

pub digits_long : (w : List Bool) → length (bend_digits w) ≡ length w
digits_long [] = refl
digits_long (b ∷ bs) = ap suc (digits_long bs)

word_front : (w : List Bool) (u : List ℕ) → length w ≤ 255 → WordFront w (word_text w ++ (32 ∷ u)) u
word_front [] u l = record { ok = refl; word = refl; rest = refl }
word_front (b ∷ bs) u l = record {
  ok = subst (λ (n : ℕ). (ltb 0 n && (leb n 255 && eqb (get_or s n 0) 32)) ≡ true) (sym long)
      (and_both (ltb 0 (length xs)) _ (lt-ltb 0 (length xs) (omega arith))
      (and_both (leb (length xs) 255) _ (le-leb (length xs) 255 (omega (arith, digits_long (b ∷ bs)))) (eq-eqb (get_or s (length xs) 0) 32 (get_or_at xs 32 u 0 (length xs) refl))));
  word = ap (λ (n : ℕ). bends (take n s)) run ∙ ap bends (take_at xs (32 ∷ u) (length xs) refl) ∙ bends_back (b ∷ bs);
  rest = ap (λ (n : ℕ). drop (suc n) s) long ∙ drop_behind xs 32 u;
}
  where
    xs : List ℕ
    xs = bend_digits (b ∷ bs)

    s : List ℕ
    s = xs ++ (32 ∷ u)

    run : run_of is_bend s ≡ length xs
    run = run_over is_bend xs 32 u (digits_ok (b ∷ bs)) refl

    long : word_long s ≡ length xs
    long = ap (λ (t : Bool). pick t 1 (run_of is_bend s)) (not_dash b) ∙ run

pub record AngleFront (a : ℕ) (b : Bool) (s u : List ℕ) : Type 0 where
  pub ok : angle_ok s ≡ true
  pub angle : get_or s 0 0 - 48 ≡ a
  pub ends : eqb (get_or s 1 0) 10 ≡ b
  pub rest : drop 2 s ≡ u

angle_front : (a : ℕ) (b : Bool) (u : List ℕ) → 1 ≤ a → a ≤ 4 → AngleFront a b ((48 + a) ∷ (pick b 10 32 ∷ u)) u
angle_front a true u lo hi = record { ok = and_both _ _ (and_both (leb 49 (48 + a)) _ (le-leb 49 (48 + a) (omega arith)) (le-leb (48 + a) 52 (omega arith))) refl; angle = omega arith; ends = refl; rest = refl }
angle_front a false u lo hi = record { ok = and_both _ _ (and_both (leb 49 (48 + a)) _ (le-leb 49 (48 + a) (omega arith)) (le-leb (48 + a) 52 (omega arith))) refl; angle = omega arith; ends = refl; rest = refl }

-- the entry e is read at the front of s, u behind it
pub record EntryFront (e : Entry) (s u : List ℕ) : Type 0 where
  pub ok : entry_ok s ≡ true
  pub read : entry_in s ≡ e
  pub rest : behind s ≡ u

module _ (e : Entry) (u : List ℕ) (formed : entry_formed e ≡ true) where
  abbrev v : List ℕ
  v = (48 + e.angle) ∷ (pick e.ends 10 32 ∷ u)

  abbrev w : List ℕ
  w = word_text e.word ++ (32 ∷ v)

  abbrev whole : List ℕ
  whole = decimal e.dart ++ (32 ∷ w)

  fits : length e.word ≤ 255
  fits = leb-true (length e.word) 255 (and_left (leb (length e.word) 255) _ formed)

  angle_fits : (leb 1 e.angle && leb e.angle 4) ≡ true
  angle_fits = and_right (leb (length e.word) 255) _ formed

  at_number : NumberFront e.dart whole w
  at_number = number_front e.dart w

  at_word : WordFront e.word w v
  at_word = word_front e.word v fits

  at_angle : AngleFront e.angle e.ends v u
  at_angle = angle_front e.angle e.ends u (leb-true 1 e.angle (and_left (leb 1 e.angle) _ angle_fits)) (leb-true e.angle 4 (and_right (leb 1 e.angle) _ angle_fits))

  from-angle : from_angle whole ≡ v
  from-angle = ap (λ (x : List ℕ). drop (suc (word_long x)) x) at_number.rest ∙ at_word.rest

  front : EntryFront e whole u
  front = record {
    ok = and_both (number_ok whole) _ at_number.ok
        (and_both (word_ok (from_word whole)) _ (ap word_ok at_number.rest ∙ at_word.ok) (ap angle_ok from-angle ∙ at_angle.ok));
    read = λ i. entry (at_number.number i) ((ap word_in at_number.rest ∙ at_word.word) i)
        ((ap (λ (x : List ℕ). get_or x 0 0 - 48) from-angle ∙ at_angle.angle) i) ((ap (λ (x : List ℕ). eqb (get_or x 1 0) 10) from-angle ∙ at_angle.ends) i);
    rest = ap (drop 2) from-angle ∙ at_angle.rest;
  }

  same_bytes : entry_text e ++ u ≡ whole
  same_bytes = simp append_assoc

  pub entry_front : EntryFront e (entry_text e ++ u) u
  entry_front = subst (λ (s : List ℕ). EntryFront e s u) (sym same_bytes) front
