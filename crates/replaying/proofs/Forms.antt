-- A line is read as a step exactly when it is that step's word with its numbers: the words and the digits are told apart by their bytes.
use mathlib.Core.Path.{◌≡◌, refl, sym, ap, ap₂, subst, ◌∙◌}
use mathlib.Core.Logic.{⊎_elim}
use mathlib.Core.Bool.{Bool, true, false, ◌&&◌}
use mathlib.Core.List.{List, [], ◌∷◌, ◌++◌}
use Prim.Native.Nat.{ℕ, suc, ◌+◌, ◌-◌, ◌*◌, ◌≤◌, ◌<◌, min}
use native.Mathlib.Numerals.{add-one}
use native.Mathlib.Omega.{arith}
use borrow.Author.Tests.{eqb-true, leb-true, ltb-true, lt-ltb}
use lib.Dec.{eqb, leb, ltb}
use lib.ListN.{length, take, drop, length-append}
use lib.Seq.{split_at, take-append_seam, drop-append-add}
use Rattle.finite.specs.Base.{pick, is_in}
use Rattle.finite.proofs.Tests.{either, and_parts, and_left}
use Rattle.embedding.specs.Read.{place_of}
use Rattle.embedding.proofs.Answers.{place_hit, place_miss, place-in}
use Rattle.embedding.proofs.Flat.{place_none}
use Rattle.plates.specs.Listing.{number_of}
use Rattle.plates.specs.Journal.{Step, Split, Hang, Join}
use Rattle.std.proofs.Common.{Option, Some, None}
use Rattle.std.specs.Option.{option_map}
use Rattle.console.specs.Decimals.{go_on, value_in, capped}
use Rattle.replaying.specs.Lines.{number_in, split_word, hang_word, join_word, begins_with, join_of, join_in, step_in}
use Rattle.replaying.specs.Forms.{are_digits, Digits, HasForm, LinesRead}

-- numbers
go_on_digits : (v : ℕ) (ds : List ℕ) → are_digits ds ≡ true → go_on v ds ≡ Some (number_of v ds)
go_on_digits v [] e = refl
go_on_digits v (d ∷ ds) e =
    let p = and_parts (leb 48 d && leb d 57) (are_digits ds) e in
    ap (λ (b : Bool). pick b (go_on (10 * v + (d - 48)) ds) None) p.0 ∙ go_on_digits (10 * v + (d - 48)) ds p.1

go_on_none : (v : ℕ) (ds : List ℕ) → are_digits ds ≡ false → go_on v ds ≡ None
go_on_none v [] e = cc
go_on_none v (d ∷ ds) e = by (leb 48 d && leb d 57) e (go_on_none (10 * v + (d - 48)) ds)
  where
    by : (b : Bool) → b && are_digits ds ≡ false → (are_digits ds ≡ false → go_on (10 * v + (d - 48)) ds ≡ None) → pick b (go_on (10 * v + (d - 48)) ds) None ≡ None
    by true q rest = rest q
    by false q rest = refl

digits_number : {ds : List ℕ} {n : ℕ} → Digits ds n → number_in ds ≡ Some n
digits_number {ds} h = ap (capped 65535) (from ds h.some ∙ go_on_digits 0 ds h.digits) ∙ ap Some h.number
  where
    from : (ds : List ℕ) → 1 ≤ length ds → value_in ds ≡ go_on 0 ds
    from [] l = absurd (omega arith)
    from (d ∷ ds) l = refl

number_digits : (ds : List ℕ) (n : ℕ) → number_in ds ≡ Some n → Digits ds n
number_digits [] n e = cc
number_digits (d ∷ ds) n e = ⊎_elim so not_so (either (are_digits (d ∷ ds)))
  where
    so : are_digits (d ∷ ds) ≡ true → Digits (d ∷ ds) n
    so h =
        let q : Some (min (number_of 0 (d ∷ ds)) 65535) ≡ Some n = sym (ap (capped 65535) (go_on_digits 0 (d ∷ ds) h)) ∙ e in
        record { some = omega arith; digits = h; number = cc }

    not_so : are_digits (d ∷ ds) ≡ false → Digits (d ∷ ds) n
    not_so h =
        let q : None ≡ Some n = sym (ap (capped 65535) (go_on_none 0 (d ∷ ds) h)) ∙ e in
        absurd (cc)

-- words
begins_parted : (w s : List ℕ) → begins_with w s ≡ true → s ≡ w ++ drop (length w) s
begins_parted [] s e = refl
begins_parted (x ∷ w) [] e = cc
begins_parted (x ∷ w) (y ∷ s) e =
    let p = and_parts (eqb x y) (begins_with w s) e in
    ap₂ (λ (a : ℕ) (u : List ℕ). a ∷ u) (sym (eqb-true x y p.0)) (begins_parted w s p.1)

-- the space between two numbers
digits_then : (ds es : List ℕ) → are_digits ds ≡ true → place_of 32 (ds ++ (32 ∷ es)) ≡ length ds
digits_then [] es e = place_hit 32 32 es refl
digits_then (d ∷ ds) es e =
    let p = and_parts (leb 48 d && leb d 57) (are_digits ds) e in
    let low = leb-true 48 d (and_left (leb 48 d) (leb d 57) p.0) in
    place_miss 32 d (ds ++ (32 ∷ es)) (λ q. omega (arith, low, q)) ∙ ap suc (digits_then ds es p.1)

space_parts : (u : List ℕ) → place_of 32 u < length u → u ≡ take (place_of 32 u) u ++ (32 ∷ drop (place_of 32 u + 1) u)
space_parts u l =
    split_at u (place_of 32 u) 0 l
    ∙ ap (λ (x : ℕ). take (place_of 32 u) u ++ (x ∷ drop (suc (place_of 32 u)) u)) (place-in 32 u there).1
    ∙ ap (λ (k : ℕ). take (place_of 32 u) u ++ (32 ∷ drop k u)) (sym (add-one (place_of 32 u)))
  where
    there : is_in 32 u ≡ true
    there = ⊎_elim (λ h. h) (λ h. absurd (omega (arith, place_none 32 u h))) (either (is_in 32 u))

-- from a line to its form
module _ (s : List ℕ) (t : Step) where
  as_form : {u : Step} → Some u ≡ Some t → HasForm s u → HasForm s t
  as_form {u} e = let q : u ≡ t = cc in subst (λ (v : Step). HasForm s v) q

  not_taken : {A : Type 0} → None ≡ Some t → A
  not_taken e = absurd (cc)

  split_form : (n : Option ℕ) → number_in (drop 6 s) ≡ n → s ≡ split_word ++ drop 6 s → option_map Split n ≡ Some t → HasForm s t
  split_form (Some n) h p e = as_form e (record { ds = drop 6 s; text = p; number = number_digits (drop 6 s) n h })
  split_form None h p e = not_taken e

  hang_form : (n : Option ℕ) → number_in (drop 5 s) ≡ n → s ≡ hang_word ++ drop 5 s → option_map Hang n ≡ Some t → HasForm s t
  hang_form (Some n) h p e = as_form e (record { ds = drop 5 s; text = p; number = number_digits (drop 5 s) n h })
  hang_form None h p e = not_taken e

  module _ (p : s ≡ join_word ++ drop 5 s) where
    abbrev u : List ℕ
    u = drop 5 s

    abbrev k : ℕ
    k = place_of 32 u

    join_form : (n m : Option ℕ) → number_in (take k u) ≡ n → number_in (drop (k + 1) u) ≡ m → k < length u → join_of n m ≡ Some t → HasForm s t
    join_form (Some n) (Some m) h q l e =
        as_form e
        (record {
          ds = take k u;
          es = drop (k + 1) u;
          text = p ∙ ap (λ (v : List ℕ). join_word ++ v) (space_parts u l);
          number = number_digits (take k u) n h;
          other = number_digits (drop (k + 1) u) m q;
        })
    join_form (Some n) None h q l e = not_taken e
    join_form None m h q l e = not_taken e

    joined_form : (b : Bool) → ltb k (length u) ≡ b → pick b (join_of (number_in (take k u)) (number_in (drop (k + 1) u))) None ≡ Some t → HasForm s t
    joined_form true h e = join_form (number_in (take k u)) (number_in (drop (k + 1) u)) refl refl (ltb-true k (length u) h) e
    joined_form false h e = not_taken e

  form_by : (a b c : Bool) → begins_with split_word s ≡ a → begins_with hang_word s ≡ b → begins_with join_word s ≡ c
      → pick a (option_map Split (number_in (drop 6 s))) (pick b (option_map Hang (number_in (drop 5 s))) (pick c (join_in (drop 5 s)) None)) ≡ Some t → HasForm s t
  form_by true b c p q r e = split_form (number_in (drop 6 s)) refl (begins_parted split_word s p) e
  form_by false true c p q r e = hang_form (number_in (drop 5 s)) refl (begins_parted hang_word s q) e
  form_by false false true p q r e = joined_form (begins_parted join_word s r) (ltb (place_of 32 (drop 5 s)) (length (drop 5 s))) refl e
  form_by false false false p q r e = not_taken e

  read : step_in s ≡ Some t → HasForm s t
  read = form_by (begins_with split_word s) (begins_with hang_word s) (begins_with join_word s) refl refl refl

-- and back
joined : {ds es : List ℕ} {n m : ℕ} → Digits ds n → Digits es m → join_in (ds ++ (32 ∷ es)) ≡ Some (Join n m)
joined {ds} {es} {n} {m} h q =
    let w = ds ++ (32 ∷ es) in
    let at = digits_then ds es h.digits in
    let l : place_of 32 w < length w = omega (arith, at, length-append ds (32 ∷ es)) in
    ap (λ (b : Bool). pick b (join_of (number_in (take (place_of 32 w) w)) (number_in (drop (place_of 32 w + 1) w))) None) (lt-ltb (place_of 32 w) (length w) l)
    ∙ ap (λ (k : ℕ). join_of (number_in (take k w)) (number_in (drop (k + 1) w))) at
    ∙ ap₂ (λ (a b : List ℕ). join_of (number_in a) (number_in b)) (take-append_seam ds (32 ∷ es)) (drop-append-add ds (32 ∷ es) 1)
    ∙ ap₂ join_of (digits_number h) (digits_number q)

taken : (s : List ℕ) (t : Step) → HasForm s t → step_in s ≡ Some t
taken s (Split n) h = ap step_in h.text ∙ ap (option_map Split) (digits_number h.number)
taken s (Hang n) h = ap step_in h.text ∙ ap (option_map Hang) (digits_number h.number)
taken s (Join n m) h = ap step_in h.text ∙ joined h.number h.other

pub lines_read : LinesRead
lines_read = record { read = read; taken = taken }
