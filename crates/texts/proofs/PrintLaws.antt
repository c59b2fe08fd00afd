-- Laws of printing: words as runs of one digit, lengths, entries one behind the other. Assumes nothing.
use mathlib.Core.Path.{◌≡◌, refl, sym, ap, subst, ◌∙◌}
use mathlib.Core.Bool.{Bool, true}
use mathlib.Core.List.{List, [], ◌∷◌, ◌++◌, append_assoc, append-nil}
use Prim.Native.Nat.{ℕ, zero, suc, ◌+◌, ◌*◌, ◌/◌, ◌%◌, ◌^◌, ◌≤◌, ◌<◌, min, max}
use native.Mathlib.Decide.{ℕ_discrete}
use native.Mathlib.Numerals.{add-one}
use Rattle.std.proofs.Math.Nat.{pow-succ'}
use native.Mathlib.Omega.{arith}
use lib.ListN.{length, get_or, set, take, drop, replicate, length-append, length-replicate, length-set, take-append-drop}
use lib.Seq.{take-suc, drop-drop}
use borrow.Rule.Slice.PartMut.{put_mid}
use Rattle.std.specs.Prelude.{Option, Some, None, IfNone, IfSome, unwrap_or}
use Rattle.std.specs.List.{sum_by, range_with_len}
use Rattle.std.proofs.lemmas.List.FromFn.{sum_by-map-range_with_len_more}
use mathlib.Core.List.{map, map-id}
use Rattle.finite.proofs.Members.{in_here, in_more}
use Rattle.finite.proofs.Sums.{sum_below, sum_over, sum_last}
use Rattle.fields.specs.Writing.{Written}
use Rattle.fields.proofs.Puts.{written_then}
use Rattle.shapes.specs.Counted.{Counted}
use Rattle.plates.specs.Plates.{is_in, twin}
use Rattle.plates.specs.Shapes.{some_false, even_word}
use Rattle.plates.specs.Listing.{decimal}
use Rattle.plates.proofs.ListingText.{decimal_one_long, decimal_more_long, byte_written}
use Rattle.plates.specs.Text.{Entry, entry, bend_digits, word_text, angle_text, entry_text, text_of}
use Rattle.plates.specs.Lines.{darts_of}
use Rattle.texts.specs.Plan.{laid, no_turn}
use Rattle.texts.specs.Prints.{count_word, count_entries, entry_of, bends_of, entry_long, long_up_to, EntryRoom, PrintRoom}
use Rattle.texts.specs.declared.planning.Turn.{Turn}
use Rattle.texts.specs.declared.entries.Entry.{Entry as Held}
use Rattle.texts.proofs.LaidLaws.{laid_append}
use Rattle.texts.proofs.TextBack.{angle_in}
use Rattle.texts.proofs.OneWay.{one_way}

-- how many digits a number has, by powers of ten
digits_from : (k n : ℕ) → 10 ^ k ≤ n → n < 10 * 10 ^ k → length (decimal n) ≡ k + 1
digits_from zero n l h = decimal_one_long n (omega arith)
digits_from (suc k) n l h =
    let ten : 10 ^ suc k ≡ 10 * 10 ^ k = pow-succ' 10 k in
    let some : 1 ≤ 10 ^ k = power_some k in
    omega (arith, decimal_more_long n (omega (arith, ten)), digits_from k (n / 10) (omega (arith, ten)) (omega (arith, ten)))
  where
    power_some : (k : ℕ) → 1 ≤ 10 ^ k
    power_some zero = omega arith
    power_some (suc k) = let e : 10 ^ suc k ≡ 10 * 10 ^ k = pow-succ' 10 k in omega (arith, e, power_some k)

pub digits_counted : (n : ℕ) (r : Option ℕ) {k : ℕ} → IfNone r (n ≡ 0) → IfSome r (λ j. 10 ^ j ≤ n) → IfSome r (λ j. n < 10 * 10 ^ j) → k ≡ unwrap_or r 0 → k + 1 ≡ length (decimal n)
digits_counted n None none low high e = omega (arith, e, decimal_one_long n (omega (arith, none)))
digits_counted n (Some j) none low high e = omega (arith, e, digits_from j n low high)

-- words of one digit
false_digits : (l : ℕ) → bend_digits (some_false l) ≡ replicate l 49
false_digits zero = refl
false_digits (suc l) = ap (λ (x : List ℕ). 49 ∷ x) (false_digits l)

even_digits : (r l : ℕ) → bend_digits (even_word r l) ≡ replicate r 48 ++ replicate l 49
even_digits zero l = false_digits l
even_digits (suc r) l = ap (λ (x : List ℕ). 48 ∷ x) (even_digits r l)

some_digits : (r l : ℕ) → (r + l ≡ 0 → ⊥) → word_text (even_word r l) ≡ replicate r 48 ++ replicate l 49
some_digits zero zero n = absurd (n refl)
some_digits zero (suc l) n = even_digits zero (suc l)
some_digits (suc r) l n = even_digits (suc r) l

pub no_word : (r l : ℕ) → r ≡ 0 → l ≡ 0 → word_text (even_word r l) ≡ 45 ∷ []
no_word r l e f = rw (e, f)

pub no_word_long : (r l n : ℕ) → n ≡ r + l → n ≡ 0 → 1 ≡ length (word_text (even_word r l))
no_word_long r l n e z = sym (ap length (no_word r l (omega arith) (omega arith)))

pub some_word_long : (r l n : ℕ) → n ≡ r + l → (n ≡ 0 → ⊥) → n ≡ length (word_text (even_word r l))
some_word_long r l n e z =
    omega (
      arith,
      ap length (some_digits r l (λ q. z (e ∙ q))),
      length-append (replicate {A = ℕ} r 48) (replicate {A = ℕ} l 49),
      length-replicate {A = ℕ} r 48,
      length-replicate {A = ℕ} l 49,
    )

pub right_word : (r l : ℕ) → min r l ≡ 0 → (r ≡ 0 → ⊥) → word_text (even_word r l) ≡ replicate r 48
right_word r l m n =
    let e : l ≡ 0 = omega arith in
    some_digits r l (λ z. n (omega arith)) ∙ ap (λ (k : ℕ). replicate r 48 ++ replicate k 49) e ∙ append-nil (replicate r 48)

pub left_word : (r l : ℕ) → r ≡ 0 → (l ≡ 0 → ⊥) → word_text (even_word r l) ≡ replicate l 49
left_word r l e n = some_digits r l (λ z. n (omega arith)) ∙ ap (λ (k : ℕ). replicate k 48 ++ replicate l 49) e

pub rewritten : {at n : ℕ} {out out' : List ℕ} (xs ys : List ℕ) → xs ≡ ys → Written at xs out out' n → Written at ys out out' n
rewritten {at} {n} {out} {out'} xs ys e w = subst (λ (z : List ℕ). Written at z out out' n) e w

-- how long a word is
pub word_counted : (r l : ℕ) {n : ℕ} → n ≡ max (r + l) 1 → n ≡ length (word_text (even_word r l))
word_counted r l {n} e = go (ℕ_discrete (r + l) 0)
  where
    go : Dec (r + l ≡ 0) → n ≡ length (word_text (even_word r l))
    go (yes z) = omega (arith, e, no_word_long r l (r + l) refl z)
    go (no z) = omega (arith, e, some_word_long r l (r + l) refl z)

-- bytes put into a part of a slice
pub part_written : {at k next : ℕ} {xs ys out : List ℕ} → ys ≡ xs → k ≡ length xs → next ≡ at + length xs → Written at xs out (put_mid at k out ys) next
part_written {at} {k} {next} {xs} {ys} {out} e l n = record {
  bytes = ap (λ (zs : List ℕ). put_mid at k out zs) e ∙ ap (λ (r : List ℕ). take at out ++ (xs ++ r)) (drop-drop k at out ∙ ap (λ (m : ℕ). drop m out) (ap (λ (m : ℕ). at + m) l));
  behind = n;
}

-- an entry in its parts
pub entry_parts : (d right left angle : ℕ) (b : Bool) {at m n : ℕ} {out o1 o2 o3 : List ℕ} → at ≤ length out → m < length o1 → m + 1 ≤ length o1
    → Written at (decimal d) out o1 m → Written (m + 1) (word_text (even_word right left)) (set o1 m 32) o2 n → n ≤ length o2 → Written n (angle_text angle b) o2 o3 (n + 3)
    → Written at (entry_text (entry d (even_word right left) angle b)) out o3 (n + 3)
entry_parts d right left angle b {at} {m} {n} {out} {o1} {o2} {o3} l k j w1 w2 h w3 =
    written_then l w1
    (written_then (omega arith) (byte_written 32 m o1 k)
    (written_then (omega (arith, length-set o1 m 32)) w2 w3))

pub entry_size : (d right left angle : ℕ) (b : Bool) → length (entry_text (entry d (even_word right left) angle b)) ≡ length (decimal d) + (length (word_text (even_word right left)) + 4)
entry_size d right left angle b =
    omega (
      arith,
      length-append (decimal d) (32 ∷ (word_text (even_word right left) ++ angle_text angle b)),
      length-append (word_text (even_word right left)) (angle_text angle b),
    )

-- texts of parts
text_append : (xs ys : List Entry) → text_of (xs ++ ys) ≡ text_of xs ++ text_of ys
text_append [] ys = refl
text_append (x ∷ xs) ys = ap (λ (l : List ℕ). entry_text x ++ l) (text_append xs ys) ∙ sym (append_assoc (entry_text x) (text_of xs) (text_of ys))

count_append : (a r : List ℕ) (xs ys : List Entry) → count_entries a r (xs ++ ys) ≡ count_entries a r xs ++ count_entries a r ys
count_append a r [] ys = refl
count_append a r (x ∷ xs) ys = ap (λ (l : List Entry). entry x.dart (count_word r x.dart) (get_or a x.dart 0) x.ends ∷ l) (count_append a r xs ys)

module _ (a r : List ℕ) where
  abbrev text : List Turn → List ℕ
  text ts = text_of (count_entries a r (laid ts))

  abbrev turn_text : Turn → List ℕ
  turn_text t = entry_text (entry t.dart (count_word r t.dart) (get_or a t.dart 0) t.last)

  text_parts : (xs ys : List Turn) → text (xs ++ ys) ≡ text xs ++ text ys
  text_parts xs ys = ap (λ (l : List Entry). text_of (count_entries a r l)) (laid_append xs ys) ∙ ap text_of (count_append a r (laid xs) (laid ys)) ∙ text_append (count_entries a r (laid xs)) (count_entries a r (laid ys))

  module _ (ts : List Turn) (i : ℕ) (l : i < length ts) where
    abbrev t : Turn
    t = get_or ts i no_turn

    pub one_more : text (take (i + 1) ts) ≡ text (take i ts) ++ turn_text t
    one_more =
        ap (λ (k : ℕ). text (take k ts)) (add-one i)
        ∙ ap text (take-suc ts i no_turn l)
        ∙ text_parts (take i ts) (t ∷ [])
        ∙ ap (λ (x : List ℕ). text (take i ts) ++ x) (append-nil (turn_text t))

    pub room_for : length (text (take i ts)) + length (turn_text t) ≤ length (text ts)
    room_for =
        omega (
          arith,
          ap (λ (x : List Turn). length (text x)) (sym (take-append-drop (i + 1) ts)),
          ap length (text_parts (take (i + 1) ts) (drop (i + 1) ts)),
          length-append (text (take (i + 1) ts)) (text (drop (i + 1) ts)),
          ap length one_more,
          length-append (text (take i ts)) (turn_text t),
        )

-- the entries of the first i turns are written
pub record Printing (a r : List ℕ) (ts : List Turn) (out₀ out : List ℕ) (at i : ℕ) : Type 0 where
  pub written : Written 0 (text_of (count_entries a r (laid (take i ts)))) out₀ out at
  pub same_long : length out ≡ length out₀

module _ {a r : List ℕ} {ts : List Turn} {out₀ out : List ℕ} {at i : ℕ} (counted : Counted a r) (room : PrintRoom ts a r (length out₀)) (done : Printing a r ts out₀ out at i) (l : i < length ts) where
  abbrev turn : Turn
  turn = get_or ts i no_turn

  pub d_below : turn.dart < length r
  d_below = room.below i no_turn l

  even : length r % 2 ≡ 0
  even = omega (arith, counted.same_length, counted.even_length)

  pub d_angle : turn.dart < length a
  d_angle = omega (arith, d_below, counted.same_length)

  -- the entry of turn i, as the code holds it
  abbrev turn_entry : Held
  turn_entry = record { dart = turn.dart; word = bends_of r turn.dart; angle = get_or a turn.dart 0; last = turn.last }

  pub entry_room : EntryRoom turn_entry at (length out)
  entry_room = record {
    one_way = one_way r even room.straight.one_way turn.dart d_below;
    angle_most = (angle_in a room.straight.angles-ok turn.dart d_angle).1;
    enough = omega (arith, done.written.behind, done.same_long, room.enough, room_for a r ts i l);
  }

  pub printing_more : {out' : List ℕ} {at' : ℕ} → Written at (entry_text (entry_of turn_entry)) out out' at' → length out' ≡ length out → Printing a r ts out₀ out' at' (i + 1)
  printing_more {out'} {at'} w k = record {
    written = rewritten (text a r (take i ts) ++ turn_text a r turn) (text a r (take (i + 1) ts)) (sym (one_more a r ts i l)) (written_then (omega arith) done.written w);
    same_long = k ∙ done.same_long;
  }

-- lengths
pub long_sum : (n : ℕ) (r : List ℕ) → long_up_to n r ≡ sum_below n (entry_long r)
long_sum zero r = refl
long_sum (suc n) r = omega (arith, long_sum n r, sum_last n (entry_long r))

-- as the library adds them up
pub long_by : (n : ℕ) (r : List ℕ) → sum_by (entry_long r) (range_with_len 0 n) ≡ long_up_to n r
long_by n r = ap (sum_by (entry_long r)) (sym (map-id (range_with_len 0 n))) ∙ counted n
  where
    counted : (n : ℕ) → sum_by (entry_long r) (map (λ d. d) (range_with_len 0 n)) ≡ long_up_to n r
    counted zero = refl
    counted (suc n) =
        ap (λ (k : ℕ). sum_by (entry_long r) (map (λ d. d) (range_with_len 0 k))) (sym (add-one n))
        ∙ sum_by-map-range_with_len_more (entry_long r) (λ d. d) 0 n n (omega arith) ∙ ap (λ (k : ℕ). k + entry_long r n) (counted n)

pub count_sum : (a r : List ℕ) (xs : List Entry) → length (text_of (count_entries a r xs)) ≡ sum_over (darts_of xs) (entry_long r)
count_sum a r [] = refl
count_sum a r (x ∷ xs) =
    omega (
      arith,
      count_sum a r xs,
      length-append (entry_text (entry x.dart (count_word r x.dart) (get_or a x.dart 0) x.ends)) (text_of (count_entries a r xs)),
      entry_size x.dart (get_or r x.dart 0) (get_or r (twin x.dart) 0) (get_or a x.dart 0) x.ends,
    )

-- the darts that are laid
pub laid_dart : (ts : List Turn) (i : ℕ) (t : Turn) → i < length ts → is_in (get_or ts i t).dart (darts_of (laid ts)) ≡ true
laid_dart [] i t l = absurd (omega arith)
laid_dart (u ∷ ts) zero t l = in_here u.dart (darts_of (laid ts))
laid_dart (u ∷ ts) (suc i) t l = in_more (get_or ts i t).dart u.dart (darts_of (laid ts)) (laid_dart ts i t (omega arith))

pub word_most : (r l : ℕ) → r + l ≤ 255 → length (word_text (even_word r l)) ≤ 255
word_most r l h = go (ℕ_discrete (r + l) 0)
  where
    go : Dec (r + l ≡ 0) → length (word_text (even_word r l)) ≤ 255
    go (yes e) = omega (arith, no_word_long r l (r + l) refl e)
    go (no e) = omega (arith, some_word_long r l (r + l) refl e)
