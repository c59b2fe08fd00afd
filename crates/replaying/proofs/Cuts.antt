-- A part that is cut from a journal behind a line feed, without the line feed, is its first line.
use mathlib.Core.Path.{◌≡◌, refl, sym, ap, ◌∙◌}
use mathlib.Core.Bool.{Bool, true, false, ◌&&◌}
use mathlib.Core.List.{List, [], ◌∷◌, ◌++◌}
use Prim.Native.Nat.{ℕ, zero, suc, ◌+◌, ◌-◌, ◌≤◌, ◌<◌, min}
use native.Mathlib.Omega.{arith}
use borrow.Author.Tests.{eqb-true, eqb-false, ltb-true, ltb-false}
use lib.Dec.{eqb, ltb}
use lib.Pointwise.{pointwise}
use denote.Bor.{Bor}
use Rattle.std.proofs.Common.{Option, Some, None}
use Rattle.std.proofs.Math.Seq.{drop-cons}
use Rattle.std.proofs.lemmas.List.{take-append-le}
use Rattle.std.specs.List.{IsFirstMatchOrLen}
use Rattle.std.specs.Prelude.{unwrap_or, MatchOption}
use Rattle.finite.specs.Base.{pick}
use lib.ListN.{length, get_or, take, drop, drop_of_length-le}
use lib.Seq.{take_at, drop_at, get_or-take}
use Rattle.embedding.specs.Read.{place_of}
use Rattle.embedding.proofs.Answers.{place_hit, place_miss}

abbrev Unlike : List ℕ → ℕ → Type 0
Unlike u n = (k d : ℕ) → 0 ≤ k → k < n → eqb (get_or u k d) 10 ≡ false

not_feed : (x : ℕ) → eqb x 10 ≡ false → 10 ≡ x → ⊥
not_feed x f e = eqb-false x 10 f (sym e)

no_feed : (u : List ℕ) → Unlike u (length u) → place_of 10 u ≡ length u
no_feed [] h = refl
no_feed (x ∷ xs) h =
    place_miss 10 x xs (not_feed x (h 0 0 (omega arith) (omega arith)))
    ∙ ap suc (no_feed xs (λ k d l m. h (suc k) d (omega arith) (omega arith)))

first_feed : (u : List ℕ) (i : ℕ) → i < length u → Unlike u i → ((d : ℕ) → eqb (get_or u i d) 10 ≡ true) → place_of 10 u ≡ i
first_feed [] i l h t = absurd (omega arith)
first_feed (x ∷ xs) zero l h t = place_hit 10 x xs (sym (eqb-true x 10 (t 0)))
first_feed (x ∷ xs) (suc i) l h t =
    place_miss 10 x xs (not_feed x (h 0 0 (omega arith) (omega arith)))
    ∙ ap suc (first_feed xs i (omega arith) (λ k d l m. h (suc k) d (omega arith) (omega arith)) t)

-- a list that is not empty ends with its last element
ends : (l : List ℕ) → 0 < length l → drop (length l - 1) l ≡ get_or l (length l - 1) 0 ∷ []
ends l h =
    let e : length l ≤ suc (length l - 1) = omega arith in
    drop-cons l (length l - 1) 0 (omega arith) ∙ ap (λ (k : List ℕ). get_or l (length l - 1) 0 ∷ k) (drop_of_length-le l e)

and_true : (b : Bool) → (b && true) ≡ b
and_true true = refl
and_true false = refl

-- a part `line` that is cut from the front of u, which leaves u': whether it ends with a line feed, and what it is of u
pub record Cut (u line u' : List ℕ) : Type 0 where
  pub feed : Bool
  pub told : pointwise eqb (drop (length line - 1) line) (10 ∷ []) ≡ feed
  pub front : pick feed (take (length line - 1) line) line ≡ take (place_of 10 u) u
  pub rest : u' ≡ drop (suc (place_of 10 u)) u

-- the part `line` of u up to its first line feed at i, or all of u
module _ (u line u' : List ℕ) (i : ℕ) (parts : u ≡ line ++ u') (long : length line ≡ min (i + 1) (length u)) (some : 0 < length u) (before : Unlike u i) (hit : i < length u → (d : ℕ) → eqb (get_or u i d) 10 ≡ true) where
  line_is : take (length line) u ≡ line
  line_is = ap (take (length line)) parts ∙ take_at line u' (length line) refl

  rest_is : drop (length line) u ≡ u'
  rest_is = ap (drop (length line)) parts ∙ drop_at line u' (length line) refl

  last_is : get_or u (length line - 1) 0 ≡ get_or line (length line - 1) 0
  last_is = sym (get_or-take (length line) u (length line - 1) 0 (omega arith)) ∙ ap (λ (l : List ℕ). get_or l (length line - 1) 0) line_is

  feed_told : eqb (get_or u (length line - 1) 0) 10 ≡ pointwise eqb (drop (length line - 1) line) (10 ∷ [])
  feed_told =
      ap (λ (x : ℕ). eqb x 10) last_is ∙ sym (and_true (eqb (get_or line (length line - 1) 0) 10))
      ∙ ap (λ (l : List ℕ). pointwise eqb l (10 ∷ [])) (sym (ends line (omega arith)))

  cut_hit : i < length u → Cut u line u'
  cut_hit l =
      let at : place_of 10 u ≡ i = first_feed u i l before (hit l) in
      let n : length line - 1 ≡ i = omega arith in
      let m : length line ≡ suc (place_of 10 u) = omega (arith, at) in
      record {
        feed = true;
        told = sym feed_told ∙ ap (λ (k : ℕ). eqb (get_or u k 0) 10) n ∙ hit l 0;
        front = sym (take-append-le (length line - 1) line u' (omega arith)) ∙ ap (take (length line - 1)) (sym parts) ∙ ap (λ (k : ℕ). take k u) (n ∙ sym at);
        rest = sym rest_is ∙ ap (λ (k : ℕ). drop k u) m;
      }

  cut_none : length u ≤ i → Cut u line u'
  cut_none l =
      let at : place_of 10 u ≡ length u = no_feed u (λ k d a b. before k d a (omega arith)) in
      let n : length line ≡ place_of 10 u = omega (arith, at) in
      let m : length u ≤ length line = omega arith in
      let k : length u ≤ suc (place_of 10 u) = omega (arith, at) in
      record {
        feed = false;
        told = sym feed_told ∙ before (length line - 1) 0 (omega arith) (omega arith);
        front = sym line_is ∙ ap (λ (k : ℕ). take k u) n;
        rest = sym rest_is ∙ drop_of_length-le u m ∙ sym (drop_of_length-le u k);
      }

pub cut_line : (u line u' : List ℕ) (i : ℕ) → u ≡ line ++ u' → length line ≡ min (i + 1) (length u) → 0 < length u → IsFirstMatchOrLen (λ (b : ℕ). eqb b 10) u i → Cut u line u'
cut_line u line u' i parts long some (before, hit) = by (ltb i (length u)) (ltb-true i (length u)) (ltb-false i (length u))
  where
    by : (b : Bool) → (b ≡ true → i < length u) → (b ≡ false → length u ≤ i) → Cut u line u'
    by true h k = cut_hit u line u' i parts long some before hit (h refl)
    by false h k = cut_none u line u' i parts long some before hit (k refl)

-- the part without the line feed
pub cut_now : {u line u' : List ℕ} → Cut u line u' → (o : Option (Bor (List ℕ))) (d : Bor (List ℕ)) → d.now ≡ line
    → MatchOption o (pointwise eqb (drop (length line - 1) line) (10 ∷ []) ≡ false) (λ x. (pointwise eqb (drop (length line - 1) line) (10 ∷ []) ≡ true) × (x.now ≡ take (length line - 1) line) × (length x.now + 1 ≡ length line))
    → (unwrap_or o d).now ≡ take (place_of 10 u) u
cut_now {line = line} c None d e h = e ∙ ap (λ (b : Bool). pick b (take (length line - 1) line) line) (sym h ∙ c.told) ∙ c.front
cut_now {line = line} c (Some x) d e h = h.1 ∙ ap (λ (b : Bool). pick b (take (length line - 1) line) line) (sym h.0 ∙ c.told) ∙ c.front
