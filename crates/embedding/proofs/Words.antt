-- The library's words for a search of a list, and this crate's.
use mathlib.Core.Path.{◌≡◌, refl, sym, ap, ◌∙◌}
use mathlib.Core.Bool.{Bool, true, false, ◌&&◌, ◌||◌, not}
use mathlib.Core.List.{List, [], ◌∷◌}
use Prim.Native.Nat.{ℕ, suc, ◌+◌, ◌-◌, ◌≤◌, ◌<◌}
use native.Mathlib.Omega.{arith}
use borrow.Author.Tests.{ltb-true, ltb-false}
use lib.Dec.{eqb, ltb}
use lib.ListN.{length, get_or, take, drop}
use lib.Seq.{drop-drop}
use Rattle.finite.proofs.Lent.{rest_lent}
use Rattle.std.proofs.Common.{cond, Option, Some, None, unwrap_or, position}
use Rattle.std.specs.List.{list_all, list_any, enumerate_from, position_or_len}
use Rattle.std.proofs.lemmas.List.Recursion.{is_position_or_len}
use Rattle.finite.proofs.Tests.{eqb_turned}
use Rattle.embedding.specs.Plates.{is_in, distinct, all_leave, plate, last_of}
use Rattle.embedding.specs.Meant.{place_of}

contains_is : (x : ℕ) (ys : List ℕ) → list_any (λ y. eqb y x) ys ≡ is_in x ys
contains_is x [] = refl
contains_is x (y ∷ ys) = ap (λ (b : Bool). b || list_any (λ z. eqb z x) ys) (eqb_turned y x) ∙ ap (λ (b : Bool). eqb x y || b) (contains_is x ys)

-- in the rest of a list
pub contained : (x : ℕ) (s : List ℕ) (from : ℕ) → list_any (λ y. eqb y x) (take (length s - from) (drop from s)) ≡ is_in x (drop from s)
contained x s from = contains_is x (take (length s - from) (drop from s)) ∙ ap (is_in x) (rest_lent s from)

place-position : (x : ℕ) (s : List ℕ) → place_of x s ≡ position_or_len (λ y. eqb x y) s
place-position x = is_position_or_len (place_of x) (λ y. eqb x y) refl (λ y ys. by (eqb x y) (place_of x ys))
  where
    by : (b : Bool) (n : ℕ) → elim b as (λ b. ℕ) [ true ↦ 0 | false ↦ suc n ] ≡ cond b 0 (1 + n)
    by true n = refl
    by false n = omega arith

-- where it stands, if it does
pub found : (x : ℕ) (s : List ℕ) (at : ℕ) → Some at ≡ position (λ y. eqb x y) s → (at ≡ place_of x s) × (at < length s)
found x s at e = by (ltb (position_or_len (λ y. eqb x y) s) (length s)) refl e
  where
    by : (b : Bool) → ltb (position_or_len (λ y. eqb x y) s) (length s) ≡ b → Some at ≡ cond b (Some (position_or_len (λ y. eqb x y) s)) None → (at ≡ place_of x s) × (at < length s)
    by true h e =
        let same : at ≡ position_or_len (λ y. eqb x y) s = ap (λ (o : Option ℕ). unwrap_or o 0) e in
        (same ∙ sym (place-position x s), omega (arith, same, ltb-true (position_or_len (λ y. eqb x y) s) (length s) h))
    by false h e = cc

pub missing : (x : ℕ) (s : List ℕ) → None ≡ position (λ y. eqb x y) s → length s ≤ place_of x s
missing x s e = by (ltb (position_or_len (λ y. eqb x y) s) (length s)) refl e
  where
    by : (b : Bool) → ltb (position_or_len (λ y. eqb x y) s) (length s) ≡ b → None ≡ cond b (Some (position_or_len (λ y. eqb x y) s)) None → length s ≤ place_of x s
    by true h e = cc
    by false h e = omega (arith, place-position x s, ltb-false (position_or_len (λ y. eqb x y) s) (length s) h)

-- each of the darts is there and leaves v
pub leave_all : (n : ℕ) (e o : List ℕ) (x v : ℕ) (ds : List ℕ) → list_all (λ d. ltb d (length e) && eqb (get_or e d 0) v) ds ≡ all_leave (plate n e o x) v ds
leave_all n e o x v [] = refl
leave_all n e o x v (d ∷ ds) = both (ltb d (length e)) (eqb (get_or e d 0) v) ∙ ap (λ (b : Bool). ltb d (length e) && (eqb (get_or e d 0) v && b)) (leave_all n e o x v ds)
  where
    both : (a b : Bool) → ((a && b) && list_all (λ d. ltb d (length e) && eqb (get_or e d 0) v) ds) ≡ (a && (b && list_all (λ d. ltb d (length e) && eqb (get_or e d 0) v) ds))
    both true b = refl
    both false b = refl

-- no element stands in the rest behind it
abbrev pub not_behind : List ℕ → ℕ × ℕ → Bool
not_behind s p = not (list_any (λ y. eqb y p.1) (take (length s - (p.0 + 1)) (drop (p.0 + 1) s)))

distinct_from : (s : List ℕ) (n : ℕ) (ys : List ℕ) → drop n s ≡ ys → list_all (not_behind s) (enumerate_from n ys) ≡ distinct ys
distinct_from s n [] e = refl
distinct_from s n (y ∷ ys) e =
    let behind : drop (n + 1) s ≡ ys = sym (drop-drop 1 n s) ∙ ap (drop 1) e in
    ap (λ (b : Bool). not b && list_all (not_behind s) (enumerate_from (n + 1) ys)) (contained y s (n + 1) ∙ ap (is_in y) behind)
    ∙ ap (λ (b : Bool). not (is_in y ys) && b) (distinct_from s (n + 1) ys behind)

pub distinct_all : (s : List ℕ) → list_all (not_behind s) (enumerate_from 0 s) ≡ distinct s
distinct_all s = distinct_from s 0 s refl

-- the element before x
pub last_is : (s : List ℕ) → last_of s ≡ get_or s (length s - 1) 0
last_is [] = refl
last_is (x ∷ []) = refl
last_is (x ∷ (y ∷ s)) = last_is (y ∷ s) ∙ ap (λ (k : ℕ). get_or (x ∷ (y ∷ s)) k 0) {x = suc (length (y ∷ s) - 1)} {y = length (x ∷ (y ∷ s)) - 1} (omega arith)
