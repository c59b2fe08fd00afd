-- Arrays that begin with a list: written behind it, and the places of elements, for the steps of the journal.
use mathlib.Core.Path.{◌≡◌, refl, sym, ap, subst, ◌∙◌}
use mathlib.Core.Bool.{true}
use Rattle.std.proofs.Common.{Result}
use mathlib.Core.List.{List, [], ◌∷◌, ◌++◌, append_assoc}
use mathlib.Core.Logic.{⊎_elim}
use Prim.Native.Nat.{ℕ, suc, ◌+◌, ◌-◌, ◌*◌, ◌≤◌, ◌<◌}
use native.Mathlib.Omega.{arith}
use lib.ListN.{length, get_or, take, drop, set, length-set, length-append, length-drop}
use lib.Seq.{take_all, take-suc-set, take-set-lt, length-take-le}
use Rattle.finite.proofs.Tests.{either, not_true_false}
use Rattle.embedding.specs.Plates.{is_in, distinct, Plate, plate}
use Rattle.embedding.specs.Read.{place_of, Reads}
use Rattle.embedding.specs.Edits.{laid, put_before, renamed}
use Rattle.embedding.specs.Arrays.{Front, Appended, Listed}
use Rattle.embedding.specs.Meant.{row_in}
use Rattle.refusals.specs.declared.Refusal.{Refusal}
use Rattle.embedding.specs.declared.Plate.{Plate as Held}
use Rattle.embedding.proofs.Placing.{put_none}
use Rattle.embedding.proofs.Flat.{place_none, place_some, put_placed, renamed_none, renamed_placed}

pub front_none : (xs : List ℕ) → length xs ≡ 256 → Front [] xs
front_none xs e = record { size = e; front = refl }

pub front_same : {l m xs : List ℕ} → l ≡ m → Front l xs → Front m xs
front_same {xs = xs} e = subst (λ (k : List ℕ). Front k xs) e

pub front_take : {l xs : List ℕ} {k : ℕ} → Front l xs → length l ≡ k → take k xs ≡ l
front_take {l} {xs} f e = ap (λ (j : ℕ). take j xs) (sym e) ∙ f.front

-- one more behind it
pub front_one : {l xs : List ℕ} (at a : ℕ) → Front l xs → length l ≡ at → at < 256 → Front (l ++ (a ∷ [])) (set xs at a)
front_one {l} {xs} at a f e k =
    record {
      size = length-set xs at a ∙ f.size;
      front = ap (λ (j : ℕ). take j (set xs at a)) {x = length (l ++ (a ∷ []))} {y = suc at} (omega (arith, length-append l (a ∷ [])))
          ∙ take-suc-set xs at a (omega (arith, f.size)) ∙ ap (λ (m : List ℕ). m ++ (a ∷ [])) (front_take f e);
    }

pub front_two : {l xs : List ℕ} (at a b : ℕ) → Front l xs → length l ≡ at → at + 1 < 256 → Front (l ++ (a ∷ (b ∷ []))) (set (set xs at a) (at + 1) b)
front_two {l} at a b f e k =
    front_same (append_assoc l (a ∷ []) (b ∷ []))
    (front_one (at + 1) b (front_one at a f e (omega arith)) (omega (arith, length-append l (a ∷ []))) k)

-- one of it changed
pub front_set : {l xs : List ℕ} (i y : ℕ) → Front l xs → i < length l → Front (set l i y) (set xs i y)
front_set {l} {xs} i y f k =
    record {
      size = length-set xs i y ∙ f.size;
      front = ap (λ (j : ℕ). take j (set xs i y)) (length-set l i y) ∙ take-set-lt (length l) xs i y k ∙ ap (λ (m : List ℕ). set m i y) f.front;
    }

-- y put in before x
pub put_there : (x y : ℕ) (s : List ℕ) (at : ℕ) {zeros before with all : List ℕ} → at ≡ place_of x s → at < length s → length zeros ≡ 256
    → Appended 0 (take at s) zeros before → Appended at (y ∷ []) before with → Appended (at + 1) (take (length s - at) (drop at s)) with all → Front (put_before x y s) all
put_there x y s at e k z h i j =
    front_same
    (append_assoc (take at s) (y ∷ []) (take (length s - at) (drop at s)) ∙ ap (λ (r : List ℕ). take at s ++ (y ∷ r)) rest
    ∙ sym (put_placed x y s there ∙ ap (λ (i : ℕ). take i s ++ (y ∷ drop i s)) (sym e)))
    (j (take at s ++ (y ∷ [])) (i (take at s) (h [] (front_none _ z) refl) long) (omega (arith, length-append (take at s) (y ∷ []), long)))
  where
    long : length (take at s) ≡ at
    long = length-take-le at s (omega arith)

    rest : take (length s - at) (drop at s) ≡ drop at s
    rest = take_all (length s - at) (drop at s) (omega (arith, length-drop at s))

    there : is_in x s ≡ true
    there = ⊎_elim (λ w. w) (λ w. absurd (omega (arith, place_none x s w))) (either (is_in x s))

pub put_nowhere : (x y : ℕ) (s : List ℕ) {zeros all : List ℕ} → length s ≤ place_of x s → length zeros ≡ 256 → Appended 0 s zeros all → Front (put_before x y s) all
put_nowhere x y s k z h =
    front_same (sym (put_none x y s (not_true_false (is_in x s) (λ i. omega (arith, place_some x s i))))) (h [] (front_none _ z) refl)

-- y for x
module _ (x y long : ℕ) (list : List ℕ) (l : List ℕ) (f : Front l list) (k : length l ≡ long) where
  pub replaced : (at : ℕ) → at ≡ place_of x (take long list) → at < length (take long list) → distinct l ≡ true → Front (renamed x y l) (set list at y)
  replaced at e h d =
      front_same (sym (renamed_placed x y l d there ∙ ap (λ (i : ℕ). set l i y) (sym at_is))) (front_set at y f in_front)
    where
      at_is : at ≡ place_of x l
      at_is = e ∙ ap (place_of x) (front_take f k)

      in_front : at < length l
      in_front = omega (arith, ap (length {A = ℕ}) (front_take f k))

      there : is_in x l ≡ true
      there = ⊎_elim (λ w. w) (λ w. absurd (omega (arith, place_none x l w, at_is, in_front))) (either (is_in x l))

  pub not_replaced : length (take long list) ≤ place_of x (take long list) → Front (renamed x y l) list
  not_replaced h =
      front_same (sym (renamed_none x y l (not_true_false (is_in x l) (λ i. omega (arith, place_some x l i, ap (place_of x) (front_take f k), ap (length {A = ℕ}) (front_take f k)))))) f

-- the order, a post at a time
pub record Laying (places degrees : List ℕ) (v at : ℕ) (all : List ℕ) : Type 0 where
  pub done : Front (laid v (row_in places degrees)) all
  pub long : length (laid v (row_in places degrees)) ≡ at
  pub most : at ≤ 4 * v

row_long : (places degrees : List ℕ) (v : ℕ) → get_or degrees v 0 ≤ 4 → length places ≡ 256 → v < 64 → length (row_in places degrees v) ≡ get_or degrees v 0
row_long places degrees v few size room = length-take-le (get_or degrees v 0) (drop (4 * v) places) (omega (arith, length-drop (4 * v) places))

pub laying_more : {places degrees : List ℕ} {v at : ℕ} {all more : List ℕ} → Laying places degrees v at all → get_or degrees v 0 ≤ 4 → length places ≡ 256 → v < 64
    → (degree from to : ℕ) → degree ≡ get_or degrees v 0 → from ≡ 4 * v → to ≡ from + degree → Appended at (take (to - from) (drop from places)) all more → Laying places degrees (v + 1) (at + degree) more
laying_more {places} {degrees} {v} {at} {all} {more} h few size room degree from to d f t a =
    subst (λ (w : ℕ). Laying places degrees w (at + degree) more) {x = suc v} {y = v + 1} (omega arith)
    (record {
      done = subst (λ (r : List ℕ). Front (laid v (row_in places degrees) ++ r) more) row_is (a (laid v (row_in places degrees)) h.done h.long);
      long = omega (arith, length-append (laid v (row_in places degrees)) (row_in places degrees v), h.long, row_long places degrees v few size room);
      most = omega (arith, h.most);
    })
  where
    row_is : take (to - from) (drop from places) ≡ row_in places degrees v
    row_is = ap (λ (k : ℕ). take k (drop from places)) {x = to - from} {y = get_or degrees v 0} (omega arith) ∙ ap (λ (k : ℕ). take (get_or degrees v 0) (drop k places)) f

-- a plate read from its lists
plate_same : (p : Plate) {n x : ℕ} {e o : List ℕ} → p.posts ≡ n → p.ends ≡ e → p.order ≡ o → p.outer ≡ x → plate n e o x ≡ p
plate_same p a b c d = λ i. record { posts = sym a i; ends = sym b i; order = sym c i; outer = sym d i }

pub listed_read : (p : Plate) (n x k : ℕ) {ends order : List ℕ} {r : Result Held Refusal} → p.posts ≡ n → p.outer ≡ x → Listed p k ends order
    → Reads (plate n (take k ends) (take k order) x) r → Reads p r
listed_read p n x k {ends} {order} {r} a d l =
    subst (λ (q : Plate). Reads q r) (plate_same p a (sym (front_take l.ends_front l.ends_long)) (sym (front_take l.order_front l.order_long)) d)
