-- Membership in lists of numbers, of distinct ones among them.
use mathlib.Core.Path.{◌≡◌, refl, sym, subst}
use mathlib.Core.Bool.{true, false, not, false≢true}
use mathlib.Core.List.{List, [], ◌∷◌, ◌++◌}
use mathlib.Core.Logic.{◌⊎◌, inl, inr, ⊎_elim}
use Prim.Native.Nat.{ℕ, zero, suc, ◌<◌}
use native.Mathlib.Nat.{le_of_suc-le-suc}
use native.Mathlib.Omega.{arith}
use borrow.Author.Tests.{eqb-true, eq-eqb, ltb-true, lt-ltb, not-true}
use lib.Dec.{eqb, ltb}
use lib.ListN.{length, get_or}
use Rattle.finite.specs.Base.{is_in, distinct, all_below, last_of}
use Rattle.finite.proofs.Tests.{or_cases, or_left, or_right, and_left, and_right, and_both, not_of_false, not_both, not_true_false}

pub in_none : (x : ℕ) → is_in x [] ≡ true → ⊥
in_none x e = false≢true e

pub in_here : (x : ℕ) (ys : List ℕ) → is_in x (x ∷ ys) ≡ true
in_here x ys = or_left (eqb x x) (is_in x ys) (eq-eqb x x refl)

pub in_more : (x y : ℕ) (ys : List ℕ) → is_in x ys ≡ true → is_in x (y ∷ ys) ≡ true
in_more x y ys e = or_right (eqb x y) (is_in x ys) e

pub in_cases : (x y : ℕ) (ys : List ℕ) → is_in x (y ∷ ys) ≡ true → (x ≡ y) ⊎ (is_in x ys ≡ true)
in_cases x y ys e = ⊎_elim (λ h. inl (eqb-true x y h)) (λ h. inr h) (or_cases (eqb x y) (is_in x ys) e)

pub all_in : (n : ℕ) (x : ℕ) (xs : List ℕ) → all_below n xs ≡ true → is_in x xs ≡ true → x < n
all_in n x [] a e = absurd (in_none x e)
all_in n x (y ∷ ys) a e =
    ⊎_elim (λ h. subst (λ (k : ℕ). k < n) (sym h) (ltb-true y n (and_left (ltb y n) (all_below n ys) a)))
    (λ h. all_in n x ys (and_right (ltb y n) (all_below n ys) a) h)
    (in_cases x y ys e)

pub all_of : (n : ℕ) (xs : List ℕ) → ((x : ℕ) → is_in x xs ≡ true → x < n) → all_below n xs ≡ true
all_of n [] h = refl
all_of n (y ∷ ys) h =
    and_both (ltb y n) (all_below n ys) (lt-ltb y n (h y (in_here y ys))) (all_of n ys (λ x e. h x (in_more x y ys e)))

pub distinct_head : (x : ℕ) (xs : List ℕ) → distinct (x ∷ xs) ≡ true → is_in x xs ≡ false
distinct_head x xs d = not-true (is_in x xs) (and_left (not (is_in x xs)) (distinct xs) d)

pub distinct_rest : (x : ℕ) (xs : List ℕ) → distinct (x ∷ xs) ≡ true → distinct xs ≡ true
distinct_rest x xs d = and_right (not (is_in x xs)) (distinct xs) d

pub distinct_more : (x : ℕ) (xs : List ℕ) → is_in x xs ≡ false → distinct xs ≡ true → distinct (x ∷ xs) ≡ true
distinct_more x xs e d = and_both (not (is_in x xs)) (distinct xs) (not_of_false e) d

-- the last element of a list that has one
pub last_in : (x : ℕ) (xs : List ℕ) → is_in x xs ≡ true → is_in (last_of xs) xs ≡ true
last_in x [] e = absurd (in_none x e)
last_in x (y ∷ []) e = in_here y []
last_in x (y ∷ (z ∷ zs)) e = in_more (last_of (z ∷ zs)) y (z ∷ zs) (last_in z (z ∷ zs) (in_here z zs))

pub in_one : (x y : ℕ) → is_in x (y ∷ []) ≡ true → x ≡ y
in_one x y e = ⊎_elim (λ q. q) (λ z. absurd (in_none x z)) (in_cases x y [] e)

pub in_past : (x y : ℕ) (ys : List ℕ) → (x ≡ y → ⊥) → is_in x (y ∷ ys) ≡ true → is_in x ys ≡ true
in_past x y ys n e = ⊎_elim (λ q. absurd (n q)) (λ z. z) (in_cases x y ys e)

pub in_append : (x : ℕ) (xs ys : List ℕ) → is_in x (xs ++ ys) ≡ true → (is_in x xs ≡ true) ⊎ (is_in x ys ≡ true)
in_append x [] ys e = inr e
in_append x (z ∷ xs) ys e =
    ⊎_elim (λ q. inl (subst (λ (y : ℕ). is_in x (y ∷ xs) ≡ true) q (in_here x xs)))
    (λ h. ⊎_elim (λ k. inl (in_more x z xs k)) inr (in_append x xs ys h))
    (in_cases x z (xs ++ ys) e)

-- two lists of distinct numbers that share none
pub distinct_append : (xs ys : List ℕ) → distinct xs ≡ true → distinct ys ≡ true → ((x : ℕ) → is_in x xs ≡ true → is_in x ys ≡ true → ⊥) → distinct (xs ++ ys) ≡ true
distinct_append [] ys d e h = e
distinct_append (x ∷ xs) ys d e h =
    distinct_more x (xs ++ ys)
    (not_true_false (is_in x (xs ++ ys)) (λ i. ⊎_elim (λ j. not_both j (distinct_head x xs d)) (λ j. h x (in_here x xs) j) (in_append x xs ys i)))
    (distinct_append xs ys (distinct_rest x xs d) e (λ z i j. h z (in_more z x xs i) j))

pub in_right : (x : ℕ) (xs ys : List ℕ) → is_in x ys ≡ true → is_in x (xs ++ ys) ≡ true
in_right x [] ys e = e
in_right x (z ∷ xs) ys e = in_more x z (xs ++ ys) (in_right x xs ys e)

pub in_left : (x : ℕ) (xs ys : List ℕ) → is_in x xs ≡ true → is_in x (xs ++ ys) ≡ true
in_left x [] ys e = absurd (in_none x e)
in_left x (z ∷ xs) ys e =
    ⊎_elim (λ q. subst (λ (y : ℕ). is_in x (y ∷ (xs ++ ys)) ≡ true) q (in_here x (xs ++ ys))) (λ h. in_more x z (xs ++ ys) (in_left x xs ys h)) (in_cases x z xs e)

pub get_d_in : (xs : List ℕ) (i : ℕ) → i < length xs → is_in (get_or xs i 0) xs ≡ true
get_d_in [] i l = absurd (omega arith)
get_d_in (x ∷ xs) zero l = in_here x xs
get_d_in (x ∷ xs) (suc i) l = in_more (get_or xs i 0) x xs (get_d_in xs i (le_of_suc-le-suc l))
