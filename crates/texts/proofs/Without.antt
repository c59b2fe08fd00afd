-- A list without one of its numbers: part by part, what is in it, and that it stays distinct and ascending.
use mathlib.Core.Path.{◌≡◌, refl, sym, ap, subst, ◌∙◌}
use mathlib.Core.Bool.{Bool, true, false}
use mathlib.Core.List.{List, [], ◌∷◌, ◌++◌}
use mathlib.Core.Logic.{⊎_elim}
use Prim.Native.Nat.{ℕ, ◌<◌}
use lib.Dec.{eqb, ltb}
use borrow.Author.Tests.{eqb-true, eqb-false, eq-eqb, ne_eqb, ltb-true, lt-ltb}
use Rattle.finite.proofs.Tests.{and_left, and_right, and_both, not_both, not_true_false}
use Rattle.finite.proofs.Members.{in_none, in_here, in_more, in_cases, distinct_head, distinct_rest, distinct_more}
use Rattle.plates.specs.Plates.{pick, is_in, distinct}
use Rattle.plates.specs.Lines.{without, all_above, ascending}

pub without_append : (x : ℕ) (xs ys : List ℕ) → without x (xs ++ ys) ≡ without x xs ++ without x ys
without_append x [] ys = refl
without_append x (z ∷ xs) ys = go (eqb x z) (without_append x xs ys)
  where
    go : (b : Bool) → without x (xs ++ ys) ≡ without x xs ++ without x ys → pick b (without x (xs ++ ys)) (z ∷ without x (xs ++ ys)) ≡ pick b (without x xs) (z ∷ without x xs) ++ without x ys
    go true e = e
    go false e = ap (λ (l : List ℕ). z ∷ l) e

pub without_same : (x y : ℕ) → x ≡ y → without x (y ∷ []) ≡ []
without_same x y e = ap (λ (b : Bool). pick b [] (y ∷ [])) (eq-eqb x y e)

pub without_other : (x y : ℕ) → (x ≡ y → ⊥) → without x (y ∷ []) ≡ y ∷ []
without_other x y n = ap (λ (b : Bool). pick b [] (y ∷ [])) (ne_eqb x y n)

pub out_in : (x y : ℕ) (ys : List ℕ) → is_in y (without x ys) ≡ true → is_in y ys ≡ true
out_in x y [] h = h
out_in x y (z ∷ ys) h = go (eqb x z) h (out_in x y ys)
  where
    go : (b : Bool) → is_in y (pick b (without x ys) (z ∷ without x ys)) ≡ true → (is_in y (without x ys) ≡ true → is_in y ys ≡ true) → is_in y (z ∷ ys) ≡ true
    go true k ih = in_more y z ys (ih k)
    go false k ih = ⊎_elim (λ q. subst (λ (w : ℕ). is_in y (w ∷ ys) ≡ true) q (in_here y ys)) (λ q. in_more y z ys (ih q)) (in_cases y z (without x ys) k)

pub in_out : (x y : ℕ) (ys : List ℕ) → (x ≡ y → ⊥) → is_in y ys ≡ true → is_in y (without x ys) ≡ true
in_out x y [] n h = h
in_out x y (z ∷ ys) n h = go (eqb x z) refl (in_out x y ys n)
  where
    go : (b : Bool) → eqb x z ≡ b → (is_in y ys ≡ true → is_in y (without x ys) ≡ true) → is_in y (pick b (without x ys) (z ∷ without x ys)) ≡ true
    go true e ih = ⊎_elim (λ q. absurd (n (eqb-true x z e ∙ sym q))) ih (in_cases y z ys h)
    go false e ih = ⊎_elim (λ q. subst (λ (w : ℕ). is_in y (w ∷ without x ys) ≡ true) q (in_here y (without x ys))) (λ q. in_more y z (without x ys) (ih q)) (in_cases y z ys h)

pub not_out : (x : ℕ) (ys : List ℕ) → is_in x (without x ys) ≡ true → ⊥
not_out x [] h = in_none x h
not_out x (z ∷ ys) h = go (eqb x z) refl h (not_out x ys)
  where
    go : (b : Bool) → eqb x z ≡ b → is_in x (pick b (without x ys) (z ∷ without x ys)) ≡ true → (is_in x (without x ys) ≡ true → ⊥) → ⊥
    go true e k ih = ih k
    go false e k ih = ⊎_elim (λ q. eqb-false x z e q) ih (in_cases x z (without x ys) k)

pub out_distinct : (x : ℕ) (ys : List ℕ) → distinct ys ≡ true → distinct (without x ys) ≡ true
out_distinct x [] h = refl
out_distinct x (z ∷ ys) h = go (eqb x z) (out_distinct x ys (distinct_rest z ys h))
  where
    go : (b : Bool) → distinct (without x ys) ≡ true → distinct (pick b (without x ys) (z ∷ without x ys)) ≡ true
    go true ih = ih
    go false ih = distinct_more z (without x ys) (not_true_false (is_in z (without x ys)) (λ k. not_both (out_in x z ys k) (distinct_head z ys h))) ih

-- ascending: each is below all behind it
above_in : (x y : ℕ) (ys : List ℕ) → all_above x ys ≡ true → is_in y ys ≡ true → x < y
above_in x y [] h k = absurd (in_none y k)
above_in x y (z ∷ ys) h k = ⊎_elim (λ q. subst (λ (w : ℕ). x < w) (sym q) (ltb-true x z (and_left (ltb x z) _ h))) (above_in x y ys (and_right (ltb x z) _ h)) (in_cases y z ys k)

pub in_above : (x : ℕ) (ys : List ℕ) → ((y : ℕ) → is_in y ys ≡ true → x < y) → all_above x ys ≡ true
in_above x [] h = refl
in_above x (y ∷ ys) h = and_both (ltb x y) _ (lt-ltb x y (h y (in_here y ys))) (in_above x ys (λ z k. h z (in_more z y ys k)))

pub out_ascending : (x : ℕ) (ys : List ℕ) → ascending ys ≡ true → ascending (without x ys) ≡ true
out_ascending x [] h = refl
out_ascending x (z ∷ ys) h = go (eqb x z) (out_ascending x ys (and_right (all_above z ys) _ h))
  where
    go : (b : Bool) → ascending (without x ys) ≡ true → ascending (pick b (without x ys) (z ∷ without x ys)) ≡ true
    go true ih = ih
    go false ih = and_both (all_above z (without x ys)) _ (in_above z (without x ys) (λ y k. above_in z y ys (and_left (all_above z ys) _ h) (out_in x y ys k))) ih
