-- Which list comes first: of lists in two parts, and never both of two.
use mathlib.Core.Path.{◌≡◌, refl, sym, ap, subst, ◌∙◌}
use mathlib.Core.Bool.{Bool, true, false, ◌&&◌, ◌||◌}
use mathlib.Core.List.{List, [], ◌∷◌, ◌++◌}
use mathlib.Core.Logic.{⊎_elim}
use Prim.Native.Nat.{ℕ}
use native.Mathlib.Omega.{arith}
use borrow.Author.Tests.{eq-eqb, eqb-true, ltb-true}
use lib.Dec.{eqb, ltb}
use lib.ListN.{length}
use Rattle.finite.proofs.Tests.{not_both, or_cases, and_left, and_right, and_both}
use Rattle.shapes.specs.Shapes.{smaller, same}

regroup : (a b c d e : Bool) → a || (b && (c || (d && e))) ≡ (a || (b && c)) || ((b && d) && e)
regroup true b c d e = refl
regroup false true c d e = refl
regroup false false c d e = refl

pub smaller_parts : (xs cs ys ds : List ℕ) → length xs ≡ length ys → smaller (xs ++ cs) (ys ++ ds) ≡ smaller xs ys || (same xs ys && smaller cs ds)
smaller_parts [] cs [] ds e = refl
smaller_parts [] cs (y ∷ ys) ds e = absurd (omega arith)
smaller_parts (x ∷ xs) cs [] ds e = absurd (omega arith)
smaller_parts (x ∷ xs) cs (y ∷ ys) ds e =
    ap (λ (b : Bool). ltb x y || (eqb x y && b)) (smaller_parts xs cs ys ds (omega arith)) ∙ regroup (ltb x y) (eqb x y) (smaller xs ys) (same xs ys) (smaller cs ds)

pub same_itself : (xs : List ℕ) → same xs xs ≡ true
same_itself [] = refl
same_itself (x ∷ xs) = and_both (eqb x x) (same xs xs) (eq-eqb x x refl) (same_itself xs)

pub same_eq : (xs ys : List ℕ) → same xs ys ≡ true → xs ≡ ys
same_eq [] [] e = refl
same_eq [] (y ∷ ys) e = let z : ◌≡◌ {A = ℕ} 0 1 = cc in absurd (omega arith)
same_eq (x ∷ xs) [] e = let z : ◌≡◌ {A = ℕ} 0 1 = cc in absurd (omega arith)
same_eq (x ∷ xs) (y ∷ ys) e = cc (eqb-true x y (and_left (eqb x y) (same xs ys) e), same_eq xs ys (and_right (eqb x y) (same xs ys) e))

pub smaller_once : (xs ys : List ℕ) → smaller xs ys ≡ true → smaller ys xs ≡ true → ⊥
smaller_once [] ys a b = not_both a refl
smaller_once (x ∷ xs) [] a b = not_both a refl
smaller_once (x ∷ xs) (y ∷ ys) a b =
    ⊎_elim (λ l. ⊎_elim (λ k. omega (arith, ltb-true x y l, ltb-true y x k)) (λ k. omega (arith, ltb-true x y l, eqb-true y x (and_left (eqb y x) (smaller ys xs) k))) (or_cases (ltb y x) (eqb y x && smaller ys xs) b))
    (λ l. ⊎_elim (λ k. omega (arith, ltb-true y x k, eqb-true x y (and_left (eqb x y) (smaller xs ys) l))) (λ k. smaller_once xs ys (and_right (eqb x y) (smaller xs ys) l) (and_right (eqb y x) (smaller ys xs) k)) (or_cases (ltb y x) (eqb y x && smaller ys xs) b))
    (or_cases (ltb x y) (eqb x y && smaller xs ys) a)

pub smaller_never : (xs : List ℕ) → smaller xs xs ≡ true → ⊥
smaller_never xs a = smaller_once xs xs a a

-- by a first list, then by a second
abbrev pub ahead : List ℕ → List ℕ → List ℕ → List ℕ → Bool
ahead xs cs ys ds = smaller xs ys || (same xs ys && smaller cs ds)

pub ahead_once : (xs cs ys ds : List ℕ) → ahead xs cs ys ds ≡ true → ahead ys ds xs cs ≡ true → ⊥
ahead_once xs cs ys ds a b =
    ⊎_elim (λ l. ⊎_elim (smaller_once xs ys l) (λ k. smaller_never xs (subst (λ (z : List ℕ). smaller xs z ≡ true) (same_eq ys xs (and_left (same ys xs) (smaller ds cs) k)) l)) (or_cases (smaller ys xs) (same ys xs && smaller ds cs) b))
    (λ l. ⊎_elim (λ k. smaller_never xs (subst (λ (z : List ℕ). smaller z xs ≡ true) (sym (same_eq xs ys (and_left (same xs ys) (smaller cs ds) l))) k))
    (λ k. smaller_once cs ds (and_right (same xs ys) (smaller cs ds) l) (and_right (same ys xs) (smaller ds cs) k)) (or_cases (smaller ys xs) (same ys xs && smaller ds cs) b))
    (or_cases (smaller xs ys) (same xs ys && smaller cs ds) a)
