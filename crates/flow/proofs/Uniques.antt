-- The order of flows is strict, so the least flow of a network is one.
use mathlib.Core.Path.{◌≡◌, refl, sym, ap, ◌∙◌}
use mathlib.Core.Logic.{◌⊎◌, inl, inr}
use mathlib.Core.Bool.{true}
use mathlib.Core.List.{List, [], ◌∷◌}
use Prim.Native.Nat.{ℕ, suc, ◌≤◌}
use native.Mathlib.Omega.{arith}
use lib.ListN.{length, get_or}
use borrow.Author.Tests.{lt-ltb, le-ltb, eq-eqb}
use Rattle.finite.proofs.Order.{Order, less, same, more, order}
use Rattle.flow.specs.Network.{Network, Least, smaller, cost_of}
use Rattle.flow.proofs.Lexicographic.{Difference, smaller_difference, difference_smaller}

pub smaller_trans : (x y z : List ℕ) → length y ≡ length x → length z ≡ length x → smaller x y ≡ true → smaller y z ≡ true → smaller x z ≡ true
smaller_trans x y z ly lz p q = go (smaller_difference x y p) (smaller_difference y z q)
  where
    go : Difference x y → Difference y z → smaller x z ≡ true
    go d e = at (order d.at e.at)
      where
        at : Order d.at e.at → smaller x z ≡ true
        at (less l) =
            difference_smaller x z d.at d.inside lz (λ a h. omega (arith, d.agree a h, e.agree a (omega arith))) (omega (arith, d.less_there, e.agree d.at l))
        at (same l) =
            difference_smaller x z d.at d.inside lz (λ a h. omega (arith, d.agree a h, e.agree a (omega arith)))
            (omega (arith, d.less_there, e.less_there, ap (λ (i : ℕ). get_or y i 0) l, ap (λ (i : ℕ). get_or z i 0) l))
        at (more l) =
            difference_smaller x z e.at (omega (arith, e.inside)) lz (λ a h. omega (arith, d.agree a (omega arith), e.agree a h)) (omega (arith, e.less_there, d.agree e.at l))

pub smaller_never : (x : List ℕ) → smaller x x ≡ true → ⊥
smaller_never x p = let d = smaller_difference x x p in omega (arith, d.less_there)

-- no more on any arc: the same, or first
pub below_smaller : (x y : List ℕ) → length y ≡ length x → ((a : ℕ) → get_or x a 0 ≤ get_or y a 0) → (x ≡ y) ⊎ (smaller x y ≡ true)
below_smaller [] [] l h = inl refl
below_smaller [] (y ∷ ys) l h = absurd (omega arith)
below_smaller (x ∷ xs) [] l h = absurd (omega arith)
below_smaller (x ∷ xs) (y ∷ ys) l h = go (order x y) (below_smaller xs ys (omega arith) (λ a. h (suc a)))
  where
    go : Order x y → (xs ≡ ys) ⊎ (smaller xs ys ≡ true) → ((x ∷ xs) ≡ (y ∷ ys)) ⊎ (smaller (x ∷ xs) (y ∷ ys) ≡ true)
    go (less g) r = inr (rw (lt-ltb x y g))
    go (more g) r = absurd (omega (arith, h 0))
    go (same g) (inl e) = inl (cc)
    go (same g) (inr s) = inr (rw (le-ltb x y (omega arith), eq-eqb x y g) s)

pub least_unique : (n : Network) (x y : List ℕ) → Least n x → Least n y → x ≡ y
least_unique n x y p q = go (p.first y q.flow even) (q.first x p.flow (sym even))
  where
    even : cost_of n.costs y ≡ cost_of n.costs x
    even = omega (arith, p.cheapest y q.flow, q.cheapest x p.flow)

    go : (y ≡ x) ⊎ (smaller x y ≡ true) → (x ≡ y) ⊎ (smaller y x ≡ true) → x ≡ y
    go (inl e) b = sym e
    go (inr s) (inl e) = e
    go (inr s) (inr t) = absurd (smaller_never x (smaller_trans x y x (q.flow.long ∙ sym p.flow.long) refl s t))
