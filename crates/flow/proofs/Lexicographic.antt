-- The first of the cheapest flows, found arc by arc.
use mathlib.Core.Path.{◌≡◌, refl, sym, ap, ◌∙◌}
use mathlib.Core.Logic.{◌⊎◌, inl, inr}
use mathlib.Core.Bool.{Bool, true, false, ◌&&◌, ◌||◌}
use mathlib.Core.List.{List, [], ◌∷◌}
use Prim.Native.Nat.{ℕ, zero, suc, ◌+◌, ◌≤◌, ◌<◌}
use native.Mathlib.Nat.{le_of_suc-le-suc, le_trans}
use native.Mathlib.Omega.{arith}
use lib.Dec.{ltb, eqb}
use lib.ListN.{length, get_or}
use lib.Seq.{ext_get_or}
use borrow.Author.Tests.{lt-ltb, le-ltb, eq-eqb, ltb-true, eqb-true}
use Rattle.finite.proofs.Order.{Order, less, same, more, order}
use Rattle.finite.proofs.Tests.{not_both}
use Rattle.residual.specs.Prices.{Priced}
use Rattle.flow.specs.Network.{Network, Flow, Sound, Least, cost_of, smaller}
use Rattle.flow.specs.Solver.{residual_of, Agree, Upto}
use Rattle.flow.proofs.Names.{arcs, Free, AtLower}
use Rattle.flow.proofs.Duality.{Spare, priced_cheapest, frozen_kept}
use Rattle.flow.proofs.Stage.{Barrier, stage}

-- ---- the order of flows by their first difference

pub difference_smaller : (x y : List ℕ) (k : ℕ) → k < length x → length y ≡ length x → Agree k x y → get_or x k 0 < get_or y k 0 → smaller x y ≡ true
difference_smaller [] y k l q e h = absurd (omega arith)
difference_smaller (x ∷ xs) [] k l q e h = absurd (omega arith)
difference_smaller (x ∷ xs) (y ∷ ys) zero l q e h = rw (lt-ltb x y h)
difference_smaller (x ∷ xs) (y ∷ ys) (suc k) l q e h =
    let z : y ≡ x = e 0 (omega arith) in
    rw (le-ltb x y (omega arith), eq-eqb x y (sym z)) (difference_smaller xs ys k (le_of_suc-le-suc l) (omega arith) (λ a b. e (suc a) (omega arith)) h)

-- where the first difference is
pub record Difference (x y : List ℕ) : Type 0 where
  pub at : ℕ
  pub inside : at < length x
  pub agree : Agree at x y
  pub less_there : get_or x at 0 < get_or y at 0

pub smaller_difference : (x y : List ℕ) → smaller x y ≡ true → Difference x y
smaller_difference [] y s = absurd (not_both s refl)
smaller_difference (x ∷ xs) [] s = absurd (not_both s refl)
smaller_difference (x ∷ xs) (y ∷ ys) s = first (ltb x y) (eqb x y) refl refl s (smaller_difference xs ys)
  where
    first : (l e : Bool) → ltb x y ≡ l → eqb x y ≡ e → l || (e && smaller xs ys) ≡ true → (smaller xs ys ≡ true → Difference xs ys) → Difference (x ∷ xs) (y ∷ ys)
    first true e p q s r = record { at = 0; inside = omega arith; agree = λ a b. absurd (omega arith); less_there = ltb-true x y p }
    first false false p q s r = absurd (not_both s refl)
    first false true p q s r =
        let d = r s in
        record { at = suc d.at; inside = omega (arith, d.inside); agree = both d.at (eqb-true x y q) d.agree; less_there = d.less_there }
      where
        both : (k : ℕ) → x ≡ y → Agree k xs ys → Agree (suc k) (x ∷ xs) (y ∷ ys)
        both k e g zero l = sym e
        both k e g (suc a) l = g a (le_of_suc-le-suc l)

-- ---- first among the cheapest, as far as the arcs below k tell

pub upto_none : (n : Network) (x : List ℕ) → Upto 0 n x
upto_none n x y f c = inl (λ a l. absurd (omega arith))

-- no flow of the same cost that agrees below k has fewer units on k
pub upto_more : (n : Network) (x : List ℕ) (k : ℕ) → length x ≡ arcs n → k < arcs n → Upto k n x
    → ((y : List ℕ) → Flow n y → cost_of n.costs y ≡ cost_of n.costs x → Agree k x y → get_or x k 0 ≤ get_or y k 0) → Upto (k + 1) n x
upto_more n x k long l u least y f c = go (u y f c)
  where
    further : (y : List ℕ) → length y ≡ length x → Agree k x y → Order (get_or x k 0) (get_or y k 0) → get_or x k 0 ≤ get_or y k 0 → Agree (k + 1) x y ⊎ (smaller x y ≡ true)
    further y q e (less h) m = inr (difference_smaller x y k (omega arith) q e h)
    further y q e (more h) m = absurd (omega arith)
    further y q e (same h) m = inl (λ a b. here a b (order a k))
      where
        here : (a : ℕ) → a < k + 1 → Order a k → get_or y a 0 ≡ get_or x a 0
        here a b (less g) = e a g
        here a b (same g) = omega (arith, ap (λ (i : ℕ). get_or x i 0) g, ap (λ (i : ℕ). get_or y i 0) g)
        here a b (more g) = omega arith

    go : Agree k x y ⊎ (smaller x y ≡ true) → Agree (k + 1) x y ⊎ (smaller x y ≡ true)
    go (inl e) = further y (omega (arith, f.long)) e (order (get_or x k 0) (get_or y k 0)) (least y f c e)
    go (inr s) = inr s

-- only the cost and the arcs below k count
pub upto_kept : (n : Network) (x z : List ℕ) (k : ℕ) → length x ≡ arcs n → length z ≡ arcs n
    → cost_of n.costs z ≡ cost_of n.costs x → Agree k x z → Upto k n x → Upto k n z
upto_kept n x z k x_long z_long c e u y f d = go (u y f (d ∙ c))
  where
    later : (d : Difference x y) → Order d.at k → Agree k z y ⊎ (smaller z y ≡ true)
    later d (less l) =
        inr (difference_smaller z y d.at (omega (arith, d.inside)) (omega (arith, f.long))
        (λ a b. omega (arith, d.agree a b, e a (omega arith))) (omega (arith, d.less_there, e d.at l)))
    later d (same l) = inl (λ a b. omega (arith, d.agree a (omega arith), e a b))
    later d (more l) = inl (λ a b. omega (arith, d.agree a (omega arith), e a b))

    go : Agree k x y ⊎ (smaller x y ≡ true) → Agree k z y ⊎ (smaller z y ≡ true)
    go (inl g) = inl (λ a b. omega (arith, g a b, e a b))
    go (inr s) = let d = smaller_difference x y s in later d (order d.at k)

pub upto_all : (n : Network) (x : List ℕ) → length x ≡ arcs n → Upto (arcs n) n x
    → (y : List ℕ) → Flow n y → cost_of n.costs y ≡ cost_of n.costs x → (y ≡ x) ⊎ (smaller x y ≡ true)
upto_all n x long u y f c = go (u y f c)
  where
    go : Agree (arcs n) x y ⊎ (smaller x y ≡ true) → (y ≡ x) ⊎ (smaller x y ≡ true)
    go (inl e) = inl (ext_get_or 0 y x (omega (arith, f.long)) (λ a l. e a (omega (arith, f.long))))
    go (inr s) = inr s

-- ---- with potentials

module _ (n : Network) (sound : Sound n) (p x : List ℕ) (spare : Spare n x) (flow : Flow n x) (priced : Priced (residual_of n x p)) where
  pub priced_least : Upto (arcs n) n x → Least n x
  priced_least u = record { flow = flow; cheapest = priced_cheapest n sound x p spare flow priced; first = upto_all n x flow.long u }

  module _ (k : ℕ) (l : k < arcs n) (u : Upto k n x) where
    -- the arc k carries no more than it must
    pub upto_at_lower : AtLower n k x → Upto (k + 1) n x
    upto_at_lower h = upto_more n x k flow.long l u (λ y f c e. le_trans h (f.above k l))

    -- the arc k is frozen
    pub upto_frozen : (Free n k p → ⊥) → Upto (k + 1) n x
    upto_frozen h = upto_more n x k flow.long l u (λ y f c e. go y (frozen_kept n sound x p spare flow priced y f c k l))
      where
        go : (y : List ℕ) → Free n k p ⊎ (get_or y k 0 ≡ get_or x k 0) → get_or x k 0 ≤ get_or y k 0
        go y (inl b) = absurd (h b)
        go y (inr q) = omega arith

    -- no unit can go round otherwise than by the arc k
    pub upto_barrier : (s : List Bool) → Barrier n p x s k → Upto (k + 1) n x
    upto_barrier s b = upto_more n x k flow.long l u (λ y f c e. stage n sound p x s k flow b y f e (frozen_kept n sound x p spare flow priced y f c) l)
