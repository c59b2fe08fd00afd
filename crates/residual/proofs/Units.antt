-- The units at a node as a sum by index; one arc changed.
use mathlib.Core.Path.{◌≡◌, refl, sym, ap}
use mathlib.Core.List.{List, [], ◌∷◌}
use Prim.Native.Nat.{ℕ, suc, ◌+◌, ◌<◌, ◌-◌, ◌≤◌}
use native.Mathlib.Omega.{arith}
use lib.Dec.{eqb}
use lib.ListN.{length, get_or, set}
use Rattle.finite.proofs.Sums.{sum_below, sum_nothing, when_zero, sum_set, when_add}
use Rattle.finite.specs.Base.{when}
use Rattle.residual.specs.Residual.{units_at}

pub units_at_sum : (es xs : List ℕ) (v : ℕ) → units_at es xs v ≡ sum_below (length es) (λ a. when (eqb (get_or es a 0) v) (get_or xs a 0))
units_at_sum [] xs v = refl
units_at_sum (e ∷ es) [] v = sym (sum_nothing (suc (length es)) (λ a. when (eqb (get_or (e ∷ es) a 0) v) 0) (λ a h. when_zero (eqb (get_or (e ∷ es) a 0) v)))
units_at_sum (e ∷ es) (x ∷ xs) v = omega (arith, units_at_sum es xs v)

pub units_at_set : (es xs : List ℕ) (a w v : ℕ) → a < length es → a < length xs
    → units_at es (set xs a w) v + when (eqb (get_or es a 0) v) (get_or xs a 0) ≡ units_at es xs v + when (eqb (get_or es a 0) v) w
units_at_set es xs a w v l m =
    omega (arith, units_at_sum es xs v, units_at_sum es (set xs a w) v, sum_set (length es) (λ i x. when (eqb (get_or es i 0) v) x) xs a w l m)

pub units_at_more : (es xs : List ℕ) (a u v : ℕ) → a < length es → a < length xs
    → units_at es (set xs a (get_or xs a 0 + u)) v ≡ units_at es xs v + when (eqb (get_or es a 0) v) u
units_at_more es xs a u v l m = omega (arith, units_at_set es xs a (get_or xs a 0 + u) v l m, when_add (eqb (get_or es a 0) v) (get_or xs a 0) u)

pub units_at_fewer : (es xs : List ℕ) (a u v : ℕ) → a < length es → a < length xs → u ≤ get_or xs a 0
    → units_at es (set xs a (get_or xs a 0 - u)) v + when (eqb (get_or es a 0) v) u ≡ units_at es xs v
units_at_fewer es xs a u v l m h =
    let q : get_or xs a 0 - u + u ≡ get_or xs a 0 = omega arith in
    omega (
      arith,
      units_at_set es xs a (get_or xs a 0 - u) v l m,
      when_add (eqb (get_or es a 0) v) (get_or xs a 0 - u) u,
      ap (when (eqb (get_or es a 0) v)) q,
    )
