-- Weak duality: a flow that is priced by some potentials is cheapest, and each other cheapest flow agrees with it on the arcs that are frozen there.
use mathlib.Core.Path.{◌≡◌, refl, sym, ap}
use mathlib.Core.Logic.{◌⊎◌, inl, inr}
use mathlib.Core.List.{List}
use Prim.Native.Nat.{ℕ, zero, suc, ◌+◌, ◌*◌, ◌≤◌, ◌<◌}
use native.Mathlib.Nat.{le_dest, mul-add, add-mul, mul-suc}
use native.Mathlib.Omega.{arith}
use lib.ListN.{get_or}
use Rattle.finite.proofs.Order.{Order, less, same, more, order}
use Rattle.finite.proofs.Sums.{sum_below, sum_add, sum_le, sum_tight}
use Rattle.residual.specs.Prices.{Priced}
use Rattle.flow.specs.Network.{Network, Flow, Sound, unbounded, cost_of}
use Rattle.flow.specs.Solver.{residual_of, Capped}
use Rattle.flow.proofs.Names.{arcs, tail, head, upper, cost, Free}
use Rattle.flow.proofs.Units.{cost_of_sum, worth, worth_additive}
use Rattle.flow.proofs.Balance.{exchange}

-- ---- one arc: u is its cost and the tail's potential, h the head's

gap : (u h x y d e : ℕ) → h + d ≡ u → x + e ≡ y → u * x + h * y + d * e ≡ u * y + h * x
gap u h x y d e p q = rw (← p, ← q) (simp (mul-add, add-mul) (omega arith))

-- units moved from x to y cost at least nothing, and nothing only where d or e is 0
record Shifted (u h x y : ℕ) : Type 0 where
  d : ℕ
  e : ℕ
  even : u * x + h * y + d * e ≡ u * y + h * x
  free : d ≡ 0 → h ≡ u
  kept : e ≡ 0 → y ≡ x

shifted : (u h x y : ℕ) → (x < y → h ≤ u) → (y < x → u ≤ h) → Shifted u h x y
shifted u h x y up down = go (order x y)
  where
    go : Order x y → Shifted u h x y
    go (less l) =
        let (d, p) = le_dest (up l) in
        let (e, q) = le_dest l in
        record { d = d; e = suc e; even = gap u h x y d (suc e) p (omega arith); free = λ z. omega arith; kept = λ z. omega arith }
    go (same q) = record { d = 1; e = 0; even = omega (arith, ap (λ (z : ℕ). u * z) q, ap (λ (z : ℕ). h * z) q); free = λ z. omega arith; kept = λ z. sym q }
    go (more l) =
        let (d, p) = le_dest (down l) in
        let (e, q) = le_dest l in
        record { d = d; e = suc e; even = omega (arith, gap h u y x d (suc e) p (omega arith)); free = λ z. omega arith; kept = λ z. omega arith }

none_of : (d e : ℕ) → d * e ≡ 0 → (d ≡ 0) ⊎ (e ≡ 0)
none_of zero e z = inl refl
none_of (suc d) zero z = inr refl
none_of (suc d) (suc e) z = absurd (omega (arith, mul-suc (suc d) e))

-- what x costs on an arc, with its units priced at the tail, and y's at the head
abbrev mixed : Network → List ℕ → List ℕ → List ℕ → ℕ → ℕ
mixed n p x y a =
    cost n a * get_or x a 0 + (worth p (tail n a) (get_or x a 0) + worth p (head n a) (get_or y a 0))

mixed_sum : (n : Network) → Sound n → (p x y : List ℕ) → sum_below (arcs n) (mixed n p x y)
    ≡ cost_of n.costs x + (sum_below (arcs n) (λ a. worth p (tail n a) (get_or x a 0)) + sum_below (arcs n) (λ a. worth p (head n a) (get_or y a 0)))
mixed_sum n sound p x y =
    let m : ℕ = arcs n in
    let c : ℕ → ℕ = λ a. cost n a * get_or x a 0 in
    let t : ℕ → ℕ = λ a. worth p (tail n a) (get_or x a 0) in
    let h : ℕ → ℕ = λ a. worth p (head n a) (get_or y a 0) in
    omega (arith, sum_add m c (λ a. t a + h a), sum_add m t h, cost_of_sum n.costs x, ap (λ (k : ℕ). sum_below k c) sound.costs_long)

-- every arc without a bound carries less than the number that says so
abbrev pub Spare : Network → List ℕ → Type 0
Spare n x = (a : ℕ) → a < arcs n → upper n a ≡ unbounded → get_or x a 0 < unbounded

pub capped_spare : (n : Network) (x : List ℕ) → ((a : ℕ) → a < arcs n → upper n a < unbounded) → Spare n x
capped_spare n x capped a l e = absurd (omega (arith, capped a l))

module _ (n : Network) (sound : Sound n) (x p : List ℕ) (spare : Spare n x) (flow : Flow n x) (priced : Priced (residual_of n x p)) (y : List ℕ) (other : Flow n y) where
  arc : (a : ℕ) → a < arcs n
      → Shifted (cost n a + get_or p (tail n a) 0) (get_or p (head n a) 0) (get_or x a 0) (get_or y a 0)
  arc a l =
      shifted _ _ _ _
      (λ h. priced.up a l (room h (other.below a l)))
      (λ h. priced.down a l (omega (arith, other.above a l)))
    where
      room : get_or x a 0 < get_or y a 0 → (upper n a ≡ unbounded) ⊎ (get_or y a 0 ≤ upper n a) → get_or x a 0 < upper n a
      room h (inl e) = omega (arith, spare a l e)
      room h (inr m) = omega arith

  arc_even : (a : ℕ) (l : a < arcs n) → mixed n p x y a + (arc a l).d * (arc a l).e ≡ mixed n p y x a
  arc_even a l =
      omega (
        arith,
        (arc a l).even,
        add-mul (cost n a) (get_or p (tail n a) 0) (get_or x a 0),
        add-mul (cost n a) (get_or p (tail n a) 0) (get_or y a 0),
      )

  arc_le : (a : ℕ) → a < arcs n → mixed n p x y a ≤ mixed n p y x a
  arc_le a l = omega (arith, arc_even a l)

  balanced : sum_below (arcs n) (mixed n p x y) + cost_of n.costs y ≡ sum_below (arcs n) (mixed n p y x) + cost_of n.costs x
  balanced = omega (arith, mixed_sum n sound p x y, mixed_sum n sound p y x, exchange n sound (worth p) (worth_additive p) x y flow other)

  pub priced_cheapest : cost_of n.costs x ≤ cost_of n.costs y
  priced_cheapest = omega (arith, balanced, sum_le (arcs n) (mixed n p x y) (mixed n p y x) arc_le)

  -- a flow of the same cost keeps the units of each arc that is not free
  pub frozen_kept : cost_of n.costs y ≡ cost_of n.costs x → (a : ℕ) → a < arcs n
      → Free n a p ⊎ (get_or y a 0 ≡ get_or x a 0)
  frozen_kept q a l = go (none_of (arc a l).d (arc a l).e (omega (arith, arc_even a l, sum_tight (arcs n) (mixed n p x y) (mixed n p y x) arc_le (omega (arith, balanced)) a l)))
    where
      go : ((arc a l).d ≡ 0) ⊎ ((arc a l).e ≡ 0) → Free n a p ⊎ (get_or y a 0 ≡ get_or x a 0)
      go (inl z) = inl ((arc a l).free z)
      go (inr z) = inr ((arc a l).kept z)

pub priced_same_cost : (n : Network) → Sound n → (x z p : List ℕ) → Capped (residual_of n x p) → Flow n x → Priced (residual_of n x p) → Flow n z → Priced (residual_of n z p) → cost_of n.costs z ≡ cost_of n.costs x
priced_same_cost n sound x z p capped fx px fz pz = omega (arith, priced_cheapest n sound x p (capped_spare n x capped) fx px z fz, priced_cheapest n sound z p (capped_spare n z capped) fz pz x fx)
