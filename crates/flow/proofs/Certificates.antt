-- A test that tells of a flow and potentials that the flow is the least: of numbers that are written out, it computes.
-- The potentials show that no flow is cheaper.
-- For each arc in turn, the nodes that a unit can come to from its tail by free arcs above it are a set that shows that no flow as cheap has fewer units there.
-- Assumes nothing.
use mathlib.Core.Path.{◌≡◌, refl, ap, subst}
use mathlib.Core.Bool.{Bool, true, false, ◌&&◌, ◌||◌, not}
use mathlib.Core.List.{List, [], ◌∷◌}
use mathlib.Core.Logic.{⊎_elim}
use Prim.Native.Nat.{ℕ, zero, suc, ◌+◌, ◌≤◌, ◌<◌, zero-le}
use native.Mathlib.Omega.{arith}
use lib.Dec.{eqb, ltb, leb}
use lib.ListN.{get_or}
use borrow.Author.Tests.{eqb-false, eq-eqb, ltb-true, leb-true, lt-leb, not-true}
use Rattle.finite.specs.Base.{pick, is_in}
use Rattle.finite.proofs.Tests.{or_cases, or_second, and_left, and_right, and_parts, and_both, not_of_false, from_each}
use Rattle.residual.specs.Prices.{Priced}
use Rattle.flow.specs.Network.{Network, Flow, Sound, Least, within, unbounded}
use Rattle.flow.specs.Solver.{residual_of, Upto}
use Rattle.flow.proofs.Names.{arcs, nodes, tail, head, lower, upper, cost, GoesOut, GoesIn, Free, Full, AtLower}
use Rattle.flow.proofs.Duality.{Spare}
use Rattle.flow.proofs.Stage.{Barrier}
use Rattle.flow.proofs.Lexicographic.{upto_none, upto_at_lower, upto_frozen, upto_barrier, priced_least}

-- ---- the test

-- of the numbers a, a + 1 and so on, n of them
abbrev each : ℕ → ℕ → (ℕ → Bool) → Bool
each zero a t = true
each (suc n) a t = t a && each n (suc a) t

-- which of the nodes from v on, n of them, are in a list
abbrev marked : ℕ → ℕ → List ℕ → List Bool
marked zero v s = []
marked (suc n) v s = is_in v s ∷ marked n (suc v) s

module _ (n : Network) where
  -- from a set to the rest, and from the rest to a set
  abbrev is_out : List Bool → ℕ → Bool
  is_out s a = within s (tail n a) && not (within s (head n a))

  abbrev is_into : List Bool → ℕ → Bool
  is_into s a = within s (head n a) && not (within s (tail n a))

  -- a unit's price at the end of an arc, by way of it, and as it stands
  module _ (p : List ℕ) (a : ℕ) where
    abbrev over : ℕ
    over = cost n a + get_or p (tail n a) 0

    abbrev there : ℕ
    there = get_or p (head n a) 0

    abbrev is_free : Bool
    is_free = eqb there over

  module _ (x : List ℕ) (a : ℕ) where
    abbrev is_low : Bool
    is_low = leb (get_or x a 0) (lower n a)

    abbrev is_full : Bool
    is_full = leb (upper n a) (get_or x a 0) && not (eqb (upper n a) unbounded)

    abbrev is_spare : Bool
    is_spare = not (eqb (upper n a) unbounded) || ltb (get_or x a 0) unbounded

  module _ (p x : List ℕ) where
    abbrev is_priced : ℕ → Bool
    is_priced a = (leb (upper n a) (get_or x a 0) || leb (there p a) (over p a)) && (is_low x a || leb (over p a) (there p a))

    abbrev is_shut : List Bool → ℕ → ℕ → Bool
    is_shut s k a = leb a k || (not (is_free p a) || ((not (is_out s a) || is_full x a) && (not (is_into s a) || is_low x a)))

    abbrev is_barrier : List Bool → ℕ → Bool
    is_barrier s k = is_out s k && each (arcs n) 0 (is_shut s k)

    -- the nodes of s and those that a unit comes to from them: by the arc a; by the free arcs above k, i of them from a on; by j turns over all arcs
    abbrev by_arc : ℕ → List ℕ → List ℕ
    by_arc a s =
        pick (is_in (tail n a) s && (not (is_in (head n a) s) && not (is_full x a))) (head n a ∷ s)
        (pick (is_in (head n a) s && (not (is_in (tail n a) s) && not (is_low x a))) (tail n a ∷ s) s)

    abbrev by_arcs : ℕ → ℕ → ℕ → List ℕ → List ℕ
    by_arcs k zero a s = s
    by_arcs k (suc i) a s = by_arcs k i (suc a) (pick (ltb k a && is_free p a) (by_arc a s) s)

    abbrev by_turns : ℕ → ℕ → List ℕ → List ℕ
    by_turns k zero s = s
    by_turns k (suc j) s = by_turns k j (by_arcs k (arcs n) 0 s)

    abbrev reachable : ℕ → List Bool
    reachable k = marked (nodes n) 0 (by_turns k (nodes n) (tail n k ∷ []))

    abbrev is_settled : ℕ → Bool
    is_settled k = is_low x k || (not (is_free p k) || is_barrier (reachable k) k)

    abbrev pub certified : Bool
    certified = each (arcs n) 0 (λ a. is_spare x a && (is_priced a && is_settled a))

-- ---- what it tells

each_at : (n : ℕ) (t : ℕ → Bool) → each n 0 t ≡ true → (a : ℕ) → a < n → t a ≡ true
each_at n t e a l = from_each (λ n a. each n a t) t (λ a. refl) (λ n a. refl) n 0 e a zero-le (omega arith)

unless : (a b : Bool) → not a || b ≡ true → a ≡ true → b ≡ true
unless a b e h = or_second (not a) b e (ap not h)

-- the test for one end in a set and the other not
apart : (a b : Bool) → a && not b ≡ true → (a ≡ true) × (b ≡ false)
apart a b e = (and_left a (not b) e, not-true b (and_right a (not b) e))

apart_test : (a b : Bool) → (a ≡ true) × (b ≡ false) → a && not b ≡ true
apart_test a b o = and_both a (not b) o.0 (not_of_false o.1)

module _ (n : Network) (p x : List ℕ) where
  module _ (s : List Bool) (k : ℕ) (e : is_barrier n p x s k ≡ true) (a : ℕ) (l : a < arcs n) (above : k < a) (free : Free n a p) where
    abbrev outs : Bool
    outs = not (is_out n s a) || is_full n x a

    abbrev ins : Bool
    ins = not (is_into n s a) || is_low n x a

    shut : (outs ≡ true) × (ins ≡ true)
    shut =
        and_parts outs ins
        (unless (is_free n p a) (outs && ins)
        (or_second (leb a k) (not (is_free n p a) || (outs && ins)) (each_at (arcs n) (is_shut n p x s k) (and_right (is_out n s k) (each (arcs n) 0 (is_shut n p x s k)) e) a l) (lt-leb a k above))
        (eq-eqb (there n p a) (over n p a) free))

    full : GoesOut n a s → Full n a x
    full o =
        let (most, bounded) = apart (leb (upper n a) (get_or x a 0)) (eqb (upper n a) unbounded) (unless (is_out n s a) (is_full n x a) shut.0 (apart_test (within s (tail n a)) (within s (head n a)) o)) in
        (leb-true (upper n a) (get_or x a 0) most, eqb-false (upper n a) unbounded bounded)

    low : GoesIn n a s → AtLower n a x
    low o = leb-true (get_or x a 0) (lower n a) (unless (is_into n s a) (is_low n x a) shut.1 (apart_test (within s (head n a)) (within s (tail n a)) o))

  barrier : (s : List Bool) (k : ℕ) → is_barrier n p x s k ≡ true → Barrier n p x s k
  barrier s k e =
      record {
        leaves = apart (within s (tail n k)) (within s (head n k)) (and_left (is_out n s k) (each (arcs n) 0 (is_shut n p x s k)) e);
        full = full s k e;
        low = low s k e;
      }

  module _ (e : certified n p x ≡ true) where
    tests : (a : ℕ) → a < arcs n → (is_spare n x a ≡ true) × (is_priced n p x a ≡ true) × (is_settled n p x a ≡ true)
    tests a l =
        let (spare, more) = and_parts (is_spare n x a) (is_priced n p x a && is_settled n p x a) (each_at (arcs n) (λ a. is_spare n x a && (is_priced n p x a && is_settled n p x a)) e a l) in
        let (priced, settled) = and_parts (is_priced n p x a) (is_settled n p x a) more in
        (spare, priced, settled)

    spare : Spare n x
    spare a l q = ltb-true (get_or x a 0) unbounded (unless (eqb (upper n a) unbounded) (ltb (get_or x a 0) unbounded) (tests a l).0 (eq-eqb (upper n a) unbounded q))

    priced_tests : (a : ℕ) → a < arcs n → (leb (upper n a) (get_or x a 0) || leb (there n p a) (over n p a) ≡ true) × (is_low n x a || leb (over n p a) (there n p a) ≡ true)
    priced_tests a l = and_parts (leb (upper n a) (get_or x a 0) || leb (there n p a) (over n p a)) (is_low n x a || leb (over n p a) (there n p a)) (tests a l).1

    priced : Priced (residual_of n x p)
    priced =
        record {
          up = λ a l h. leb-true (there n p a) (over n p a) (or_second (leb (upper n a) (get_or x a 0)) (leb (there n p a) (over n p a)) (priced_tests a l).0 (lt-leb (upper n a) (get_or x a 0) h));
          down = λ a l h. leb-true (over n p a) (there n p a) (or_second (is_low n x a) (leb (over n p a) (there n p a)) (priced_tests a l).1 (lt-leb (get_or x a 0) (lower n a) h));
        }

    module _ (sound : Sound n) (flow : Flow n x) where
      settled : (k : ℕ) → k < arcs n → Upto k n x → Upto (k + 1) n x
      settled k l u =
          ⊎_elim (λ h. upto_at_lower n sound p x spare flow priced k l u (leb-true (get_or x k 0) (lower n k) h))
          (λ h. ⊎_elim (λ f. upto_frozen n sound p x spare flow priced k l u (eqb-false (there n p k) (over n p k) (not-true (is_free n p k) f)))
          (λ b. upto_barrier n sound p x spare flow priced k l u (reachable n p x k) (barrier (reachable n p x k) k b))
          (or_cases (not (is_free n p k)) (is_barrier n p x (reachable n p x k) k) h))
          (or_cases (is_low n x k) (not (is_free n p k) || is_barrier n p x (reachable n p x k) k) (tests k l).2)

      upto : (k : ℕ) → k ≤ arcs n → Upto k n x
      upto zero l = upto_none n x
      upto (suc k) l = subst (λ (j : ℕ). Upto j n x) (omega arith) (settled k (omega arith) (upto k (omega arith)))

      pub certified_least : Least n x
      certified_least = priced_least n sound p x spare flow priced (upto (arcs n) (omega arith))
