-- A test that tells whether a network is sound: of a network that is written out, it computes.
use mathlib.Core.Path.{◌≡◌}
use mathlib.Core.Bool.{Bool, true, ◌&&◌}
use mathlib.Core.List.{List, [], ◌∷◌}
use Prim.Native.Nat.{ℕ, zero, suc, ◌+◌, ◌≤◌, ◌<◌}
use native.Mathlib.Nat.{le_of_suc-le-suc, not-suc-le-zero}
use native.Mathlib.Omega.{arith}
use lib.Dec.{eqb, ltb, leb}
use lib.ListN.{length, get_or}
use borrow.Author.Tests.{ltb-true, leb-true, eqb-true}
use Rattle.finite.specs.Base.{all_below}
use Rattle.flow.specs.Network.{Network, Sound, total, excess, cost_most}
use Rattle.finite.proofs.Tests.{and_parts}

abbrev pub each_at_most : List ℕ → List ℕ → Bool
each_at_most [] ys = true
each_at_most (x ∷ xs) [] = true
each_at_most (x ∷ xs) (y ∷ ys) = leb x y && each_at_most xs ys

abbrev pub long_as : Network → Bool
long_as n =
    eqb (length n.heads) (length n.tails) && (eqb (length n.lowers) (length n.tails) && (eqb (length n.uppers) (length n.tails)
    && (eqb (length n.costs) (length n.tails) && eqb (length n.demands) (length n.supplies))))

abbrev pub fits : Network → Bool
fits n =
    leb (length n.tails) 1024 && (leb (length n.supplies) 255 && (eqb (total n.supplies) (total n.demands)
    && (ltb (total n.supplies + total n.lowers) 8192 && ltb (excess n) 256)))

abbrev pub inside : Network → Bool
inside n =
    all_below (length n.supplies) n.tails && (all_below (length n.supplies) n.heads
    && (each_at_most n.lowers n.uppers && all_below cost_most n.costs))

below_at : (k : ℕ) (xs : List ℕ) → all_below k xs ≡ true → (a : ℕ) → a < length xs → get_or xs a 0 < k
below_at k [] e a l = absurd (not-suc-le-zero l)
below_at k (x ∷ xs) e zero l = ltb-true x k (and_parts (ltb x k) (all_below k xs) e).0
below_at k (x ∷ xs) e (suc a) l = below_at k xs (and_parts (ltb x k) (all_below k xs) e).1 a (le_of_suc-le-suc l)

most_at : (xs ys : List ℕ) → each_at_most xs ys ≡ true → length ys ≡ length xs → (a : ℕ) → a < length xs → get_or xs a 0 ≤ get_or ys a 0
most_at [] ys e q a l = absurd (not-suc-le-zero l)
most_at (x ∷ xs) [] e q a l = absurd (omega arith)
most_at (x ∷ xs) (y ∷ ys) e q zero l = leb-true x y (and_parts (leb x y) (each_at_most xs ys) e).0
most_at (x ∷ xs) (y ∷ ys) e q (suc a) l = most_at xs ys (and_parts (leb x y) (each_at_most xs ys) e).1 (omega arith) a (le_of_suc-le-suc l)

pub checked_sound : (n : Network) → long_as n ≡ true → fits n ≡ true → inside n ≡ true → Sound n
checked_sound n long fit in' =
    let (h, long₁) = and_parts _ _ long in
    let (l, long₂) = and_parts _ _ long₁ in
    let (u, long₃) = and_parts _ _ long₂ in
    let (c, d) = and_parts _ _ long₃ in
    let (arcs, fit₁) = and_parts _ _ fit in
    let (nodes, fit₂) = and_parts _ _ fit₁ in
    let (even, fit₃) = and_parts _ _ fit₂ in
    let (small, few) = and_parts _ _ fit₃ in
    let (t-in, in₁) = and_parts _ _ in' in
    let (h-in, in₂) = and_parts _ _ in₁ in
    let (order, cheap) = and_parts _ _ in₂ in
    let hl = eqb-true (length n.heads) (length n.tails) h in
    let ll = eqb-true (length n.lowers) (length n.tails) l in
    let ul = eqb-true (length n.uppers) (length n.tails) u in
    let cl = eqb-true (length n.costs) (length n.tails) c in
    record {
      heads_long = hl;
      lowers_long = ll;
      uppers_long = ul;
      costs_long = cl;
      demands_long = eqb-true (length n.demands) (length n.supplies) d;
      arcs_few = leb-true (length n.tails) 1024 arcs;
      nodes_few = leb-true (length n.supplies) 255 nodes;
      tails_in = below_at (length n.supplies) n.tails t-in;
      heads_in = λ a g. below_at (length n.supplies) n.heads h-in a (omega arith);
      ordered = λ a g. most_at n.lowers n.uppers order (omega arith) a (omega arith);
      cheap = λ a g. below_at cost_most n.costs cheap a (omega arith);
      even = eqb-true (total n.supplies) (total n.demands) even;
      small = ltb-true (total n.supplies + total n.lowers) 8192 small;
      few = ltb-true (excess n) 256 few;
    }
