-- What crosses from a set of nodes to the rest and back, compared arc by arc; and what it has to do with what the set's nodes hold.
use mathlib.Core.Path.{◌≡◌, refl}
use mathlib.Core.Bool.{Bool, true, false, ◌&&◌, not}
use mathlib.Core.List.{List}
use Prim.Native.Nat.{ℕ, ◌+◌, ◌≤◌, ◌<◌}
use native.Mathlib.Omega.{arith}
use lib.ListN.{length, get_or}
use Rattle.finite.proofs.Sums.{sum_below, sum_add, sum_cong, sum_le, sum_lt}
use Rattle.flow.specs.Network.{when, within, crossing, Network, Sound, units_at}
use Rattle.flow.proofs.Names.{arcs, nodes, tail, head}
use Rattle.flow.proofs.Units.{crossing_sum, inside, inside_additive}
use Rattle.flow.proofs.Balance.{node_balance}

module _ (t h : Bool) (x y : ℕ) where
  when_le : ((t ≡ true) × (h ≡ false) → x ≤ y) → when (t && not h) x ≤ when (t && not h) y
  when_le = go t h
    where
      go : (t h : Bool) → ((t ≡ true) × (h ≡ false) → x ≤ y) → when (t && not h) x ≤ when (t && not h) y
      go true true f = omega arith
      go true false f = f (refl, refl)
      go false h f = omega arith

  when_lt : (t ≡ true) × (h ≡ false) → x < y → when (t && not h) x < when (t && not h) y
  when_lt o l = rw (o.0, o.1) l

module _ (s : List Bool) (ts hs : List ℕ) (m : ℕ) (ts-long : length ts ≡ m) (hs-long : length hs ≡ m) (xs ys : List ℕ)
    (le : (a : ℕ) → a < m → (within s (get_or ts a 0) ≡ true) × (within s (get_or hs a 0) ≡ false) → get_or xs a 0 ≤ get_or ys a 0) where
  abbrev term : List ℕ → ℕ → ℕ
  term zs a = when (within s (get_or ts a 0) && not (within s (get_or hs a 0))) (get_or zs a 0)

  term_le : (a : ℕ) → a < m → term xs a ≤ term ys a
  term_le a l = when_le (within s (get_or ts a 0)) (within s (get_or hs a 0)) (get_or xs a 0) (get_or ys a 0) (le a l)

  pub crossing_le : crossing s ts hs xs ≤ crossing s ts hs ys
  crossing_le = omega (arith, crossing_sum s ts hs xs m ts-long hs-long, crossing_sum s ts hs ys m ts-long hs-long, sum_le m (term xs) (term ys) term_le)

  pub crossing_lt : (k : ℕ) → k < m → (within s (get_or ts k 0) ≡ true) × (within s (get_or hs k 0) ≡ false) → get_or xs k 0 < get_or ys k 0
      → crossing s ts hs xs < crossing s ts hs ys
  crossing_lt k l o h =
      omega (
        arith,
        crossing_sum s ts hs xs m ts-long hs-long,
        crossing_sum s ts hs ys m ts-long hs-long,
        sum_lt m (term xs) (term ys) term_le k l (when_lt (within s (get_or ts k 0)) (within s (get_or hs k 0)) (get_or xs k 0) (get_or ys k 0) o h),
      )

-- an arc of which both ends are in the set counts on both sides
both_ends : (t h : Bool) (x : ℕ) → when t x + when (h && not t) x ≡ when h x + when (t && not h) x
both_ends true true x = refl
both_ends true false x = omega arith
both_ends false true x = omega arith
both_ends false false x = refl

module _ (n : Network) (sound : Sound n) (s : List Bool) where
  -- what leaves the set by arcs or otherwise is what enters it
  pub crossing_balance : (x : List ℕ) (o i : ℕ → ℕ) → ((v : ℕ) → v < nodes n → units_at n.tails x v + o v ≡ units_at n.heads x v + i v)
      → crossing s n.tails n.heads x + sum_below (nodes n) (λ v. when (within s v) (o v)) ≡ crossing s n.heads n.tails x + sum_below (nodes n) (λ v. when (within s v) (i v))
  crossing_balance x o i e =
      let t : ℕ → Bool = λ a. within s (tail n a) in
      let h : ℕ → Bool = λ a. within s (head n a) in
      let m : ℕ = arcs n in
      omega (
        arith,
        node_balance n sound (inside s) (inside_additive s) x o i e,
        sum_add m (λ a. when (t a) (get_or x a 0)) (λ a. when (h a && not (t a)) (get_or x a 0)),
        sum_add m (λ a. when (h a) (get_or x a 0)) (λ a. when (t a && not (h a)) (get_or x a 0)),
        sum_cong m (λ a. when (t a) (get_or x a 0) + when (h a && not (t a)) (get_or x a 0)) (λ a. when (h a) (get_or x a 0) + when (t a && not (h a)) (get_or x a 0)) (λ a l. both_ends (t a) (h a) (get_or x a 0)),
        crossing_sum s n.tails n.heads x m refl sound.heads_long,
        crossing_sum s n.heads n.tails x m sound.heads_long refl,
      )
