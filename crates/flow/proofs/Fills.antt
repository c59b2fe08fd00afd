-- Lists filled from the front, sums over a part of a list, and sums by node filled an arc at a time.
use mathlib.Core.Path.{◌≡◌, refl, sym, ap, ◌∙◌}
use mathlib.Core.Bool.{Bool}
use mathlib.Core.List.{List, [], ◌∷◌}
use Rattle.std.proofs.Common.{sum}
use Rattle.std.proofs.lemmas.List.Sums.{sum_by-cons}
use Prim.Native.Nat.{ℕ, ◌+◌, ◌≤◌, ◌<◌}
use native.Mathlib.Omega.{arith}
use borrow.Author.Tests.{eq-eqb, ne_eqb}
use lib.Dec.{eqb}
use native.Mathlib.Decide.{dec_lt}
use lib.ListN.{length, get_or, set, length-set, take, replicate, length-replicate, get_or-replicate, get_or-eq_default}
use lib.Seq.{get_or-set_other, length-take-le, get_or-take}
use Rattle.finite.specs.Tables.{Table}
use Rattle.finite.proofs.Sums.{sum_part, sum_below, sum_more, when_most, sum_le, sum_has, total_sum}
use Rattle.finite.proofs.Tables.{table_set}
use Rattle.residual.proofs.Units.{units_at_sum}
use Rattle.flow.specs.Solver.{Added, Zeros}
use Rattle.flow.specs.Network.{when, total}
pub use Rattle.residual.proofs.Fills.{filled_more}

-- a list with f put at each place below v
pub record Filling (f : ℕ → ℕ) (xs : List ℕ) (v : ℕ) (ys : List ℕ) : Type 0 where
  pub long : length ys ≡ length xs
  pub done : (u : ℕ) → u < v → get_or ys u 0 ≡ f u
  pub rest : (u : ℕ) → v ≤ u → get_or ys u 0 ≡ get_or xs u 0

pub filling_none : (f : ℕ → ℕ) (xs : List ℕ) → Filling f xs 0 xs
filling_none f xs = record { long = refl; done = λ u h. absurd (omega arith); rest = λ u h. refl }

pub filling_more : {f : ℕ → ℕ} {xs : List ℕ} {v : ℕ} {ys : List ℕ} → Filling f xs v ys → (w : ℕ) → v < length xs → w ≡ f v → Filling f xs (v + 1) (set ys v w)
filling_more {f} {xs} {v} {ys} p w l here =
    record {
      long = length-set ys v w ∙ p.long;
      done = filled_more f ys v w (omega (arith, p.long)) p.done here;
      rest = λ u h. get_or-set_other ys v u w 0 (λ (e : u ≡ v). absurd (omega arith)) ∙ p.rest u (omega arith);
    }

-- the first numbers of a list make no more than all
pub total_part : (xs : List ℕ) (i : ℕ) → i ≤ length xs → sum_below i (λ j. get_or xs j 0) ≤ total xs
total_part xs i h = omega (arith, total_sum xs, sum_part (λ j. get_or xs j 0) i (length xs) h)

pub units_part : (es xs : List ℕ) (v i : ℕ) → sum_below i (λ j. when (eqb (get_or es j 0) v) (get_or xs j 0)) ≤ sum_below i (λ j. get_or xs j 0)
units_part es xs v i = sum_le i (λ j. when (eqb (get_or es j 0) v) (get_or xs j 0)) (λ j. get_or xs j 0) (λ j h. when_most (eqb (get_or es j 0) v) (get_or xs j 0))

pub total_has : (xs : List ℕ) (i : ℕ) → i < length xs → get_or xs i 0 ≤ total xs
total_has xs i h = omega (arith, total_sum xs, sum_has (length xs) (λ j. get_or xs j 0) i h)

-- numbers by node, to which the units on the arcs below k are added where these end
pub record Adding (es xs sums : List ℕ) (k : ℕ) (sums' : List ℕ) : Type 0 where
  pub so_far : Table (length sums) (λ v. get_or sums v 0 + sum_below k (λ j. when (eqb (get_or es j 0) v) (get_or xs j 0))) sums'
  pub within : k ≤ length es

pub adding_none : (es xs sums : List ℕ) → Adding es xs sums 0 sums
adding_none es xs sums = record { so_far = record { size = refl; at = λ v l. omega arith }; within = omega arith }

module _ {es xs sums : List ℕ} {k : ℕ} {sums' : List ℕ} (h : Adding es xs sums k sums') where
  -- a sum with one arc's units more is no more than all
  pub adding_few : length xs ≡ length es → k < length es → get_or es k 0 < length sums → get_or sums' (get_or es k 0) 0 + get_or xs k 0 ≤ total sums + total xs
  adding_few e next l =
      let v = get_or es k 0 in
      omega (
        arith,
        h.so_far.at v l,
        total_has sums v l,
        ap (λ (b : Bool). when b (get_or xs k 0)) (eq-eqb (get_or es k 0) v refl),
        sum_more k (λ j. when (eqb (get_or es j 0) v) (get_or xs j 0)),
        units_part es xs v (k + 1),
        total_part xs (k + 1) (omega arith),
      )

  pub adding_more : k < length es → get_or es k 0 < length sums → Adding es xs sums (k + 1) (set sums' (get_or es k 0) (get_or sums' (get_or es k 0) 0 + get_or xs k 0))
  adding_more next l =
      record {
        so_far = table_set (length sums) (to k) (to (k + 1)) sums' (get_or es k 0) (get_or sums' (get_or es k 0) 0 + get_or xs k 0) h.so_far l new old;
        within = omega arith;
      }
    where
      to : ℕ → ℕ → ℕ
      to i v = get_or sums v 0 + sum_below i (λ j. when (eqb (get_or es j 0) v) (get_or xs j 0))

      new : get_or sums' (get_or es k 0) 0 + get_or xs k 0 ≡ to (k + 1) (get_or es k 0)
      new =
          let v = get_or es k 0 in
          omega (arith, h.so_far.at v l, sum_more k (λ j. when (eqb (get_or es j 0) v) (get_or xs j 0)), ap (λ (b : Bool). when b (get_or xs k 0)) (eq-eqb (get_or es k 0) v refl))

      old : (v : ℕ) → (v ≡ get_or es k 0 → ⊥) → to (k + 1) v ≡ to k v
      old v ne = omega (arith, sum_more k (λ j. when (eqb (get_or es j 0) v) (get_or xs j 0)), ap (λ (b : Bool). when b (get_or xs k 0)) (ne_eqb (get_or es k 0) v (λ (q : get_or es k 0 ≡ v). ne (sym q))))

  pub adding_all : length es ≤ k → Added es xs sums sums'
  adding_all all =
      record {
        long = h.so_far.size;
        at = λ v l.
            let e : k ≡ length es = omega (arith, h.within) in
            omega (arith, h.so_far.at v l, units_at_sum es xs v, ap (λ (i : ℕ). sum_below i (λ j. when (eqb (get_or es j 0) v) (get_or xs j 0))) e);
      }

-- the first numbers of a list of zeros
abbrev pub zeros : ℕ → List ℕ
zeros n = replicate n 0

pub part_long : (k n : ℕ) → k ≤ n → length (take k (zeros n)) ≡ k
part_long k n h = length-take-le k (zeros n) (omega (arith, length-replicate {A = ℕ} n 0))

pub zeros_part : (k n : ℕ) → k ≤ n → Zeros k (take k (zeros n))
zeros_part k n h = record {
  long = part_long k n h;
  zero_at = λ i. elim (dec_lt i k) [
    | yes l ↦ get_or-take k (zeros n) i 0 l ∙ get_or-replicate {A = ℕ} n i 0 0 (omega arith)
    | no d ↦ get_or-eq_default (take k (zeros n)) 0 {n = i} (omega (arith, d, part_long k n h))
  ];
}

-- the library's sum of a list of numbers
pub sum_total : (xs : List ℕ) → sum xs ≡ total xs
sum_total [] = refl
sum_total (x ∷ xs) = sum_by-cons (λ (y : ℕ). y) x xs ∙ ap (λ (n : ℕ). x + n) (sum_total xs)
