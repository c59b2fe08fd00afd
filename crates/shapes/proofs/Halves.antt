-- The parts of the units: those of the darts, and two to each corner.
use mathlib.Core.Path.{◌≡◌, sym, ap, ◌∙◌}
use mathlib.Core.List.{List}
use Prim.Native.Nat.{ℕ, ◌+◌, ◌≤◌}
use native.Mathlib.Numerals.{add-one}
use native.Mathlib.Omega.{arith}
use lib.ListN.{length, get_or, take, drop}
use lib.Seq.{ext_get_or, length-take-le, get_or-take, get_or-drop}
use Rattle.finite.specs.Tables.{Table}
use Rattle.shapes.specs.Rates.{pair_sums}
use Rattle.shapes.proofs.Pairs.{sums_at}

-- an array that a list fills as far as it goes begins with the list
pub front_is : (ys xs : List ℕ) (m : ℕ) → length ys ≡ m → m ≤ 256 → Table 256 (λ i. get_or ys i 0) xs → take m xs ≡ ys
front_is ys xs m e l t =
    let long : length (take m xs) ≡ m = length-take-le m xs (omega (arith, t.size)) in
    ext_get_or 0 (take m xs) ys (long ∙ sym e) (λ i k. get_or-take m xs i 0 (omega arith) ∙ t.at i (omega arith))

-- the two numbers of a place
pub pair_at : (xs : List ℕ) (d : ℕ) → get_or xs (d + d) 0 + get_or xs (d + d + 1) 0 ≡ get_or (pair_sums xs) d 0
pair_at xs d = ap (λ (k : ℕ). get_or xs (d + d) 0 + get_or xs k 0) (add-one (d + d)) ∙ sym (sums_at xs d)

-- behind the first m, the two numbers of a place
pub pair_behind : (m : ℕ) (xs : List ℕ) (d : ℕ) → get_or xs (m + d + d) 0 + get_or xs (m + d + d + 1) 0 ≡ get_or (pair_sums (drop m xs)) d 0
pair_behind m xs d =
    let first : m + d + d ≡ m + (d + d) = omega arith in
    let second : m + d + d + 1 ≡ m + (d + d + 1) = omega arith in
    omega (arith, pair_at (drop m xs) d, ap (λ (k : ℕ). get_or xs k 0) first, ap (λ (k : ℕ). get_or xs k 0) second, get_or-drop m xs (d + d) 0, get_or-drop m xs (d + d + 1) 0)
