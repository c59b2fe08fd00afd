-- The sums of the definitions as sums over lists of darts and over all darts.
use mathlib.Core.Path.{◌≡◌, refl, ap, ◌∙◌}
use mathlib.Core.List.{List, [], ◌∷◌}
use Prim.Native.Nat.{ℕ, ◌+◌}
use native.Mathlib.Nat.{zero-add}
use lib.Dec.{eqb}
use lib.ListN.{get_or}
use Rattle.finite.proofs.Sums.{sum_over, sum_cong, sum_from}
use Rattle.embedding.specs.Plates.{when, Plate, darts, twin, ends_at}
use Rattle.shapes.specs.Claims.{corners_of, goes_out, comes_in, corners_from}
use Rattle.embedding.proofs.Totals.{end_sum}

pub out_sum : (xs ds : List ℕ) → goes_out ds xs ≡ sum_over ds (λ d. get_or xs d 0)
out_sum xs [] = refl
out_sum xs (d ∷ ds) = ap (λ (s : ℕ). get_or xs d 0 + s) (out_sum xs ds)

pub in_sum : (xs ds : List ℕ) → comes_in ds xs ≡ sum_over ds (λ d. get_or xs (twin d) 0)
in_sum xs [] = refl
in_sum xs (d ∷ ds) = ap (λ (s : ℕ). get_or xs (twin d) 0 + s) (in_sum xs ds)

pub corners_sum : (cs ds : List ℕ) → corners_of ds cs ≡ sum_over ds (λ d. get_or cs d 0)
corners_sum cs [] = refl
corners_sum cs (d ∷ ds) = ap (λ (s : ℕ). get_or cs d 0 + s) (corners_sum cs ds)

pub corners_from_sum : (p : Plate) (v : ℕ) (cs : List ℕ) → corners_from (darts p) 0 p v cs ≡ end_sum p (λ d. get_or cs d 0) v
corners_from_sum p v cs =
    sum_from (λ n a. corners_from n a p v cs) here (λ a. refl) (λ n a. refl) (darts p) 0
    ∙ sum_cong (darts p) (λ i. here (0 + i)) here (λ i l. ap here (zero-add i))
  where
    here : ℕ → ℕ
    here d = when (eqb (ends_at p d) v) (get_or cs d 0)
