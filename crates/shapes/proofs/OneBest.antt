-- There is one best shape at most.
use mathlib.Core.Path.{◌≡◌}
use mathlib.Core.List.{List, []}
use Prim.Native.Nat.{ℕ}
use Rattle.embedding.specs.Plates.{Plate}
use Rattle.shapes.specs.Shapes.{Shape}
use Rattle.shapes.specs.Claims.{Best}
use Rattle.shapes.specs.Rates.{rates, unrated, BestWithin}
use Rattle.shapes.proofs.RatedOrder.{one_best_by}
use Rattle.shapes.proofs.Unpriced.{by_within, best-by}

pub one_within : (p : Plate) (ls : List ℕ) (s u : Shape) → BestWithin p ls s → BestWithin p ls u → s ≡ u
one_within p ls s u b c = one_best_by p (rates ls []) s u (by_within ls b) (by_within ls c)

pub one_best : (p : Plate) (s u : Shape) → Best p s → Best p u → s ≡ u
one_best p s u b c = one_best_by p unrated s u (best-by b) (best-by c)
