-- The right bends of a best shape within limits fit a byte each and their total two, and no strip bends both ways.
use mathlib.Core.Path.{◌≡◌}
use mathlib.Core.List.{List, []}
use Prim.Native.Nat.{ℕ, ◌≤◌, ◌<◌}
use lib.ListN.{get_or}
use Rattle.embedding.specs.Plates.{Plate, darts}
use Rattle.shapes.specs.Shapes.{Shape, total, rights_of}
use Rattle.shapes.specs.Claims.{Accepted, Best}
use Rattle.shapes.specs.Rates.{Rates, Fair, BestBy, rates, unrated, BestWithin}
use Rattle.shapes.proofs.Accepted.{faultless, ordered}
use Rattle.shapes.proofs.Straight.{both}
use Rattle.shapes.proofs.RatedFits as Rated
use Rattle.shapes.proofs.Unpriced.{fair_unpriced, by_within, best-by}

-- without limits
module _ (p : Plate) (a : Accepted p) (s : Shape) (best : Best p s) where
  pub best_unit : (d : ℕ) → d < darts p → get_or (rights_of s.words) d 0 ≤ 198
  best_unit = Rated.best_unit p (faultless p a) (ordered p a) unrated (fair_unpriced []) s (best-by best)

-- and of one by limits and prices
module _ (p : Plate) (a : Accepted p) (r : Rates) (fair : Fair r) (s : Shape) (best : BestBy p r s) where
  pub rated_unit : (d : ℕ) → d < darts p → get_or (rights_of s.words) d 0 ≤ 198
  rated_unit = Rated.best_unit p (faultless p a) (ordered p a) r fair s best

  pub rated_total : total (rights_of s.words) < 65536
  rated_total = Rated.best_total p (faultless p a) (ordered p a) r fair s best

  pub rated_one_way : (d : ℕ) → d < darts p → both p (ordered p a) (rights_of s.words) d ≡ 0
  rated_one_way = Rated.best_one_way p (faultless p a) (ordered p a) r fair s best

-- and of one within limits
module _ (p : Plate) (a : Accepted p) (ls : List ℕ) (s : Shape) (best : BestWithin p ls s) where
  pub within_one_way : (d : ℕ) → d < darts p → both p (ordered p a) (rights_of s.words) d ≡ 0
  within_one_way = rated_one_way p a (rates ls []) (fair_unpriced ls) s (by_within ls best)
