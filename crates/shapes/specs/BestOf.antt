-- What the best shape of a plate holds.
use Rattle.std.specs.Prelude.{◌≡◌, Option, Some, None, List, ℕ, ◌+◌, ◌≤◌, ◌<◌, length, get_or, take, drop}
use Rattle.finite.specs.Tables.{Table}
use Rattle.embedding.specs.Plates.{Plate, darts}
use Rattle.shapes.specs.Shapes.{Shape, rights_of, total, shape_of}
use Rattle.shapes.specs.Claims.{Best}
use Rattle.shapes.specs.Rates.{Rates, pair_sums, BestBy, NoShape}
use Rattle.shapes.specs.declared.best.BestShape.{BestShape}

-- a number for each dart, right bends and angles
abbrev pub right_bends : Plate → BestShape → List ℕ
right_bends p r = take (darts p) r.rights

abbrev pub angles_held : Plate → BestShape → List ℕ
angles_held p r = take (darts p) r.angles

-- a shape of p that is so, as bytes, and its total; unused places are 0
pub record ShapeHeld (p : Plate) (So : Shape → Type 0) (r : BestShape) : Type 0 where
  pub rights_long : length (right_bends p r) ≡ darts p
  pub angles_long : length (angles_held p r) ≡ darts p
  pub rights_padded : Table 256 (λ i. get_or (right_bends p r) i 0) r.rights
  pub angles_padded : Table 256 (λ i. get_or (angles_held p r) i 0) r.angles
  pub best : So (shape_of p (angles_held p r) (right_bends p r))
  pub counts : rights_of (shape_of p (angles_held p r) (right_bends p r)).words ≡ right_bends p r
  pub bends_total : r.total ≡ total (right_bends p r)
  pub total_fits : r.total < 65536
  pub right_most : (d : ℕ) → d < darts p → get_or (right_bends p r) d 0 ≤ 198
  pub angle_range : (d : ℕ) → d < darts p → (1 ≤ get_or (angles_held p r) d 0) × (get_or (angles_held p r) d 0 ≤ 4)

-- the best shape
abbrev pub BestHeld : Plate → BestShape → Type 0
BestHeld p r = ShapeHeld p (Best p) r

-- the best shape within the limits, or that none keeps them
abbrev pub Answers : Plate → Rates → Option BestShape → Type 0
Answers p r (Some s) = ShapeHeld p (BestBy p r) s
Answers p r None = NoShape p r

-- units of the darts, then of the corners, two to each: a byte for each dart and each corner, two for the sum of the first
pub record Small (darts : ℕ) (x : List ℕ) : Type 0 where
  pub darts_most : darts ≤ 256
  pub long : length x ≡ darts + (darts + darts)
  pub units_fit : (d : ℕ) → d < darts → get_or (take darts x) d 0 < 256
  pub corners_fit : (d : ℕ) → d < darts → get_or (pair_sums (drop darts x)) d 0 < 256
  pub total_fits : total (take darts x) < 65536

-- the units of the darts as right bends, those of the corners as angles
pub record Taken (darts : ℕ) (x : List ℕ) (r : BestShape) : Type 0 where
  pub rights : Table 256 (λ i. get_or (take darts x) i 0) r.rights
  pub angles : Table 256 (λ i. get_or (pair_sums (drop darts x)) i 0) r.angles
  pub sum : r.total ≡ total (take darts x)
