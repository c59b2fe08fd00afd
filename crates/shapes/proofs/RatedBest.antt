-- The least flow with limits and prices is the best shape's; a cut says that no shape keeps the limits; without limits some shape is always there.
use mathlib.Core.Path.{◌≡◌, refl, sym, ap, ◌∙◌}
use mathlib.Core.Bool.{true}
use mathlib.Core.List.{List, [], ◌++◌}
use Prim.Native.Nat.{ℕ}
use lib.ListN.{length, take, drop}
use lib.Seq.{take_at, drop_at}
use Rattle.flow.specs.Network.{Flow, Least, NoFlow}
use Rattle.flow.proofs.Uniques.{least_unique}
use Rattle.flow.proofs.Cuts.{cut_rules_out}
use Rattle.embedding.specs.Plates.{Plate, darts}
use Rattle.embedding.proofs.Rotation.{Ordered}
use Rattle.embedding.proofs.Faultless.{Faultless}
use Rattle.shapes.specs.Shapes.{Shape, meets, rights_of, shape_of}
use Rattle.shapes.specs.Rates.{Rates, rates, Fair, pair_sums, keeps, strip_bends, BestBy}
use Rattle.shapes.specs.NetworkOf.{is_joint, rated_of}
use Rattle.shapes.proofs.FlowFacts.{is_flow_parts}
use Rattle.shapes.proofs.Tamassia.{shape_flow, flow_shape}
use Rattle.shapes.proofs.SomeFlow.{some_corners, some_units, some_flow}
use Rattle.shapes.proofs.Strips.{free_within}
use Rattle.shapes.proofs.Apart.{apart_whole}
use Rattle.shapes.proofs.RatedSound.{rated_sound}
use Rattle.shapes.proofs.RatedShapes.{rights_count, shape_within, counts_keep}
use Rattle.shapes.proofs.RatedCounts.{on_arcs, counts_flow, units_of, angles_of, flow_counts, counts_within}
use Rattle.shapes.proofs.RatedLeast.{flow_of, best_least}
use Rattle.shapes.proofs.RatedSome.{some_best_by}

module _ (p : Plate) (f : Faultless p) (o : Ordered p) (r : Rates) (fair : Fair r) where
  -- a shape within the limits is a flow, and where there is a flow there is such a shape
  pub shape_rated : (u : Shape) → meets p u ≡ true → keeps r u ≡ true → Flow (rated_of p r) (rights_of u.words ++ on_arcs p r o u.angles)
  shape_rated u m k = counts_flow p r o u.angles (rights_of u.words) (shape_flow p o u m) (shape_within p o r u m k)

  pub rated_shape : (y : List ℕ) → Flow (rated_of p r) y → (u : Shape) × (meets p u ≡ true) × (keeps r u ≡ true)
  rated_shape y g =
      let e = flow_counts p r o y g in
      let al = angles_of p r o y g in
      let us = units_of p r o y g in
      (shape_of p al us, flow_shape p o al us e, counts_keep p o r al us e (counts_within p r o y g))

  pub none_keeps : NoFlow (rated_of p r) → (u : Shape) → meets p u ≡ true → keeps r u ≡ true → ⊥
  none_keeps none u m k = cut_rules_out (rated_of p r) (rated_sound p r f o fair) none.set none.cut (rights_of u.words ++ on_arcs p r o u.angles) (shape_rated u m k)

  -- the least flow read as right bends and angles
  module _ (x : List ℕ) (least : Least (rated_of p r) x) where
    abbrev pub units : List ℕ
    units = take (darts p) x

    abbrev pub corners : List ℕ
    corners = pair_sums (drop (darts p) x)

    some : (al : List ℕ) × (xs : List ℕ) × BestBy p r (shape_of p al xs) × (rights_of (shape_of p al xs).words ≡ xs)
    some = let (u, m, k) = rated_shape x least.flow in some_best_by p o r fair u m k

    abbrev al : List ℕ
    al = some.0

    abbrev xs : List ℕ
    xs = some.1

    best : BestBy p r (shape_of p al xs)
    best = some.2

    rights : rights_of (shape_of p al xs).words ≡ xs
    rights = some.3

    its_flow : x ≡ xs ++ on_arcs p r o al
    its_flow =
        least_unique (rated_of p r) x (flow_of p f o r fair (shape_of p al xs) best) least (best_least p f o r fair (shape_of p al xs) best)
        ∙ ap (λ (k : List ℕ). k ++ on_arcs p r o al) rights

    xs_long : length xs ≡ darts p
    xs_long = ap length (sym rights) ∙ rights_count p o r (shape_of p al xs) best.meets_all

    al_long : length al ≡ darts p
    al_long = (is_flow_parts p al (rights_of (shape_of p al xs).words) (shape_flow p o (shape_of p al xs) best.meets_all)).0

    units_are : units ≡ xs
    units_are = ap (take (darts p)) its_flow ∙ take_at xs (on_arcs p r o al) (darts p) xs_long

    corners_are : corners ≡ al
    corners_are = ap (λ (k : List ℕ). pair_sums (drop (darts p) k)) its_flow ∙ ap pair_sums (drop_at xs (on_arcs p r o al) (darts p) xs_long) ∙ apart_whole (is_joint p) (darts p) al al_long

    pub least_best_by : BestBy p r (shape_of p corners units)
    least_best_by = rw (units_are, corners_are) best

    pub least_rights_by : rights_of (shape_of p corners units).words ≡ units
    least_rights_by = rw units_are rights

-- without limits
module _ (p : Plate) (f : Faultless p) (o : Ordered p) (ps : List ℕ) where
  pub some_meets : (u : Shape) × (meets p u ≡ true) × (keeps (rates [] ps) u ≡ true)
  some_meets =
      let u = shape_of p (some_corners p f o) (some_units p f o) in
      (u, flow_shape p o (some_corners p f o) (some_units p f o) (some_flow p f o), free_within [] (strip_bends u) refl)
