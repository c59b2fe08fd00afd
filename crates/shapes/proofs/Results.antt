-- The solver's answer for an accepted plate: a flow whose units as bytes are the best shape within the limits, or a cut, and no shape keeps them. It is held in one way only.
use mathlib.Core.Path.{◌≡◌, refl, sym, ap, subst, ◌∙◌}
use mathlib.Core.Bool.{true}
use mathlib.Core.List.{List, []}
use Prim.Native.Nat.{ℕ, ◌≤◌, ◌<◌}
use native.Mathlib.Omega.{arith}
use lib.ListN.{length, get_or, take, drop}
use lib.Seq.{get_or-take}
use Rattle.finite.specs.Tables.{Table}
use Rattle.finite.proofs.Tables.{table_only}
use Rattle.flow.specs.Network.{excess, Best as BestFlow}
use Rattle.embedding.specs.Plates.{Plate, darts}
use Rattle.embedding.proofs.Degrees.{darts_few}
use Rattle.shapes.specs.Shapes.{Shape, meets, rights_of, total, shape_of}
use Rattle.shapes.specs.Claims.{Accepted, Best}
use Rattle.shapes.specs.Rates.{Rates, unrated, Fair, pair_sums, keeps, BestBy}
use Rattle.shapes.specs.NetworkOf.{network_of, rated_of}
use Rattle.shapes.specs.BestOf.{ShapeHeld, BestHeld, Answers, Small, Taken, right_bends, angles_held}
use Rattle.shapes.specs.declared.best.BestShape.{BestShape}
use Rattle.std.specs.Prelude.{Option, Some, None}
use Rattle.shapes.proofs.Arcs.{at_bend}
use Rattle.shapes.proofs.FlowFacts.{IsFlow, is_flow_facts}
use Rattle.shapes.proofs.RatedFlows.{rated_arcs, flow_plain, bends_long, corners_long, parted}
use Rattle.shapes.proofs.RatedSound.{excess_same}
use Rattle.shapes.proofs.RatedOrder.{one_best_by}
use Rattle.shapes.proofs.RatedBest.{some_meets}
use Rattle.shapes.proofs.Halves.{front_is}
use Rattle.shapes.proofs.Bytes.{unit_most, total_fits}
use Rattle.shapes.proofs.Unpriced.{by_best}
use Rattle.shapes.proofs.OneBest.{one_best}
use Rattle.shapes.proofs.Accepted.{faultless, ordered, least_is_best}

module _ (p : Plate) (a : Accepted p) (r : Rates) (fair : Fair r) (x : List ℕ) (b : BestFlow (rated_of p r) x) where
  few : darts p ≤ 256
  few = darts_few p (faultless p a) (ordered p a)

  abbrev units : List ℕ
  units = take (darts p) x

  abbrev corners : List ℕ
  corners = pair_sums (drop (darts p) x)

  -- its two parts, by dart and by corner
  parts : IsFlow p corners units
  parts =
      let f = b.least.flow in
      is_flow_facts p corners units (flow_plain p r (ordered p a) units (drop (darts p) x) (bends_long p r x f) (corners_long p r x f) (parted p r x f))

  near : (d : ℕ) → d < darts p → get_or units d 0 ≤ excess (network_of p)
  near d l = omega (arith, get_or-take (darts p) x d 0 l, b.near d (omega (arith, rated_arcs p r)), at_bend (darts p) (λ d. 0) (λ d. 1) (λ d. 0) d l, excess_same p r)

  most : (d : ℕ) → d < darts p → get_or units d 0 ≤ 198
  most = unit_most p (faultless p a) (ordered p a) units parts.units_long near

  bends_fit : total units < 65536
  bends_fit = total_fits p (faultless p a) (ordered p a) units parts.units_long near

  flow_small : Small (darts p) x
  flow_small = record {
    darts_most = few;
    long = b.least.flow.long ∙ rated_arcs p r;
    units_fit = λ d l. omega (arith, most d l);
    corners_fit = λ d l. omega (arith, parts.corner_range d l);
    total_fits = bends_fit;
  }

  pub units_small : (m : ℕ) → m ≡ darts p → Small m x
  units_small m e = subst (λ (k : ℕ). Small k x) (sym e) flow_small

  module _ (s : BestShape) (t : Taken (darts p) x s) where
    rights_are : right_bends p s ≡ units
    rights_are = front_is units s.rights (darts p) parts.units_long few t.rights

    angles_are : angles_held p s ≡ corners
    angles_are = front_is corners s.angles (darts p) parts.corners_long few t.angles

    flow_held : ShapeHeld p (BestBy p r) s
    flow_held = record {
      rights_long = ap length rights_are ∙ parts.units_long;
      angles_long = ap length angles_are ∙ parts.corners_long;
      rights_padded = subst (λ (l : List ℕ). Table 256 (λ i. get_or l i 0) s.rights) (sym rights_are) t.rights;
      angles_padded = subst (λ (l : List ℕ). Table 256 (λ i. get_or l i 0) s.angles) (sym angles_are) t.angles;
      best = rw (rights_are, angles_are) (least_is_best p a r fair x b.least).0;
      counts = rw rights_are (least_is_best p a r fair x b.least).1;
      bends_total = t.sum ∙ ap total (sym rights_are);
      total_fits = omega (arith, t.sum, bends_fit);
      right_most = λ d l. omega (arith, ap (λ (k : List ℕ). get_or k d 0) rights_are, most d l);
      angle_range = rw angles_are parts.corner_range;
    }

  pub shape_held : (m : ℕ) → m ≡ darts p → (s : BestShape) → Taken m x s → ShapeHeld p (BestBy p r) s
  shape_held m e s t = flow_held s (subst (λ (k : ℕ). Taken k x s) e t)

-- where some shape keeps the limits the best one is found
pub found_if : (p : Plate) (r : Rates) (o : Option BestShape) → Answers p r o → (u : Shape) → meets p u ≡ true → keeps r u ≡ true → (s : BestShape) × (o ≡ Some s) × ShapeHeld p (BestBy p r) s
found_if p r (Some s) h u m k = (s, refl, h)
found_if p r None h u m k = absurd (h u m k)

-- a shape that is so is such, too
held_map : (p : Plate) (So Such : Shape → Type 0) → ((s : Shape) → So s → Such s) → (r : BestShape) → ShapeHeld p So r → ShapeHeld p Such r
held_map p So Such f r h = record {
  rights_long = h.rights_long;
  angles_long = h.angles_long;
  rights_padded = h.rights_padded;
  angles_padded = h.angles_padded;
  best = f (shape_of p (angles_held p r) (right_bends p r)) h.best;
  counts = h.counts;
  bends_total = h.bends_total;
  total_fits = h.total_fits;
  right_most = h.right_most;
  angle_range = h.angle_range;
}

-- without limits and prices there is one, and it is the best shape
pub found_some : (p : Plate) → Accepted p → (o : Option BestShape) → Answers p unrated o → (s : BestShape) × (o ≡ Some s) × ShapeHeld p (BestBy p unrated) s
found_some p a o h = let (u, m, k) = some_meets p (faultless p a) (ordered p a) [] in found_if p unrated o h u m k

pub found_best : (p : Plate) (s : BestShape) → Answers p unrated (Some s) → BestHeld p s
found_best p s h = held_map p (BestBy p unrated) (Best p) (λ s best. by_best best) s h

-- there is one such shape, and one way to hold it
module _ (p : Plate) (So : Shape → Type 0) (one : (s u : Shape) → So s → So u → s ≡ u) (r s : BestShape) (h : ShapeHeld p So r) (k : ShapeHeld p So s) where
  same : shape_of p (angles_held p r) (right_bends p r) ≡ shape_of p (angles_held p s) (right_bends p s)
  same = one (shape_of p (angles_held p r) (right_bends p r)) (shape_of p (angles_held p s) (right_bends p s)) h.best k.best

  same_angles : angles_held p r ≡ angles_held p s
  same_angles = ap (λ (u : Shape). u.angles) same

  same_rights : right_bends p r ≡ right_bends p s
  same_rights = sym h.counts ∙ ap (λ (u : Shape). rights_of u.words) same ∙ k.counts

  shape_only : r ≡ s
  shape_only = λ i. record {
    angles = table_only 256 (λ j. get_or (angles_held p s) j 0) r.angles s.angles (subst (λ (l : List ℕ). Table 256 (λ j. get_or l j 0) r.angles) same_angles h.angles_padded) k.angles_padded i;
    rights = table_only 256 (λ j. get_or (right_bends p s) j 0) r.rights s.rights (subst (λ (l : List ℕ). Table 256 (λ j. get_or l j 0) r.rights) same_rights h.rights_padded) k.rights_padded i;
    total = (h.bends_total ∙ ap total same_rights ∙ sym k.bends_total) i;
  }

pub held_only : (p : Plate) (r s : BestShape) → BestHeld p r → BestHeld p s → r ≡ s
held_only p r s h k = shape_only p (Best p) (one_best p) r s h k

-- one answer
pub answer_only : (p : Plate) (r : Rates) (a b : Option BestShape) → Answers p r a → Answers p r b → a ≡ b
answer_only p r (Some s) (Some t) h k = ap Some (shape_only p (BestBy p r) (one_best_by p r) s t h k)
answer_only p r (Some s) None h k = absurd (k (shape_of p (angles_held p s) (right_bends p s)) h.best.meets_all h.best.keeps_all)
answer_only p r None (Some t) h k = absurd (h (shape_of p (angles_held p t) (right_bends p t)) k.best.meets_all k.best.keeps_all)
answer_only p r None None h k = refl
