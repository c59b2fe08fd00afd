-- A flow that is cheapest for its corners crosses no strip both ways.
use mathlib.Core.Path.{◌≡◌, refl, sym, ap, ◌∙◌}
use mathlib.Core.Bool.{true}
use mathlib.Core.List.{List, [], ◌∷◌}
use Prim.Native.Nat.{ℕ, ◌+◌, ◌-◌, ◌≤◌, ◌<◌, min}
use native.Mathlib.Omega.{arith}
use borrow.Author.Tests.{eqb-true, eq-eqb, ltb-true}
use lib.Dec.{ltb}
use lib.ListN.{length, get_or}
use Rattle.finite.proofs.Sums.{total_sum, sum_below, sum_over, sum_cong, sum_add, sum_has}
use Rattle.finite.proofs.Tests.{and_left, and_right}
use Rattle.embedding.specs.Plates.{all_below, Plate, darts, twin, face_of, faces}
use Rattle.embedding.proofs.Rotation.{Ordered, twin_twin, twin_dart}
use Rattle.embedding.proofs.Faces.{face_all_below}
use Rattle.shapes.specs.Shapes.{total}
use Rattle.shapes.specs.Claims.{goes_out, comes_in, balanced, is_flow}
use Rattle.shapes.specs.NetworkOf.{table}
use Rattle.shapes.proofs.Tables.{length_table, table_at}
use Rattle.shapes.proofs.Places.{face_below_darts}
use Rattle.shapes.proofs.FlowFacts.{is_flow_facts, facts_is_flow}
use Rattle.shapes.proofs.Flows.{gone, come, balanced_is}

module _ (p : Plate) (o : Ordered p) (ys : List ℕ) where
  -- what crosses a strip both ways
  abbrev pub both : ℕ → ℕ
  both d = min (get_or ys d 0) (get_or ys (twin d) 0)

  abbrev pub straightened : List ℕ
  straightened = table (darts p) (λ d. get_or ys d 0 - both d)

  pub both_twin : (d : ℕ) → both (twin d) ≡ both d
  both_twin d = omega (arith, ap (λ (e : ℕ). get_or ys e 0) (twin_twin d))

  pub less : (d : ℕ) → d < darts p → get_or straightened d 0 + both d ≡ get_or ys d 0
  less d l = omega (arith, table_at (darts p) (λ d. get_or ys d 0 - both d) d l)

  goes_less : (ds : List ℕ) → all_below (darts p) ds ≡ true → goes_out ds straightened + sum_over ds both ≡ goes_out ds ys
  goes_less [] a = refl
  goes_less (d ∷ ds) a =
      omega (arith, less d (ltb-true d (darts p) (and_left (ltb d (darts p)) (all_below (darts p) ds) a)), goes_less ds (and_right (ltb d (darts p)) (all_below (darts p) ds) a))

  comes_less : (ds : List ℕ) → all_below (darts p) ds ≡ true → comes_in ds straightened + sum_over ds both ≡ comes_in ds ys
  comes_less [] a = refl
  comes_less (d ∷ ds) a =
      omega (
        arith,
        both_twin d,
        less (twin d) (twin_dart p o d (ltb-true d (darts p) (and_left (ltb d (darts p)) (all_below (darts p) ds) a))),
        comes_less ds (and_right (ltb d (darts p)) (all_below (darts p) ds) a),
      )

  pub straight_flow : (cs : List ℕ) → is_flow p cs ys ≡ true → is_flow p cs straightened ≡ true
  straight_flow cs e =
      let f = is_flow_facts p cs ys e in
      facts_is_flow p cs straightened (record {
        corners_long = f.corners_long;
        units_long = length_table (darts p) (λ d. get_or ys d 0 - both d);
        corner_range = f.corner_range;
        post_four = f.post_four;
        face_kept = λ i l. kept (get_or (faces p) i 0) (face_below_darts p o i l) (f.face_kept i l);
      })
    where
      kept : (d : ℕ) → d < darts p → balanced p cs ys d ≡ true → balanced p cs straightened d ≡ true
      kept d l b =
          let q : gone p cs ys d ≡ come p cs ys d = eqb-true _ _ (sym (balanced_is p cs ys d) ∙ b) in
          balanced_is p cs straightened d
          ∙ eq-eqb (gone p cs straightened d) (come p cs straightened d) (omega (arith, goes_less (face_of p d) (face_all_below p o d l), comes_less (face_of p d) (face_all_below p o d l)))

  pub straight_total : length ys ≡ darts p → total straightened + sum_below (darts p) both ≡ total ys
  straight_total e =
      omega (
        arith,
        total_sum ys,
        ap (λ (k : ℕ). sum_below k (λ d. get_or ys d 0)) e,
        total_sum straightened,
        ap (λ (k : ℕ). sum_below k (λ d. get_or straightened d 0)) (length_table (darts p) (λ d. get_or ys d 0 - both d)),
        sum_add (darts p) (λ d. get_or straightened d 0) both,
        sum_cong (darts p) (λ d. get_or straightened d 0 + both d) (λ d. get_or ys d 0) less,
      )

  pub never_both_if : length ys ≡ darts p → total ys ≤ total straightened → (d : ℕ) → d < darts p → both d ≡ 0
  never_both_if e cheapest d l = omega (arith, straight_total e, cheapest, sum_has (darts p) both d l)

  pub never_both : (cs : List ℕ) → is_flow p cs ys ≡ true → ((zs : List ℕ) → is_flow p cs zs ≡ true → total ys ≤ total zs) → (d : ℕ) → d < darts p → both d ≡ 0
  never_both cs e cheapest = never_both_if (is_flow_facts p cs ys e).units_long (cheapest straightened (straight_flow cs e))
