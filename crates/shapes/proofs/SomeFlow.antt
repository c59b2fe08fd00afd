-- Each plate without fault has a flow.
use mathlib.Core.Path.{◌≡◌, sym, ap, ◌∙◌}
use mathlib.Core.Bool.{true}
use mathlib.Core.List.{List}
use Prim.Native.Nat.{ℕ, ◌+◌, ◌*◌, ◌<◌}
use native.Mathlib.Omega.{arith}
use borrow.Author.Tests.{eq-eqb}
use lib.Dec.{eqb}
use lib.ListN.{length, get_or}
use Rattle.finite.proofs.Sums.{sum_below, sum_over, sum_cong, sum_add, sum_over_places, sum_constant}
use Rattle.embedding.specs.Plates.{when, Plate, darts, twin, ends_at, face_of, faces}
use Rattle.embedding.proofs.Rotation.{Ordered, twin_dart}
use Rattle.embedding.proofs.Faces.{faces_sum}
use Rattle.embedding.proofs.Faultless.{Faultless}
use Rattle.embedding.proofs.Totals.{end_sum, posts_sum}
use Rattle.shapes.specs.Claims.{balanced, is_flow}
use Rattle.shapes.specs.NetworkOf.{table, face_supply, face_demand}
use Rattle.embedding.specs.Read.{face_number}
use Rattle.shapes.proofs.Totals.{out_sum, in_sum, corners_sum}
use Rattle.shapes.proofs.Tables.{length_table, table_at}
use Rattle.shapes.proofs.Places.{index_sum}
use Rattle.shapes.proofs.Supplies.{faces_supply, faces_demand}
use Rattle.shapes.proofs.FlowFacts.{facts_is_flow}
use Rattle.shapes.proofs.Flows.{gone, come, balanced_is}
use Rattle.shapes.proofs.Moves.{goes, comes, to_face}
use Rattle.shapes.proofs.Angles.{leaving, leaves_there, angle, angle_most, angles_fill}
use Rattle.shapes.proofs.Settled.{settled}

module _ (p : Plate) (f : Faultless p) (o : Ordered p) where
  abbrev F : ℕ
  F = length (faces p)

  abbrev face : ℕ → List ℕ
  face i = face_of p (get_or (faces p) i 0)

  -- a face's darts are darts
  over_same : (i : ℕ) → i < F → (g h : ℕ → ℕ) → ((d : ℕ) → d < darts p → g d ≡ h d) → sum_over (face i) g ≡ sum_over (face i) h
  over_same i l g h e =
      sym (index_sum p o i l g)
      ∙ sum_cong (darts p) (λ d. when (eqb (face_number p d) i) (g d)) (λ d. when (eqb (face_number p d) i) (h d)) (λ d k. ap (when (eqb (face_number p d) i)) (e d k))
      ∙ index_sum p o i l h

  corners_all : sum_below F (λ i. sum_over (face i) (angle p f o)) ≡ p.posts * 4
  corners_all =
      sym (sum_over_places (faces p) (λ d. sum_over (face_of p d) (angle p f o))) ∙ faces_sum p o (angle p f o) ∙ sym (posts_sum p o (angle p f o))
      ∙ sum_cong p.posts (end_sum p (angle p f o)) (λ v. 4) (angles_fill p f o) ∙ sum_constant p.posts 4

  abbrev has : ℕ → ℕ
  has i = sum_over (face i) (angle p f o) + face_supply p (get_or (faces p) i 0)

  abbrev wants : ℕ → ℕ
  wants i = face_demand p (get_or (faces p) i 0)

  even : sum_below F has ≡ sum_below F wants
  even =
      omega (arith, sum_add F (λ i. sum_over (face i) (angle p f o)) (λ i. face_supply p (get_or (faces p) i 0)), corners_all, faces_supply p o f, faces_demand p o f, f.euler, o.even)

  pub moved : (z : ℕ → ℕ) × ((i : ℕ) → i < F → goes p z i + wants i ≡ comes p z i + has i)
  moved =
      let some : 0 < p.posts = omega (arith, f.some_post) in
      let r = leaves_there p f o 0 some in
      settled p has wants (face_number p (leaving p f o 0)) (to_face p o f.is_connected (leaving p f o 0) r.0 r.1) even

  abbrev pub some_corners : List ℕ
  some_corners = table (darts p) (angle p f o)

  abbrev pub some_units : List ℕ
  some_units = table (darts p) moved.0

  kept : (i : ℕ) → i < F → balanced p some_corners some_units (get_or (faces p) i 0) ≡ true
  kept i l =
      let d = get_or (faces p) i 0 in
      let z = moved.0 in
      balanced_is p some_corners some_units d
      ∙ eq-eqb (gone p some_corners some_units d) (come p some_corners some_units d) (omega (
        arith,
        moved.1 i l,
        out_sum some_units (face i),
        over_same i l (λ e. get_or some_units e 0) z (table_at (darts p) z),
        in_sum some_units (face i),
        over_same i l (λ e. get_or some_units (twin e) 0) (λ e. z (twin e)) (λ e k. table_at (darts p) z (twin e) (twin_dart p o e k)),
        corners_sum some_corners (face i),
        over_same i l (λ e. get_or some_corners e 0) (angle p f o) (table_at (darts p) (angle p f o)),
      ))

  pub some_flow : is_flow p some_corners some_units ≡ true
  some_flow = facts_is_flow p some_corners some_units (record {
    corners_long = length_table (darts p) (angle p f o);
    units_long = length_table (darts p) moved.0;
    corner_range = λ d l. (omega (arith, table_at (darts p) (angle p f o) d l), omega (arith, table_at (darts p) (angle p f o) d l, angle_most p f o d l));
    post_four = λ v l.
        sum_cong (darts p) (λ d. when (eqb (ends_at p d) v) (get_or some_corners d 0)) (λ d. when (eqb (ends_at p d) v) (angle p f o d))
        (λ d k. ap (when (eqb (ends_at p d) v)) (table_at (darts p) (angle p f o) d k)) ∙ angles_fill p f o v l;
    face_kept = kept;
  })
