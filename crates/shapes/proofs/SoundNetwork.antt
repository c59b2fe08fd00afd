-- A plate's network is one that the solver takes.
use mathlib.Core.Path.{◌≡◌, refl, sym, ◌∙◌}
use mathlib.Core.List.{◌++◌, map}
use Prim.Native.Nat.{ℕ, ◌+◌, ◌*◌, ◌≤◌, ◌<◌}
use native.Mathlib.Omega.{arith}
use lib.ListN.{length, get_or, replicate, length-append, length-replicate, length-map}
use Rattle.finite.proofs.Sums.{sum_ones, sum_none, sum_over_places, sum_constant}
use Rattle.flow.specs.Network.{Sound, unbounded, cost_most, total}
use Rattle.flow.proofs.Names.{lower, upper, cost}
use Rattle.embedding.specs.Plates.{Plate, darts, twin, ends_at, faces}
use Rattle.embedding.proofs.Rotation.{Ordered, twin_dart}
use Rattle.embedding.proofs.Faultless.{Faultless}
use Rattle.embedding.proofs.Totals.{ends_at_below}
use Rattle.embedding.proofs.Degrees.{darts_few}
use Rattle.shapes.specs.NetworkOf.{table, face_node, face_supply, face_demand, network_of}
use Rattle.shapes.proofs.Tables.{length_table, table_at, first_at, second_at, two_first, two_second, by_parts, total_append, total_replicate, total_map}
use Rattle.shapes.proofs.Places.{index_below}
use Rattle.shapes.proofs.Nodes.{arcs_are, nodes_are}
use Rattle.shapes.proofs.Supplies.{faces_supply, faces_demand}
use Rattle.shapes.proofs.Excess.{excess_most, excess_few}

-- ends by a rule for the darts and one for the corners
module _ (m : ℕ) (f g : ℕ → ℕ) where
  pub table_first : (d : ℕ) → d < m → get_or (table m f ++ table m g) d 0 ≡ f d
  table_first d l = first_at (table m f) (table m g) m (length_table m f) d l ∙ table_at m f d l

  pub table_second : (d : ℕ) → d < m → get_or (table m f ++ table m g) (m + d) 0 ≡ g d
  table_second d l = second_at (table m f) (table m g) m (length_table m f) d ∙ table_at m g d l

  pub table_below : (k : ℕ) → ((d : ℕ) → d < m → f d < k) → ((d : ℕ) → d < m → g d < k) → (a : ℕ) → a < m + m → get_or (table m f ++ table m g) a 0 < k
  table_below k f-below g-below = by_parts (λ a. get_or (table m f ++ table m g) a 0 < k) m m (λ d l. omega (arith, table_first d l, f-below d l)) (λ d l. omega (arith, table_second d l, g-below d l))

two_long : (m a b : ℕ) → length (replicate m a ++ replicate m b) ≡ m + m
two_long m a b = simp (length-append, length-replicate)

module _ (p : Plate) (f : Faultless p) (o : Ordered p) where
  abbrev K : ℕ
  K = p.posts + length (faces p)

  face_node_below : (d : ℕ) → d < darts p → face_node p d < K
  face_node_below d l = omega (arith, index_below p o d l)

  supplies_total : total (network_of p).supplies + 4 ≡ 4 * K
  supplies_total =
      omega (
        arith,
        total_append (replicate p.posts 4) (map (face_supply p) (faces p)),
        total_replicate p.posts 4,
        sum_constant p.posts 4,
        total_map (face_supply p) (faces p),
        sum_over_places (faces p) (face_supply p),
        faces_supply p o f,
      )

  demands_total : total (network_of p).demands ≡ 2 * darts p + 4
  demands_total =
      omega (
        arith,
        total_append (replicate p.posts 0) (map (face_demand p) (faces p)),
        total_replicate p.posts 0,
        sum_none p.posts,
        total_map (face_demand p) (faces p),
        sum_over_places (faces p) (face_demand p),
        faces_demand p o f,
      )

  lowers_total : total (network_of p).lowers ≡ darts p
  lowers_total =
      omega (arith, total_append (replicate (darts p) 0) (replicate (darts p) 1), total_replicate (darts p) 0, sum_none (darts p), total_replicate (darts p) 1, sum_ones (darts p))

  network_even : total (network_of p).supplies ≡ total (network_of p).demands
  network_even = omega (arith, supplies_total, demands_total, f.euler, o.even)

  pub network_sound : Sound (network_of p)
  network_sound = record {
    heads_long = simp (length-append, length_table) refl;
    lowers_long = two_long (darts p) 0 1 ∙ sym (arcs_are p);
    uppers_long = two_long (darts p) unbounded 4 ∙ sym (arcs_are p);
    costs_long = two_long (darts p) 1 0 ∙ sym (arcs_are p);
    demands_long = simp (length-append, length-replicate, length-map) refl;
    arcs_few = omega (arith, arcs_are p, darts_few p f o);
    nodes_few = omega (arith, nodes_are p, darts_few p f o, f.euler);
    tails_in = λ a l. omega (arith, nodes_are p, table_below (darts p) (λ d. face_node p d) (λ d. ends_at p d) K face_node_below (λ d k. omega (arith, ends_at_below p o d k)) a (omega (arith, arcs_are p)));
    heads_in = λ a l. omega (arith, nodes_are p, table_below (darts p) (λ d. face_node p (twin d)) (λ d. face_node p d) K (λ d k. face_node_below (twin d) (twin_dart p o d k)) face_node_below a (omega (arith, arcs_are p)));
    ordered = λ a l. by_parts (λ a. lower (network_of p) a ≤ upper (network_of p) a) (darts p) (darts p)
        (λ d k. omega (arith, two_first (darts p) 0 1 d k)) (λ d k. omega (arith, two_second (darts p) 0 1 d k, two_second (darts p) unbounded 4 d k)) a (omega (arith, arcs_are p));
    cheap = λ a l. by_parts (λ a. cost (network_of p) a < cost_most) (darts p) (darts p)
        (λ d k. omega (arith, two_first (darts p) 1 0 d k)) (λ d k. omega (arith, two_second (darts p) 1 0 d k)) a (omega (arith, arcs_are p));
    even = network_even;
    small = omega (arith, network_even, demands_total, lowers_total, darts_few p f o);
    few = omega (arith, excess_most p f o, excess_few p f o);
  }
