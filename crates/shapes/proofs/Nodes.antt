-- What a plate's network has at each node: supply, demand, and the units that leave it or come to it.
use mathlib.Core.Path.{◌≡◌, sym, ap, ◌∙◌}
use mathlib.Core.Bool.{Bool, false}
use mathlib.Core.List.{List, ◌++◌, map}
use Prim.Native.Nat.{ℕ, ◌+◌, ◌<◌}
use native.Mathlib.Omega.{arith}
use borrow.Author.Tests.{eqb-true, eq-eqb, ne_eqb}
use lib.Dec.{eqb}
use lib.ListN.{length, get_or, replicate, length-append, length-replicate, get_or-replicate, length-map}
use Rattle.finite.proofs.Sums.{sum_below, sum_over, sum_cong, sum_none}
use Rattle.finite.proofs.Tests.{same_test}
use Rattle.flow.specs.Network.{when, units_at}
use Rattle.flow.proofs.Names.{arcs, nodes, supply, demand}
use Rattle.embedding.specs.Plates.{Plate, darts, twin, ends_at, face_of, faces}
use Rattle.embedding.proofs.Rotation.{Ordered, twin_twin}
use Rattle.embedding.proofs.Totals.{end_sum, twins_sum, ends_at_below}
use Rattle.shapes.specs.NetworkOf.{table, face_node, face_supply, face_demand, network_of}
use Rattle.embedding.specs.Read.{face_number}
use Rattle.shapes.proofs.Tables.{length_table, first_at, second_at, map_at, units_append, units_table}
use Rattle.shapes.proofs.Places.{index_sum}

pub eqb_shift : (n a b : ℕ) → eqb (n + a) (n + b) ≡ eqb a b
eqb_shift n a b =
    same_test (eqb (n + a) (n + b)) (eqb a b) (λ e. eq-eqb a b (omega (arith, eqb-true (n + a) (n + b) e))) (λ e. eq-eqb (n + a) (n + b) (omega (arith, eqb-true a b e)))

sum_no : (n : ℕ) (t : ℕ → Bool) (g : ℕ → ℕ) → ((i : ℕ) → i < n → t i ≡ false) → sum_below n (λ i. when (t i) (g i)) ≡ 0
sum_no n t g h = sum_cong n (λ i. when (t i) (g i)) (λ i. 0) (λ i l. ap (λ (b : Bool). when b (g i)) (h i l)) ∙ sum_none n

module _ (p : Plate) where
  pub arcs_are : arcs (network_of p) ≡ darts p + darts p
  arcs_are = simp (length-append, length_table)

  pub nodes_are : nodes (network_of p) ≡ p.posts + length (faces p)
  nodes_are = simp (length-append, length-replicate, length-map)

  module _ (v : ℕ) (l : v < p.posts) where
    pub post_supply : supply (network_of p) v ≡ 4
    post_supply = first_at (replicate p.posts 4) (map (face_supply p) (faces p)) p.posts (length-replicate p.posts 4) v l ∙ get_or-replicate p.posts v 4 0 l

    pub post_demand : demand (network_of p) v ≡ 0
    post_demand = first_at (replicate p.posts 0) (map (face_demand p) (faces p)) p.posts (length-replicate p.posts 0) v l ∙ get_or-replicate p.posts v 0 0 l

  module _ (i : ℕ) (l : i < length (faces p)) where
    pub face-supply : supply (network_of p) (p.posts + i) ≡ face_supply p (get_or (faces p) i 0)
    face-supply = second_at (replicate p.posts 4) (map (face_supply p) (faces p)) p.posts (length-replicate p.posts 4) i ∙ map_at (face_supply p) (faces p) i l

    pub face-demand : demand (network_of p) (p.posts + i) ≡ face_demand p (get_or (faces p) i 0)
    face-demand = second_at (replicate p.posts 0) (map (face_demand p) (faces p)) p.posts (length-replicate p.posts 0) i ∙ map_at (face_demand p) (faces p) i l

-- units on the darts and on the corners
module _ (p : Plate) (o : Ordered p) (xs cs : List ℕ) (xs_long : length xs ≡ darts p) (cs-long : length cs ≡ darts p) where
  units_two : (f g : ℕ → ℕ) (v : ℕ) → units_at (table (darts p) f ++ table (darts p) g) (xs ++ cs) v
      ≡ sum_below (darts p) (λ d. when (eqb (f d) v) (get_or xs d 0)) + sum_below (darts p) (λ d. when (eqb (g d) v) (get_or cs d 0))
  units_two f g v =
      omega (
        arith,
        units_append (table (darts p) f) (table (darts p) g) xs cs v (length_table (darts p) f ∙ sym xs_long),
        units_table (darts p) f xs v xs_long,
        units_table (darts p) g cs v cs-long,
      )

  module _ (v : ℕ) (l : v < p.posts) where
    -- no face is a post
    no-face : (f : ℕ → ℕ) (g : ℕ → ℕ) → sum_below (darts p) (λ d. when (eqb (p.posts + f d) v) (g d)) ≡ 0
    no-face f g = sum_no (darts p) (λ d. eqb (p.posts + f d) v) g (λ d k. ne_eqb (p.posts + f d) v (λ (q : p.posts + f d ≡ v). omega arith))

    pub post_out : units_at (network_of p).tails (xs ++ cs) v ≡ end_sum p (λ d. get_or cs d 0) v
    post_out = omega (arith, units_two (λ d. face_node p d) (λ d. ends_at p d) v, no-face (λ d. face_number p d) (λ d. get_or xs d 0))

    pub post_in : units_at (network_of p).heads (xs ++ cs) v ≡ 0
    post_in =
        omega (
          arith,
          units_two (λ d. face_node p (twin d)) (λ d. face_node p d) v,
          no-face (λ d. face_number p (twin d)) (λ d. get_or xs d 0),
          no-face (λ d. face_number p d) (λ d. get_or cs d 0),
        )

  module _ (i : ℕ) (l : i < length (faces p)) where
    abbrev darts-of : List ℕ
    darts-of = face_of p (get_or (faces p) i 0)

    at_face : (g : ℕ → ℕ) → sum_below (darts p) (λ d. when (eqb (face_node p d) (p.posts + i)) (g d)) ≡ sum_over darts-of g
    at_face g =
        sum_cong (darts p) (λ d. when (eqb (face_node p d) (p.posts + i)) (g d)) (λ d. when (eqb (face_number p d) i) (g d))
        (λ d k. ap (λ (b : Bool). when b (g d)) (eqb_shift p.posts (face_number p d) i))
        ∙ index_sum p o i l g

    across : (g : ℕ → ℕ) → sum_below (darts p) (λ d. when (eqb (face_node p (twin d)) (p.posts + i)) (g d)) ≡ sum_over darts-of (λ d. g (twin d))
    across g =
        sum_cong (darts p) (λ d. when (eqb (face_node p (twin d)) (p.posts + i)) (g d)) (λ d. when (eqb (face_node p (twin d)) (p.posts + i)) (g (twin (twin d))))
        (λ d k. ap (λ (e : ℕ). when (eqb (face_node p (twin d)) (p.posts + i)) (g e)) (sym (twin_twin d)))
        ∙ twins_sum p o (λ d. when (eqb (face_node p d) (p.posts + i)) (g (twin d)))
        ∙ at_face (λ d. g (twin d))

    pub face_out : units_at (network_of p).tails (xs ++ cs) (p.posts + i) ≡ sum_over darts-of (λ d. get_or xs d 0)
    face_out =
        omega (
          arith,
          units_two (λ d. face_node p d) (λ d. ends_at p d) (p.posts + i),
          at_face (λ d. get_or xs d 0),
          sum_no (darts p) (λ d. eqb (ends_at p d) (p.posts + i)) (λ d. get_or cs d 0)
              (λ d k. ne_eqb (ends_at p d) (p.posts + i) (λ (q : ends_at p d ≡ p.posts + i). omega (arith, ends_at_below p o d k))),
        )

    pub face_in : units_at (network_of p).heads (xs ++ cs) (p.posts + i) ≡ sum_over darts-of (λ d. get_or xs (twin d) 0) + sum_over darts-of (λ d. get_or cs d 0)
    face_in = omega (arith, units_two (λ d. face_node p (twin d)) (λ d. face_node p d) (p.posts + i), across (λ d. get_or xs d 0), at_face (λ d. get_or cs d 0))
