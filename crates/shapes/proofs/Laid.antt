-- The lists that are laid for a held plate are those of its network: by dart, corner, post and face.
use mathlib.Core.Path.{◌≡◌, refl, sym, ap, ◌∙◌}
use mathlib.Core.Bool.{Bool, true, false}
use mathlib.Core.List.{List, map}
use Prim.Native.Nat.{ℕ, ◌+◌, ◌-◌, ◌*◌, ◌≤◌, ◌<◌}
use native.Mathlib.Omega.{arith}
use borrow.Author.Tests.{ne_eqb, lt-ltb, le-ltb}
use lib.Dec.{eqb}
use lib.ListN.{length, get_or, replicate, length-replicate, get_or-replicate, length-map}
use Rattle.finite.specs.Tables.{Table}
use Rattle.finite.proofs.Tables.{up_below}
use Rattle.finite.proofs.Tests.{eqb_turned}
use Rattle.residual.specs.declared.arcs.Arc.{Arc}
use Rattle.flow.specs.declared.nodes.Node.{Node}
use Rattle.flow.specs.Nodes.{supplies_of, demands_of, network_from}
use Rattle.embedding.specs.Plates.{pick, Plate, darts, twin, ends_at, degree, face_of, faces}
use Rattle.embedding.specs.declared.Plate.{Plate as Held}
use Rattle.embedding.specs.Read.{meant, face_number, face_size}
use Rattle.finite.proofs.Pigeonhole.{at_most}
use Rattle.embedding.proofs.Faces.{face_distinct, face_all_below}
use Rattle.embedding.proofs.Rotation.{Ordered, twin_dart}
use Rattle.embedding.proofs.Faultless.{Faultless}
use Rattle.embedding.proofs.Totals.{ends_at_below}
use Rattle.embedding.proofs.Degrees.{darts_few}
use Rattle.embedding.proofs.Answers.{faces_fit}
use Rattle.shapes.specs.Rates.{rates}
use Rattle.shapes.specs.NetworkOf.{by_arc, face_node, is_outer, face_supply, face_demand, is_joint, bend_most, bend_cost, network_of, rated_of}
use Rattle.shapes.specs.Entries.{node_at, joint_at, supply_at, demand_at, bend_arc, corner_arc, node, no_arc, no_node, Begun, CornersLaid}
use Rattle.shapes.proofs.Tables.{map_at}
use Rattle.shapes.proofs.Places.{index_below, index_test, face_below_darts}
use Rattle.shapes.proofs.Nodes.{eqb_shift}
use Rattle.shapes.proofs.Accepted.{faultless, ordered}
use Rattle.shapes.proofs.Filled.{arcs_laid, nodes_laid, parts_are}
use Rattle.shapes.proofs.HeldPlate.{few_darts, faces_are}

module _ (q : Held) where
  abbrev p : Plate
  p = meant q

  f : Faultless p
  f = faultless p q.accepted

  o : Ordered p
  o = ordered p q.accepted

  face_at : (d : ℕ) → d < q.darts → get_or q.face d 0 ≡ face_number p d
  face_at d l = faces_are q d (omega (arith, q.stands.dart_count))

  face_below : (d : ℕ) → d < q.darts → get_or q.face d 0 < length (faces p)
  face_below d l = omega (arith, face_at d l, index_below p o d (omega (arith, q.stands.dart_count)))

  pub twin_below : (d : ℕ) → d < q.darts → twin d < q.darts
  twin_below d l = omega (arith, q.stands.dart_count, twin_dart p o d (omega (arith, q.stands.dart_count)))

  size_at : (i : ℕ) → i < length (faces p) → get_or q.sizes i 0 ≡ face_size p i
  size_at i l = q.stands.face_sizes.at i (omega (arith, faces_fit p f o)) ∙ up_below (length (faces p)) (face_size p) i l

  -- a face has each dart at most once
  size_most : (i : ℕ) → i < length (faces p) → face_size p i ≤ 256
  size_most i l =
      let d = get_or (faces p) i 0 in
      let k : d < darts p = face_below_darts p o i l in
      omega (arith, at_most (darts p) (face_of p d) (face_distinct p o d k) (face_all_below p o d k), darts_few p f o)

  pub outer_below : q.outer < q.darts
  outer_below = omega (arith, q.stands.outer_dart, q.stands.dart_count, f.outer_dart)

  -- the outer face's node
  abbrev outer : ℕ
  outer = q.posts + get_or q.face q.outer 0

  outer_is : outer ≡ q.posts + face_number p p.outer
  outer_is = ap (λ (k : ℕ). q.posts + k) (face_at q.outer outer_below ∙ ap (face_number p) q.stands.outer_dart)

  node_is : (d : ℕ) → d < q.darts → node_at q.posts q.face d ≡ face_node p d
  node_is d l = omega (arith, q.stands.same_posts, face_at d l)

  ends_are : (d : ℕ) → d < q.darts → get_or q.ends (twin d) 0 ≡ ends_at p d
  ends_are d l = q.stands.strip_ends.at (twin d) (omega (arith, few_darts q, twin_below d l))

  -- a joint is a post of degree 2
  joint_is : (d : ℕ) → d < q.darts → joint_at q.ends q.degrees d ≡ is_joint p d
  joint_is d l =
      let k : ends_at p d < p.posts = ends_at_below p o d (omega (arith, q.stands.dart_count)) in
      ap (λ (v : ℕ). eqb (get_or q.degrees v 0) 2) (ends_are d l)
      ∙ ap (λ (n : ℕ). eqb n 2) (q.stands.post_degrees.at (ends_at p d) (omega (arith, f.posts_most)) ∙ up_below p.posts (degree p) (ends_at p d) k)

  -- one number of each arc
  field_laid : (field : Arc → ℕ) → field no_arc ≡ 0 → (f g h : ℕ → ℕ) → {f₀ g₀ h₀ : ℕ → Arc} {ys xs : List Arc} → Begun no_arc (q.darts + (q.darts + q.darts)) f₀ q.darts ys → CornersLaid q.darts g₀ h₀ q.darts ys xs
      → ((d : ℕ) → d < q.darts → field (f₀ d) ≡ f d) → ((d : ℕ) → d < q.darts → field (g₀ d) ≡ g d) → ((d : ℕ) → d < q.darts → field (h₀ d) ≡ h d) → map field xs ≡ by_arc (darts p) f g h
  field_laid field none f g h b c bend low high = arcs_laid field none b c f g h bend low high ∙ ap (λ (n : ℕ). by_arc n f g h) q.stands.dart_count

  outer_test : (i : ℕ) → i < length (faces p) → eqb (q.posts + i) outer ≡ is_outer p (get_or (faces p) i 0)
  outer_test i l =
      ap (eqb (q.posts + i)) outer_is ∙ eqb_shift q.posts i (face_number p p.outer) ∙ eqb_turned i (face_number p p.outer)
      ∙ index_test p o p.outer f.outer_dart i l

  not_outer : (v : ℕ) → v < q.posts → (v ≡ outer) → ⊥
  not_outer v l e = omega arith

  supplies_are : (xs : List ℕ) → Table (q.posts + q.faces) (supply_at outer) xs → xs ≡ (network_of p).supplies
  supplies_are xs t =
      parts_are q.posts q.faces (supply_at outer) xs (replicate p.posts 4) (map (face_supply p) (faces p)) t
      (length-replicate p.posts 4 ∙ sym q.stands.same_posts) (length-map (faces p) (face_supply p) ∙ sym q.stands.face_count)
      (λ v l. ap (λ (b : Bool). pick b 0 4) (ne_eqb v outer (not_outer v l)) ∙ sym (get_or-replicate p.posts v 4 0 (omega (arith, q.stands.same_posts))))
      (λ i l.
      let k : i < length (faces p) = omega (arith, q.stands.face_count) in
      ap (λ (b : Bool). pick b 0 4) (outer_test i k) ∙ sym (map_at (face_supply p) (faces p) i k))

  face-demand : (i : ℕ) → i < length (faces p) → 2 * get_or q.sizes i 0 + pick (eqb (q.posts + i) outer) 4 0 ≡ face_demand p (get_or (faces p) i 0)
  face-demand i l = omega (arith, size_at i l, ap {B = ℕ} (λ (b : Bool). pick b 4 0) (outer_test i l))

  demands_are : (xs : List ℕ) → Table (q.posts + q.faces) (demand_at q.posts q.sizes outer) xs → xs ≡ (network_of p).demands
  demands_are xs t =
      parts_are q.posts q.faces (demand_at q.posts q.sizes outer) xs (replicate p.posts 0) (map (face_demand p) (faces p)) t
      (length-replicate p.posts 0 ∙ sym q.stands.same_posts) (length-map (faces p) (face_demand p) ∙ sym q.stands.face_count)
      (λ v l. ap (λ (b : Bool). pick b 0 (2 * get_or q.sizes (v - q.posts) 0 + pick (eqb v outer) 4 0)) (lt-ltb v q.posts l) ∙ sym (get_or-replicate p.posts v 0 0 (omega (arith, q.stands.same_posts))))
      (λ i l.
      let k : i < length (faces p) = omega (arith, q.stands.face_count) in
      let e : q.posts + i - q.posts ≡ i = omega arith in
      ap (λ (b : Bool). pick b 0 (2 * get_or q.sizes (q.posts + i - q.posts) 0 + pick (eqb (q.posts + i) outer) 4 0)) (le-ltb (q.posts + i) q.posts (omega arith))
      ∙ ap (λ (j : ℕ). 2 * get_or q.sizes j 0 + pick (eqb (q.posts + i) outer) 4 0) e
      ∙ face-demand i k ∙ sym (map_at (face_demand p) (faces p) i k))

  pub network_laid : (limits prices : List ℕ) {ys arcs : List Arc} {nodes : List Node}
      → Begun no_arc (q.darts + (q.darts + q.darts)) (bend_arc q (rates limits prices)) q.darts ys → CornersLaid q.darts (corner_arc q true) (corner_arc q false) q.darts ys arcs
      → Begun no_node (q.posts + q.faces) (node q) (q.posts + q.faces) nodes
      → network_from arcs nodes ≡ rated_of (meant q) (rates limits prices)
  network_laid limits prices {nodes = nodes} b c n = λ i. record {
    tails = field_laid (λ arc. arc.tail) refl (λ d. face_node p d) (λ d. ends_at p d) (λ d. ends_at p d) b c node_is ends_are ends_are i;
    heads = field_laid (λ arc. arc.head) refl (λ d. face_node p (twin d)) (λ d. face_node p d) (λ d. face_node p d) b c (λ d l. node_is (twin d) (twin_below d l)) node_is node_is i;
    lowers = field_laid (λ arc. arc.lower) refl (λ d. 0) (λ d. 1) (λ d. 0) b c (λ d l. refl) (λ d l. refl) (λ d l. refl) i;
    uppers = field_laid (λ arc. arc.upper) refl (λ d. bend_most limits d) (λ d. pick (is_joint p d) 2 4) (λ d. pick (is_joint p d) 1 0) b c (λ d l. refl)
        (λ d l. ap (λ (b : Bool). pick b 2 4) (joint_is d l)) (λ d l. ap (λ (b : Bool). pick b 1 0) (joint_is d l)) i;
    costs = field_laid (λ arc. arc.cost) refl (λ d. bend_cost prices d) (λ d. 0) (λ d. 65536) b c (λ d l. refl) (λ d l. refl) (λ d l. refl) i;
    supplies = supplies_are (supplies_of nodes) (nodes_laid (λ node. node.supply) refl n) i;
    demands = demands_are (demands_of nodes) (nodes_laid (λ node. node.demand) refl n) i;
  }

  -- what the steps to it ask
  pub joint_below : (d : ℕ) → d < q.darts → get_or q.ends (twin d) 0 < 64
  joint_below d l = omega (arith, ends_are d l, ends_at_below p o d (omega (arith, q.stands.dart_count)), f.posts_most)

  pub held_face : (d : ℕ) → d < q.darts → get_or q.face d 0 < 66
  held_face d l = omega (arith, face_below d l, faces_fit p f o)

  pub held_size : (i : ℕ) → i < q.faces → get_or q.sizes i 0 ≤ 256
  held_size i l = omega (arith, size_at i (omega (arith, q.stands.face_count)), size_most i (omega (arith, q.stands.face_count)))

  pub dart_fits : (d : ℕ) → d < q.darts → (d < 256) × (twin d < 256)
  dart_fits d l = (omega (arith, few_darts q), omega (arith, few_darts q, twin_below d l))
