-- The flows of a plate's network are those that `is_flow` tests.
use mathlib.Core.Path.{◌≡◌, sym, subst, ◌∙◌}
use mathlib.Core.Bool.{Bool, true, false}
use mathlib.Core.List.{List, ◌++◌}
use mathlib.Core.Logic.{◌⊎◌, inl, inr, ◌↔◌}
use Prim.Native.Nat.{ℕ, ◌+◌, ◌*◌, ◌≤◌, ◌<◌}
use native.Mathlib.Omega.{arith}
use borrow.Author.Tests.{eqb-true, eq-eqb}
use lib.Dec.{eqb}
use lib.ListN.{length, get_or, take, drop, length-append, take-append-drop}
use lib.Seq.{length-take-le}
use Rattle.flow.specs.Network.{Flow, unbounded, units_at, cost_of, total}
use Rattle.flow.proofs.Names.{arcs, lower, upper, supply, demand}
use Rattle.embedding.specs.Plates.{pick, Plate, darts, faces, face_of}
use Rattle.embedding.proofs.Rotation.{Ordered}
use Rattle.shapes.specs.Claims.{corners_of, goes_out, comes_in, balanced, is_flow}
use Rattle.shapes.specs.NetworkOf.{is_outer, face_supply, face_demand, network_of}
use Rattle.shapes.proofs.Totals.{out_sum, in_sum, corners_sum}
use Rattle.shapes.proofs.Tables.{second_at, two_first, two_second, by_parts, cost_first}
use Rattle.shapes.proofs.Nodes.{arcs_are, nodes_are, post_supply, post_demand, face-supply, face-demand, post_out, post_in, face_out, face_in}
use Rattle.shapes.proofs.FlowFacts.{IsFlow, is_flow_facts, facts_is_flow}

-- both kinds of face in one equation
balance_test : (outer : Bool) (out corners come k : ℕ) → pick outer (eqb (out + (k + 4)) (corners + come)) (eqb (out + k) (corners + (come + 4))) ≡ eqb (out + (k + pick outer 4 0)) (come + corners + pick outer 0 4)
balance_test true out corners come k = let e : corners + come ≡ come + corners + 0 = omega arith in cc
balance_test false out corners come k =
    let e : corners + (come + 4) ≡ come + corners + 4 = omega arith in
    let h : out + k ≡ out + (k + 0) = omega arith in
    cc

module _ (p : Plate) (cs xs : List ℕ) (f : ℕ) where
  abbrev pub gone : ℕ
  gone = goes_out (face_of p f) xs + face_demand p f

  abbrev pub come : ℕ
  come = comes_in (face_of p f) xs + corners_of (face_of p f) cs + face_supply p f

  pub balanced_is : balanced p cs xs f ≡ eqb gone come
  balanced_is = balance_test (is_outer p f) (goes_out (face_of p f) xs) (corners_of (face_of p f) cs) (comes_in (face_of p f) xs) (2 * length (face_of p f))

module _ (p : Plate) (o : Ordered p) (xs cs : List ℕ) (xs_long : length xs ≡ darts p) (cs-long : length cs ≡ darts p) where
  -- what goes out of a node and its demand are what comes in and its supply
  abbrev Kept : ℕ → Type 0
  Kept v = units_at (network_of p).tails (xs ++ cs) v + demand (network_of p) v ≡ units_at (network_of p).heads (xs ++ cs) v + supply (network_of p) v

  module _ (i : ℕ) (l : i < length (faces p)) where
    abbrev f : ℕ
    f = get_or (faces p) i 0

    face_goes : units_at (network_of p).tails (xs ++ cs) (p.posts + i) ≡ goes_out (face_of p f) xs
    face_goes = face_out p o xs cs xs_long cs-long i l ∙ sym (out_sum xs (face_of p f))

    face_comes : units_at (network_of p).heads (xs ++ cs) (p.posts + i) ≡ comes_in (face_of p f) xs + corners_of (face_of p f) cs
    face_comes = omega (arith, face_in p o xs cs xs_long cs-long i l, in_sum xs (face_of p f), corners_sum cs (face_of p f))

    kept_balanced : Kept (p.posts + i) → balanced p cs xs f ≡ true
    kept_balanced k = balanced_is p cs xs f ∙ eq-eqb (gone p cs xs f) (come p cs xs f) (omega (arith, face_goes, face_comes, face-supply p i l, face-demand p i l))

    balanced_kept : balanced p cs xs f ≡ true → Kept (p.posts + i)
    balanced_kept b =
        let e : gone p cs xs f ≡ come p cs xs f = eqb-true _ _ (sym (balanced_is p cs xs f) ∙ b) in
        omega (arith, face_goes, face_comes, face-supply p i l, face-demand p i l)

  corner_units : (d : ℕ) → get_or (xs ++ cs) (darts p + d) 0 ≡ get_or cs d 0
  corner_units = second_at xs cs (darts p) xs_long

  flow_facts : Flow (network_of p) (xs ++ cs) → IsFlow p cs xs
  flow_facts f =
      record {
        corners_long = cs-long;
        units_long = xs_long;
        corner_range = λ d l.
            let k : darts p + d < arcs (network_of p) = omega (arith, arcs_are p) in
            (omega (arith, f.above (darts p + d) k, two_second (darts p) 0 1 d l, corner_units d), corner_four d l (f.below (darts p + d) k));
        post_four = λ v l. omega (arith, f.kept v (omega (arith, nodes_are p)), post_out p o xs cs xs_long cs-long v l, post_in p o xs cs xs_long cs-long v l, post_supply p v l, post_demand p v l);
        face_kept = λ i l. kept_balanced i l (f.kept (p.posts + i) (omega (arith, nodes_are p)));
      }
    where
      corner_four : (d : ℕ) → d < darts p → (upper (network_of p) (darts p + d) ≡ unbounded) ⊎ (get_or (xs ++ cs) (darts p + d) 0 ≤ upper (network_of p) (darts p + d)) → get_or cs d 0 ≤ 4
      corner_four d l (inl e) = absurd (omega (arith, e, two_second (darts p) unbounded 4 d l))
      corner_four d l (inr h) = omega (arith, two_second (darts p) unbounded 4 d l, corner_units d)

  facts_flow : IsFlow p cs xs → Flow (network_of p) (xs ++ cs)
  facts_flow f =
      record {
        long = omega (arith, arcs_are p, length-append xs cs);
        above = λ a l. by_parts (λ a. lower (network_of p) a ≤ get_or (xs ++ cs) a 0) (darts p) (darts p)
            (λ d k. omega (arith, two_first (darts p) 0 1 d k))
            (λ d k. omega (arith, two_second (darts p) 0 1 d k, corner_units d, (f.corner_range d k).0)) a (omega (arith, arcs_are p));
        below = λ a l. by_parts (λ a. (upper (network_of p) a ≡ unbounded) ⊎ (get_or (xs ++ cs) a 0 ≤ upper (network_of p) a)) (darts p) (darts p)
            (λ d k. inl (two_first (darts p) unbounded 4 d k))
            (λ d k. inr (omega (arith, two_second (darts p) unbounded 4 d k, corner_units d, (f.corner_range d k).1))) a (omega (arith, arcs_are p));
        kept = λ v l. by_parts Kept p.posts (length (faces p))
            (λ v k. omega (arith, f.post_four v k, post_out p o xs cs xs_long cs-long v k, post_in p o xs cs xs_long cs-long v k, post_supply p v k, post_demand p v k))
            (λ i k. balanced_kept i k (f.face_kept i k)) v (omega (arith, nodes_are p));
      }

module _ (p : Plate) (o : Ordered p) (xs cs : List ℕ) where
  pub flow_is_flow : length xs ≡ darts p → Flow (network_of p) (xs ++ cs) → is_flow p cs xs ≡ true
  flow_is_flow e f = facts_is_flow p cs xs (flow_facts p o xs cs e (omega (arith, f.long, arcs_are p, length-append xs cs)) f)

  pub is_flow_flow : is_flow p cs xs ≡ true → Flow (network_of p) (xs ++ cs)
  is_flow_flow e = let f = is_flow_facts p cs xs e in facts_flow p o xs cs f.units_long f.corners_long f

  -- where the units end and the corners begin is not for the network to say
  pub flows_are : ((length xs ≡ darts p) × Flow (network_of p) (xs ++ cs)) ↔ (is_flow p cs xs ≡ true)
  flows_are = (λ f. flow_is_flow f.0 f.1, λ e. ((is_flow_facts p cs xs e).units_long, is_flow_flow e))

  pub flow_cost : length xs ≡ darts p → cost_of (network_of p).costs (xs ++ cs) ≡ total xs
  flow_cost e = cost_first (darts p) (darts p) xs cs e

-- a flow's list parted
module _ (p : Plate) (o : Ordered p) (y : List ℕ) (f : Flow (network_of p) y) where
  pub units_long : length (take (darts p) y) ≡ darts p
  units_long = length-take-le (darts p) y (omega (arith, f.long, arcs_are p))

  pub parted_flow : is_flow p (drop (darts p) y) (take (darts p) y) ≡ true
  parted_flow = flow_is_flow p o (take (darts p) y) (drop (darts p) y) units_long (subst (λ (z : List ℕ). Flow (network_of p) z) (sym (take-append-drop (darts p) y)) f)
