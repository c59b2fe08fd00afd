-- Shapes and flows: a shape's angles and right bends are a flow, and a flow's counts give a shape, of as many bends.
use mathlib.Core.Path.{◌≡◌, refl, sym, ap, ◌∙◌}
use mathlib.Core.Bool.{true}
use mathlib.Core.List.{List}
use Prim.Native.Nat.{ℕ, ◌+◌}
use native.Mathlib.Omega.{arith}
use borrow.Author.Tests.{eq-eqb}
use Rattle.finite.proofs.Tests.{and_both}
use Rattle.embedding.specs.Plates.{Plate, darts, strips, faces}
use Rattle.embedding.proofs.Rotation.{Ordered}
use Rattle.shapes.specs.Shapes.{Shape, meets, bends, rights_of, total, words_from, shape_of}
use Rattle.shapes.specs.Claims.{all_balanced, is_flow, Network}
use Rattle.shapes.proofs.FlowFacts.{is_flow_parts}
use Rattle.shapes.proofs.Words.{rights_long, words_count, words_twins, words_rights}
use Rattle.shapes.proofs.Meets.{Twinned, meets_facts, facts_meets, faces_are_balanced}

module _ (p : Plate) (o : Ordered p) where
  pub two_to_a_strip : strips p + strips p ≡ darts p
  two_to_a_strip = omega (arith, o.even)

  pub shape_flow : (s : Shape) → meets p s ≡ true → is_flow p s.angles (rights_of s.words) ≡ true
  shape_flow s e =
      let m = meets_facts p s e in
      and_both _ _ (eq-eqb _ _ m.angles_long) (and_both _ _ (eq-eqb _ _ (rights_long s.words ∙ m.words_long)) (and_both _ _ m.angles-ok
      (and_both _ _ m.posts-ok (sym (faces_are_balanced p o s.angles s.words m.twins) ∙ m.faces-ok))))

  module _ (cs xs : List ℕ) (e : is_flow p cs xs ≡ true) where
    pub flow_rights : rights_of (shape_of p cs xs).words ≡ xs
    flow_rights = words_rights (strips p) xs ((is_flow_parts p cs xs e).1 ∙ sym two_to_a_strip)

    pub flow_shape : meets p (shape_of p cs xs) ≡ true
    flow_shape =
        let (cs-long, xs_long, units-ok, posts-ok, faces-ok) = is_flow_parts p cs xs e in
        facts_meets p (shape_of p cs xs) (record {
          angles_long = cs-long;
          words_long = words_count (strips p) xs ∙ two_to_a_strip;
          angles-ok = units-ok;
          twins = twinned;
          posts-ok = posts-ok;
          faces-ok = faces_are_balanced p o cs (words_from (strips p) xs) twinned ∙ ap (λ (r : List ℕ). all_balanced p cs r (faces p)) flow_rights ∙ faces-ok;
        })
      where
        twinned : Twinned (darts p) (words_from (strips p) xs)
        twinned d l = words_twins (strips p) xs d (omega (arith, two_to_a_strip))

    pub flow_bends : bends (shape_of p cs xs) ≡ total xs
    flow_bends = ap total flow_rights

  pub tamassia : Network p
  tamassia = record {
    flow_for = λ s e. (s.angles, rights_of s.words, shape_flow s e, refl);
    shape_for = λ cs xs e. (shape_of p cs xs, flow_shape cs xs e, flow_bends cs xs e);
  }
