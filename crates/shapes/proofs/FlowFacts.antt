-- What `is_flow` tests, as facts, and back.
use mathlib.Core.Path.{◌≡◌, refl, sym, ◌∙◌}
use mathlib.Core.Bool.{Bool, true, ◌&&◌}
use mathlib.Core.List.{List}
use Prim.Native.Nat.{ℕ, ◌≤◌, ◌<◌}
use native.Mathlib.Omega.{arith}
use borrow.Author.Tests.{eqb-true, eq-eqb, leb-true, le-leb}
use lib.Dec.{eqb, leb}
use lib.ListN.{length, get_or}
use Rattle.finite.proofs.Tests.{and_left, and_right, and_both, and_assoc, from_each, each_from, over_each, each_over}
use Rattle.embedding.specs.Plates.{Plate, darts, faces}
use Rattle.embedding.proofs.Totals.{end_sum}
use Rattle.shapes.specs.Claims.{balanced, all_balanced, units_ok, corners_from, posts_supply, is_flow}
use Rattle.shapes.proofs.Totals.{corners_from_sum}

-- what `is_flow` says, as facts
pub record IsFlow (p : Plate) (cs xs : List ℕ) : Type 0 where
  pub corners_long : length cs ≡ darts p
  pub units_long : length xs ≡ darts p
  pub corner_range : (d : ℕ) → d < darts p → (1 ≤ get_or cs d 0) × (get_or cs d 0 ≤ 4)
  pub post_four : (v : ℕ) → v < p.posts → end_sum p (λ d. get_or cs d 0) v ≡ 4
  pub face_kept : (i : ℕ) → i < length (faces p) → balanced p cs xs (get_or (faces p) i 0) ≡ true

one_to_four : ℕ → Bool
one_to_four c = leb 1 c && leb c 4

module _ (p : Plate) (cs xs : List ℕ) where
  supplied : ℕ → Bool
  supplied v = eqb (corners_from (darts p) 0 p v cs) 4

  pub is_flow_parts : is_flow p cs xs ≡ true → (length cs ≡ darts p) × (length xs ≡ darts p) × (units_ok cs ≡ true) × (posts_supply p.posts 0 p cs ≡ true) × (all_balanced p cs xs (faces p) ≡ true)
  is_flow_parts e =
      let l1 = eqb (length cs) (darts p) in
      let l2 = eqb (length xs) (darts p) in
      let ok = units_ok cs in
      let posts-ok = posts_supply p.posts 0 p cs in
      let faces-ok = all_balanced p cs xs (faces p) in
      let e1 : l2 && (ok && (posts-ok && faces-ok)) ≡ true = and_right l1 _ e in
      let e2 : ok && (posts-ok && faces-ok) ≡ true = and_right l2 _ e1 in
      let e3 : posts-ok && faces-ok ≡ true = and_right ok _ e2 in
      (eqb-true _ _ (and_left l1 _ e), eqb-true _ _ (and_left l2 _ e1), and_left ok _ e2, and_left posts-ok _ e3, and_right posts-ok _ e3)

  pub is_flow_facts : is_flow p cs xs ≡ true → IsFlow p cs xs
  unfolding one_to_four supplied
  is_flow_facts e =
      let (cs-long, xs_long, units-ok, posts-ok, faces-ok) = is_flow_parts e in
      record {
        corners_long = cs-long;
        units_long = xs_long;
        corner_range = λ d l.
            let t = over_each units_ok one_to_four refl (λ c cs. and_assoc (leb 1 c) (leb c 4) (units_ok cs)) cs units-ok d (omega arith) in
            (leb-true 1 (get_or cs d 0) (and_left (leb 1 (get_or cs d 0)) (leb (get_or cs d 0) 4) t), leb-true (get_or cs d 0) 4 (and_right (leb 1 (get_or cs d 0)) (leb (get_or cs d 0) 4) t));
        post_four = λ v l.
            sym (corners_from_sum p v cs) ∙ eqb-true _ _ (from_each (λ n a. posts_supply n a p cs) supplied (λ a. refl) (λ n a. refl) p.posts 0 posts-ok v (omega arith) (omega arith));
        face_kept = over_each (all_balanced p cs xs) (balanced p cs xs) refl (λ d ds. refl) (faces p) faces-ok;
      }

  pub facts_is_flow : IsFlow p cs xs → is_flow p cs xs ≡ true
  unfolding one_to_four supplied
  facts_is_flow f =
      and_both _ _ (eq-eqb _ _ f.corners_long) (and_both _ _ (eq-eqb _ _ f.units_long) (and_both _ _
      (each_over units_ok one_to_four refl (λ c cs. and_assoc (leb 1 c) (leb c 4) (units_ok cs)) cs
      (λ d l. and_both _ _ (le-leb 1 (get_or cs d 0) (f.corner_range d (omega arith)).0) (le-leb (get_or cs d 0) 4 (f.corner_range d (omega arith)).1)))
      (and_both _ _
      (each_from (λ n a. posts_supply n a p cs) supplied (λ a. refl) (λ n a. refl) p.posts 0 (λ v l k. eq-eqb _ _ (corners_from_sum p v cs ∙ f.post_four v (omega arith))))
      (each_over (all_balanced p cs xs) (balanced p cs xs) refl (λ d ds. refl) (faces p) f.face_kept))))
