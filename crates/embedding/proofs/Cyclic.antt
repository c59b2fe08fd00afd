-- Plates that hold the same table, read cyclically, have the same dart after each dart: so the same faces, the same refusals of a step, and the same table after it.
use mathlib.Core.Path.{◌≡◌, refl, sym, ap, ap₂, ◌∙◌}
use mathlib.Core.Bool.{Bool, true, false, ◌||◌, not}
use mathlib.Core.List.{List, [], ◌∷◌, ◌++◌}
use Prim.Native.Nat.{ℕ, suc, ◌*◌, ◌<◌}
use native.Mathlib.Omega.{arith}
use borrow.Author.Tests.{leb-false}
use lib.Dec.{eqb, leb}
use lib.ListN.{length, get_or, set}
use Rattle.finite.specs.Walks.{walk}
use Rattle.embedding.specs.Plates.{first_of, when, is_in, Plate, plate, darts, twin, ends_at, part_of, after, face_of}
use Rattle.embedding.specs.Edits.{put_before, renamed, no_strip, taken, full, no_face, split_fault, hang_fault, join_fault, Turned, SameTable, SplitTable, HangTable, JoinTable}
use Rattle.embedding.proofs.Rotation.{Ordered, twin_dart, part_distinct, own_part, after_below}
use Rattle.embedding.proofs.Faces.{face_is}
use Rattle.embedding.proofs.Totals.{ends_at_below}
use Rattle.embedding.proofs.Numbering.{walk_cong}
use Rattle.embedding.proofs.Placing.{put_distinct}
use Rattle.embedding.proofs.Grown.{after_at, not_in_part}
use Rattle.embedding.proofs.Hanging.{at_post}
use Rattle.embedding.proofs.Turning.{turned_none, turned_same, turned_round, turned_put, turned_renamed}

-- a second test matters only where the first is false
or_same : (a b c : Bool) → (a ≡ false → b ≡ c) → a || b ≡ a || c
or_same true b c h = refl
or_same false b c h = h refl

module _ (p q : Plate) (o : Ordered p) (same : SameTable p q) where
  -- q but for its order is p
  but_order : plate q.posts q.ends p.order q.outer ≡ p
  but_order = λ i. record { posts = same.same_posts i; ends = same.same_ends i; order = p.order; outer = same.same_outer i }

  darts_same : darts q ≡ darts p
  darts_same = ap (length {A = ℕ}) same.same_ends

  ends_same : (d : ℕ) → ends_at q d ≡ ends_at p d
  ends_same d = ap (λ (r : Plate). ends_at r d) but_order

  after_same : (d : ℕ) → d < darts p → after q d ≡ after p d
  after_same d l =
      let v = ends_at p d in
      let k = ends_at_below p o d l in
      after_at q d v (twin d) (ends_same d) refl ∙ turned_round (same.orders v k) (part_distinct p o v k) (twin d) (own_part p o (twin d) (twin_dart p o d l))

  pub faces_same : (d : ℕ) → d < darts p → face_of q d ≡ face_of p d
  faces_same d l =
      ap (λ (F : ℕ → List ℕ). F d) (face_is q) ∙ ap (λ (k : ℕ). walk (after q) k d d) darts_same
      ∙ walk_cong (after q) (after p) (darts p) after_same (after_below p o) (darts p) d d l
      ∙ ap (λ (F : ℕ → List ℕ). F d) (sym (face_is p))

  -- the refusals
  pub split_fault_same : (s : ℕ) → split_fault q s ≡ split_fault p s
  split_fault_same s = ap (λ (r : Plate). split_fault r s) but_order

  pub hang_fault_same : (d : ℕ) → hang_fault q d ≡ hang_fault p d
  hang_fault_same d = ap (λ (r : Plate). hang_fault r d) but_order

  no_face_same : (d e : ℕ) → no_face q d e ≡ no_face p d e
  no_face_same d e =
      ap (λ (k : ℕ). leb k d || (leb k e || (eqb d e || not (is_in e (face_of q d))))) darts_same
      ∙ or_same (leb (darts p) d) (leb (darts p) e || (eqb d e || not (is_in e (face_of q d)))) (leb (darts p) e || (eqb d e || not (is_in e (face_of p d))))
      (λ h. ap (λ (f : List ℕ). leb (darts p) e || (eqb d e || not (is_in e f))) (faces_same d (leb-false (darts p) d h)))

  pub join_fault_same : (d e : ℕ) → join_fault q d e ≡ join_fault p d e
  join_fault_same d e = ap₂ (λ (b : Bool) (r : Plate). first_of (when b 35) (rest r)) (no_face_same d e) but_order
    where
      rest : Plate → ℕ
      rest r = first_of (when (no_strip r) 36) (when (full r (ends_at r d) (taken r d e) || full r (ends_at r e) (taken r d e)) 37)

  -- the tables after a step
  pub split_same : (s : ℕ) (p' q' : Plate) → SplitTable p s p' → SplitTable q s q' → SameTable p' q'
  split_same s p' q' t u =
      record {
        same_posts = u.one_post ∙ ap suc same.same_posts ∙ sym t.one_post;
        same_ends =
            u.strip_ends ∙ ap (λ (r : Plate). set r.ends (suc (2 * s)) r.posts ++ (r.posts ∷ (get_or r.ends (suc (2 * s)) 0 ∷ []))) but_order ∙ sym t.strip_ends;
        same_outer = u.same_outer ∙ same.same_outer ∙ sym t.same_outer;
        orders = λ v l. at_post p.posts v (omega (arith, t.one_post)) (old v) (new v);
      }
    where
      old : (v : ℕ) → v < p.posts → Turned (part_of p' v) (part_of q' v)
      old v l =
          turned_same (t.old_order v l)
          (u.old_order v (omega (arith, same.same_posts)) ∙ ap (λ (k : ℕ). renamed (suc (2 * s)) (suc k) (part_of q v)) darts_same)
          (turned_renamed (same.orders v l) (suc (2 * s)) (suc (darts p)))

      new : (v : ℕ) → v ≡ p.posts → Turned (part_of p' v) (part_of q' v)
      new v e =
          turned_same (ap (part_of p') e ∙ t.new_order)
          (ap (part_of q') (e ∙ sym same.same_posts) ∙ u.new_order ∙ ap (λ (k : ℕ). suc (2 * s) ∷ (k ∷ [])) darts_same)
          (turned_none (suc (2 * s) ∷ (darts p ∷ [])))

  pub hang_same : (d : ℕ) (p' q' : Plate) → HangTable p d p' → HangTable q d q' → SameTable p' q'
  hang_same d p' q' t u =
      record {
        same_posts = u.one_post ∙ ap suc same.same_posts ∙ sym t.one_post;
        same_ends = u.strip_ends ∙ ap (λ (r : Plate). r.ends ++ (ends_at r d ∷ (r.posts ∷ []))) but_order ∙ sym t.strip_ends;
        same_outer = u.same_outer ∙ same.same_outer ∙ sym t.same_outer;
        orders = λ v l. at_post p.posts v (omega (arith, t.one_post)) (old v) (new v);
      }
    where
      old : (v : ℕ) → v < p.posts → Turned (part_of p' v) (part_of q' v)
      old v l =
          turned_same (t.old_order v l)
          (u.old_order v (omega (arith, same.same_posts)) ∙ ap (λ (k : ℕ). put_before (twin d) k (part_of q v)) darts_same)
          (turned_put (same.orders v l) (twin d) (darts p) (part_distinct p o v l))

      new : (v : ℕ) → v ≡ p.posts → Turned (part_of p' v) (part_of q' v)
      new v e =
          turned_same (ap (part_of p') e ∙ t.new_order)
          (ap (part_of q') (e ∙ sym same.same_posts) ∙ u.new_order ∙ ap (λ (k : ℕ). suc k ∷ []) darts_same)
          (turned_none (suc (darts p) ∷ []))

  pub join_same : (d e : ℕ) (p' q' : Plate) → JoinTable p d e p' → JoinTable q d e q' → SameTable p' q'
  join_same d e p' q' t u =
      record {
        same_posts = u.same_posts ∙ same.same_posts ∙ sym t.same_posts;
        same_ends = u.strip_ends ∙ ap (λ (r : Plate). r.ends ++ (ends_at r d ∷ (ends_at r e ∷ []))) but_order ∙ sym t.strip_ends;
        same_outer = u.same_outer ∙ same.same_outer ∙ sym t.same_outer;
        orders = λ v l. old v (omega (arith, t.same_posts));
      }
    where
      old : (v : ℕ) → v < p.posts → Turned (part_of p' v) (part_of q' v)
      old v l =
          let once = part_distinct p o v l in
          turned_same (t.old_order v l)
          (u.old_order v (omega (arith, same.same_posts)) ∙ ap (λ (k : ℕ). put_before (twin d) k (put_before (twin e) (suc k) (part_of q v))) darts_same)
          (turned_put (turned_put (same.orders v l) (twin e) (suc (darts p)) once) (twin d) (darts p)
          (put_distinct (twin e) (suc (darts p)) (part_of p v) once (not_in_part p o v l (suc (darts p)) (omega arith))))
