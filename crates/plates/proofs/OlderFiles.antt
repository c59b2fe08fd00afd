-- Remarks of older files: a file put in order has the remark that it had, and one of our older files differs from the file of today in the remark alone.
-- Assumes nothing.
use mathlib.Core.Path.{◌≡◌, refl, sym, ap, ap₂, subst, subst₂, ◌∙◌}
use mathlib.Core.Bool.{Bool, true, false}
use mathlib.Core.List.{List, [], ◌∷◌, ◌++◌, append-nil}
use mathlib.Core.Logic.{inl}
use Prim.Native.Nat.{ℕ, ◌≤◌}
use native.Mathlib.Omega.{arith}
use lib.ListN.{length}
use borrow.Author.Tests.{leb-true}
use Rattle.fields.proofs.FrontField.{met_field}
use Rattle.fields.proofs.Laid.{all_laid}
use Rattle.fields.proofs.Sorted.{tag_order}
use Rattle.fields.proofs.PassedOver.{passed_over}
use Rattle.plates.specs.Plates.{pick}
use Rattle.plates.specs.Shapes.{total}
use Rattle.plates.specs.Files.{Field, Walk, has_tag, content_of, walk_all, old_walk, two, field, file_bytes}
use Rattle.plates.proofs.FourFields.{no_sum}
use Rattle.plates.specs.Ordering.{field_of, bytes_in, is_shape_file, ordered_bytes}
use Rattle.plates.specs.Remarks.{remark_tag, OnlyRemark, remarked, remark_copied}

-- put in order
pub kept : (s : List ℕ) → let k = is_shape_file s in (old_walk k s).number ≡ 0 → field_of (remark_tag k) (walk_all k (ordered_bytes s)).fields ≡ field_of (remark_tag k) (old_walk k s).fields
kept s e =
    let k = is_shape_file s in
    let taken = tag_order.taken s e in
    let r = remark_tag k in
    ap (λ (w : Walk). field_of r w.fields) taken.walked ∙ ap₂ (λ (b : Bool) (c : List ℕ). pick b (met_field r c ∷ []) []) (taken.same.there r) (taken.same.content r)

-- our older files, of lists without prices: the four fields of today and the list's remark
remark_few : (s : List ℕ) → has_tag 6 (walk_all false s).fields ≡ true → length (content_of 6 (walk_all false s).fields) ≤ 80
remark_few s h = leb-true (length (content_of 6 (walk_all false s).fields)) 80 (all_laid true false s 6 h)

module _ (s a r : List ℕ) where
  abbrev ms : List Field
  ms = (walk_all false s).fields

  abbrev b : List ℕ
  b = file_bytes ms a r

  abbrev four : List Field
  four = met_field 17 (content_of 1 ms) ∷ (met_field 18 (two (total r)) ∷ (met_field 19 a ∷ (met_field 20 r ∷ [])))

  -- of a list without prices
  four_bytes : has_tag 8 ms ≡ false → bytes_in four ≡ b
  four_bytes unpriced =
      ap (λ (l : List ℕ). field 17 (content_of 1 ms) ++ (field 18 (two (total r)) ++ (field 19 a ++ l))) (append-nil (field 20 r))
      ∙ sym (no_sum ms unpriced a r)

  pub older_only : has_tag 8 ms ≡ false → (walk_all true b).number ≡ 0 → OnlyRemark true (b ++ remark_copied ms) b
  older_only unpriced e = go (has_tag 6 ms) refl
    where
      go : (there : Bool) → has_tag 6 ms ≡ there → OnlyRemark true (b ++ pick there (field 21 (content_of 6 ms)) []) b
      go true h =
          let bare : bytes_in four ++ [] ≡ b = append-nil (bytes_in four) ∙ four_bytes unpriced in
          let with_it : remarked true four (content_of 6 ms) [] ≡ b ++ field 21 (content_of 6 ms) = ap₂ (λ (x y : List ℕ). x ++ y) (four_bytes unpriced) (append-nil (field 21 (content_of 6 ms))) in
          subst₂ (OnlyRemark true) with_it bare
          (passed_over.added true four (content_of 6 ms) [] (remark_few s h) (omega arith) (inl refl) (ap (λ (x : List ℕ). (walk_all true x).number) bare ∙ e))
      go false h = subst (λ (x : List ℕ). OnlyRemark true x b) (sym (append-nil b)) (record { number = refl; besides = record { there = λ u n. refl; content = λ u n. refl } })
