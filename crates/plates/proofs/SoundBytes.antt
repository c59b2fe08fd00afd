-- A sound file without its remark is, byte for byte, the one that is written for its angles and right bends: its fields stand in tag order, its
-- revision and its total are told by two bytes each, and the priced sum by four. Assumes nothing.
use mathlib.Core.Path.{◌≡◌, refl, sym, ap, ap₂, ◌∙◌}
use mathlib.Core.Bool.{Bool, true, false, ◌&&◌, false≢true}
use mathlib.Core.List.{List, [], ◌∷◌, ◌++◌, append-nil}
use Prim.Native.Nat.{ℕ, ◌+◌, ◌*◌, ◌/◌, ◌%◌, ◌<◌}
use native.Mathlib.Omega.{arith}
use lib.Dec.{ltb}
use lib.ListN.{length}
use borrow.Author.Tests.{eqb-true, ltb-true}
use Rattle.finite.proofs.Tests.{and_left, and_right, first_none, not_both, not_true_false}
use Rattle.fields.proofs.FrontField.{met_field}
use Rattle.fields.proofs.Laid.{all_laid, all_tags, absent_none}
use Rattle.fields.proofs.Runs.{all_there_lem}
use Rattle.fields.proofs.Rising.{rising_there, rising_absent, bytes_row}
use Rattle.fields.proofs.Sorted.{bytes_of_lem}
use Rattle.shapes.proofs.Accepted.{ordered}
use Rattle.plates.specs.Plates.{pick}
use Rattle.plates.specs.Shapes.{total, same}
use Rattle.plates.specs.Files.{Field, has_tag, content_of, walk_all, list_fault, plate_of, two, four, field, sum_of, count_bytes, sum_bytes, file_bytes, sum_field}
use Rattle.plates.specs.Ordering.{field_of, sorted, bytes_in}
use Rattle.plates.specs.Says.{word, all_bytes, angles_in, rights_in, sum_true, check_fault, sum_true_by}
use Rattle.plates.specs.Texts.{remark_in, sum_in, ButRemark}
use Rattle.plates.proofs.Contents.{list_fields}
use Rattle.plates.proofs.FileBytes.{contents_bytes}
use Rattle.plates.proofs.Lists.{list_walked, list_accepted}
use Rattle.plates.proofs.ShapeFile.{behind_four}
use Rattle.shapes.proofs.Order.{same_eq}
use Rattle.plates.proofs.Sound.{sound_exactly, counted_bends}

-- two bytes are those of their number
two_word : (c : List ℕ) → length c ≡ 2 → all_bytes c ≡ true → two (word c) ≡ c
two_word [] e b = absurd (omega arith)
two_word (x ∷ []) e b = absurd (omega arith)
two_word (x ∷ (y ∷ [])) e b =
    let low : y < 256 = ltb-true y 256 (and_left (ltb y 256) true (and_right (ltb x 256) _ b)) in
    let high : (256 * x + y) / 256 ≡ x = omega arith in
    let rest : (256 * x + y) % 256 ≡ y = omega arith in
    ap₂ (λ (u v : ℕ). u ∷ (v ∷ [])) high rest
two_word (x ∷ (y ∷ (z ∷ c))) e b = absurd (omega arith)

-- a shape file in order, field by field
module _ (t : List ℕ) (bytes : all_bytes t ≡ true) (e : (walk_all true t).number ≡ 0) where
  abbrev fs : List Field
  fs = (walk_all true t).fields

  needed : (has_tag 17 fs && (has_tag 18 fs && (has_tag 19 fs && has_tag 20 fs))) ≡ true
  needed = all_there_lem true true t e

  needed_18 : (has_tag 18 fs && (has_tag 19 fs && has_tag 20 fs)) ≡ true
  needed_18 = and_right (has_tag 17 fs) _ needed

  needed_19 : (has_tag 19 fs && has_tag 20 fs) ≡ true
  needed_19 = and_right (has_tag 18 fs) _ needed_18

  has_17 : has_tag 17 fs ≡ true
  has_17 = and_left (has_tag 17 fs) _ needed

  has_18 : has_tag 18 fs ≡ true
  has_18 = and_left (has_tag 18 fs) _ needed_18

  -- no field has a tag above the priced sum's
  none_23 : has_tag 23 fs ≡ false
  none_23 = not_true_false (has_tag 23 fs) (λ h. false≢true (all_tags true true t 23 h))

  none_24 : has_tag 24 fs ≡ false
  none_24 = not_true_false (has_tag 24 fs) (λ h. false≢true (all_tags true true t 24 h))

  in_order : sorted true fs ≡ met_field 17 (content_of 17 fs) ∷ (met_field 18 (content_of 18 fs) ∷ (met_field 19 (angles_in t) ∷ (met_field 20 (rights_in t) ∷ (field_of 21 fs ++ field_of 22 fs))))
  in_order =
      rising_there 7 17 fs has_17
      ∙ ap (λ (l : List Field). met_field 17 (content_of 17 fs) ∷ l) (rising_there 6 18 fs has_18
      ∙ ap (λ (l : List Field). met_field 18 (content_of 18 fs) ∷ l) (rising_there 5 19 fs (and_left (has_tag 19 fs) _ needed_19)
      ∙ ap (λ (l : List Field). met_field 19 (angles_in t) ∷ l) (rising_there 4 20 fs (and_right (has_tag 19 fs) _ needed_19)
      ∙ ap (λ (l : List Field). met_field 20 (rights_in t) ∷ (field_of 21 fs ++ l)) (ap (λ (l : List Field). field_of 22 fs ++ l) (rising_absent 1 23 fs none_23 ∙ rising_absent 0 24 fs none_24)
      ∙ append-nil (field_of 22 fs)))))

  abbrev row : List ℕ → List ℕ → List ℕ
  row v n = field 17 v ++ (field 18 n ++ (field 19 (angles_in t) ++ (field 20 (rights_in t) ++ (remark_in t ++ sum_in t))))

  row_is : row (content_of 17 fs) (content_of 18 fs) ≡ t
  row_is =
      sym (ap (λ (l : List ℕ). field 17 (content_of 17 fs) ++ (field 18 (content_of 18 fs) ++ (field 19 (angles_in t) ++ (field 20 (rights_in t) ++ l)))) (bytes_row (field_of 21 fs) (field_of 22 fs)))
      ∙ sym (ap bytes_in in_order) ∙ bytes_of_lem true t e bytes

  two_long_17 : length (content_of 17 fs) ≡ 2
  two_long_17 = eqb-true (length (content_of 17 fs)) 2 (all_laid true true t 17 has_17)

  two_long_18 : length (content_of 18 fs) ≡ 2
  two_long_18 = eqb-true (length (content_of 18 fs)) 2 (all_laid true true t 18 has_18)

-- a true sum is, byte for byte, the one that is written
sum-bytes : (gs us : List Field) → sum_true gs us ≡ true → bytes_in (field_of 22 us) ≡ sum_bytes gs (content_of 20 us)
sum-bytes gs us = by (has_tag 8 gs) (has_tag 22 us) (absent_none 22 us)
  where
    sum : List ℕ
    sum = four (sum_of (content_of 8 gs) (content_of 20 us))

    by : (priced there : Bool) → (there ≡ false → content_of 22 us ≡ []) → sum_true_by priced there (content_of 8 gs) (content_of 20 us) (content_of 22 us) ≡ true
        → bytes_in (pick there (met_field 22 (content_of 22 us) ∷ []) []) ≡ sum_field priced (content_of 8 gs) (content_of 20 us)
    by true true absent e = append-nil (field 22 (content_of 22 us)) ∙ ap (field 22) (same_eq (content_of 22 us) sum e)
    by true false absent e = absurd (not_both e (ap (λ (l : List ℕ). same l sum) (absent refl)))
    by false true absent e = absurd (not_both e refl)
    by false false absent e = refl

pub sound_bytes : (s t : List ℕ) → all_bytes s ≡ true → all_bytes t ≡ true → check_fault s t ≡ 0 → ButRemark (file_bytes (walk_all false s).fields (angles_in t) (rights_in t)) t
sound_bytes s t b c none =
    let accepted = (first_none (list_fault s) _ none).0 in
    let walked = (first_none (walk_all true t).number _ (first_none (list_fault s) _ none).1).0 in
    let (long, meets, revision, bends, kept, true-sum) = (sound_exactly s t accepted walked).0 none in
    let gs = (walk_all false s).fields in
    let own : content_of 17 (walk_all true t).fields ≡ content_of 1 gs =
    sym (two_word (content_of 17 (walk_all true t).fields) (two_long_17 t c walked) (contents_bytes true t c 17)) ∙ ap two revision
    ∙ two_word (content_of 1 gs) (list_fields s (list_walked s accepted)).revision (contents_bytes false s b 1) in
    let sum : content_of 18 (walk_all true t).fields ≡ two (total (rights_in t)) =
    sym (two_word (content_of 18 (walk_all true t).fields) (two_long_18 t c walked) (contents_bytes true t c 18))
    ∙ ap two (bends ∙ counted_bends (plate_of s) (ordered (plate_of s) (list_accepted s accepted)) (angles_in t) (rights_in t) long) in
    record {
      front = count_bytes gs (angles_in t) (rights_in t);
      whole = sym (behind_four (content_of 1 gs) (angles_in t) (rights_in t) (remark_in t ++ sum_in t)) ∙ sym (ap₂ (row t c walked) own sum) ∙ row_is t c walked;
      without = ap (λ (l : List ℕ). count_bytes gs (angles_in t) (rights_in t) ++ l) (sum-bytes gs (walk_all true t).fields true-sum);
    }
