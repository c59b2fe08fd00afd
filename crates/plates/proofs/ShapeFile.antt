-- The walk over a shape file as it is written meets its four fields in turn, and the priced sum behind them where the list has prices, and refuses none of them. Assumes nothing.
use mathlib.Core.Path.{◌≡◌, refl, sym, ap, ◌∙◌}
use mathlib.Core.Bool.{Bool, true, false}
use mathlib.Core.List.{List, [], ◌∷◌, ◌++◌, append_assoc}
use Prim.Native.Nat.{ℕ, suc, ◌+◌, ◌-◌, ◌≤◌}
use native.Mathlib.Omega.{arith}
use lib.ListN.{length, length-append}
use borrow.Author.Tests.{eq-eqb, le-leb}
use Rattle.plates.specs.Plates.{pick, when}
use Rattle.plates.specs.Shapes.{total}
use Rattle.plates.specs.Files.{Field, walk, has_tag, content_of, fields_from, walk_all, two, four, field, sum_of, count_bytes, sum_bytes, file_bytes, sum_field}
use Rattle.fields.proofs.FrontField.{met_field, front_met}

-- the file from each field on
abbrev pub from_19 : List ℕ → List ℕ → List ℕ
from_19 a r = field 19 a ++ field 20 r

abbrev pub from_18 : List ℕ → List ℕ → List ℕ
from_18 a r = field 18 (two (total r)) ++ from_19 a r

-- what stands behind the four fields
pub behind_four : (v a r x : List ℕ) → field 17 v ++ (field 18 (two (total r)) ++ (field 19 a ++ (field 20 r ++ x))) ≡ (field 17 v ++ from_18 a r) ++ x
behind_four v a r x =
    sym (append_assoc (field 17 v) (from_18 a r) x
    ∙ ap (λ (l : List ℕ). field 17 v ++ l) (append_assoc (field 18 (two (total r))) (from_19 a r) x
    ∙ ap (λ (l : List ℕ). field 18 (two (total r)) ++ l) (append_assoc (field 19 a) (field 20 r) x)))

pub sum_long : (fs : List Field) (r : List ℕ) → length (sum_bytes fs r) ≡ when (has_tag 8 fs) 7
sum_long fs r = by (has_tag 8 fs)
  where
    by : (b : Bool) → length (sum_field b (content_of 8 fs) r) ≡ when b 7
    by true = refl
    by false = refl

module _ (fs : List Field) (a r : List ℕ) (revision : length (content_of 1 fs) ≡ 2) where
  pub counts_long : length (count_bytes fs a r) ≡ 16 + (length a + length r)
  counts_long = omega (arith, revision, length-append (content_of 1 fs) (from_18 a r), length-append a (field 20 r))

  pub bytes_long : length (file_bytes fs a r) ≡ 16 + (length a + length r) + when (has_tag 8 fs) 7
  bytes_long = omega (arith, counts_long, length-append (count_bytes fs a r) (sum_bytes fs r), sum_long fs r)

  abbrev first : Field
  first = met_field 17 (content_of 1 fs)

  abbrev second : Field
  second = met_field 18 (two (total r))

  abbrev pub four_met : List Field → List Field
  four_met rest = first ∷ (second ∷ (met_field 19 a ∷ (met_field 20 r ∷ rest)))

  abbrev pub sum_met : Bool → List Field
  sum_met priced = pick priced (met_field 22 (four (sum_of (content_of 8 fs) r)) ∷ []) []

  -- the fields met
  abbrev pub fields_met : List Field
  fields_met = four_met (sum_met (has_tag 8 fs))

  -- the sum behind the four, or the end
  walk_sum : (l : ℕ) (priced : Bool) → fields_from (suc (suc l)) true (four_met []) (sum_field priced (content_of 8 fs) r) ≡ walk 0 (four_met (sum_met priced))
  walk_sum l true = front_met 22 (four (sum_of (content_of 8 fs) r)) [] true true (four_met []) refl refl refl refl refl (suc l)
  walk_sum l false = refl

  module _ (angles-most : length a ≤ 256) (rights-most : length r ≤ 256) where
    walk_four : (l : ℕ) → fields_from (suc (suc (suc (suc (suc (suc l)))))) true [] (file_bytes fs a r) ≡ walk 0 fields_met
    walk_four l =
        let sum = sum_bytes fs r in
        ap (fields_from (suc (suc (suc (suc (suc (suc l)))))) true []) (sym (behind_four (content_of 1 fs) a r sum))
        ∙ front_met 17 (content_of 1 fs) (field 18 (two (total r)) ++ (field 19 a ++ (field 20 r ++ sum))) true true [] refl refl refl refl (eq-eqb (length (content_of 1 fs)) 2 revision) (suc (suc (suc (suc (suc l)))))
        ∙ front_met 18 (two (total r)) (field 19 a ++ (field 20 r ++ sum)) true true (first ∷ []) refl refl refl refl refl (suc (suc (suc (suc l))))
        ∙ front_met 19 a (field 20 r ++ sum) true true (first ∷ (second ∷ [])) refl refl refl refl (le-leb (length a) 256 angles-most) (suc (suc (suc l)))
        ∙ front_met 20 r sum true true (first ∷ (second ∷ (met_field 19 a ∷ []))) refl refl refl refl (le-leb (length r) 256 rights-most) (suc (suc l))
        ∙ walk_sum l (has_tag 8 fs)

    pub file_walked : walk_all true (file_bytes fs a r) ≡ walk 0 fields_met
    file_walked =
        let l = length (file_bytes fs a r) - 5 in
        let e : suc (length (file_bytes fs a r)) ≡ suc (suc (suc (suc (suc (suc l))))) = omega (arith, bytes_long) in
        ap (λ (n : ℕ). fields_from n true [] (file_bytes fs a r)) e ∙ walk_four l
