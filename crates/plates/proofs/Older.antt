-- Lists that were put in order have the fields that they had, so their number, plate, limits and copied fields are as they were, and they have no prices. Assumes nothing.
use mathlib.Core.Path.{◌≡◌, sym, ap, ap₂, subst, ◌∙◌}
use mathlib.Core.Bool.{Bool, true, false}
use mathlib.Core.List.{List}
use Prim.Native.Nat.{ℕ}
use Rattle.fields.proofs.Comes.{old_unpriced}
use Rattle.fields.proofs.Sorted.{kind_of, tag_order}
use Rattle.plates.specs.Plates.{first_of, plate_fault}
use Rattle.plates.specs.Files.{Field, Walk, walk, has_tag, content_of, walk_all, old_walk, plate_in, rates_fault, fault_from, list_fault, plate_of, file_bytes}
use Rattle.plates.proofs.Contents.{plate_by, copied_by}
use Rattle.plates.specs.Ordering.{is_shape_file, sorted, ordered_bytes, SameFields, comes_to, Taken, old_list_fault, KeptList, OlderLists}

plate_same : (fs gs : List Field) → SameFields fs gs → plate_in fs ≡ plate_in gs
plate_same fs gs h = plate_by fs gs (h.content 2) (h.content 3) (h.content 4) (h.content 5)

rates_same : (fs gs : List Field) → SameFields fs gs → rates_fault fs ≡ rates_fault gs
rates_same fs gs h = rw (h.there 7, h.content 7, h.content 3, h.there 8, h.content 8)

copied_same : (fs gs : List Field) → SameFields fs gs → (a r : List ℕ) → file_bytes fs a r ≡ file_bytes gs a r
copied_same fs gs h = copied_by fs gs (h.content 1) (h.there 8) (h.content 8)

module _ (s : List ℕ) (e : (old_walk false s).number ≡ 0) where
  abbrev fs : List Field
  fs = (old_walk false s).fields

  kind : is_shape_file s ≡ false
  kind = kind_of false false s e

  put : Taken s
  put = tag_order.taken s (subst (λ (k : Bool). (old_walk k s).number ≡ 0) (sym kind) e)

  walked : walk_all false (ordered_bytes s) ≡ walk 0 (sorted false fs)
  walked = subst (λ (k : Bool). walk_all k (ordered_bytes s) ≡ walk 0 (sorted k (old_walk k s).fields)) kind put.walked

  same : SameFields (sorted false fs) fs
  same = subst (λ (k : Bool). SameFields (sorted k (old_walk k s).fields) (old_walk k s).fields) kind put.same

  plate_kept : plate_of (ordered_bytes s) ≡ plate_in fs
  plate_kept = ap (λ (w : Walk). plate_in w.fields) walked ∙ plate_same (sorted false fs) fs same

  list_kept : KeptList s
  list_kept =
      record {
        number =
            ap (fault_from plate_fault) walked
            ∙ ap₂ (λ (n m : ℕ). first_of n m) (ap plate_fault (plate_same (sorted false fs) fs same)) (rates_same (sorted false fs) fs same)
            ∙ sym (ap (λ (n : ℕ). first_of n (first_of (plate_fault (plate_in fs)) (rates_fault fs))) e);
        plate = plate_kept;
        limits = ap (λ (w : Walk). content_of 7 w.fields) walked ∙ same.content 7;
        unpriced = ap (λ (w : Walk). has_tag 8 w.fields) walked ∙ same.there 8 ∙ old_unpriced false s;
        copied = λ a r. ap (λ (w : Walk). file_bytes w.fields a r) walked ∙ copied_same (sorted false fs) fs same a r;
      }

list_as_before : (s : List ℕ) → comes_to true false 8 s ≡ false → (list_fault s ≡ 29 → ⊥) → (list_fault s ≡ old_list_fault s) × (walk_all false s ≡ old_walk false s)
list_as_before s none differ =
    let w = tag_order.as_before false s none (λ e. differ (ap (λ (n : ℕ). first_of n (first_of (plate_fault (plate_of s)) (rates_fault (walk_all false s).fields))) e)) in
    (ap (fault_from plate_fault) w, w)

pub older_lists : OlderLists
older_lists = record { kept = list_kept; as_before = list_as_before }
