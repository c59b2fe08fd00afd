-- A written shape reads back: its walk meets what was written, so the check's conditions are those that the best shape meets. Assumes nothing.
use mathlib.Core.Path.{◌≡◌, refl, sym, ap, subst, subst₂, ◌∙◌}
use mathlib.Core.Bool.{Bool, true, false}
use mathlib.Core.List.{List}
use Prim.Native.Nat.{ℕ}
use native.Mathlib.Omega.{arith}
use lib.ListN.{length}
use Rattle.shapes.proofs.Words.{rights_long}
use Rattle.shapes.proofs.Meets.{Meets, meets_facts}
use Rattle.plates.specs.Plates.{Plate, darts}
use Rattle.plates.specs.Shapes.{Shape, meets, bends, total, rights_of, strip_bends, all_within, shape_of}
use Rattle.plates.specs.Files.{Field, Walk, walk, has_tag, content_of, walk_all, four, list_fault, plate_of, limits_of, sum_of, file_bytes, shape_bytes}
use Rattle.plates.specs.Says.{word, angles_in, rights_in, sum_true, check_fault, file_long, ReadsBack, sum_true_by}
use Rattle.plates.specs.Prices.{SumWritten}
use Rattle.plates.specs.Remarks.{NoRemark}
use Rattle.plates.proofs.Contents.{ListFields, list_fields}
use Rattle.plates.proofs.Lists.{list_walked}
use Rattle.fields.proofs.FrontField.{word_two}
use Rattle.plates.proofs.ShapeFile.{bytes_long, four_met, sum_met, fields_met, file_walked}
use Rattle.shapes.proofs.Order.{same_itself, same_eq}
use Rattle.plates.proofs.Sound.{sound_exactly}

module _ (s a r : List ℕ) (e : list_fault s ≡ 0) (m : meets (plate_of s) (shape_of (plate_of s) a r) ≡ true) (counts : rights_of (shape_of (plate_of s) a r).words ≡ r) where
  abbrev p : Plate
  p = plate_of s

  abbrev fs : List Field
  fs = (walk_all false s).fields

  abbrev x : Shape
  x = shape_of p a r

  abbrev b : List ℕ
  b = file_bytes fs a r

  laid : ListFields fs
  laid = list_fields s (list_walked s e)

  facts : Meets p x
  facts = meets_facts p x m

  pub angles_many : length a ≡ darts p
  angles_many = facts.angles_long

  pub rights_many : length r ≡ darts p
  rights_many = ap length (sym counts) ∙ rights_long x.words ∙ facts.words_long

  walked : walk_all true b ≡ walk 0 (fields_met fs a r laid.revision)
  walked = file_walked fs a r laid.revision (omega (arith, laid.ends_most, angles_many)) (omega (arith, laid.ends_most, rights_many))

  angles_back : angles_in b ≡ a
  angles_back = ap (λ (w : Walk). content_of 19 w.fields) walked

  rights_back : rights_in b ≡ r
  rights_back = ap (λ (w : Walk). content_of 20 w.fields) walked

  long_back : length b ≡ file_long s
  long_back = omega (arith, bytes_long fs a r laid.revision, angles_many, rights_many, laid.ends_even)

  revision_back : word (content_of 17 (walk_all true b).fields) ≡ word (content_of 1 fs)
  revision_back = ap (λ (w : Walk). word (content_of 17 w.fields)) walked

  total_back : word (content_of 18 (walk_all true b).fields) ≡ bends x
  total_back = ap (λ (w : Walk). word (content_of 18 w.fields)) walked ∙ word_two (total r) ∙ ap total (sym counts)

  -- the sum is there where the list has prices, and is that of its bends
  pub sum_back : sum_true fs (walk_all true b).fields ≡ true
  sum_back = ap (λ (w : Walk). sum_true fs w.fields) walked ∙ by (has_tag 8 fs)
    where
      by : (priced : Bool) → let us = four_met fs a r laid.revision (sum_met fs a r laid.revision priced) in
          sum_true_by priced (has_tag 22 us) (content_of 8 fs) r (content_of 22 us) ≡ true
      by true = same_itself (four (sum_of (content_of 8 fs) r))
      by false = refl

  -- none of its fields is a remark
  pub no_remark : NoRemark s b
  no_remark = record { reads = ap (λ (w : Walk). w.number) walked; no_remark = ap (λ (w : Walk). has_tag 21 w.fields) walked ∙ by (has_tag 8 fs); long = long_back }
    where
      by : (priced : Bool) → has_tag 21 (four_met fs a r laid.revision (sum_met fs a r laid.revision priced)) ≡ false
      by true = refl
      by false = refl

  pub sum_written : SumWritten s b
  sum_written = record {
    reads = ap (λ (w : Walk). w.number) walked;
    there = ap (λ (w : Walk). has_tag 22 w.fields) walked ∙ by (has_tag 8 fs);
    sum = λ priced. same_eq _ _ (sym (ap (λ (t : Bool). sum_true_by t (has_tag 22 (walk_all true b).fields) (content_of 8 fs) (rights_in b) (content_of 22 (walk_all true b).fields)) priced) ∙ sum_back);
    long = long_back;
  }
    where
      by : (priced : Bool) → has_tag 22 (four_met fs a r laid.revision (sum_met fs a r laid.revision priced)) ≡ priced
      by true = refl
      by false = refl

  -- the bytes of the shape are those of its counts
  pub shape-bytes : shape_bytes fs x ≡ b
  shape-bytes = ap (file_bytes fs a) counts

  module _ (kept : all_within (limits_of s) (strip_bends x) ≡ true) where
    sound_back : check_fault s b ≡ 0
    sound_back =
        (sound_exactly s b e (ap (λ (w : Walk). w.number) walked)).1
        (subst₂ (λ (c q : List ℕ). (length q ≡ darts p) × (meets p (shape_of p c q) ≡ true) × (word (content_of 17 (walk_all true b).fields) ≡ word (content_of 1 fs)) × (word (content_of 18 (walk_all true b).fields) ≡ bends (shape_of p c q)) × (all_within (limits_of s) (strip_bends (shape_of p c q)) ≡ true) × (sum_true fs (walk_all true b).fields ≡ true))
        (sym angles_back) (sym rights_back) (rights_many, m, revision_back, total_back, kept, sum_back))

    pub written_reads_back : (check_fault s (shape_bytes fs x) ≡ 0) × (angles_in (shape_bytes fs x) ≡ a) × (rights_in (shape_bytes fs x) ≡ r) × (length (shape_bytes fs x) ≡ file_long s)
    written_reads_back = subst (λ (t : List ℕ). (check_fault s t ≡ 0) × (angles_in t ≡ a) × (rights_in t ≡ r) × (length t ≡ file_long s)) (sym shape-bytes) (sound_back, angles_back, rights_back, long_back)

pub reads_back : ReadsBack
reads_back s a r e bytes best counts = written_reads_back s a r e best.meets_all counts best.keeps_all
