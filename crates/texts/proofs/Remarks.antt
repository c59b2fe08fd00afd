-- Document 02's sentences on remarks, together. Assumes nothing.
use mathlib.Core.Path.{◌≡◌, sym, ap, ap₂, subst, ◌∙◌}
use mathlib.Core.Bool.{true, false}
use mathlib.Core.List.{List}
use Prim.Native.Nat.{ℕ}
use lib.ListN.{take}
use Rattle.finite.proofs.Tests.{first_none}
use Rattle.fields.proofs.PassedOver.{passed_over}
use Rattle.plates.specs.Answers.{Shaped}
use Rattle.plates.specs.Shapes.{rights_of, shape_of}
use Rattle.plates.specs.Files.{walk_all, list_fault, plate_of, rates_of, is_priced, shape_bytes}
use Rattle.plates.specs.Claims.{BestOf}
use Rattle.plates.specs.Says.{all_bytes, ShapeSays}
use Rattle.plates.specs.Texts.{text_fault, bytes_read, ReadSays}
use Rattle.plates.specs.Remarks.{OnlyRemark, NoRemark, OlderFile, Remarks}
use Rattle.plates.proofs.PassedOver.{lists, files}
use Rattle.plates.proofs.OlderFiles.{kept, older_only}
use Rattle.plates.proofs.ReadsBack.{no_remark, shape-bytes}
use Rattle.plates.proofs.Verdicts.{same_counts}
use Rattle.texts.proofs.RoundTrips.{round_trips, read_unremarked}
use Rattle.texts.proofs.Called.{shape_given, read_passed, file_given}

-- shaping's answers to two such lists, whatever memory was lent for each: one file
equal_files : (s t o o' m m' : List ℕ) (r q : Shaped) → OnlyRemark false s t → ShapeSays s o o' r → ShapeSays t m m' q → r.number ≡ 0 → q.number ≡ 0 → take r.long o' ≡ take q.long m'
equal_files s t o o' m m' r q h x y z w =
    let g = shape_given s o o' r x z in
    let k = shape_given s m m' q (((lists s t h).shaped m m' q).1 y) w in
    let (totals, angles, rights) = same_counts (plate_of s) (rates_of s) g.angles g.rights k.angles k.rights g.best g.counts k.best k.counts in
    g.bytes ∙ ap₂ (λ (c d : List ℕ). shape_bytes (walk_all false s).fields (shape_of (plate_of s) c d)) angles rights ∙ sym k.bytes

module _ (s a r : List ℕ) (e : list_fault s ≡ 0) (best : BestOf s (shape_of (plate_of s) a r)) (counts : rights_of (shape_of (plate_of s) a r).words ≡ r) where
  abbrev b : List ℕ
  b = shape_bytes (walk_all false s).fields (shape_of (plate_of s) a r)

  best_unremarked : NoRemark s b
  best_unremarked = subst (NoRemark s) (sym (shape-bytes s a r e best.meets_all counts)) (no_remark s a r e best.meets_all counts)

  older : all_bytes s ≡ true → is_priced s ≡ false → OlderFile s b
  older bytes unpriced =
      let v = files _ _ (older_only s a (rights_of (shape_of (plate_of s) a r).words) unpriced best_unremarked.reads) in
      let (sound, one, accepted, back) = round_trips.ours s a r e bytes best counts in
      record { verdicts = v; sound = v.number s ∙ sound; back = ap (bytes_read s) (v.text s) ∙ back }

shaped : (s o o' : List ℕ) (r : Shaped) → ShapeSays s o o' r → r.number ≡ 0 → NoRemark s (take r.long o')
shaped s o o' r x z =
    let g = shape_given s o o' r x z in
    subst (NoRemark s) (sym g.bytes) (best_unremarked s g.angles g.rights g.no_fault g.best g.counts)

from_text : (s t o o' : List ℕ) (r : Shaped) → ReadSays s t o o' r → r.number ≡ 0 → NoRemark s (take r.long o')
from_text s t o o' r x z =
    let passed = read_passed s t o o' r x z in
    subst (NoRemark s) (sym (file_given s t o o' r x passed).1) (read_unremarked s t (first_none (text_fault s t) _ passed).0)

pub remarks : Remarks
remarks = record {
  passed_over = passed_over;
  lists = lists;
  files = files;
  equal_files = equal_files;
  shaped = shaped;
  from_text = from_text;
  kept = kept;
  older = λ s a r e bytes unpriced best counts. older s a r e best counts bytes unpriced;
  without = λ s h. rw h;
}
