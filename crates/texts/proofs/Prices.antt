-- Document 02's sentences on prices, together. Assumes nothing.
use mathlib.Core.Path.{◌≡◌, refl, sym, ap, subst, ◌∙◌}
use mathlib.Core.Bool.{Bool, true, false}
use mathlib.Core.List.{List, ◌∷◌}
use Prim.Native.Nat.{ℕ, ◌<◌}
use native.Mathlib.Omega.{arith}
use lib.ListN.{take}
use Rattle.finite.proofs.Tests.{first_none}
use Rattle.fields.proofs.Earlier.{unpriced_tags}
use Rattle.shapes.proofs.Unpriced.{free_by, by_free}
use Rattle.plates.specs.Answers.{Shaped}
use Rattle.plates.specs.Shapes.{rights_of, shape_of}
use Rattle.plates.specs.Files.{Field, price_tag, all_there, walk_all, list_fault, plate_of, limits_of, prices_of, rates_of, sum_of}
use Rattle.plates.specs.Claims.{BestOf}
use Rattle.plates.specs.Says.{ShapeSays}
use Rattle.plates.specs.Texts.{text_fault, ReadSays}
use Rattle.plates.specs.Prices.{SumWritten, Prices}
use Rattle.plates.proofs.FourFields.{sum_total}
use Rattle.plates.proofs.Prices.{fits, by_price, own, one_each, by_strip, in_parts, bends_sum, as_unpriced, told, sum-true, sum_there, sum_absent, fewest}
use Rattle.plates.proofs.Lists.{of_within}
use Rattle.plates.proofs.ReadsBack.{sum_written, shape-bytes}
use Rattle.texts.proofs.RoundTrips.{read_summed}
use Rattle.texts.proofs.Called.{shape_given, read_passed, file_given}

shaped : (s o o' : List ℕ) (r : Shaped) → ShapeSays s o o' r → r.number ≡ 0 → SumWritten s (take r.long o')
shaped s o o' r x z =
    let g = shape_given s o o' r x z in
    subst (SumWritten s) (sym (g.bytes ∙ shape-bytes s g.angles g.rights g.no_fault g.best.meets_all g.counts)) (sum_written s g.angles g.rights g.no_fault g.best.meets_all g.counts)

from_text : (s t o o' : List ℕ) (r : Shaped) → ReadSays s t o o' r → r.number ≡ 0 → SumWritten s (take r.long o')
from_text s t o o' r x z =
    let passed = read_passed s t o o' r x z in
    subst (SumWritten s) (sym (file_given s t o o' r x passed).1) (read_summed s t (first_none (text_fault s t) _ passed).0)

unasked : (k : Bool) (fs : List Field) (c : List ℕ) → all_there k (record { tag = price_tag k; content = c } ∷ fs) ≡ all_there k fs
unasked true fs c = refl
unasked false fs c = refl

pub prices : Prices
prices = record {
  one_each = one_each;
  by_strip = by_strip;
  by_price = by_price;
  own = own;
  in_parts = λ b e s. in_parts b s;
  bends_sum = bends_sum;
  as_unpriced = λ b u none. of_within b none u;
  free = λ b u free. (free_by (limits_of b) free, by_free (limits_of b) free);
  unpriced = as_unpriced;
  unpriced_tags = unpriced_tags;
  unasked = unasked;
  shaped = shaped;
  from_text = from_text;
  fits = fits;
  sum_total = λ s r none. sum_total (walk_all false s).fields none r;
  told = told;
  sum-true = sum-true;
  sum_there = sum_there;
  sum_absent = sum_absent;
  fewest = fewest;
}
