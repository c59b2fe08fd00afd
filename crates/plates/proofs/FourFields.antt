-- Lists without prices: their shape files have four fields, the sum is the total of bends, and the promises are those of such lists, whatever says which shape is the best. Assumes nothing.
use mathlib.Core.Path.{◌≡◌, sym, ap, ◌∙◌}
use mathlib.Core.Bool.{Bool, true, false, not}
use mathlib.Core.List.{List, ◌++◌, append-nil}
use mathlib.Core.Logic.{◌↔◌}
use Prim.Native.Nat.{ℕ, zero, suc}
use native.Mathlib.Omega.{arith}
use lib.ListN.{length}
use Rattle.fields.proofs.Laid.{absent_none}
use Rattle.shapes.proofs.Pairs.{sums_total}
use Rattle.shapes.proofs.Strips.{unpriced}
use Rattle.plates.specs.Answers.{Shaped, Verdict, Listed}
use Rattle.plates.specs.Plates.{when}
use Rattle.plates.specs.Shapes.{Shape, rights_of, total, pair_sums, shape_of}
use Rattle.plates.specs.Files.{Field, has_tag, content_of, walk_all, plate_of, is_priced, sum_of, count_bytes, file_bytes, shape_bytes, sum_field}
use Rattle.plates.specs.Claims.{BestOf}
use Rattle.plates.specs.Says.{over, file_long_in, sum_true, ShapeWith, CheckWith, sum_true_by}
use Rattle.plates.specs.Listing.{ListingWith}
use Rattle.plates.specs.Limits.{ShapeBy, CheckBy, ListingBy, count_long}

module _ (fs : List Field) (none : has_tag 8 fs ≡ false) where
  pub no_sum : (a r : List ℕ) → file_bytes fs a r ≡ count_bytes fs a r
  no_sum a r = ap (λ (b : Bool). count_bytes fs a r ++ sum_field b (content_of 8 fs) r) none ∙ append-nil (count_bytes fs a r)

  pub no_sum_long : file_long_in fs ≡ count_long fs
  no_sum_long = omega (arith, ap (λ (b : Bool). when b 7) none)

  pub sum_total : (r : List ℕ) → sum_of (content_of 8 fs) r ≡ total r
  sum_total r = ap (λ (ps : List ℕ). sum_of ps r) (absent_none 8 fs none) ∙ unpriced (pair_sums r) ∙ sums_total r

  -- a file without a sum says nothing false
  pub no_sum_true : (gs : List Field) → has_tag 22 gs ≡ false → sum_true fs gs ≡ true
  no_sum_true gs absent =
      ap (λ (b : Bool). sum_true_by b (has_tag 22 gs) (content_of 8 fs) (content_of 20 gs) (content_of 22 gs)) none ∙ ap not absent

module _ (s : List ℕ) (none : is_priced s ≡ false) (best : List Field → Shape → Type 0) (alike : (u : Shape) → BestOf s u ↔ best (walk_all false s).fields u) where
  abbrev fs : List Field
  fs = (walk_all false s).fields

  bytes_are : (a r : List ℕ) → shape_bytes fs (shape_of (plate_of s) a r) ≡ count_bytes fs a (rights_of (shape_of (plate_of s) a r).words)
  bytes_are a r = no_sum fs none a (rights_of (shape_of (plate_of s) a r).words)

  pub shape_by : (f : ℕ) (o o' : List ℕ) (r : Shaped) → ShapeWith f s o o' r ↔ ShapeBy best f (walk_all false s).fields o o' r
  shape_by zero o o' r = (
    λ h. let (n, (a, x, b, counts, (long, sum, out))) = h in
        (n, (a, x, (alike _).0 b, counts, (long ∙ ap length (bytes_are a x), sum, out ∙ ap (λ (l : List ℕ). over l o) (bytes_are a x)))),
    λ h. let (n, (a, x, b, counts, (long, sum, out))) = h in
        (n, (a, x, (alike _).1 b, counts, (long ∙ ap length (sym (bytes_are a x)), sum, out ∙ ap (λ (l : List ℕ). over l o) (sym (bytes_are a x))))),
  )
  shape_by (suc f) o o' r = (λ h. h, λ h. h)

  pub check_by : (f : ℕ) (t : List ℕ) (r : Verdict) → CheckWith f s t r ↔ CheckBy best f (walk_all false s).fields (walk_all true t) r
  check_by zero t r = (
    λ h. let (n, k, (a, x, b, counts, (few, ours))) = h in (n, k, (a, x, (alike _).0 b, counts, (few ∙ sum_total fs none x, ours))),
    λ h. let (n, k, (a, x, b, counts, (few, ours))) = h in (n, k, (a, x, (alike _).1 b, counts, (few ∙ sym (sum_total fs none x), ours))),
  )
  check_by (suc f) t r = (λ h. h, λ h. h)

  pub listing_by : (f : ℕ) (o o' : List ℕ) (r : Listed) → ListingWith f s o o' r ↔ ListingBy best f (walk_all false s).fields o o' r
  listing_by zero o o' r = (
    λ h. let (a, x, b, counts, rest) = h in (a, x, (alike _).0 b, counts, rest),
    λ h. let (a, x, b, counts, rest) = h in (a, x, (alike _).1 b, counts, rest),
  )
  listing_by (suc f) o o' r = (λ h. h, λ h. h)
