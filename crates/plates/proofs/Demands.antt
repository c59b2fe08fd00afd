-- The demands of Says and of Claims, whole, and the paper's other sentences on files. Assumes nothing.
use mathlib.Core.Path.{◌≡◌, sym, ap₂, subst, subst₂}
use mathlib.Core.Bool.{Bool, true, false}
use mathlib.Core.List.{List}
use Prim.Native.Nat.{ℕ, ◌≤◌}
use native.Mathlib.Omega.{arith}
use lib.ListN.{length}
use Rattle.fields.proofs.Longest as Longest
use Rattle.plates.specs.Plates.{Plate, when}
use Rattle.plates.specs.Shapes.{rights_of, Rates, rates, BestBy, shape_of}
use Rattle.plates.specs.Files.{walk_all, list_fault, plate_of, is_priced, rates_of}
use Rattle.plates.specs.Says.{file_long, SamePlate, SameShape, Demands, Files}
use Rattle.plates.proofs.Contents.{list_fields, plate_by}
use Rattle.plates.proofs.Fronts.{fronts}
use Rattle.plates.proofs.Lists.{list_walked, list_demands}
use Rattle.plates.proofs.Sound.{sound_exactly}
use Rattle.plates.proofs.ReadsBack.{reads_back}
use Rattle.plates.proofs.Verdicts.{same_counts, written_verdict}
use Rattle.plates.proofs.FileBytes.{shape_bytes_fit}

pub demands : Demands
demands = record { sound_exactly = sound_exactly; all = list_demands; reads_back = reads_back }

-- two lists with the same fields 02 to 05 have the same plate
pub same_plate : (s t : List ℕ) → SamePlate s t → plate_of s ≡ plate_of t
same_plate s t h = plate_by (walk_all false s).fields (walk_all false t).fields h.posts h.ends h.order h.outer

pub same_shape : SameShape
same_shape s t a r b q e h x m y n =
    same_counts (plate_of s) (rates_of s) a r b q x m
    (subst₂ (λ (p : Plate) (rs : Rates). BestBy p rs (shape_of p b q)) (sym (same_plate s t h)) (sym (ap₂ rates h.limits h.prices)) y)
    (subst (λ (p : Plate). rights_of (shape_of p b q).words ≡ q) (sym (same_plate s t h)) n)

pub list_longest : (s : List ℕ) → list_fault s ≡ 0 → length s ≤ 876
list_longest s e = Longest.list_longest s (list_walked s e)

-- of a list that passed the walk
pub walked_longest : (s : List ℕ) → (walk_all false s).number ≡ 0 → file_long s ≤ 535
walked_longest s e = omega (arith, (list_fields s e).ends_most, seven (is_priced s))
  where
    seven : (b : Bool) → when b 7 ≤ 7
    seven true = omega arith
    seven false = omega arith

pub file_longest : (s : List ℕ) → list_fault s ≡ 0 → file_long s ≤ 535
file_longest s e = walked_longest s (list_walked s e)

pub files : Files
files =
    record {
      same_shape = same_shape;
      written_verdict = written_verdict;
      list_longest = list_longest;
      file_longest = file_longest;
      front = fronts;
      file-bytes = shape_bytes_fit;
    }
