-- The refusals of what was read of a text.
use Rattle.std.specs.Prelude.{not, List, ℕ, take}
use Rattle.shapes.specs.Judge.{judgement}
use Rattle.plates.specs.Plates.{Plate, first_of, when}
use Rattle.plates.specs.Shapes.{pair_sums, all_within}
use Rattle.texts.specs.Parses.{twin_counts}

-- words that do not agree across a strip, then the verdict on the counts, then the limits
abbrev pub counted_fault : Plate → List ℕ → ℕ → List ℕ → List ℕ → List ℕ → ℕ
counted_fault p ls n a r l =
    first_of (when (not (twin_counts n 0 r l)) 32)
    (first_of (judgement p (take n a) (take n r))
    (when (not (all_within ls (pair_sums (take n r)))) 25))
