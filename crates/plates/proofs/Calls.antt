-- What the public calls build from their steps: the best shape within a list's limits, as counts, gives what the writers ask for. Assumes nothing.
use mathlib.Core.Path.{◌≡◌, sym, ap, subst, subst₂, ◌∙◌}
use mathlib.Core.List.{List}
use Prim.Native.Nat.{ℕ}
use lib.ListN.{take}
use Rattle.std.specs.Prelude.{Option, Some}
use Rattle.shapes.specs.BestOf.{Answers}
use Rattle.shapes.specs.declared.best.BestShape.{BestShape}
use Rattle.shapes.proofs.Results.{found_if}
use Rattle.plates.specs.Plates.{Plate, darts}
use Rattle.plates.specs.Shapes.{rights_of, shape_of}
use Rattle.plates.specs.Claims.{BestOf, BestCounts}
use Rattle.plates.specs.Files.{plate_of, rates_of}
use Rattle.plates.specs.Says.{check_fault}
use Rattle.plates.specs.declared.reading.PlateList.{PlateList}
use Rattle.plates.proofs.HeldLists.{list_darts}
use Rattle.plates.proofs.Sound.{sound_within}

-- a best shape of a list, and counts that are those of its darts
module _ (l : PlateList) (b : BestShape) (h : Answers (plate_of l.bytes.now) (rates_of l.bytes.now) (Some b)) {a r : List ℕ} (angles : a ≡ take l.plate.darts b.angles) (rights : r ≡ take l.plate.darts b.rights) where
  abbrev s : List ℕ
  s = l.bytes.now

  abbrev p : Plate
  p = plate_of s

  angles_are : a ≡ take (darts p) b.angles
  angles_are = angles ∙ ap (λ (n : ℕ). take n b.angles) (list_darts l)

  rights_are : r ≡ take (darts p) b.rights
  rights_are = rights ∙ ap (λ (n : ℕ). take n b.rights) (list_darts l)

  pub best_counts : BestCounts s a r
  best_counts = record {
    best = subst₂ (λ (c q : List ℕ). BestOf s (shape_of p c q)) (sym angles_are) (sym rights_are) h.best;
    counts = subst (λ (q : List ℕ). rights_of (shape_of p a q).words ≡ q) (sym rights_are) h.counts;
  }

-- a sound file is itself a shape within the limits, so there is a best one
pub sound_best : (s t : List ℕ) (o : Option BestShape) → check_fault s t ≡ 0 → Answers (plate_of s) (rates_of s) o → (b : BestShape) × (o ≡ Some b)
sound_best s t o e h =
    let (u, m, k) = sound_within s t e in
    let found = found_if (plate_of s) (rates_of s) o h u m k in
    (found.0, found.1)
