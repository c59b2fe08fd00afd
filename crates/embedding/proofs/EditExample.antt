-- The editor's steps on small plates, by evaluation: the plates after them and their refusals.
use mathlib.Core.Path.{◌≡◌, refl}
use mathlib.Core.List.{[], ◌∷◌}
use lib.ListN.{length}
use Rattle.embedding.specs.Plates.{Plate, plate, faces, plate_fault}
use Rattle.embedding.specs.Edits.{split, hang, join, split_fault, hang_fault, join_fault}

-- document 01's P4 and P6
abbrev strip : Plate
strip = plate 2 (0 ∷ 1 ∷ []) (0 ∷ 1 ∷ []) 0

abbrev path : Plate
path = plate 3 (0 ∷ 1 ∷ 1 ∷ 2 ∷ []) (0 ∷ 1 ∷ 2 ∷ 3 ∷ []) 1

split_strip : split strip 0 ≡ plate 3 (0 ∷ 2 ∷ 2 ∷ 1 ∷ []) (0 ∷ 3 ∷ 1 ∷ 2 ∷ []) 0
split_strip = refl

hang_strip : hang strip 0 ≡ plate 3 (0 ∷ 1 ∷ 1 ∷ 2 ∷ []) (0 ∷ 2 ∷ 1 ∷ 3 ∷ []) 0
hang_strip = refl

join_strip : join strip 0 1 ≡ plate 2 (0 ∷ 1 ∷ 1 ∷ 0 ∷ []) (3 ∷ 0 ∷ 2 ∷ 1 ∷ []) 0
join_strip = refl

-- both darts end at post 1
join_path : join path 0 3 ≡ plate 3 (0 ∷ 1 ∷ 1 ∷ 2 ∷ 1 ∷ 1 ∷ []) (0 ∷ 4 ∷ 1 ∷ 5 ∷ 2 ∷ 3 ∷ []) 1
join_path = refl

join_path_accepted : (plate_fault (join path 0 3) ≡ 0) × (length (faces (join path 0 3)) ≡ 2)
join_path_accepted = (refl, refl)

refusals : (split_fault strip 1 ≡ 35) × (hang_fault strip 2 ≡ 35) × (join_fault strip 0 0 ≡ 35) × (join_fault (join path 0 3) 0 2 ≡ 35) × (hang_fault (join path 0 3) 0 ≡ 37) × (join_fault (hang path 0) 0 3 ≡ 37)
refusals = (refl, refl, refl, refl, refl, refl)
