-- A triangle: the facts assumed of plates can be met.
use mathlib.Core.Path.{◌≡◌, refl}
use mathlib.Core.List.{[], ◌∷◌}
use lib.ListN.{length}
use Rattle.finite.proofs.Sums.{sum_over}
use Rattle.embedding.specs.Plates.{Plate, plate, face_of, faces}
use Rattle.embedding.proofs.Rotation.{Ordered}
use Rattle.embedding.proofs.Faces.{lead, faces_degrees}
use Rattle.embedding.proofs.Faultless.{faultless, ordered}

abbrev triangle : Plate
triangle = plate 3 (0 ∷ (1 ∷ (1 ∷ (2 ∷ (2 ∷ (0 ∷ [])))))) (0 ∷ (5 ∷ (1 ∷ (2 ∷ (3 ∷ (4 ∷ [])))))) 0

pub triangle_ordered : Ordered triangle
triangle_ordered = ordered triangle refl (faultless triangle refl)

two_faces : faces triangle ≡ 0 ∷ (1 ∷ [])
two_faces = refl

inner : face_of triangle 0 ≡ 0 ∷ (2 ∷ (4 ∷ []))
inner = refl

lead_4 : lead triangle 4 ≡ 0
lead_4 = refl

six : sum_over (faces triangle) (λ d. length (face_of triangle d)) ≡ 6
six = faces_degrees triangle triangle_ordered
