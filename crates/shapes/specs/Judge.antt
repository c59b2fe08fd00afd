-- The verdict on a shape given as counts: refusals 19, 20 and 21, and what the steps to it give.
use Rattle.std.specs.Prelude.{Bool, true, ◌&&◌, not, List, ℕ, zero, suc, ◌+◌, eqb, length, get_or}
use Rattle.embedding.specs.Plates.{pick, when, first_of, Plate, twin, faces}
use Rattle.shapes.specs.Shapes.{angles_ok, posts_ok, faces_ok, shape_of}

-- 19 an angle outside 1 to 4; 20 angles at a post; 21 turns of a face
abbrev pub judgement : Plate → List ℕ → List ℕ → ℕ
judgement p a r = first_of (when (not (angles_ok a)) 19) (first_of (when (not (posts_ok p.posts 0 p a)) 20) (when (not (faces_ok p a (shape_of p a r).words (faces p))) 21))

-- the sum of g over the numbers below n whose key is k
abbrev pub group_sum : ℕ → (ℕ → ℕ) → (ℕ → ℕ) → ℕ → ℕ
group_sum zero key g k = 0
group_sum (suc n) key g k = group_sum n key g k + when (eqb (key n) k) (g n)

-- the angles at a post
abbrev pub post_angles : List ℕ → List ℕ → ℕ → ℕ
post_angles ends angles = group_sum (length angles) (λ d. get_or ends (twin d) 0) (λ d. get_or angles d 0)

-- of a face's turns what is added, right bends and 2 for each dart
abbrev pub face_plus : List ℕ → List ℕ → ℕ → ℕ
face_plus face rights = group_sum (length rights) (λ d. get_or face d 0) (λ d. get_or rights d 0 + 2)

-- and what is taken away, left bends and angles
abbrev pub face_minus : List ℕ → List ℕ → List ℕ → ℕ → ℕ
face_minus face angles rights = group_sum (length angles) (λ d. get_or face d 0) (λ d. get_or rights (twin d) 0 + get_or angles d 0)

-- n of the sums, from v on, are 4
abbrev pub all_four : ℕ → ℕ → List ℕ → Bool
all_four zero v sums = true
all_four (suc n) v sums = eqb (get_or sums v 0) 4 && all_four n (suc v) sums

abbrev pub turns_ok : Bool → ℕ → ℕ → Bool
turns_ok outer plus minus = pick outer (eqb (plus + 4) minus) (eqb plus (minus + 4))

-- n of the faces, from k on, have the turns that they should
abbrev pub all_turn : ℕ → ℕ → ℕ → List ℕ → List ℕ → Bool
all_turn zero k outer plus minus = true
all_turn (suc n) k outer plus minus = turns_ok (eqb k outer) (get_or plus k 0) (get_or minus k 0) && all_turn n (suc k) outer plus minus
