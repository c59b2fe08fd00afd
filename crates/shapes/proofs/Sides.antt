-- The two sides of a face's turns, for the words that counts give, as sums of counts over all darts whose face it is.
use mathlib.Core.Path.{◌≡◌, refl, sym, ap, ◌∙◌}
use mathlib.Core.Bool.{Bool}
use mathlib.Core.List.{List, [], ◌∷◌}
use Prim.Native.Nat.{ℕ, ◌+◌, ◌<◌}
use native.Mathlib.Omega.{arith}
use lib.Dec.{eqb}
use lib.ListN.{length, get_or}
use Rattle.finite.proofs.Sums.{sum_below, sum_over, sum_cong}
use Rattle.embedding.specs.Read.{face_number}
use Rattle.embedding.specs.Plates.{when, Plate, darts, strips, twin, ends_at, faces, face_of}
use Rattle.embedding.proofs.Rotation.{Ordered}
use Rattle.shapes.specs.Shapes.{rights, lefts, nth_w, plus_side, minus_side, angle_sum, words_from}
use Rattle.shapes.specs.Judge.{group_sum}
use Rattle.shapes.proofs.Groups.{group_sum_below}
use Rattle.shapes.proofs.Meets.{lefts_at}
use Rattle.shapes.proofs.Places.{index_sum}
use Rattle.shapes.proofs.Totals.{corners_from_sum}
use Rattle.shapes.proofs.Words.{rights_at, words_rights, words_twins}

plus_sum : (ws : List (List Bool)) (ds : List ℕ) → plus_side ds ws ≡ sum_over ds (λ d. rights (nth_w ws d) + 2)
plus_sum ws [] = refl
plus_sum ws (d ∷ ds) = omega (arith, plus_sum ws ds)

minus_sum : (al : List ℕ) (ws : List (List Bool)) (ds : List ℕ) → minus_side ds al ws ≡ sum_over ds (λ d. lefts (nth_w ws d) + get_or al d 0)
minus_sum al ws [] = refl
minus_sum al ws (d ∷ ds) = omega (arith, minus_sum al ws ds)

-- keys and terms that are equal below n
group_cong : (n m : ℕ) (key key' g g' : ℕ → ℕ) (k : ℕ) → n ≡ m → ((d : ℕ) → d < m → key d ≡ key' d) → ((d : ℕ) → d < m → g d ≡ g' d)
    → group_sum n key g k ≡ sum_below m (λ d. when (eqb (key' d) k) (g' d))
group_cong n m key key' g g' k e same terms =
    ap (λ (j : ℕ). group_sum j key g k) e ∙ group_sum_below m key g k
    ∙ sum_cong m (λ d. when (eqb (key d) k) (g d)) (λ d. when (eqb (key' d) k) (g' d)) (λ d l. cc (same d l, terms d l))

module _ (p : Plate) (o : Ordered p) (rs : List ℕ) (long : length rs ≡ darts p) where
  abbrev ws : List (List Bool)
  ws = words_from (strips p) rs

  two_each : strips p + strips p ≡ darts p
  two_each = omega (arith, o.even)

  rights_are : (d : ℕ) → get_or rs d 0 ≡ rights (nth_w ws d)
  rights_are d = ap (λ (xs : List ℕ). get_or xs d 0) (sym (words_rights (strips p) rs (long ∙ sym two_each))) ∙ rights_at ws d

  lefts_are : (d : ℕ) → d < darts p → get_or rs (twin d) 0 ≡ lefts (nth_w ws d)
  lefts_are d l =
      ap (λ (xs : List ℕ). get_or xs (twin d) 0) (sym (words_rights (strips p) rs (long ∙ sym two_each)))
      ∙ sym (lefts_at (darts p) ws (λ e k. words_twins (strips p) rs e (omega (arith, two_each))) d l)

  -- the i-th face, each dart with the number of its face
  module _ (n : ℕ) (all : n ≡ darts p) (key : ℕ → ℕ) (same : (d : ℕ) → d < darts p → key d ≡ face_number p d) (i : ℕ) (l : i < length (faces p)) where
    pub plus_group : group_sum n key (λ d. get_or rs d 0 + 2) i ≡ plus_side (face_of p (get_or (faces p) i 0)) ws
    plus_group =
        group_cong n (darts p) key (face_number p) (λ d. get_or rs d 0 + 2) (λ d. rights (nth_w ws d) + 2) i all same (λ d k. ap (λ (x : ℕ). x + 2) (rights_are d))
        ∙ index_sum p o i l (λ d. rights (nth_w ws d) + 2) ∙ sym (plus_sum ws (face_of p (get_or (faces p) i 0)))

    pub minus_group : (al : List ℕ) → group_sum n key (λ d. get_or rs (twin d) 0 + get_or al d 0) i ≡ minus_side (face_of p (get_or (faces p) i 0)) al ws
    minus_group al =
        group_cong n (darts p) key (face_number p) (λ d. get_or rs (twin d) 0 + get_or al d 0) (λ d. lefts (nth_w ws d) + get_or al d 0) i all same (λ d k. ap (λ (x : ℕ). x + get_or al d 0) (lefts_are d k))
        ∙ index_sum p o i l (λ d. lefts (nth_w ws d) + get_or al d 0) ∙ sym (minus_sum al ws (face_of p (get_or (faces p) i 0)))

pub angle_group : (p : Plate) (al : List ℕ) (n : ℕ) → n ≡ darts p → (key : ℕ → ℕ) → ((d : ℕ) → d < darts p → key d ≡ ends_at p d)
    → (v : ℕ) → group_sum n key (λ d. get_or al d 0) v ≡ angle_sum (darts p) 0 p v al
angle_group p al n all key same v =
    group_cong n (darts p) key (ends_at p) (λ d. get_or al d 0) (λ d. get_or al d 0) v all same (λ d k. refl) ∙ sym (corners_from_sum p v al)
