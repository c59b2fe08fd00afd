-- Angles of 1 to 4 that add to 4 at each post of a plate without fault.
use mathlib.Core.Path.{◌≡◌, refl, ap, ◌∙◌}
use mathlib.Core.Bool.{Bool, true, false}
use mathlib.Core.List.{List, [], ◌∷◌}
use Prim.Native.Nat.{ℕ, ◌+◌, ◌-◌, ◌≤◌, ◌<◌}
use native.Mathlib.Omega.{arith}
use borrow.Author.Tests.{eqb-true, eq-eqb}
use lib.Dec.{eqb}
use lib.ListN.{length}
use Rattle.finite.proofs.Members.{in_here, last_in}
use Rattle.finite.proofs.Sums.{when_add, when_swap, sum_cong, sum_add, sum_at}
use Rattle.embedding.specs.Plates.{when, is_in, Plate, darts, twin, leaves, ends_at, degree, part_of, last_of}
use Rattle.embedding.proofs.Rotation.{Ordered, twin_twin, twin_dart, length_part, part_leaves}
use Rattle.embedding.proofs.Faultless.{Faultless}
use Rattle.embedding.proofs.Totals.{end_sum, ends_at_below}
use Rattle.embedding.proofs.Degrees.{degree_ends, degree_most, degree_least}

some_last : (ds : List ℕ) → 1 ≤ length ds → is_in (last_of ds) ds ≡ true
some_last [] l = absurd (omega arith)
some_last (d ∷ ds) l = last_in d (d ∷ ds) (in_here d ds)

when_le : (b : Bool) (x : ℕ) → when b x ≤ x
when_le true x = omega arith
when_le false x = omega arith

-- a number by post, asked where the post is v
pub when_at : (g : ℕ → ℕ) (u v : ℕ) (b : Bool) → eqb u v ≡ b → when b (g u) ≡ when b (g v)
when_at g u v true e = ap g (eqb-true u v e)
when_at g u v false e = refl

module _ (p : Plate) (f : Faultless p) (o : Ordered p) where
  -- a dart that leaves v
  abbrev pub leaving : ℕ → ℕ
  leaving v = last_of (part_of p v)

  pub leaves_there : (v : ℕ) → v < p.posts → (leaving v < darts p) × (leaves p (leaving v) ≡ v)
  leaves_there v l = part_leaves p o v l (leaving v) (some_last (part_of p v) (omega (arith, length_part p o v, degree_least p f v l)))

  -- one to each corner, and to the corner of one dart what is left of four
  abbrev extra : ℕ → ℕ → ℕ
  extra d v = when (eqb d (twin (leaving v))) (4 - degree p v)

  abbrev pub angle : ℕ → ℕ
  angle d = 1 + extra d (ends_at p d)

  pub angle_most : (d : ℕ) → d < darts p → angle d ≤ 4
  angle_most d l = omega (arith, when_le (eqb d (twin (leaving (ends_at p d)))) (4 - degree p (ends_at p d)), degree_least p f (ends_at p d) (ends_at_below p o d l))

  pub angles_fill : (v : ℕ) → v < p.posts → end_sum p angle v ≡ 4
  angles_fill v l =
      let c : ℕ = twin (leaving v) in
      let at-v : ends_at p c ≡ v = ap (leaves p) (twin_twin (leaving v)) ∙ (leaves_there v l).1 in
      omega (
        arith,
        degree_ends p o v,
        degree_most p f v l,
        sum_cong (darts p) (λ d. when (eqb (ends_at p d) v) (angle d)) (λ d. when (eqb (ends_at p d) v) 1 + when (eqb d c) (when (eqb (ends_at p d) v) (4 - degree p v)))
            (λ d k. when_at (λ u. 1 + extra d u) (ends_at p d) v (eqb (ends_at p d) v) refl ∙ when_add (eqb (ends_at p d) v) 1 (extra d v)
            ∙ ap (λ (k : ℕ). when (eqb (ends_at p d) v) 1 + k) (when_swap (eqb (ends_at p d) v) (eqb d c) (4 - degree p v))),
        sum_add (darts p) (λ d. when (eqb (ends_at p d) v) 1) (λ d. when (eqb d c) (when (eqb (ends_at p d) v) (4 - degree p v))),
        sum_at (darts p) c (λ d. when (eqb (ends_at p d) v) (4 - degree p v)) (twin_dart p o (leaving v) (leaves_there v l).0),
        ap (λ (b : Bool). when b (4 - degree p v)) (eq-eqb (ends_at p c) v at-v),
      )
