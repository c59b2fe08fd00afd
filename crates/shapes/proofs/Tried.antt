-- The plates to try hold what document 01 says of them, by computation. That their shapes are the best is shown by potentials under which their flows are the least.
use mathlib.Core.Path.{◌≡◌, refl, ap, subst, ◌∙◌}
use mathlib.Core.Bool.{Bool, true, false, ◌&&◌, ◌||◌, not, false≢true}
use mathlib.Core.List.{List, [], ◌∷◌, ◌++◌}
use lib.IntN.{pos, negsuc}
use Prim.Native.Nat.{ℕ, ◌%◌}
use borrow.Author.Tests.{eqb-true, eq-eqb}
use lib.Dec.{eqb}
use Rattle.finite.proofs.Tests.{and_left, and_right, and_parts, or_second}
use Rattle.flow.proofs.Certificates.{certified, certified_least}
use Rattle.embedding.specs.Plates.{pick, darts, plate_fault}
use Rattle.shapes.specs.Shapes.{meets, bends}
use Rattle.shapes.specs.Turns.{turn_sum}
use Rattle.shapes.specs.Claims.{Best, Accepted, is_flow}
use Rattle.shapes.specs.Rates.{unrated}
use Rattle.shapes.specs.NetworkOf.{is_joint, rated_of}
use Rattle.shapes.specs.Tried.{Row, loop, rows, given, row_holds, rows_hold, rows_best, f0, f1, f2}
use Rattle.shapes.proofs.Apart.{apart}
use Rattle.shapes.proofs.Unpriced.{fair_unpriced, unrated_flow, unrated_best}
use Rattle.shapes.proofs.Accepted.{faultless, ordered, sound_by}

-- P1 to P8, and the strip from a post to itself
pub table_holds : rows_hold rows ≡ true
table_holds = refl

-- what a row without a fault says
pub row_says : (r : Row) → row_holds r ≡ true → r.fault ≡ 0 → (plate_fault r.tried ≡ 0) × (meets r.tried (given r) ≡ true) × (bends (given r) ≡ r.total)
row_says r e z =
    let ok = meets r.tried (given r) in
    let as_many = eqb (bends (given r)) r.total in
    let shaped : ok && as_many ≡ true =
    subst (λ (n : ℕ). pick (eqb n 0) (ok && as_many) true ≡ true) z (and_right (eqb (plate_fault r.tried) r.fault) (pick (eqb r.fault 0) (ok && as_many) true) e) in
    (eqb-true _ _ (and_left (eqb (plate_fault r.tried) r.fault) (pick (eqb r.fault 0) (ok && as_many) true) e) ∙ z, and_left ok as_many shaped, eqb-true _ _ (and_right ok as_many shaped))

-- ---- the best shapes

-- what a bend and a cornered post cost
abbrev bend : ℕ
bend = 4294967297

abbrev corner : ℕ
corner = 65536

-- the network's potentials of posts and faces, row by row; P8 has no shape
abbrev potentials : List (List ℕ)
potentials =
    (0 ∷ 0 ∷ 0 ∷ bend ∷ [])
    ∷ (0 ∷ 0 ∷ 0 ∷ 0 ∷ bend ∷ [])
    ∷ (0 ∷ 0 ∷ 0 ∷ 0 ∷ 0 ∷ corner ∷ [])
    ∷ (0 ∷ 0 ∷ 0 ∷ [])
    ∷ (0 ∷ 0 ∷ 0 ∷ 0 ∷ 0 ∷ 0 ∷ [])
    ∷ (0 ∷ 0 ∷ 0 ∷ 0 ∷ [])
    ∷ (bend ∷ bend ∷ 0 ∷ bend ∷ 0 ∷ [])
    ∷ []
    ∷ (0 ∷ 0 ∷ bend ∷ [])
    ∷ []

-- a row's right bends, and its angles on the two arcs of each corner
abbrev flow_of : Row → List ℕ
flow_of r = r.rights ++ apart (is_joint r.tried) (darts r.tried) r.angles

abbrev is_least : Row → List ℕ → Bool
is_least r pot =
    let p = r.tried in
    eqb (plate_fault p) 0 && (eqb (darts p % 2) 0 && (is_flow p r.angles r.rights && certified (rated_of p unrated) pot (flow_of r)))

abbrev are_least : List Row → List (List ℕ) → Bool
are_least [] pots = true
are_least (r ∷ rs) [] = false
are_least (r ∷ rs) (pot ∷ pots) = (not (eqb r.fault 0) || is_least r pot) && are_least rs pots

row_best : (r : Row) (pot : List ℕ) → is_least r pot ≡ true → Best r.tried (given r)
row_best r pot e =
    let p = r.tried in
    let first = and_parts (eqb (plate_fault p) 0) _ e in
    let second = and_parts (eqb (darts p % 2) 0) _ first.1 in
    let third = and_parts (is_flow p r.angles r.rights) (certified (rated_of p unrated) pot (flow_of r)) second.1 in
    let a : Accepted p = record { no_fault = eqb-true (plate_fault p) 0 first.0; even_darts = eqb-true (darts p % 2) 0 second.0 } in
    unrated_best p (faultless p a) (ordered p a) r.angles r.rights third.0
    (certified_least (rated_of p unrated) pot (flow_of r) third.1 (sound_by p a unrated (fair_unpriced [])) (unrated_flow p (ordered p a) r.angles r.rights third.0))

each_best : (rs : List Row) (pots : List (List ℕ)) → are_least rs pots ≡ true → rows_best rs
each_best [] pots e = tt
each_best (r ∷ rs) [] e = absurd (false≢true e)
each_best (r ∷ rs) (pot ∷ pots) e =
    let both = and_parts (not (eqb r.fault 0) || is_least r pot) (are_least rs pots) e in
    (λ z. row_best r pot (or_second (not (eqb r.fault 0)) (is_least r pot) both.0 (ap not (eq-eqb r.fault 0 z))), each_best rs pots both.1)

-- P1 to P7, and the strip from a post to itself
pub table_best : rows_best rows
table_best = each_best rows potentials refl

-- the last row
pub loop_best : Best loop.tried (given loop)
loop_best = table_best.1.1.1.1.1.1.1.1.0 refl

-- P9: − 4, + 4, + 4
pub example_turns : (turn_sum (0 ∷ 1 ∷ 2 ∷ 3 ∷ 4 ∷ []) f0.angles f0.words ≡ negsuc 3)
    × (turn_sum (0 ∷ 1 ∷ 2 ∷ []) f1.angles f1.words ≡ pos 4)
    × (turn_sum (0 ∷ 1 ∷ 2 ∷ 3 ∷ []) f2.angles f2.words ≡ pos 4)
example_turns = (refl, refl, refl)
