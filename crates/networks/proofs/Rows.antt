-- Networks that stand one behind the other in a table: each is sound, by one test of all of them that computes.
use Rattle.std.proofs.Common.{◌≡◌, Bool, true, ◌&&◌, List, [], ◌∷◌, ℕ, zero, suc, ◌<◌, length, get_or, arith}
use Rattle.finite.proofs.Tests.{and_parts}
use Rattle.flow.specs.Network.{Network, Sound}
use Rattle.flow.specs.Nodes.{network_from}
use Rattle.networks.specs.declared.Network.{Network as Row}
use Rattle.flow.proofs.Checks.{long_as, fits, inside, checked_sound}

abbrev pub ok : Network → Bool
ok n = long_as n && (fits n && inside n)

-- the test of each element of a table, each read as a network
abbrev pub all_ok : {A : Type 0} → (A → Network) → List A → Bool
all_ok of [] = true
all_ok of (row ∷ rows) = ok (of row) && all_ok of rows

pub row_sound : {A : Type 0} (of : A → Network) (rows : List A) → all_ok of rows ≡ true → (k : ℕ) (d : A) → k < length rows → Sound (of (get_or rows k d))
row_sound of [] e k d l = absurd (omega arith)
row_sound of (row ∷ rows) e zero d l =
    let (long, rest) = and_parts _ _ (and_parts (ok (of row)) (all_ok of rows) e).0 in
    let (fit, in') = and_parts _ _ rest in
    checked_sound (of row) long fit in'
row_sound of (row ∷ rows) e (suc k) d l = row_sound of rows (and_parts (ok (of row)) (all_ok of rows) e).1 k d (omega arith)

-- an element of the program's table
abbrev pub row_of : Row → Network
row_of row = network_from row.arcs row.nodes
