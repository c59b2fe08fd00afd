-- The part of a list from a place on, as a slice of it is lent.
use mathlib.Core.Path.{◌≡◌}
use mathlib.Core.List.{List}
use Prim.Native.Nat.{ℕ, ◌-◌}
use native.Mathlib.Omega.{arith}
use lib.ListN.{length, take, drop, length-drop}
use lib.Seq.{take_all}

pub rest_lent : (s : List ℕ) (from : ℕ) → take (length s - from) (drop from s) ≡ drop from s
rest_lent s from = take_all (length s - from) (drop from s) (omega (arith, length-drop from s))
