-- `group_sum`: the sums of the darts before d, whatever key and number `at` gives each; they are small.
use Prim.Native.Nat.{ℕ, ◌*◌, ◌≤◌}
use lib.ListN.{get_or}
use Rattle.shapes.proofs.Groups.{Adding, Gives}
use Rattle.shapes.proofs.judge.group_sum.Given as goal

abbrev pub invariant-loop-d : goal.invariant-loop-d
invariant-loop-d g l = ((key number : ℕ → ℕ) → Gives l.darts (goal.F-post g l.at) key number → Adding g.row.N l.darts key number l.d l.sums) × ((k : ℕ) → get_or l.sums k 0 ≤ l.d * 512)
