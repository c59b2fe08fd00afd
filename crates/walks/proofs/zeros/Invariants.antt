-- `walks::zeros` stays within the memory.
use Rattle.std.proofs.Common.{◌≤◌, length}
use Rattle.walks.proofs.zeros.Given as goal

abbrev pub invariant-loop-tag : goal.invariant-loop-tag
invariant-loop-tag l = l.at ≤ length l.out
