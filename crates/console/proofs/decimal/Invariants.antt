-- The number is at most 65,536, and the digits that are left go on from it.
use Rattle.std.proofs.Common.{drop, ◌≤◌, ◌≡◌}
use Rattle.console.specs.Decimals.{go_on, capped, decimal_in}
use Rattle.console.proofs.decimal.Given as goal

abbrev pub invariant-loop-digit : goal.invariant-loop-digit
invariant-loop-digit l = (l.value ≤ 65536) × (capped 65536 (go_on l.value (drop l.digit-index l.digits)) ≡ decimal_in l.digits)
