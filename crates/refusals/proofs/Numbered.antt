-- Every refusal has a number other than 0.
use Rattle.std.proofs.Common.{◌≡◌}
use native.Mathlib.Omega.{arith}
use Rattle.refusals.specs.declared.Refusal.{Refusal}
use Rattle.refusals.specs.Numbers.{number_of}

pub some_number : (r : Refusal) → number_of r ≡ 0 → ⊥
some_number r e = grind arith
