-- A refusal is told by its number: no two have the same.
use Rattle.std.proofs.Common.{◌≡◌}
use native.Mathlib.Omega.{arith}
use Rattle.refusals.specs.declared.Refusal.{Refusal}
use Rattle.refusals.specs.Numbers.{number_of}

pub same_refusal : (q r : Refusal) → number_of q ≡ number_of r → q ≡ r
same_refusal q r e = grind arith
