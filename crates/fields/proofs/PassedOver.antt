-- What request E9 asks of the walk, together. Assumes nothing.
use mathlib.Core.Path.{◌≡◌}
use mathlib.Core.Bool.{Bool, true, false}
use Prim.Native.Nat.{ℕ, ◌≤◌}
use native.Mathlib.Omega.{arith}
use lib.ListN.{length}
use borrow.Author.Tests.{leb-true}
use Rattle.fields.specs.Files.{long_ok}
use Rattle.fields.specs.Remarks.{remark_tag, PassedOver}
use Rattle.fields.proofs.Replaced.{remark_long, replaced}
use Rattle.fields.proofs.Remarked.{remark_fits, removed, added}

remark_most : (k : Bool) (n : ℕ) → long_ok k (remark_tag k) n ≡ true → n ≤ 80
remark_most true n h = leb-true n 80 h
remark_most false n h = leb-true n 80 h

pub passed_over : PassedOver
passed_over = record {
  counted = λ k fs c y l e. omega (arith, remark_most k (length c) (remark_fits k fs c y e));
  replaced = replaced;
  removed = removed;
  added = λ k fs c y l. added k fs c y (remark_long k c l);
}
