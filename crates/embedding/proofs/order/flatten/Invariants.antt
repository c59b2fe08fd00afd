-- `flatten` meets its contract: the rows before v are copied.
use Prim.Native.Nat.{◌*◌, ◌/◌, ◌%◌}
use lib.ListN.{get_or}
use mathlib.Core.List.{[]}
use Rattle.finite.specs.Tables.{Table, up_to}
use Rattle.embedding.proofs.order.flatten.Given as goal

abbrev pub invariant-loop-v : goal.invariant-loop-v
invariant-loop-v l = Table 256 (up_to (4 * l.v) (λ j. get_or (get_or l.fn.rows (j / 4) []) (j % 4) 0)) l.all
