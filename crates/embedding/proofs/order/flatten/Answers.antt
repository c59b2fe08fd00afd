-- `flatten` meets its contract: the rows before v are copied.
use mathlib.Core.Path.{◌≡◌, ap, ap₂, ◌∙◌}
use mathlib.Core.List.{List, []}
use Prim.Native.Nat.{ℕ, ◌+◌, ◌-◌, ◌*◌, ◌/◌, ◌%◌}
use native.Mathlib.Omega.{arith}
use lib.ListN.{get_or, drop, length-drop}
use lib.Seq.{length-take-le}
use Rattle.finite.proofs.Tables.{table_none}
use Rattle.embedding.proofs.Counting.{row_laid}
use Rattle.embedding.proofs.order.flatten.Goals as goal

pub loop-v-init : goal.loop-v-init
loop-v-init c = table_none 256 _

pub loop-v-preserved : goal.loop-v-preserved
loop-v-preserved c =
    let v = c.loop-v.v in
    let new = c.copy_from_slice.new.self in
    let row : new ≡ get_or c.args.rows v [] = c.copy_from_slice.ensures.after in
    row_laid _ _ new v _ (omega arith) c.loop-v-test.true (omega (arith, c.copy_from_slice.ensures.len, length-take-le (4 * v + 4 - 4 * v) (drop (4 * v) c.loop-v.all), length-drop (4 * v) c.loop-v.all, c.loop-v.invariant.size)) c.loop-v.invariant
    (λ j l. ap (λ (r : List ℕ). get_or r j 0) row ∙ ap₂ (λ (a b : ℕ). get_or (get_or c.args.rows a []) b 0) {x = v} {y = (4 * v + j) / 4} {u = j} {v = (4 * v + j) % 4} (omega arith) (omega arith))
