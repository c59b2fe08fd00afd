-- `read_order` meets its contract.
use mathlib.Core.Path.{◌≡◌, refl}
use Prim.Native.Nat.{◌+◌, ◌≤◌, ℕ}
use lib.ListN.{length}
use Rattle.embedding.specs.Plates.{degree_from}
use Rattle.embedding.proofs.Counting.{gathering_start, gathering_more, gathering_not, gathering_done, part_ends, few_at, few_most}
use native.Mathlib.Omega.{arith}
use Rattle.embedding.proofs.reading.Lists.read_order.Goals as goal
use Rattle.embedding.proofs.reading.Lists.read_order.Goals.{After-from}

-- the end of post v's part, as the code has it
module _ (c : After-from) where
  abbrev v_now : ℕ
  v_now = c.loop-v.v

  abbrev end : ℕ
  end = c.loop-v.at + c.from.result

  end_is : end ≡ c.loop-v.at + degree_from v_now c.args.self.now.ends.now
  end_is = omega (arith, c.from.ensures, few_at c.requires.0 c.requires.2 v_now (omega arith))

  end_within : end ≤ length c.args.self.now.order.now
  end_within = part_ends c.loop-v.invariant (omega arith) c.requires.0 end end_is c.requires.1

  four_most : c.from.result ≤ 4
  four_most = omega (arith, c.from.ensures, few_most c.requires.0 c.requires.2 v_now)

pub loop-v-init : goal.loop-v-init
loop-v-init c = gathering_start _ _ _

pub overflow_add-end : goal.overflow_add-end
overflow_add-end c = omega (arith, end_within c)

pub slice_bounds-read_post-end : goal.slice_bounds-read_post-end
slice_bounds-read_post-end c = end_within (goal.at.slice_bounds-read_post-end c).After-from

pub returns-in_err-rows : goal.returns-in_err-rows
returns-in_err-rows c =
    let at = (goal.at.returns-in_err-rows c).After-from in
    rw c.from_residual.ensures (gathering_not c.loop-v.invariant (omega arith) c.requires.0 (end at) (end_is at) c.in_err-rows.ensures refl)

pub loop-v-preserved : goal.loop-v-preserved
loop-v-preserved c =
    let at = (goal.at.loop-v-preserved c).After-from in
    let row = c.in_ok-rows in
    gathering_more c.loop-v.invariant (omega arith) c.requires.0 (end at) (end_is at) row.ensures row.field-0 refl row.ensures.row

pub returns : goal.returns
returns c = gathering_done c.loop-v.invariant (omega arith) c.flatten.ensures
