-- `group_sum`: the sums of the darts before d, whatever key and number `at` gives each; they are small.
use Rattle.shapes.proofs.Groups.{adding_more, adding_done, few_more}
use native.Mathlib.Omega.{arith}
use Rattle.shapes.proofs.judge.group_sum.Goals as goal

pub loop-d-preserved : goal.loop-d-preserved
loop-d-preserved g c =
    let l = c.loop-d in
    let r = c.at-k.result in
    let small = c.requires.small l.d r (omega arith) c.at-k.ensures in (
      λ key number told.
          let given = told l.d r (omega arith) c.at-k.ensures in
          adding_more (l.invariant.0 key number told) (omega arith) given.0 small.0 (omega (arith, given.1)),
      few_more l.sums l.d r.0 r.1 l.invariant.1 small.1,
    )

pub returns : goal.returns
returns g c = λ key number told. adding_done (c.loop-d.invariant.0 key number told) (omega arith)
