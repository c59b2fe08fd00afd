-- `fields::walk` meets the fields of the file. The invariant: what is left to walk gives the file's answer.
use Rattle.std.proofs.Common.{arith, ap, ◌+◌, length, length-drop}
use Rattle.std.proofs.lemmas.Result.{err_from_is_err_and}
use Rattle.fields.specs.Files.{head_long}
use Rattle.fields.proofs.Walked.{going_start, going_fault, going_met, going_done}
use Rattle.fields.proofs.walk.Goals as goal

pub loop-rest-init : goal.loop-rest-init
loop-rest-init c = going_start _ _ _

pub returns-in_err-field : goal.returns-in_err-field
returns-in_err-field c =
    let p = err_from_is_err_and c.from_residual.result c.from_residual.ensures.1 in
    rw (p.1, p.2) (going_fault c.loop-rest.invariant c.in-len1-up.len_at_least c.in_err-field.field-0.0 c.in_err-field.ensures.number)

pub loop-rest-smaller : goal.loop-rest-smaller
loop-rest-smaller c =
    let r = c.loop-rest.rest.now in
    omega (arith, ap length c.in_ok-field.ensures.met.rest, length-drop (3 + head_long r) r)

pub loop-rest-preserved : goal.loop-rest-preserved
loop-rest-preserved c =
    let m = c.in_ok-field.ensures in
    going_met c.loop-rest.invariant c.in-len1-up.len_at_least m.number _ _ _ _ _ m.met.slot m.met.content m.met.rest (omega arith) c.lowest_after-lowest.ensures

pub returns : goal.returns
returns c = going_done c.loop-rest.invariant (omega arith)
