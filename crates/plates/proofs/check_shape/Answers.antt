-- `check_shape`: the list's refusal, the shape file's own, or the verdict on its counts.
use mathlib.Core.Path.{sym, ap, ◌∙◌}
use Rattle.std.proofs.Common.{rules}
use Rattle.plates.specs.Read.{shape_file_fault}
use Rattle.plates.specs.Says.{check_fault}
use Rattle.plates.proofs.CheckSound.{refused_check, file_refused_check}
use Rattle.plates.proofs.check_shape.Goals as goal

pub returns-in_err-file : goal.returns-in_err-file
returns-in_err-file c =
    let t = c.args.shape.now in
    let own = c.in_ok-read.ensures in
    file_refused_check c.args.list.now t (sym own.0) (search rules) (c.in_err-file.ensures.0 ∙ ap (λ l. shape_file_fault l t) own.1)

pub returns-in_err-check : goal.returns-in_err-check
returns-in_err-check c =
    let own = c.in_ok-read.ensures in
    let file = c.in_ok-file.ensures.1 in
    refused_check c.args.list.now c.args.shape.now (search rules) (c.in_err-check.ensures ∙ (λ i. check_fault ((file.0 ∙ own.1) i) (file.1 i)))
