-- `texts::write_text`: the list's refusal, the shape file's own, or what its counts give.
use Rattle.std.proofs.Common.{◌∙◌, ap, rules}
use Rattle.plates.specs.Read.{shape_file_fault}
use Rattle.plates.specs.Says.{check_fault}
use Rattle.texts.proofs.WriteLaws.{file_refused_write, check_refused}
use Rattle.texts.proofs.write_text.Goals as goal

pub returns-in_err-file : goal.returns-in_err-file
returns-in_err-file c =
    file_refused_write c.args.list.now c.args.shape.now c.args.out.now (search rules) c.in_ok-list.ensures.0 (c.in_err-file.ensures.0 ∙ ap (λ s. shape_file_fault s c.args.shape.now) c.in_ok-list.ensures.1)

pub returns-in_err-check : goal.returns-in_err-check
returns-in_err-check c =
    let list = c.in_ok-file.ensures.1.0 ∙ c.in_ok-list.ensures.1 in
    check_refused c.args.list.now c.args.shape.now c.args.out.now (search rules) (c.in_err-check.ensures ∙ (λ i. check_fault (list i) (c.in_ok-file.ensures.1.1 i)))
