-- `texts::read_text`: the list's refusal, the text's, the counts', or their file.
use Rattle.std.proofs.Common.{rules}
use Rattle.texts.proofs.ReadLaws.{text_refused, counts_refused, file_given}
use Rattle.texts.proofs.read_text.Goals as goal

pub returns-in_err-read : goal.returns-in_err-read
returns-in_err-read c =
    text_refused c.in_ok-list.list c.in_ok-list.ensures.1 c.args.text.now c.args.out.now c.turns.ensures c.plan_of-plan.ensures (search rules) c.in_err-read.ensures.number

pub returns-in_err-check_counted : goal.returns-in_err-check_counted
returns-in_err-check_counted c =
    counts_refused c.in_ok-list.list c.in_ok-list.ensures.1 c.args.text.now c.args.out.now c.turns.ensures c.plan_of-plan.ensures c.in_ok-read.ensures.number c.in_ok-read.ensures.tables (search rules) c.in_err-check_counted.ensures

pub write_file-requires : goal.write_file-requires
write_file-requires c = file_given c.in_ok-list.list c.in_ok-list.ensures.1 c.args.text.now c.args.out.now c.turns.ensures c.plan_of-plan.ensures c.in_ok-read.ensures.number c.in_ok-read.ensures.tables c.counts.ensures.given.0 c.counts.ensures.given.1
