-- `texts::scanning::read_number`: digits, of which the first is no zero but where it is alone.
use Rattle.std.proofs.Common.{sym, ◌∙◌}
use Rattle.texts.proofs.ScanLaws.{number_got}
use Rattle.texts.proofs.scanning.read_number.Goals as goal

pub returns : goal.returns
returns c =
    let part = c.split_at.ensures in
    number_got c.args.s.now c.run_long.ensures.run part.front part.front_len (sym c.is_number.ensures ∙ c.if-not-is_number.false) part.back c.in_ok-rest.ensures c.number_in.ensures
