-- `texts::scanning::number_in`: the number is folded as its digits come.
use Rattle.std.proofs.Common.{◌≡◌, ◌∙◌, rules}
use Rattle.std.proofs.iter.runs.Made.{chains}
use Rattle.std.specs.List.{fold}
use Rattle.texts.proofs.ScanLaws.{add_digit, number_folded}
use Rattle.texts.proofs.scanning.number_in.Goals as goal

pub returns : goal.returns
returns c =
    let told : c.fold.result ≡ fold add_digit 0 c.args.digits.now = search (rules, chains) in
    told ∙ number_folded c.args.digits.now
