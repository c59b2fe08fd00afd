-- `texts::scanning::read_word`: - or digits, and how many are 0.
use Rattle.std.proofs.Common.{ℕ, ◌<◌, ◌≤◌, ◌≡◌, ◌-◌, ◌∙◌, sym, ap, eqb, get_or, length, take, rules}
use Rattle.finite.proofs.Lent.{rest_lent}
use Rattle.plates.specs.Plates.{pick}
use Rattle.texts.specs.Parses.{space_read}
use Rattle.texts.proofs.ScanLaws.{word_got}
use Rattle.texts.proofs.scanning.read_word.Goals as goal

pub returns : goal.returns
returns c =
    let s = c.args.s.now in
    let run = c.run_long in
    let long = c.word_long-long in
    let some : 0 < long.result = search rules in
    let few : long.result ≤ 255 = search rules in
    let digits : length (take run.result s) ≡ run.result = search rules in
    let right = c.zeros_in-right in
    word_got s run.ensures.run (long.ensures ∙ ap (pick (eqb (get_or s 0 0) 45) 1) (digits ∙ run.ensures.run)) some few (ap space_read (sym (rest_lent s long.result)) ∙ c.in_ok-rest.ensures) right.ensures.zeros (ap (λ (k : ℕ). k - right.result) digits)
