-- Two numbers, where there is a space and both are numbers.
use Rattle.std.proofs.Common.{rules, ◌≡◌, ◌∙◌, refl, None}
use Rattle.replaying.proofs.Words.{no_space, two_numbers}
use Rattle.replaying.proofs.lines.join_in.Goals as goal

pub returns-in_err-space : goal.returns-in_err-space
returns-in_err-space c =
    let told : c.from_residual.result ≡ None = search rules in
    told ∙ no_space c.args.numbers.now c.in_err-space.ensures

pub returns-in_err-dart : goal.returns-in_err-dart
returns-in_err-dart c =
    let told : c.from_residual-in_err-dart.result ≡ None = search rules in
    told ∙ two_numbers c.args.numbers.now c.in_ok-space.ensures c.in_err-dart.ensures refl

pub returns-in_err-other : goal.returns-in_err-other
returns-in_err-other c =
    let told : c.from_residual-in_err-other.result ≡ None = search rules in
    told ∙ two_numbers c.args.numbers.now c.in_ok-space.ensures c.in_ok-dart.ensures c.in_err-other.ensures

pub returns : goal.returns
returns c = two_numbers c.args.numbers.now c.in_ok-space.ensures c.in_ok-dart.ensures c.in_ok-other.ensures
