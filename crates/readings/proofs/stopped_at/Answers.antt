-- By the contract of `go_on`, the pass that stopped has the state of the whole field, and by that of `answer` its number.
use mathlib.Core.Path.{refl, ap, ◌∙◌}
use native.Mathlib.Omega.{arith}
use lib.Seq.{length-take-le}
use Rattle.std.proofs.Common.{◌≡◌, List, ℕ, ◌%◌, length, [], ◌++◌, take, take-append-drop}
use Rattle.finite.proofs.Lent.{rest_lent}
use Rattle.embedding.specs.Plates.{plate}
use Rattle.embedding.specs.Pass.{state_of}
use Rattle.readings.proofs.stopped_at.Goals as goal

pub returns : goal.returns
returns c =
    let n = c.args.posts in
    let e = c.args.ends.now in
    let at = c.args.at in
    let front : length (take at e) ≡ at = length-take-le at e c.requires.3 in
    let even : length (take at e) % 2 ≡ 0 = omega (arith, front, c.requires.2) in
    let begun = c.go_on-begun.ensures.whole [] refl c.no_strips.ensures in
    let whole : c.go_on-whole.result ≡ state_of n e = c.go_on-whole.ensures.whole (take at e) even begun ∙ ap (state_of n) (ap (λ (r : List ℕ). take at e ++ r) (rest_lent e at) ∙ take-append-drop at e) in
    λ o x. c.answer.ensures.whole (plate n e o x) c.requires.0 c.requires.1 whole
