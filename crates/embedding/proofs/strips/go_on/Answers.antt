-- `go_on` meets its contract: what is left, from the state so far, gives the state of all. `take_all`: a front part of what is left
-- may be split in its place, where it is all of it (must-fail `last_strip_left` splits one that is not).
use mathlib.Core.Path.{sym, ap, ◌∙◌}
use Rattle.std.proofs.Common.{rules}
use Rattle.std.proofs.lemmas.List.{take_all}
use native.Mathlib.Omega.{arith}
use lib.ListN.{drop_of_length-le}
use Rattle.embedding.proofs.OnePass.{gone_on}
use Rattle.embedding.proofs.Pairs.{go_pairs, pairs_of}
use Rattle.embedding.proofs.strips.go_on.Goals as goal

pub returns : goal.returns
returns c =
    let args = c.args in
    let n = args.posts in
    let rest = args.rest.now in
    let strips = c.as_chunks in
    let loop = c.loop-strip in
    gone_on n args.s rest loop.r
    (ap (go_pairs n loop.r) (sym (drop_of_length-le strips.result.0.now (omega (arith, c.loop-strip-test.false))))
    ∙ loop.invariant ∙ pairs_of n args.s rest (search (rules, take_all)) strips.ensures.front)
