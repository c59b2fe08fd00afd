-- `texts::printing::text_long` adds up the entries of all darts: at most 256 of at most 600 bytes.
use Rattle.std.proofs.Common.{rules, arith, ◌∙◌, ◌≤◌, ◌^◌, length}
use Rattle.std.specs.List.{range_with_len}
use Rattle.std.proofs.lemmas.List.FromFn.{length-range_with_len}
use Rattle.std.proofs.lemmas.Iterator.{YieldsList-from_range, YieldsList-from_map}
use Rattle.std.proofs.lemmas.Iterator.Consumers.{sum_by_from_yields_List}
use Rattle.std.proofs.lemmas.Iterator.Adapters.{fits_from_length, at_most_from_yields_List}
use Rattle.texts.specs.Prints.{entry_long}
use Rattle.texts.proofs.PrintLaws.{long_by}
use Rattle.texts.proofs.printing.text_long.Goals as goal

pub sum-requires-clause-fits : goal.sum-requires-clause-fits
sum-requires-clause-fits c =
    let n = length c.args.counts.rights.now in
    let few : length (range_with_len 0 n) ≤ 256 = omega (arith, length-range_with_len 0 n, c.args.counts.counted.most) in
    fits_from_length _ _ 256 (2 ^ 64) (at_most_from_yields_List (YieldsList-from_range 0 n n c.map.ensures.source (omega arith)) few) c.map.ensures.closure (omega arith) (λ x r q k. search rules)

pub returns : goal.returns
returns c =
    let r = c.args.counts.rights.now in
    let n = length r in
    sum_by_from_yields_List (entry_long r) (range_with_len 0 n) c.map.result c.sum.result c.sum.ensures.ran (YieldsList-from_map _ (entry_long r) (YieldsList-from_range 0 n n c.map.ensures.source (omega arith)) c.map.ensures.closure (λ x s q k. search rules))
    ∙ long_by n r
