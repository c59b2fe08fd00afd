-- `price_of`: each strip at its price, at most 128 of at most 131072.
use Rattle.std.proofs.Common.{ℕ, List, rules, arith, ap, ◌∙◌, ◌/◌, ◌≤◌, ◌^◌, length}
use Rattle.std.specs.List.{sum_by, enumerate_from}
use Rattle.std.proofs.lemmas.List.FromFn.{length-enumerate_from}
use Rattle.std.proofs.lemmas.Iterator.{YieldsList-from_slice, YieldsList-from_map}
use Rattle.std.proofs.lemmas.Iterator.Consumers.{YieldsList-from_enumerate, sum_by_from_yields_List}
use Rattle.std.proofs.lemmas.Iterator.Adapters.{fits_from_length, at_most_from_yields_List}
use Rattle.shapes.proofs.StripLoops.{priced, priced_by}
use Rattle.shapes.proofs.rates.price_of.Goals as goal

pub sum-requires-clause-fits : goal.sum-requires-clause-fits
sum-requires-clause-fits c =
    let strips : List (List ℕ) = c.as_chunks.result.0.now in
    let few : length (enumerate_from 0 strips) ≤ 128 = omega (arith, length-enumerate_from 0 strips, c.as_chunks.ensures.front_len, c.args.counts.counted.same_length, c.args.counts.counted.most) in
    fits_from_length _ _ 128 (2 ^ 32) (at_most_from_yields_List (YieldsList-from_enumerate {s = c.map.result.iter} (YieldsList-from_slice {A = List ℕ} {s = c.map.result.iter.iter} strips (search rules)) (search rules)) few) c.map.ensures.closure (omega arith) (λ x r q k. search rules)

pub returns : goal.returns
returns c =
    let ps = c.args.prices.now in
    let rights = c.args.counts.rights.now in
    let strips : List (List ℕ) = c.as_chunks.result.0.now in
    sum_by_from_yields_List (priced ps) (enumerate_from 0 strips) c.map.result c.sum.result c.sum.ensures.ran (YieldsList-from_map _ (priced ps) (YieldsList-from_enumerate {s = c.map.result.iter} (YieldsList-from_slice {A = List ℕ} {s = c.map.result.iter.iter} strips (search rules)) (search rules)) c.map.ensures.closure (λ x s q k. search rules))
    ∙ ap (λ xs. sum_by (priced ps) (enumerate_from 0 xs)) c.as_chunks.ensures.front
    ∙ priced_by (length rights / 2) ps rights (omega (arith, c.args.counts.counted.same_length, c.args.counts.counted.even_length))
