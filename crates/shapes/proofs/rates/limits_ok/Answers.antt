-- `limits_ok`: the strips that have a limit are tried; the others keep theirs.
use Rattle.std.proofs.Common.{ℕ, List, rules, tests, arith, ap, ◌∙◌, ◌/◌, length}
use Rattle.std.specs.List.{list_all, zip}
use Rattle.std.proofs.lemmas.Iterator.{YieldsList-from_slice, YieldsList-from_zip}
use Rattle.std.proofs.lemmas.Iterator.Search.{all_from_yields_List}
use Rattle.shapes.proofs.StripLoops.{keeps, within_by}
use Rattle.shapes.proofs.rates.limits_ok.Goals as goal

pub returns : goal.returns
returns c =
    let ls = c.args.limits.now in
    let rights = c.args.counts.rights.now in
    all_from_yields_List keeps c.all.new.self _ c.all.result c.all.ensures.ran (YieldsList-from_zip {s = c.zip.result} (YieldsList-from_slice {s = c.zip.result.a} ls (search rules)) (YieldsList-from_slice {A = List ℕ} {s = c.zip.result.b} c.as_chunks.result.0.now (search rules))) (λ x b q k. search (rules, tests))
    ∙ ap (λ xs. list_all keeps (zip ls xs)) c.as_chunks.ensures.front
    ∙ within_by (length rights / 2) ls rights (omega (arith, c.args.counts.counted.same_length, c.args.counts.counted.even_length))
