-- `texts::counting::both_ways`: some strip's pair has bends of both darts.
use Rattle.std.proofs.Common.{rules, tests, refl, ◌∙◌, ◌/◌, ap, length}
use mathlib.Core.Bool.{◌&&◌}
use lib.Dec.{ltb}
use lib.ListN.{get_or}
use Rattle.std.specs.List.{list_any}
use Rattle.std.proofs.lemmas.Iterator.{YieldsList-from_slice}
use Rattle.std.proofs.lemmas.Iterator.Search.{any_from_yields_List}
use Rattle.texts.proofs.OneWay.{ways_any}
use Rattle.texts.proofs.counting.both_ways.Goals as goal

pub returns : goal.returns
returns c =
    let r = c.args.rights.now in
    let both = λ (p : _). ltb 0 (get_or p 0 0) && ltb 0 (get_or p 1 0) in
    any_from_yields_List both _ _ c.any.result c.any.ensures.ran (YieldsList-from_slice c.as_chunks.result.0.now c.iter.ensures.rest) (λ x b q k. search (rules, tests))
    ∙ ap (list_any both) c.as_chunks.ensures.front ∙ ways_any (length r / 2) r refl
