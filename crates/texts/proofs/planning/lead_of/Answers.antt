-- `texts::planning::lead_of`: the place of the first that is the number.
use Rattle.std.proofs.Common.{eqb, rules, tests}
use Rattle.std.proofs.lemmas.Iterator.{YieldsList-from_slice}
use Rattle.std.proofs.lemmas.Iterator.Search.{position_from_yields_List}
use Rattle.texts.proofs.FaceLeads.{place_found}
use Rattle.texts.proofs.planning.lead_of.Goals as goal

pub returns : goal.returns
returns c =
    let x = c.args.number in
    let found = position_from_yields_List (λ y. eqb y x) _ _ c.position-first.result c.position-first.ensures.ran (YieldsList-from_slice c.args.face.now cc) (λ y b q k. search (rules, tests)) in
    place_found x c.args.face.now found c.unwrap_or.ensures
