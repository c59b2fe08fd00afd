-- Tested prices are fair.
use mathlib.Core.Path.{sym, ◌∙◌}
use Rattle.shapes.proofs.StripLoops.{prices_fair}
use Rattle.bests.proofs.show_by.Goals as goal

pub best_by-requires : goal.best_by-requires
best_by-requires g c =
    let ok = c.prices_ok in
    prices_fair c.args.limits.now c.args.prices.now (sym ok.ensures ∙ c.if-not-prices_ok.false)
