-- `replace` meets its contract.
use lib.ListN.{take}
use Rattle.embedding.proofs.Words.{found, missing}
use Rattle.embedding.proofs.Fronted.{replaced, not_replaced}
use Rattle.embedding.proofs.journal.replace.Goals as goal

pub returns-in-Some : goal.returns-in-Some
returns-in-Some c =
    let a = c.args in
    let at = c.in-Some.at in
    let here = found a.x (take a.long a.list) at c.in-Some.ensures in
    λ l f e d. replaced a.x a.y a.long a.list l f e at here.0 here.1 d

pub returns-in_default : goal.returns-in_default
returns-in_default c =
    let a = c.args in
    λ l f e d. not_replaced a.x a.y a.long a.list l f e (missing a.x (take a.long a.list) c.in_default.ensures)
