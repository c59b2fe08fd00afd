-- `read_more`: the plate that the lists make.
use Rattle.embedding.proofs.Fronted.{listed_read}
use Rattle.embedding.proofs.journal.read_more.Goals as goal

pub returns : goal.returns
returns c =
    let a = c.args in
    λ p n x l. listed_read p a.posts a.outer a.darts n x l c.read_plate.ensures
