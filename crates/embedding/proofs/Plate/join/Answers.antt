-- `join` meets its contract.
use Rattle.embedding.proofs.Plate.join.Goals as goal

pub returns : goal.returns
returns c = c.handed_back.ensures _ _ c.join_plate.ensures
