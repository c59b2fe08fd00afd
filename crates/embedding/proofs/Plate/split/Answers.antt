-- `split` meets its contract.
use Rattle.embedding.proofs.Plate.split.Goals as goal

pub returns : goal.returns
returns c = c.handed_back.ensures _ _ c.split_plate.ensures
