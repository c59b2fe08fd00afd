-- `hang` meets its contract.
use Rattle.embedding.proofs.Plate.hang.Goals as goal

pub returns : goal.returns
returns c = c.handed_back.ensures _ _ c.hang_plate.ensures
