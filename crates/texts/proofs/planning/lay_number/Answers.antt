-- `texts::planning::lay_number`: the walk from the lowest dart of that face.
use Rattle.texts.proofs.LayingLaws.{number_room}
use Rattle.texts.proofs.planning.lay_number.Goals as goal

pub lay_face-requires : goal.lay_face-requires
lay_face-requires c = number_room c.args.plate.now c.requires c.lead_of-start.ensures
