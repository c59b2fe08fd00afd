-- `face_node`: a dart is one of 256.
use Rattle.shapes.proofs.Laid.{dart_fits}
use Rattle.shapes.proofs.network.face_node.Goals as goal

pub bounds-q-d : goal.bounds-q-d
bounds-q-d c = (dart_fits c.args.q.now c.args.d c.requires).0
