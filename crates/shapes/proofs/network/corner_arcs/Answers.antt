-- `corner_arcs`: a dart and its twin are two of 256.
use Rattle.shapes.proofs.Laid.{dart_fits}
use Rattle.shapes.proofs.network.corner_arcs.Goals as goal

pub twin_of-requires : goal.twin_of-requires
twin_of-requires c = (dart_fits c.args.q.now c.args.d c.requires).0

pub bounds-q-twin_of : goal.bounds-q-twin_of
bounds-q-twin_of c = rw c.twin_of.ensures (dart_fits c.args.q.now c.args.d c.requires).1
