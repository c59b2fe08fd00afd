-- `best_in`: the network laid is that of the plate that q stands for; the flow solved on it is the best shape's, and a cut says that there is none.
use Rattle.embedding.specs.Read.{meant}
use Rattle.flow.specs.Network.{Best}
use Rattle.shapes.specs.Rates.{rates}
use Rattle.shapes.specs.NetworkOf.{rated_of}
use Rattle.shapes.proofs.Accepted.{sound_by, cut_no_shape}
use Rattle.shapes.proofs.Results.{units_small, shape_held}
use Rattle.shapes.proofs.best.best_in.Goals as goal
use Rattle.shapes.proofs.best.best_in.Goals.{In-Ok}

best_flow : (c : In-Ok) → Best (rated_of (meant c.args.q.now) (rates c.args.by.limits.now c.args.by.prices.now)) c.solve.new.x
best_flow c = rw c.lay_network.ensures at c.in-Ok.ensures

pub solve-requires-clause-sound : goal.solve-requires-clause-sound
solve-requires-clause-sound c = rw c.lay_network.ensures (sound_by _ c.args.q.now.accepted _ c.requires.0)

pub take_shape-requires : goal.take_shape-requires
take_shape-requires c =
    let q = c.args.q.now in
    units_small _ q.accepted _ c.requires.0 _ (best_flow c) _ q.stands.dart_count

pub returns-in-Ok : goal.returns-in-Ok
returns-in-Ok c =
    let q = c.args.q.now in
    let p = (goal.at.returns-in-Ok c).In-Ok in
    shape_held _ q.accepted _ c.requires.0 _ (best_flow p) _ q.stands.dart_count _ c.take_shape.ensures

pub returns-in-Err : goal.returns-in-Err
returns-in-Err c = cut_no_shape _ c.args.q.now.accepted _ c.requires.0 (rw c.lay_network.ensures at c.in-Err.ensures)
