-- `lay_network`: the arcs of the darts, then those of the corners, and the nodes; together they are the network.
use Rattle.shapes.proofs.Laid.{network_laid}
use Rattle.shapes.proofs.network.lay_network.Goals as goal

pub returns : goal.returns
returns c = network_laid c.args.q.now _ _ (rw c.requires.0 at c.lay_bends.ensures) c.lay_corners.ensures (rw c.requires.1 at c.lay_nodes.ensures)
