-- `lay_nodes`: the nodes below v are noted.
use lib.ListN.{length}
use Rattle.shapes.specs.Entries.{node, no_node, Begun}
use Rattle.shapes.proofs.network.lay_nodes.Given as goal

abbrev pub invariant-loop-v : goal.invariant-loop-v
invariant-loop-v l = Begun no_node (length l.initial.nodes) (node l.q) l.v l.nodes
