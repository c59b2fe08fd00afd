-- Arcs and nodes as the code holds them, as a network.
use Rattle.std.specs.Prelude.{List, map, ℕ}
use Rattle.residual.specs.declared.arcs.Arc.{Arc}
use Rattle.residual.specs.Arcs.{tails_of, heads_of, lowers_of, uppers_of, costs_of}
use Rattle.flow.specs.declared.nodes.Node.{Node}
use Rattle.flow.specs.Network.{Network, network}

abbrev pub supplies_of : List Node → List ℕ
supplies_of nodes = map (λ node. node.supply) nodes

abbrev pub demands_of : List Node → List ℕ
demands_of nodes = map (λ node. node.demand) nodes

abbrev pub network_from : List Arc → List Node → Network
network_from arcs nodes = network (tails_of arcs) (heads_of arcs) (lowers_of arcs) (uppers_of arcs) (costs_of arcs) (supplies_of nodes) (demands_of nodes)
