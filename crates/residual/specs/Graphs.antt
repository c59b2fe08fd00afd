-- What the structs of the code stand for: residual arcs, and space to search in.
use Rattle.std.specs.Prelude.{◌≡◌, List, ℕ, length}
use Rattle.residual.specs.declared.graph.Graph.{Graph}
use Rattle.residual.specs.declared.graph.ResidualGraph.{ResidualGraph}
use Rattle.residual.specs.declared.search.Space.{Space}
use Rattle.residual.specs.Residual.{Residual}
use Rattle.residual.specs.Arcs.{residual_from}

-- the arcs of a graph, with units on them and potentials of the nodes
abbrev pub residual_on : Graph → List ℕ → List ℕ → Residual
residual_on g x pot = residual_from g.most g.arcs.now x pot

-- the lists of residual arcs
abbrev pub lists_of : ResidualGraph → Residual
lists_of r = residual_on r.graph r.x.now r.pot.now

-- space to search in, by node: marks, arcs and a queue
pub record Workspace (nodes : ℕ) (space : Space) : Type 0 where
  pub dist_long : length space.dist.now ≡ nodes
  pub via_long : length space.via.now ≡ nodes
  pub queue_long : length space.queue.now ≡ nodes
