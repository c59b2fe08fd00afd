-- `solve`: the potentials start as zeros.
use Rattle.std.proofs.Common.{arith}
use Rattle.std.proofs.lemmas.List.{length-map}
use Rattle.flow.specs.declared.nodes.Node.{Node}
use Rattle.flow.proofs.Fills.{zeros_part}
use Rattle.flow.proofs.solve.solve.Goals as goal

pub solve_in-requires-clause-pot_zeros : goal.solve_in-requires-clause-pot_zeros
solve_in-requires-clause-pot_zeros c = zeros_part _ 255 (omega (arith, length-map c.args.nodes.now (λ (node : Node). node.supply), c.requires.sound.nodes_few))
