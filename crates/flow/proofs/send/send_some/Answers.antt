-- `send_some`: the search of `explore` begins a phase; either it reaches a node that lacks something, or potentials have to rise.
use Rattle.flow.proofs.Phases.{explored_first}
use Rattle.flow.proofs.send.send_some.Goals as goal

pub send_raised-requires-clause-explored : goal.send_raised-requires-clause-explored
send_raised-requires-clause-explored c = explored_first _ _ _ _ _ _ c.requires.left_nonzero c.requires.loaded.ready c.in_default.ensures.sought
