-- `send_all`: what may still be added to the potentials bounds the units that are left.
use Rattle.std.proofs.Common.{arith}
use Rattle.flow.proofs.send.send_all.Goals as goal

pub total_left-rest-requires-in-loop-rest : goal.total_left-rest-requires-in-loop-rest
total_left-rest-requires-in-loop-rest c = omega (arith, c.in_ok-send_some.ensures.either.ready.budget 0)
