-- `lay_bends`: the darts of the strips below i have their arcs.
use Prim.Native.Nat.{◌+◌}
use lib.ListN.{length}
use Rattle.shapes.specs.Rates.{rates}
use Rattle.shapes.specs.Entries.{bend_arc, no_arc, Begun}
use Rattle.shapes.proofs.network.lay_bends.Given as goal

abbrev pub invariant-loop-i : goal.invariant-loop-i
invariant-loop-i l = Begun no_arc (length l.initial.arcs) (bend_arc l.q (rates l.by.limits.now l.by.prices.now)) (l.i + l.i) l.arcs
