-- `lay_corners`: the corners below d have their arcs.
use mathlib.Core.Bool.{true, false}
use Rattle.shapes.specs.Entries.{corner_arc, CornersLaid}
use Rattle.shapes.proofs.network.lay_corners.Given as goal

abbrev pub invariant-loop-d : goal.invariant-loop-d
invariant-loop-d l = CornersLaid l.q.darts (corner_arc l.q true) (corner_arc l.q false) l.d l.initial.arcs l.arcs
