-- `chain`: the invariant is that the arcs below a are linked at both ends.
use Rattle.std.proofs.Common.{true, false, length}
use Rattle.residual.specs.Chains.{Linking}
use Rattle.residual.proofs.chains.chain.Given as goal

abbrev pub invariant-loop-a : goal.invariant-loop-a
invariant-loop-a l =
    Linking true l.arcs (length l.initial.outs.last.now) l.a l.outs.last.now l.outs.before.now l.outs.far.now
    × Linking false l.arcs (length l.initial.ins.last.now) l.a l.ins.last.now l.ins.before.now l.ins.far.now
