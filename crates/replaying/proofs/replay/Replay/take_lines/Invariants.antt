-- `take_lines` takes one line after another. The invariant: how the replay stands, with the lines that are left, answers for the whole journal.
use lib.ListN.{take}
use Rattle.std.specs.Slice.Iter.{split_inclusive_rest}
use Rattle.replaying.proofs.Turns.{Going}
use Rattle.replaying.proofs.replay.Replay.take_lines.Given as goal

abbrev pub invariant-loop-line : goal.invariant-loop-line
invariant-loop-line l = Going (take l.initial.self.long l.initial.self.list) l.journal (split_inclusive_rest l.line-iterator) (take l.self.long l.self.list) l.self.line
