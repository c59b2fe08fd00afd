-- `embedding::strips::answer` meets its contract: 9 wins over 11.
use Rattle.embedding.proofs.OnePass.{answers}
use Rattle.embedding.proofs.strips.answer.Goals as goal

pub returns-then-s : goal.returns-then-s
returns-then-s c = answers c.args.s 9 (rw c.if-s.true)

pub returns-then-s-2 : goal.returns-then-s-2
returns-then-s-2 c = answers c.args.s 11 (rw (c.if-s.false, c.if-s-2.true))

pub returns : goal.returns
returns c = answers c.args.s 0 (rw (c.if-s.false, c.if-s-2.false))
