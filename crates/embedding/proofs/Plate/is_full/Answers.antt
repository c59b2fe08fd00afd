-- `is_full` meets its contract.
use Rattle.std.proofs.Common.{rules}
use Rattle.embedding.proofs.Refusing.{degree_at}
use Rattle.embedding.proofs.Plate.is_full.Goals as goal

pub returns : goal.returns
returns c = let v = c.end_post-v in search (rules, degree_at c.args.self c.args.d v.result c.requires.0 v.ensures.0)
