-- `put_before`: up to the place of x, y, and the rest.
use Prim.Native.Nat.{ℕ}
use lib.ListN.{length-replicate}
use Rattle.embedding.proofs.Words.{found, missing}
use Rattle.embedding.proofs.Fronted.{put_there, put_nowhere}
use Rattle.embedding.proofs.journal.put_before.Goals as goal

pub returns-in-Some : goal.returns-in-Some
returns-in-Some c =
    let a = c.args in
    let at = c.in-Some.at in
    let here = found a.x a.s.now at c.in-Some.ensures in
    put_there a.x a.y a.s.now at here.0 here.1 (length-replicate {A = ℕ} 256 0) c.append-before.ensures c.append-with.ensures c.append.ensures

pub returns-in-None : goal.returns-in-None
returns-in-None c = put_nowhere c.args.x c.args.y c.args.s.now (missing c.args.x c.args.s.now c.in-None.ensures) (length-replicate {A = ℕ} 256 0) c.append-in-None.ensures
