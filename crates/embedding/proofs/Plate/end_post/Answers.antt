-- `end_post`: where d's twin leaves.
use native.Mathlib.Omega.{arith}
use mathlib.Core.Path.{◌∙◌}
use Rattle.embedding.proofs.Refusing.{end_few, end_at}
use Rattle.embedding.proofs.Holding.{held_darts}
use Rattle.embedding.proofs.Plate.end_post.Goals as goal

pub twin_of-requires : goal.twin_of-requires
twin_of-requires c =
    let q = c.args.self in
    omega (arith, held_darts q.stands q.accepted)

pub bounds-self-twin_of : goal.bounds-self-twin_of
bounds-self-twin_of c = (end_few c.args.self c.args.d c.twin_of.result c.requires c.twin_of.ensures).0

pub returns : goal.returns
returns c =
    let t = c.twin_of in
    (c.from.ensures ∙ end_at c.args.self c.args.d t.result c.requires t.ensures, omega (arith, c.from.ensures, (end_few c.args.self c.args.d t.result c.requires t.ensures).1))
