-- `of`: a key is one of the list, and those are below N.
use Prim.Native.Nat.{◌<◌}
use lib.ListN.{get_or}
use native.Mathlib.Omega.{arith}
use Rattle.finite.proofs.Members.{all_in, get_d_in}
use Rattle.shapes.proofs.judge.Keys.of.Goals as goal

pub returns : goal.returns
returns g c =
    let keys = c.args.self in
    let d = c.args.d in
    let key = get_or keys.by_dart.now d 0 in
    let below : key < g.row.N = all_in g.row.N key keys.by_dart.now keys.below (get_d_in keys.by_dart.now d (omega (arith, keys.long, c.requires))) in
    (c.from.ensures, omega arith)
