-- `take_shape`: the units of the darts come first, then two for each corner.
use Rattle.std.proofs.Common.{◌≡◌, ◌∙◌, sym, ap, rules, arith, length, take, drop, get_or}
use lib.Seq.{length-take-le, get_or-take}
use lib.ListN.{length-drop}
use Rattle.finite.specs.Base.{total}
use Rattle.finite.proofs.Tables.{table_list}
use Rattle.shapes.specs.Rates.{pair_sums}
use Rattle.shapes.proofs.Pairs.{sums_long}
use Rattle.shapes.proofs.Halves.{front_is}
use Rattle.shapes.proofs.best.take_shape.Goals as goal

pub returns : goal.returns
returns c =
    let m = c.args.darts in
    let x = c.args.x.now in
    let long : length (take m x) ≡ m = length-take-le m x (omega (arith, c.requires.long)) in
    let rights = table_list 256 (take m x) c.bytes_of-rights.result m (omega arith)
    (c.bytes_of-rights.ensures (λ i. get_or (take m x) i 0) (λ i r l e. let here : r ≡ get_or x i 0 = search rules in here ∙ sym (get_or-take m x i 0 l))) in
    record {
      rights = rights;
      angles = table_list 256 (pair_sums (drop m x)) c.bytes_of-angles.result m (omega (arith, sums_long m (drop m x) (omega (arith, c.requires.long, length-drop m x))))
          (c.bytes_of-angles.ensures (λ i. get_or (pair_sums (drop m x)) i 0) (λ i r l e. search rules));
      sum = c.total_bends-total.ensures ∙ ap total (front_is (take m x) c.bytes_of-rights.result m long c.requires.darts_most rights);
    }
