-- `write_shape`: the list's refusal, 24, or what is given of the best shape of its plate.
use mathlib.Core.Path.{◌≡◌, sym, subst}
use Rattle.std.proofs.Common.{rules, Err}
use Rattle.refusals.specs.declared.Refusal.TheVariants.{NoShapeWithin}
use Rattle.plates.specs.Claims.{NoneWithin}
use Rattle.plates.specs.Answers.{shaped_of}
use Rattle.plates.specs.Says.{ShapeSays}
use Rattle.plates.proofs.Shaping.{none_says, best_says}
use Rattle.plates.proofs.Calls.{best_counts}
use Rattle.plates.proofs.write_shape.Goals as goal

pub returns-in_err-best : goal.returns-in_err-best
returns-in_err-best c =
    let s = c.args.list.now in
    let o = c.args.out.now in
    let none = c.in_err-best.ensures in
    let told : c.from_residual-in_err-best.result ≡ Err NoShapeWithin = search rules in
    let own = c.in_ok-read.ensures in
    rw told (none_says s o (sym own.0) (subst NoneWithin own.1 (rw none.ok_part at c.best.ensures)))

pub returns : goal.returns
returns c =
    let own = c.in_ok-read.ensures in
    let k = c.counts.ensures in
    let v = shaped_of c.write_file.result in
    let held = rw c.in_ok-best.ensures.ok_part at c.best.ensures in
    let best = best_counts c.in_ok-read.read c.in_ok-best.best held k.0 k.1 in
    subst (λ s. ShapeSays s c.args.out.now c.write_file.new.out v) own.1 (best_says c.in_ok-read.read.accepted best c.args.out.now c.write_file.new.out v c.write_file.ensures)
