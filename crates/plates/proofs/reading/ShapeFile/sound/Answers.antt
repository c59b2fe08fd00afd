-- `sound`: the file's counts compared with those of the best shape.
use Rattle.std.proofs.Common.{rules, ap, ◌∙◌}
use Rattle.plates.specs.Files.{sum_of}
use Rattle.plates.proofs.Calls.{best_counts, sound_best}
use Rattle.plates.proofs.CheckCounts.{file_verdict}
use Rattle.plates.proofs.reading.ShapeFile.sound.Goals as goal

pub unwrap-best-requires : goal.unwrap-best-requires
unwrap-best-requires c =
    let f = c.args.self.now in
    let found = sound_best f.list.bytes.now f.bytes.now c.best.result c.requires c.best.ensures in
    rw found.1 (search rules)

pub returns : goal.returns
returns c =
    let f = c.args.self.now in
    let b = c.unwrap-best.result in
    let held = rw c.unwrap-best.ensures at c.best.ensures in
    let k = c.counts-ours.ensures in
    file_verdict f c.requires (best_counts f.list b held k.0 k.1) c.total.ensures (c.price_of.ensures ∙ ap (λ ps. sum_of ps c.counts-ours.result.rights.now) c.prices.ensures) c.is_same.ensures
