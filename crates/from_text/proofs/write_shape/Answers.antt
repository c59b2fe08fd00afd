-- What was written is within the memory, by the promise of `read_text`.
use Rattle.std.proofs.Common.{rules, ◌≡◌, ℕ, ◌≤◌, Result, Ok, Err, IfOk}
use Rattle.refusals.specs.declared.Refusal.{Refusal}
use Rattle.plates.specs.declared.encoding.Written.{Written}
use Rattle.plates.specs.Answers.{shaped_of}
use Rattle.texts.proofs.Within.{file_within}
use Rattle.from_text.proofs.write_shape.Goals as goal

abbrev long_of : Result Written Refusal → Result ℕ Refusal
long_of (Ok w) = Ok w.long
long_of (Err e) = Err e

within : (m : ℕ) (r : Result Written Refusal) → (shaped_of r).long ≤ m → IfOk (long_of r) (λ n. n ≤ m)
within m (Ok w) l = l
within m (Err e) l = tt

pub returns : goal.returns
returns c =
    let r = c.read_text.result in
    let told : c.map.result ≡ long_of r = search rules in
    rw told (within _ r (file_within c.args.list.now c.args.text.now c.args.out.now _ (shaped_of r) c.read_text.ensures))
