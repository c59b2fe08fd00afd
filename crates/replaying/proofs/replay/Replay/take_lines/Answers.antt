-- `take_lines` takes one line after another, up to the first that is refused or no step.
use mathlib.Core.Path.{◌≡◌, refl, ap, ◌∙◌}
use mathlib.Core.List.{List}
use Prim.Native.Nat.{ℕ}
use lib.Dec.{eqb}
use lib.ListN.{take}
use denote.Bor.{Bor}
use Rattle.std.proofs.Common.{rules, Err}
use Rattle.std.proofs.lemmas.List.Sorted.{answers_always}
use Rattle.replaying.specs.Lines.{step_in}
use Rattle.replaying.specs.Replays.{going, on_line}
use Rattle.replaying.proofs.Cuts.{cut_line, cut_now}
use Rattle.replaying.proofs.Turns.{going_on, going_ended, going_done}
use Rattle.replaying.proofs.replay.Replay.take_lines.Goals as goal

pub returns-in_err-take_line : goal.returns-in_err-take_line
returns-in_err-take_line c =
    let told : c.from_residual.result ≡ Err c.in_err-take_line.field-0.0 = search rules in
    let y = c.in-Some.ensures.steps in
    let key = y.1.2 (λ (b : ℕ). eqb b 10) (answers_always _ _ _ (λ f a r g h. search (rules, h))) in
    let cut = cut_line _ _ _ y.1.0 y.0 y.1.1 y.2 key.1 in
    rw told (going_ended c.loop-line.invariant y.2 refl c.in_err-take_line.field-0.0
    (c.in_err-take_line.ensures ∙ ap (λ (w : List ℕ). on_line (going (take c.loop-line.self.long c.loop-line.self.list) c.loop-line.self.line) (step_in w))
    (ap (λ (b : Bor (List ℕ)). b.now) c.unwrap_or.ensures ∙ cut_now cut c.strip_suffix.result c.in-Some.line refl c.strip_suffix.ensures.cases)))

pub loop-line-preserved : goal.loop-line-preserved
loop-line-preserved c =
    let y = c.in-Some.ensures.steps in
    let key = y.1.2 (λ (b : ℕ). eqb b 10) (answers_always _ _ _ (λ f a r g h. search (rules, h))) in
    let cut = cut_line _ _ _ y.1.0 y.0 y.1.1 y.2 key.1 in
    going_on c.loop-line.invariant y.2 refl c.in_ok-take_line.field-0
    (c.in_ok-take_line.ensures ∙ ap (λ (w : List ℕ). on_line (going (take c.loop-line.self.long c.loop-line.self.list) c.loop-line.self.line) (step_in w))
    (ap (λ (b : Bor (List ℕ)). b.now) c.unwrap_or.ensures ∙ cut_now cut c.strip_suffix.result c.in-Some.line refl c.strip_suffix.ensures.cases))
    cut.rest

pub returns : goal.returns
returns c = let y = c.in-None.ensures.steps in going_done c.loop-line.invariant y.0
