-- `take_line` holds the list after the step, or the list before it and why the line is not taken.
use mathlib.Core.Path.{◌≡◌, refl}
use lib.ListN.{take}
use Rattle.std.proofs.Common.{rules, Ok, Err, Some}
use Rattle.plates.specs.Answers.{listed_of}
use Rattle.replaying.specs.declared.replay.Stop.TheVariants as S
use Rattle.replaying.specs.Lines.{step_in}
use Rattle.replaying.proofs.Turns.{number_is, given_list, refused, taken}
use Rattle.replaying.proofs.replay.Replay.take_line.Goals as goal

pub returns-in_err-long : goal.returns-in_err-long
returns-in_err-long c =
    let r = c.in_err-long.field-0.0 in
    let told : c.from_residual-in_err-long.result ≡ Err (S.Refused r) = search rules in
    let x-is : Some c.in_ok-step.step ≡ step_in c.args.line.now = search rules in
    let s = take c.args.self.now.long c.args.self.now.list in
    rw told (refused s c.args.self.now.line c.in_ok-step.step x-is r
    (number_is s c.in_ok-step.step c.args.self.now.accepted _ c.edit_list.new.out (listed_of (Err r)) refl c.in_err-long.ensures))

pub invariant_of-self-2 : goal.invariant_of-self-2
invariant_of-self-2 c =
    let s = take c.args.self.now.long c.args.self.now.list in
    let g = given_list s c.in_ok-step.step c.args.self.now.accepted _ c.edit_list.new.out (listed_of (Ok c.in_ok-long.long)) refl c.in_ok-long.ensures refl in
    record { fits = g.fits; accepted = g.accepted }

pub returns : goal.returns
returns c =
    let x-is : Some c.in_ok-step.step ≡ step_in c.args.line.now = search rules in
    let s = take c.args.self.now.long c.args.self.now.list in
    let g = given_list s c.in_ok-step.step c.args.self.now.accepted _ c.edit_list.new.out (listed_of (Ok c.in_ok-long.long)) refl c.in_ok-long.ensures refl in
    taken s c.args.self.now.line c.in_ok-step.step x-is tt g.faultless g.list
