-- `edits::edit_list`: the list's refusal, the step's, or what the writer gives of the plate after it.
use mathlib.Core.Path.{ap, subst, ◌∙◌}
use mathlib.Core.List.{List}
use Prim.Native.Nat.{ℕ}
use Rattle.refusals.specs.Numbers.{fault_of}
use Rattle.embedding.proofs.Holding.{held_darts}
use Rattle.plates.specs.Answers.{listed_of}
use Rattle.plates.specs.Journal.{new_limit, new_price, EditSays}
use Rattle.edits.proofs.EditLaws.{edited_darts, step_gives}
use Rattle.edits.proofs.edit_list.Goals as goal

pub invariant_of-after : goal.invariant_of-after
invariant_of-after c =
    record {
      one_more = edited_darts c.in_ok-before.before.plate c.args.step c.apply-edited.ensures (ap fault_of c.in_ok-edited.was);
      few = held_darts c.apply-edited.result.plate.stands c.apply-edited.result.plate.accepted;
    }

pub returns : goal.returns
returns c =
    subst (λ (s : List ℕ). EditSays s c.args.step c.args.out.now c.write.new.out (listed_of c.write.result)) c.in_ok-before.ensures.1
    (step_gives c.in_ok-before.before c.args.step c.apply-edited.ensures (ap fault_of c.in_ok-edited.was) c.args.out.now c.write.new.out (listed_of c.write.result)
    (c.new_rate.ensures ∙ ap (λ (l : List ℕ). new_limit l c.args.step) c.limits.ensures) (c.new_rate-2.ensures ∙ ap (λ (l : List ℕ). new_price l c.args.step) c.prices.ensures) c.write.ensures)
