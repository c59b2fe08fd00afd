-- `texts::parsing::take_entry`: an entry that is the plan's next, or any other.
use Rattle.std.proofs.Common.{◌∷◌, ◌<◌, [], ◌++◌, Some, ap, sym, subst, ◌∙◌, rules}
use Rattle.texts.specs.Plan.{laid}
use Rattle.texts.specs.Parses.{ReadSoFar, left_seen}
use Rattle.texts.proofs.FillLaws.{ends_same, ends_other, taken_late, taken_behind, other_dart, other_end, taken_planned}
use Rattle.texts.proofs.parsing.take_entry.Goals.{then-entry-d-via-then-entry-d, then-entry-d-via-else-entry-d+then-entry-turn}
use Rattle.texts.proofs.parsing.take_entry.Goals as goal

pub returns-in_err-left : goal.returns-in_err-left
returns-in_err-left c = λ plan es x once is filled. subst (λ r. ReadSoFar plan (es ++ x ∷ []) (left_seen r) c.args.counted.now) (sym c.from_residual.ensures) (taken_late x once is filled (ap left_seen c.in_err-left.was))

pub returns-in_err-turn : goal.returns-in_err-turn
returns-in_err-turn c = λ plan es x once is filled. subst (λ r. ReadSoFar plan (es ++ x ∷ []) (left_seen r) c.args.counted.now) (sym c.from_residual-in_err-turn.ensures) (taken_behind x once is filled _ c.in_err-turn.ensures.cases (ap left_seen c.in_ok-left.was))

pub returns-then-entry-d : goal.returns-then-entry-d
returns-then-entry-d c = λ plan es x once is filled.
    let there = ap left_seen c.in_ok-left.was in
    let first = c.in_ok-turn.ensures.cases.0 in
    elim c.then-entry-d.branch [
      | then-entry-d-via-then-entry-d w ↦ other_dart x once is filled _ _ (there ∙ ap (λ ts. Some (laid ts)) first) c.from-d.ensures (search rules) w.if-entry-d.true
      | then-entry-d-via-else-entry-d+then-entry-turn w ↦ other_end x once is filled _ _ (there ∙ ap (λ ts. Some (laid ts)) first) c.from-d.ensures (search rules) w.if-entry-d.false (ends_other _ _ w.if-entry-turn.true)
    ]

pub returns : goal.returns
returns c = λ plan es x once is filled.
    let there = ap left_seen c.in_ok-left.was in
    let first = c.in_ok-turn.ensures.cases.0 in
    let below : c.from-d.result < 256 = search rules in
    taken_planned x once is filled _ _ (there ∙ ap (λ ts. Some (laid ts)) first) c.from-d.ensures below c.if-entry-d.false (ends_same _ _ c.if-entry-turn.false)
