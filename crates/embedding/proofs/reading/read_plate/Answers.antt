-- `read_plate` meets its contract: the refusals of the pass over the strips, and what is left.
use mathlib.Core.Path.{◌≡◌, sym, ap, subst, ◌∙◌}
use mathlib.Core.List.{List}
use Prim.Native.Nat.{ℕ, ◌≤◌}
use Rattle.std.proofs.Common.{rules, Err}
use Rattle.embedding.specs.Plates.{plate}
use Rattle.embedding.specs.Pass.{go_on, state_of, strips_fault, early_fault, Answered}
use Rattle.embedding.specs.Steps.{Few}
use Rattle.embedding.specs.Read.{Past}
use Rattle.embedding.specs.declared.strips.Strips.{Strips}
use Rattle.embedding.proofs.OnePass.{strips_few}
use Rattle.embedding.proofs.Whole.{early, strips_refused}
use Rattle.refusals.proofs.Numbered.{some_number}
use Rattle.embedding.proofs.reading.read_plate.Goals as goal
use Rattle.embedding.proofs.reading.read_plate.Goals.{After-answer}

-- the strips gone over
module _ (c : After-answer) where
  none : early_fault c.args.posts c.args.ends.now ≡ 0
  none = ap (λ (k : ℕ). early_fault k c.args.ends.now) (sym c.from.ensures) ∙ sym c.in_ok-check_counts.ensures

  few_posts : c.args.posts ≤ 64
  few_posts = (early c.args.posts c.args.ends.now none).posts_most

  state_is : c.go_on-strips.result ≡ state_of c.args.posts c.args.ends.now
  state_is =
      let e = c.args.ends.now in
      let n = c.from in
      c.go_on-strips.ensures.steps ∙ ap (λ (s : Strips). go_on n.result s e) c.no_strips.ensures ∙ ap (λ (k : ℕ). state_of k e) n.ensures

  fault_is : {n : ℕ} → Answered c.go_on-strips.result n → (o : List ℕ) (x : ℕ) → n ≡ strips_fault (plate c.args.posts c.args.ends.now o x)
  fault_is h o x = h.whole (plate c.args.posts c.args.ends.now o x) few_posts c.requires.1 state_is

  past : Answered c.go_on-strips.result 0 → Past c.args.posts c.args.ends.now c.go_on-strips.result.degrees
  past h =
      record {
        early = none;
        strips = λ o x. sym (fault_is h o x);
        few = subst (λ (s : Strips). Few c.args.posts c.args.ends.now s.degrees) (sym state_is) (strips_few (plate c.args.posts c.args.ends.now c.args.order.now c.args.outer) c.requires.1 few_posts (sym (fault_is h c.args.order.now c.args.outer)));
      }

pub returns-in_err-answer : goal.returns-in_err-answer
returns-in_err-answer c =
    let at = (goal.at.returns-in_err-answer c).After-answer in
    let refusal = c.in_err-answer.field-0.0 in
    let told : c.from_residual-in_err-answer.result ≡ Err refusal = search rules in
    rw told (strips_refused (plate c.args.posts c.args.ends.now c.args.order.now c.args.outer) (none at) refusal (fault_is at c.in_err-answer.ensures c.args.order.now c.args.outer) (some_number refusal))

pub read_rest-requires : goal.read_rest-requires
read_rest-requires c =
    let at = (goal.at.read_rest-requires c).After-answer in
    subst (λ (k : ℕ). Past k c.args.ends.now c.go_on-strips.result.degrees) (sym c.from.ensures) (past at c.in_ok-answer.ensures)
