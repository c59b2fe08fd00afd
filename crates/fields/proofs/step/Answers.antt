-- `fields::step` meets the field at the front: its content and what is behind it are lent from the file.
use Rattle.std.proofs.Common.{rules, arith, ◌≡◌, ℕ, ◌+◌, get_or, sym, ap, ◌∙◌, false}
use lib.Dec.{ltb}
use lib.ListN.{take, drop}
use lib.Seq.{drop-drop}
use Rattle.finite.proofs.Lent.{rest_lent}
use Rattle.fields.specs.Files.{head_long}
use Rattle.fields.specs.Rules.{is_met, slot_of, keeps}
use Rattle.fields.proofs.Turns.{no_fault, wrong_length, past_end, long_told}
use Rattle.fields.proofs.step.Goals as goal

pub returns-then-is_wrong : goal.returns-then-is_wrong
returns-then-is_wrong c =
    let s = c.args.s.now in
    record {
      number = wrong_length c.args.in_order c.args.shape (is_met c.args.before.now.slots (slot_of c.args.shape (get_or s 0 0))) (ltb (get_or s 0 0) c.args.lowest) s (omega arith) (search rules) (search rules) (search rules) (long_told _ _ _ _ _ _ false c.rule_of.ensures (search rules) (c.if-is_wrong.ensures ∙ ap (keeps c.in_ok-rule.rule) c.joined-long.ensures));
      met = tt;
    }

pub returns-then-behind-long : goal.returns-then-behind-long
returns-then-behind-long c =
    let s = c.args.s.now in
    record {
      number = past_end c.args.in_order c.args.shape (is_met c.args.before.now.slots (slot_of c.args.shape (get_or s 0 0))) (ltb (get_or s 0 0) c.args.lowest) s (omega arith) (search rules) (search rules) (search rules) (search rules) (omega arith);
      met = tt;
    }

pub returns : goal.returns
returns c =
    let s = c.args.s.now in
    let n = c.joined-long.result in
    let e : n ≡ head_long s = c.joined-long.ensures in
    record {
      number =
          sym (no_fault c.args.in_order c.args.shape (is_met c.args.before.now.slots (slot_of c.args.shape (get_or s 0 0))) (ltb (get_or s 0 0) c.args.lowest) s
          (record { known = search rules; tag = search rules; new = search rules; above = search rules; long = search rules; size = omega arith }));
      met = record {
        slot = search rules;
        content = (search rules) ∙ ap (take n) (rest_lent s 3) ∙ ap (λ (m : ℕ). take m (drop 3 s)) e;
        rest = (search rules) ∙ ap (drop n) (rest_lent s 3) ∙ drop-drop n 3 s ∙ ap (λ (m : ℕ). drop (3 + m) s) e;
      };
    }
