-- `write_listing`: the list's refusal, 24, or what is given of the best shape of its plate.
use mathlib.Core.Path.{sym, ap, subst, ◌∙◌}
use native.Mathlib.Omega.{arith}
use Rattle.refusals.specs.Numbers.{number_of}
use Rattle.refusals.proofs.Numbered.{some_number}
use Rattle.plates.specs.Answers.{listed_of}
use Rattle.plates.specs.Says.{all_bytes}
use Rattle.plates.specs.Claims.{NoneWithin}
use Rattle.plates.proofs.ListingSaid.{all-bytes, refused_said, none_said}
use Rattle.plates.proofs.Calls.{best_counts}
use Rattle.plates.proofs.write_listing.Goals as goal

pub returns-in-Err : goal.returns-in-Err
returns-in-Err c =
    let refusal = c.in-Err.refusal in
    refused_said (number_of refusal) c.args.list.now c.args.out.now _ (listed_of c.list_refused.result) c.in-Err.ensures.0 (some_number refusal) c.list_refused.ensures

pub list_counts-requires-clause-bytes : goal.list_counts-requires-clause-bytes
list_counts-requires-clause-bytes c = ap all_bytes c.in-Ok.ensures.1 ∙ all-bytes c.args.list.now (λ i. omega (arith, c.type_inv.list i))

pub list_counts-requires-clause-best : goal.list_counts-requires-clause-best
list_counts-requires-clause-best c = let k = c.counts.ensures in best_counts c.in-Ok.read c.in-Some.best c.in-Some.ensures k.0 k.1

pub returns-in-None : goal.returns-in-None
returns-in-None c =
    let own = c.in-Ok.ensures in
    none_said c.args.list.now c.args.out.now _ (listed_of c.list_refused-in-None.result) (sym own.0) (subst NoneWithin own.1 c.in-None.ensures) c.list_refused-in-None.ensures
