-- `read_shape`: the refusal of the list's own reading, or the shape file.
use mathlib.Core.Path.{sym, ap, ◌∙◌}
use Prim.Native.Nat.{ℕ, ◌%◌}
use native.Mathlib.Omega.{arith}
use Rattle.plates.proofs.HeldLists.{list_few, list_even, held_many}
use Rattle.plates.proofs.reading.read_shape.Goals as goal

pub invariant_of-result : goal.invariant_of-result
invariant_of-result c =
    let l = c.args.list in
    let many = held_many l c.walked.ensures c.in_ok-shape.ensures.1 in
    record {
      counted = record {
        same_length = many.1 ∙ sym many.0;
        even_length = ap (λ (n : ℕ). n % 2) many.0 ∙ list_even l;
        most = omega (arith, many.0, list_few l);
      };
    }
