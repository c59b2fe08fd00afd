-- The verdict on a written shape: its counts are the only best ones, so it is sound, its sum the least, and ours. Assumes nothing.
use mathlib.Core.Path.{◌≡◌, sym, ap, subst, ◌∙◌}
use mathlib.Core.Bool.{true, false, ◌&&◌}
use mathlib.Core.List.{List}
use Prim.Native.Nat.{ℕ}
use Rattle.finite.proofs.Tests.{and_both}
use Rattle.shapes.proofs.RatedOrder.{one_best_by}
use Rattle.plates.specs.Plates.{Plate}
use Rattle.plates.specs.Shapes.{Shape, rights_of, total, same, Rates, BestBy, shape_of}
use Rattle.plates.specs.Files.{walk_all, plate_of, prices_of, rates_of, sum_of, shape_bytes}
use Rattle.plates.specs.Says.{angles_in, rights_in, CheckWith, WrittenVerdict}
use Rattle.shapes.proofs.Order.{same_itself}
use Rattle.plates.proofs.ReadsBack.{written_reads_back}

-- counts of the same best shape
pub same_counts : (p : Plate) (rs : Rates) (a r b q : List ℕ) → BestBy p rs (shape_of p a r) → rights_of (shape_of p a r).words ≡ r → BestBy p rs (shape_of p b q) → rights_of (shape_of p b q).words ≡ q → (total r ≡ total q) × (a ≡ b) × (r ≡ q)
same_counts p rs a r b q x m y n =
    let e : shape_of p a r ≡ shape_of p b q = one_best_by p rs (shape_of p a r) (shape_of p b q) x y in
    let rights : r ≡ q = sym m ∙ ap (λ (u : Shape). rights_of u.words) e ∙ n in
    (ap total rights, ap (λ (u : Shape). u.angles) e, rights)

both_same : (a b c d : List ℕ) → a ≡ b → c ≡ d → (same a b && same c d) ≡ true
both_same a b c d p q = rw (p, q) (and_both (same b b) (same d d) (same_itself b) (same_itself d))

pub written_verdict : WrittenVerdict
written_verdict s a r v e best counts says =
    let f = shape_bytes (walk_all false s).fields (shape_of (plate_of s) a r) in
    let (sound, angles, rights, long) = written_reads_back s a r e best.meets_all counts best.keeps_all in
    let (number, tot, named) = subst (λ (n : ℕ). CheckWith n s f v) sound says in
    let (b, q, best', counts', facts) = named in
    let (fewest, ours) = facts in
    let (totals, same-a, same-r) = same_counts (plate_of s) (rates_of s) b q a r best' counts' best counts in
    (number, tot ∙ ap total rights, fewest ∙ ap (sum_of (prices_of s)) same-r, ours ∙ both_same b (angles_in f) q (rights_in f) (same-a ∙ sym angles) (same-r ∙ sym rights))
