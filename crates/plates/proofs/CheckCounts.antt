-- The check's number of a shape file that was read, from what the steps give that judge and count it, and its verdict. Assumes nothing.
use mathlib.Core.Path.{◌≡◌, refl, sym, ap, subst, ◌∙◌}
use mathlib.Core.Bool.{Bool, true, false, ◌&&◌}
use mathlib.Core.List.{List}
use Prim.Native.Nat.{ℕ}
use lib.ListN.{length}
use Rattle.std.specs.Prelude.{Result, Err}
use Rattle.refusals.specs.Numbers.{number_of, fault_of}
use Rattle.refusals.specs.declared.Refusal.{Refusal}
use Rattle.refusals.proofs.Numbered.{some_number}
use Rattle.embedding.specs.Read.{meant}
use Rattle.shapes.specs.Judge.{judgement}
use Rattle.plates.specs.Shapes.{total, same, pair_sums, all_within}
use Rattle.plates.specs.Files.{walk_all, plate_of, limits_of, prices_of, sum_of}
use Rattle.plates.specs.Claims.{BestCounts}
use Rattle.plates.specs.Answers.{verdict}
use Rattle.plates.specs.Says.{word, angles_in, rights_in, sum_true, check_fault, CheckWith, CheckSays}
use Rattle.plates.specs.declared.reading.ShapeFile.{ShapeFile}
use Rattle.plates.proofs.HeldLists.{list_darts}
use Rattle.plates.proofs.CheckSound.{file_many, judged_fault, total_fault, limit_fault, sum_fault, counts_pass}

module _ (f : ShapeFile) where
  abbrev s : List ℕ
  s = f.list.bytes.now

  abbrev t : List ℕ
  t = f.bytes.now

  pub counts_many : length f.counts.angles.now ≡ f.list.plate.darts
  counts_many = ap length f.angles ∙ (file_many s t f.accepted).0 ∙ sym (list_darts f.list)

  module _ {j : ℕ} (judged : j ≡ judgement (meant f.list.plate) f.counts.angles.now f.counts.rights.now) where
    number_is : j ≡ judgement (plate_of s) (angles_in t) (rights_in t)
    number_is = judged ∙ (λ i. judgement (f.list.table i) (f.angles i) (f.rights i))

    module _ (z : j ≡ 0) {n k : ℕ} (said : n ≡ word f.total.now) (sum : k ≡ total f.counts.rights.now) where
      pub file_total : (n ≡ k → ⊥) → 22 ≡ check_fault s t
      file_total = total_fault s t f.list.accepted f.accepted number_is z (said ∙ ap word f.total_said) (sum ∙ ap total f.rights)

      module _ (y : n ≡ k) {ls : List ℕ} (limits : ls ≡ limits_of s) {w : Bool} (within : w ≡ all_within ls (pair_sums f.counts.rights.now)) where
        within_is : w ≡ all_within (limits_of s) (pair_sums (rights_in t))
        within_is = within ∙ (λ i. all_within (limits i) (pair_sums (f.rights i)))

        pub file_limits : w ≡ false → 25 ≡ check_fault s t
        file_limits = limit_fault s t f.list.accepted f.accepted number_is z (said ∙ ap word f.total_said) (sum ∙ ap total f.rights) y within_is

        module _ (kept : w ≡ true) {v : Bool} (summed : v ≡ sum_true (walk_all false s).fields (walk_all true t).fields) where
          pub file_sum : v ≡ false → 39 ≡ check_fault s t
          file_sum = sum_fault s t f.list.accepted f.accepted number_is z (said ∙ ap word f.total_said) (sum ∙ ap total f.rights) y within_is kept summed

          pub file_sound : v ≡ true → 0 ≡ check_fault s t
          file_sound = counts_pass s t f.list.accepted f.accepted number_is z (said ∙ ap word f.total_said) (sum ∙ ap total f.rights) y within_is kept summed

  pub file_judged : {A : Type 0} {v : Result A Refusal} {r : Refusal} → v ≡ Err r → number_of r ≡ judgement (meant f.list.plate) f.counts.angles.now f.counts.rights.now → fault_of v ≡ check_fault s t
  file_judged {r = r} is q = ap fault_of is ∙ judged_fault s t f.list.accepted f.accepted (number_is q) (some_number r)

  -- a sound file, against the counts of the best shape
  pub file_verdict : {a x : List ℕ} {n fewest : ℕ} {ours : Bool} → check_fault s t ≡ 0 → BestCounts s a x → n ≡ total f.counts.rights.now → fewest ≡ sum_of (prices_of s) x → ours ≡ (same a f.counts.angles.now && same x f.counts.rights.now)
      → CheckSays s t (verdict 0 n fewest ours)
  file_verdict {a} {x} {n} {fewest} {ours} e best sum few own =
      subst (λ (k : ℕ). CheckWith k s t (verdict 0 n fewest ours)) (sym e)
      (refl, sum ∙ ap total f.rights, (a, x, best.best, best.counts, (few, own ∙ (λ i. same a (f.angles i) && same x (f.rights i)))))

-- the steps of the check
pub ruleset steps = (counts_many, file_total, file_limits, file_sum, file_sound)
