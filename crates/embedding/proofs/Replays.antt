-- What the editor's steps leave: every step that is not refused holds the table and keeps the outer part outer, the table is read cyclically, and a replay of an accepted plate ends with an accepted one.
use mathlib.Core.Path.{◌≡◌, refl, ◌∙◌}
use mathlib.Core.Bool.{Bool, true, false}
use mathlib.Core.List.{List, [], ◌∷◌}
use Prim.Native.Nat.{◌+◌}
use native.Mathlib.Omega.{arith}
use borrow.Author.Tests.{eqb-true}
use lib.Dec.{eqb}
use lib.ListN.{length}
use Rattle.embedding.specs.Plates.{pick, Plate, faces}
use Rattle.embedding.specs.Read.{Accepted}
use Rattle.embedding.specs.Edits.{split, hang, join, SameTable}
use Rattle.embedding.specs.Journal.{step_fault, stepped, new_faces, StepTable, StepHolds, replayed, Editing}
use Rattle.embedding.specs.declared.journal.Step.{Step}
use Rattle.embedding.specs.declared.journal.Step.TheVariants.{Split, Hang, Join}
use Rattle.embedding.proofs.Editing.{accepted_ordered, split_holds, split_accepted, hang_holds, hang_accepted, join_holds, join_accepted}
use Rattle.embedding.proofs.Cyclic.{faces_same, split_fault_same, hang_fault_same, join_fault_same, split_same, hang_same, join_same}
use Rattle.embedding.proofs.Outer.{outer_stays}

step_table : (p : Plate) → Accepted p → (t : Step) → step_fault p t ≡ 0 → StepTable p t (stepped p t)
step_table p a (Split s) h = split_holds p a s h
step_table p a (Hang d) h = hang_holds p a d h
step_table p a (Join d e) h = join_holds p a d e h

step_accepted : (p : Plate) → Accepted p → (t : Step) → step_fault p t ≡ 0 → Accepted (stepped p t) × (length (faces (stepped p t)) ≡ length (faces p) + new_faces t)
step_accepted p a (Split s) h = let r = split_accepted p a s h (split p s) (split_holds p a s h) in (r.0, omega (arith, r.1))
step_accepted p a (Hang d) h = let r = hang_accepted p a d h (hang p d) (hang_holds p a d h) in (r.0, omega (arith, r.1))
step_accepted p a (Join d e) h = join_accepted p a d e h (join p d e) (join_holds p a d e h)

step_holds : (p : Plate) → Accepted p → (t : Step) → step_fault p t ≡ 0 → StepHolds p t
step_holds p a t h =
    let r = step_accepted p a t h in
    let table = step_table p a t h in
    record { accepted = r.0; table = table; face_count = r.1; outer = outer_stays p a t h (stepped p t) table }

-- p and q hold the same table, read cyclically
module _ (p q : Plate) (a : Accepted p) (b : Accepted q) (same : SameTable p q) where
  faults_same : (t : Step) → step_fault q t ≡ step_fault p t
  faults_same (Split s) = split_fault_same p q (accepted_ordered p a) same s
  faults_same (Hang d) = hang_fault_same p q (accepted_ordered p a) same d
  faults_same (Join d e) = join_fault_same p q (accepted_ordered p a) same d e

  steps_same : (t : Step) → step_fault p t ≡ 0 → SameTable (stepped p t) (stepped q t)
  steps_same (Split s) h = split_same p q (accepted_ordered p a) same s (split p s) (split q s) (split_holds p a s h) (split_holds q b s (faults_same (Split s) ∙ h))
  steps_same (Hang d) h = hang_same p q (accepted_ordered p a) same d (hang p d) (hang q d) (hang_holds p a d h) (hang_holds q b d (faults_same (Hang d) ∙ h))
  steps_same (Join d e) h = join_same p q (accepted_ordered p a) same d e (join p d e) (join q d e) (join_holds p a d e h) (join_holds q b d e (faults_same (Join d e) ∙ h))

replay_accepted : (p : Plate) → Accepted p → (ts : List Step) → Accepted (replayed p ts)
replay_accepted p a [] = a
replay_accepted p a (t ∷ ts) = by (eqb (step_fault p t) 0) (eqb-true (step_fault p t) 0) (λ h. replay_accepted (stepped p t) (step_accepted p a t h).0 ts)
  where
    by : (b : Bool) → (b ≡ true → step_fault p t ≡ 0) → (step_fault p t ≡ 0 → Accepted (replayed (stepped p t) ts)) → Accepted (pick b (replayed (stepped p t) ts) p)
    by true h go = go (h refl)
    by false h go = a

pub editing : Editing
editing =
    record {
      step = step_holds;
      same_faults = faults_same;
      same-faces = λ p q a b same. faces_same p q (accepted_ordered p a) same;
      same_steps = steps_same;
      replay = replay_accepted;
    }
