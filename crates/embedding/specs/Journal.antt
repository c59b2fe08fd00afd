-- The steps of the editor's journal: what a method hands back, a replay, and what request E11 asks of plates.
use Rattle.std.specs.Prelude.{◌≡◌, Result, IfOk, true, List, [], ◌∷◌, ℕ, ◌+◌, ◌<◌, eqb, length}
use Rattle.embedding.specs.Plates.{pick, pick_t, is_in, Plate, darts, face_of, faces}
use Rattle.refusals.specs.Numbers.{fault_of}
use Rattle.refusals.specs.declared.Refusal.{Refusal}
use Rattle.embedding.specs.Read.{meant, Accepted}
use Rattle.embedding.specs.Edits.{split, hang, join, split_fault, hang_fault, join_fault, SplitTable, HangTable, JoinTable, SameTable}
use Rattle.embedding.specs.declared.Plate.{Plate as Held}
use Rattle.embedding.specs.declared.journal.Step.{Step}
use Rattle.embedding.specs.declared.journal.Step.TheVariants.{Split, Hang, Join}
use Rattle.embedding.specs.declared.journal.Edited.{Edited}

-- a step with this fault, to the plate q: the verdict is the fault's; the plate is q where nothing is refused, and else the one before
pub record EditedTo (fault : ℕ) (q : Plate) (before : Held) (r : Edited) : Type 0 where
  pub number : fault_of r.verdict ≡ fault
  pub plate : pick_t (eqb fault 0) (meant r.plate ≡ q) (r.plate ≡ before)

-- a step with this fault, to the plate q: q, or the fault's refusal
pub record SteppedTo (fault : ℕ) (q : Plate) (r : Result Held Refusal) : Type 0 where
  pub number : fault_of r ≡ fault
  pub plate : IfOk r (λ h. meant h ≡ q)

-- a step of the journal: its refusal, and the plate after it
abbrev pub step_fault : Plate → Step → ℕ
step_fault p (Split s) = split_fault p s
step_fault p (Hang d) = hang_fault p d
step_fault p (Join d e) = join_fault p d e

abbrev pub stepped : Plate → Step → Plate
stepped p (Split s) = split p s
stepped p (Hang d) = hang p d
stepped p (Join d e) = join p d e

-- the faces that a step makes
abbrev pub new_faces : Step → ℕ
new_faces (Split s) = 0
new_faces (Hang d) = 0
new_faces (Join d e) = 1

-- q holds what the table would after a step
abbrev pub StepTable : Plate → Step → Plate → Type 0
StepTable p (Split s) q = SplitTable p s q
StepTable p (Hang d) q = HangTable p d q
StepTable p (Join d e) q = JoinTable p d e q

-- the part with the outer dart stays outer: of the old darts no other comes into its face, and none leaves it but by a join
pub record OuterStays (p : Plate) (t : Step) (q : Plate) : Type 0 where
  pub dart : q.outer ≡ p.outer
  pub part : (x : ℕ) → x < darts p → is_in x (face_of q q.outer) ≡ true → is_in x (face_of p p.outer) ≡ true
  pub whole : new_faces t ≡ 0 → (x : ℕ) → x < darts p → is_in x (face_of p p.outer) ≡ true → is_in x (face_of q q.outer) ≡ true

-- an accepted plate after a step that is not refused
pub record StepHolds (p : Plate) (t : Step) : Type 0 where
  pub accepted : Accepted (stepped p t)
  pub table : StepTable p t (stepped p t)
  pub face_count : length (faces (stepped p t)) ≡ length (faces p) + new_faces t
  pub outer : OuterStays p t (stepped p t)

-- a replay: a refused step ends it with the plate before
abbrev pub replayed : Plate → List Step → Plate
replayed p [] = p
replayed p (t ∷ ts) = pick (eqb (step_fault p t) 0) (replayed (stepped p t) ts) p

-- what request E11 asks of plates
pub record Editing : Type 0 where
  pub step : (p : Plate) → Accepted p → (t : Step) → step_fault p t ≡ 0 → StepHolds p t
  -- the table is read cyclically: where the orders of the posts begin changes no refusal, no face and no table after a step
  pub same_faults : (p q : Plate) → Accepted p → Accepted q → SameTable p q → (t : Step) → step_fault q t ≡ step_fault p t
  pub same-faces : (p q : Plate) → Accepted p → Accepted q → SameTable p q → (d : ℕ) → d < darts p → face_of q d ≡ face_of p d
  pub same_steps : (p q : Plate) → Accepted p → Accepted q → SameTable p q → (t : Step) → step_fault p t ≡ 0 → SameTable (stepped p t) (stepped q t)
  -- a replay of an accepted plate ends with an accepted one
  pub replay : (p : Plate) → Accepted p → (ts : List Step) → Accepted (replayed p ts)
