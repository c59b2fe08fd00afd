-- What a step over a list promises, from what its parts give: the list's refusal, the step's, 16, or the list after the step. Assumes nothing.
use mathlib.Core.Path.{◌≡◌, sym, ap, subst, ◌∙◌}
use mathlib.Core.Bool.{Bool, false}
use mathlib.Core.List.{List}
use Prim.Native.Nat.{ℕ, ◌+◌, ◌≤◌}
use native.Mathlib.Omega.{arith}
use borrow.Author.Tests.{eq-eqb}
use lib.ListN.{length}
use Rattle.refusals.specs.Numbers.{fault_of}
use Rattle.fields.specs.Writing.{Written}
use Rattle.embedding.specs.Read.{meant}
use Rattle.embedding.specs.Journal.{EditedTo}
use Rattle.embedding.specs.declared.Plate.{Plate as Held}
use Rattle.embedding.specs.declared.journal.Edited.{Edited}
use Rattle.plates.specs.Answers.{Listed, listed}
use Rattle.plates.specs.Plates.{Plate, pick_t, first_of}
use Rattle.plates.specs.Files.{walk_all, plate_of, limits_of, prices_of}
use Rattle.plates.specs.Listing.{Gives}
use Rattle.plates.specs.Ordering.{bytes_in}
use Rattle.plates.specs.declared.reading.PlateList.{PlateList}
use Rattle.plates.specs.Journal.{Step, step_fault, stepped, new_limit, new_price, grown_fields, edit_fault, EditWith, EditSays}
use Rattle.plates.proofs.Journal.{step_darts}
use Rattle.plates.proofs.ListingRows.{gives_whole}
use Rattle.edits.specs.Writes.{grown_bytes}

-- the whole list written at the front of lent memory
pub written_gives : (b o : List ℕ) {o' : List ℕ} {n : ℕ} → length b ≤ length o → Written 0 b o o' n → Gives b o o' (listed 0 n)
written_gives b o {o'} {n} fits w =
    let e : length b ≡ n = omega (arith, w.behind) in
    subst (λ (k : ℕ). Gives b o o' (listed 0 k)) e (gives_whole b o fits w.bytes)

-- the plate after a step that was not refused
module _ (p : Plate) (t : Step) {before : Held} {r : Edited} (h : EditedTo (step_fault p t) (stepped p t) before r) (z : fault_of r.verdict ≡ 0) where
  pub no_step_fault : step_fault p t ≡ 0
  no_step_fault = sym h.number ∙ z

  pub edited_to : meant r.plate ≡ stepped p t
  edited_to = subst (λ (b : Bool). pick_t b (meant r.plate ≡ stepped p t) (r.plate ≡ before)) (eq-eqb (step_fault p t) 0 no_step_fault) h.plate

-- it has one strip more
pub edited_darts : (b : Held) (t : Step) {r : Edited} → EditedTo (step_fault (meant b) t) (stepped (meant b) t) b r → fault_of r.verdict ≡ 0 → r.plate.darts ≡ b.darts + 2
edited_darts b t {r} h z =
    omega (arith, r.plate.stands.dart_count, ap (λ (p : Plate). length p.ends) (edited_to (meant b) t h z), step_darts (meant b) t, b.stands.dart_count)

-- the list after the step is written, or 16
module _ (l : PlateList) (t : Step) {r : Edited} (h : EditedTo (step_fault (meant l.plate) t) (stepped (meant l.plate) t) l.plate r) (z : fault_of r.verdict ≡ 0) where
  abbrev s : List ℕ
  s = l.bytes.now

  plate_is : meant r.plate ≡ stepped (plate_of s) t
  plate_is = edited_to (meant l.plate) t h z ∙ ap (λ (p : Plate). stepped p t) l.table

  none : edit_fault s t ≡ 0
  none =
      ap (λ (k : ℕ). first_of k (step_fault (plate_of s) t)) l.accepted
      ∙ ap (λ (p : Plate). step_fault p t) (sym l.table) ∙ no_step_fault (meant l.plate) t h z

  pub step_gives : (o o' : List ℕ) (v : Listed) {limit price : ℕ} → limit ≡ new_limit (limits_of s) t → price ≡ new_price (prices_of s) t → Gives (grown_bytes s (meant r.plate) limit price) o o' v → EditSays s t o o' v
  unfolding grown_bytes
  step_gives o o' v e f g =
      subst (λ (k : ℕ). EditWith k s t o o' v) (sym none)
      (subst (λ (b : List ℕ). Gives b o o' v) (λ i. bytes_in (grown_fields (walk_all false s).fields (plate_is i) (e i) (f i))) g)
