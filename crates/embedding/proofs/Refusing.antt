-- What a step is refused by, from the plate as held; the verdict of a step.
use mathlib.Core.Path.{◌≡◌, refl, sym, ap, subst, ◌∙◌}
use mathlib.Core.Bool.{Bool, true, false, not}
use Prim.Native.Nat.{ℕ, ◌<◌}
use native.Mathlib.Omega.{arith}
use borrow.Author.Tests.{eqb-true, eq-eqb, ne_eqb, lt-leb}
use lib.Dec.{eqb}
use lib.ListN.{get_or}
use Rattle.finite.proofs.Tables.{up_below}
use Rattle.finite.proofs.Tests.{same_test}
use Rattle.embedding.specs.Plates.{is_in, Plate, darts, twin, ends_at, degree, face_of, faces}
use Rattle.embedding.specs.Read.{meant, Stands, Reads, Accepted, lead, place_of, face_number}
use Rattle.embedding.specs.Edits.{no_face}
use Rattle.embedding.specs.Journal.{SteppedTo}
use Rattle.embedding.specs.declared.Plate.{Plate as Held}
use Rattle.refusals.specs.declared.Refusal.{Refusal}
use Rattle.std.proofs.Common.{Result}
use Rattle.embedding.proofs.Rotation.{Ordered, twin_dart}
use Rattle.embedding.proofs.Totals.{ends_at_below}
use Rattle.embedding.proofs.Faces.{lead_of_face, lead_face, lead_in_face, face_same}
use Rattle.embedding.proofs.Faultless.{faultless}
use Rattle.embedding.proofs.Answers.{number_lead}
use Rattle.embedding.proofs.Editing.{accepted_ordered}
use Rattle.embedding.proofs.Holding.{held_darts, held_degree, held_end}

module _ (q : Held) where
  abbrev p : Plate
  p = meant q

  abbrev s : Stands q (meant q)
  s = q.stands

  abbrev a : Accepted (meant q)
  a = q.accepted

  o : Ordered p
  o = accepted_ordered p a

  -- where d ends
  pub end_at : (d t : ℕ) → d < q.darts → t ≡ twin d → get_or q.ends t 0 ≡ ends_at p d
  end_at d t l e =
      ap (λ (i : ℕ). get_or q.ends i 0) e ∙ held_end s a (twin d) (omega (arith, twin_dart p o d (omega (arith, s.dart_count)), s.dart_count))

  pub end_few : (d t : ℕ) → d < q.darts → t ≡ twin d → (t < 256) × (get_or q.ends t 0 < 64)
  end_few d t l e =
      let k : d < darts p = omega (arith, s.dart_count) in
      (omega (arith, twin_dart p o d k, s.dart_count, held_darts s a), omega (arith, end_at d t l e, ends_at_below p o d k, (faultless p a.no_fault).posts_most))

  -- the places taken at the post where d ends, as held
  pub degree_at : (d v : ℕ) → d < q.darts → v ≡ ends_at p d → get_or q.degrees v 0 ≡ degree p v
  degree_at d v l e = held_degree s a v (omega (arith, ends_at_below p o d (omega (arith, s.dart_count))))

  -- one face
  face_at : (d : ℕ) → d < darts p → get_or q.face d 0 ≡ face_number p d
  face_at d l = s.face_numbers.at d (omega (arith, held_darts s a, s.dart_count)) ∙ up_below (darts p) (face_number p) d l

  same_face : (d e : ℕ) → d < darts p → e < darts p → eqb (get_or q.face d 0) (get_or q.face e 0) ≡ is_in e (face_of p d)
  same_face d e l k =
      same_test (eqb (get_or q.face d 0) (get_or q.face e 0)) (is_in e (face_of p d))
      (λ h. there (sym (number_lead p o d l) ∙ ap (λ (i : ℕ). get_or (faces p) i 0) (sym (face_at d l) ∙ eqb-true (get_or q.face d 0) (get_or q.face e 0) h ∙ face_at e k) ∙ number_lead p o e k))
      (λ h. eq-eqb (get_or q.face d 0) (get_or q.face e 0) (face_at d l ∙ ap (λ (i : ℕ). place_of i (faces p)) (sym (lead_of_face p o d l e h)) ∙ sym (face_at e k)))
    where
      there : lead p d ≡ lead p e → is_in e (face_of p d) ≡ true
      there h =
          face_same p o d l (lead p d) (lead_in_face p o d l) e
          ∙ subst (λ (i : ℕ). is_in e (face_of p i) ≡ true) (sym h) (lead_face p o e k)

  pub face_two : (d e : ℕ) → d < q.darts → e < q.darts → (d ≡ e → ⊥) → eqb (get_or q.face d 0) (get_or q.face e 0) ≡ not (no_face p d e)
  face_two d e l k n =
      same_face d e (omega (arith, s.dart_count)) (omega (arith, s.dart_count)) ∙ twice (is_in e (face_of p d))
      ∙ rw (lt-leb (darts p) d (omega (arith, s.dart_count)), lt-leb (darts p) e (omega (arith, s.dart_count)), ne_eqb d e n)
    where
      twice : (b : Bool) → b ≡ not (not b)
      twice true = refl
      twice false = refl

-- a step that is not refused, from the plate read
pub step_done : {fault : ℕ} {p : Plate} {r : Result Held Refusal} → fault ≡ 0 → Accepted p → Reads p r → SteppedTo fault p r
step_done e a h = record { number = h.number ∙ a.no_fault ∙ sym e; plate = h.plate }
