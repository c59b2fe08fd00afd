-- The part with the outer dart stays outer: old darts in one face after a step were in one before it, and but for a join those that were in one still are.
use mathlib.Core.Path.{◌≡◌, sym, ap, subst, ◌∙◌}
use mathlib.Core.Bool.{true}
use mathlib.Core.List.{[], ◌∷◌}
use Prim.Native.Nat.{ℕ, suc, ◌*◌, ◌≤◌, ◌<◌}
use native.Mathlib.Omega.{arith}
use lib.ListN.{length, get_or, set, length-set, length-append}
use Rattle.embedding.specs.Plates.{is_in, Plate, darts, ends_at, face_of}
use Rattle.embedding.specs.Read.{lead, Accepted}
use Rattle.embedding.specs.Journal.{step_fault, new_faces, StepTable, OuterStays}
use Rattle.embedding.specs.declared.journal.Step.{Step}
use Rattle.embedding.specs.declared.journal.Step.TheVariants.{Split, Hang, Join}
use Rattle.embedding.proofs.Rotation.{Ordered}
use Rattle.embedding.proofs.Faces.{lead_of_face, same_face}
use Rattle.embedding.proofs.Faultless.{faultless}
use Rattle.embedding.proofs.Splitting.{split_ordered, split_lead}
use Rattle.embedding.proofs.Hanging.{hang_ordered, hang_lead}
use Rattle.embedding.proofs.Joining.{join_ordered, join_finer}
use Rattle.embedding.proofs.Editing.{accepted_ordered, split_room, hang_room, join_room, join_together}

-- d and e, in one face of p if they are in one of q
carried : (p q : Plate) → Ordered p → Ordered q → (d e : ℕ) → d < darts p → e < darts p → d < darts q → (lead q e ≡ lead q d → lead p e ≡ lead p d) → is_in e (face_of q d) ≡ true → is_in e (face_of p d) ≡ true
carried p q o u d e l k m finer i = same_face p o d e l k (finer (lead_of_face q u d m e i))

-- a plate with the darts of p and more, whose faces are no coarser
module _ (p q : Plate) (a : Accepted p) (u : Ordered q) (outer : q.outer ≡ p.outer) (more : darts p ≤ darts q) where
  o : Ordered p
  o = accepted_ordered p a

  abbrev out : ℕ
  out = p.outer

  out_below : out < darts p
  out_below = (faultless p a.no_fault).outer_dart

  stays : (t : Step) → ((x : ℕ) → x < darts p → lead q x ≡ lead q out → lead p x ≡ lead p out) → (new_faces t ≡ 0 → (x : ℕ) → x < darts p → lead p x ≡ lead p out → lead q x ≡ lead q out) → OuterStays p t q
  stays t finer coarser =
      record {
        dart = outer;
        part = λ x l i. carried p q o u out x out_below l (omega (arith, out_below)) (finer x l) (subst (λ (d : ℕ). is_in x (face_of q d) ≡ true) outer i);
        whole = λ z x l i. subst (λ (d : ℕ). is_in x (face_of q d) ≡ true) (sym outer) (carried q p u o out x (omega (arith, out_below)) (omega arith) out_below (coarser z x l) i);
      }

  -- where each old dart has its old lead
  stays_all : (t : Step) → ((x : ℕ) → x < darts p → lead q x ≡ lead p x) → OuterStays p t q
  stays_all t kept =
      stays t (λ x l e. sym (kept x l) ∙ e ∙ kept out out_below) (λ z x l e. kept x l ∙ e ∙ sym (kept out out_below))

-- whatever holds the table
pub outer_stays : (p : Plate) → Accepted p → (t : Step) → step_fault p t ≡ 0 → (q : Plate) → StepTable p t q → OuterStays p t q
outer_stays p a (Split s) h q t =
    let l = (split_room p s h).there in
    stays_all p q a (split_ordered p (accepted_ordered p a) s l q t) t.same_outer
    (omega (
      arith,
      ap (length {A = ℕ}) t.strip_ends,
      length-append (set p.ends (suc (2 * s)) p.posts) (p.posts ∷ (get_or p.ends (suc (2 * s)) 0 ∷ [])),
      length-set p.ends (suc (2 * s)) p.posts,
    ))
    (Split s) (split_lead p (accepted_ordered p a) s l q t)
outer_stays p a (Hang d) h q t =
    let l = (hang_room p d h).there in
    stays_all p q a (hang_ordered p (accepted_ordered p a) d l q t) t.same_outer
    (omega (arith, ap (length {A = ℕ}) t.strip_ends, length-append p.ends (ends_at p d ∷ (p.posts ∷ []))))
    (Hang d) (hang_lead p (accepted_ordered p a) d l q t)
outer_stays p a (Join d e) h q t =
    let o = accepted_ordered p a in
    let r = join_room p d e h in
    let same = join_together p a d e h in
    stays p q a (join_ordered p o d e r.there r.there_too r.apart same q t) t.same_outer
    (omega (arith, ap (length {A = ℕ}) t.strip_ends, length-append p.ends (ends_at p d ∷ (ends_at p e ∷ []))))
    (Join d e) (λ x l. join_finer p o d e r.there r.there_too r.apart same q t x p.outer l (faultless p a.no_fault).outer_dart) (λ z. absurd (omega arith))
