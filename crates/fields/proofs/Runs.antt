-- A walk that refuses nothing as a run of fields met one behind the other: from the walk to the run and back, in order or in any order.
-- Assumes nothing.
use mathlib.Core.Path.{◌≡◌, refl, sym, ap, ◌∙◌}
use mathlib.Core.Bool.{Bool, true, false, not}
use mathlib.Core.List.{List, [], ◌∷◌, ◌++◌, append_assoc, append-nil}
use Prim.Native.Nat.{ℕ, zero, suc, ◌+◌, ◌<◌}
use native.Mathlib.Omega.{arith}
use lib.Dec.{eqb}
use lib.ListN.{length, drop, length-drop}
use borrow.Author.Tests.{eqb-true, eqb-false, eq-eqb, ne_eqb, not-false}
use Rattle.finite.specs.Base.{when}
use Rattle.finite.proofs.Tests.{when_none}
use Rattle.fields.specs.Files.{Field, Walk, walk, add_field, all_there, head_long, fault_by, field_at, fields_by, walk_by}
use Rattle.fields.proofs.Turns.{from_end, from_fault, from_met, passed_by}

-- fields added one behind the other
abbrev pub add_all : List Field → List Field → List Field
add_all fs [] = fs
add_all fs (f ∷ more) = add_all (add_field fs f) more

add_append : (fs : List Field) (f : Field) → add_field fs f ≡ fs ++ (f ∷ [])
add_append [] f = refl
add_append (x ∷ fs) f = ap (λ (l : List Field). x ∷ l) (add_append fs f)

pub all_append : (fs more : List Field) → add_all fs more ≡ fs ++ more
all_append fs [] = sym (append-nil fs)
all_append fs (f ∷ more) = all_append (add_field fs f) more ∙ ap (λ (l : List Field). l ++ more) (add_append fs f) ∙ append_assoc fs (f ∷ []) more

-- the fields of s, met behind fs without a refusal
pub data Run (o k : Bool) : List Field → List ℕ → List Field → Type 0 where
  ended : {fs : List Field} {s : List ℕ} → length s ≡ 0 → Run o k fs s []
  met : {fs : List Field} {s : List ℕ} {more : List Field} → fault_by o k fs s ≡ 0 → Run o k (add_field fs (field_at s)) (drop (3 + head_long s) s) more → Run o k fs s (field_at s ∷ more)

module _ {o k : Bool} where
  -- from a walk without refusal
  run_of_lem : (l : ℕ) (fs : List Field) (s : List ℕ) → length s < l → (fields_by o l k fs s).number ≡ 0 → (more : List Field) × Run o k fs s more × (all_there k (add_all fs more) ≡ true)
  run_of_lem zero fs s h e = absurd (omega arith)
  run_of_lem (suc l) fs s h e = go (eqb (length s) 0) refl (eqb (fault_by o k fs s) 0) refl (run_of_lem l (add_field fs (field_at s)) (drop (3 + head_long s) s))
    where
      go : (a : Bool) → eqb (length s) 0 ≡ a → (b : Bool) → eqb (fault_by o k fs s) 0 ≡ b
          → (length (drop (3 + head_long s) s) < l → (fields_by o l k (add_field fs (field_at s)) (drop (3 + head_long s) s)).number ≡ 0
          → (more : List Field) × Run o k (add_field fs (field_at s)) (drop (3 + head_long s) s) more × (all_there k (add_all (add_field fs (field_at s)) more) ≡ true))
          → (more : List Field) × Run o k fs s more × (all_there k (add_all fs more) ≡ true)
      go true p b q ih =
          let z : when (not (all_there k fs)) 6 ≡ 0 = sym (ap (λ (w : Walk). w.number) (from_end o l k fs s p)) ∙ e in
          ([], ended (eqb-true (length s) 0 p), not-false (all_there k fs) (when_none (not (all_there k fs)) 5 z))
      go false p false q ih =
          let n : fault_by o k fs s ≡ 0 = sym (ap (λ (w : Walk). w.number) (from_fault o l k fs s p q)) ∙ e in
          absurd (eqb-false (fault_by o k fs s) 0 q n)
      go false p true q ih =
          let some : length s ≡ 0 → ⊥ = eqb-false (length s) 0 p in
          let (more, r, a) = ih (omega (arith, length-drop (3 + head_long s) s, some)) (sym (ap (λ (w : Walk). w.number) (from_met o l k fs s p q)) ∙ e) in
          (field_at s ∷ more, met {more = more} (eqb-true (fault_by o k fs s) 0 q) r, a)

  -- and back
  run_walk : (l : ℕ) (fs : List Field) (s : List ℕ) (more : List Field) → Run o k fs s more → length s < l → fields_by o l k fs s ≡ walk (when (not (all_there k (add_all fs more))) 6) (add_all fs more)
  run_walk zero fs s more r h = absurd (omega arith)
  run_walk (suc l) fs s [] (ended z) h = from_end o l k fs s (eq-eqb (length s) 0 z)
  run_walk (suc l) fs s (f ∷ more) (met e r) h =
      let p = passed_by o k fs s e in
      from_met o l k fs s (ne_eqb (length s) 0 (omega (arith, p.size))) (eq-eqb (fault_by o k fs s) 0 e)
      ∙ run_walk l (add_field fs (field_at s)) (drop (3 + head_long s) s) more r (omega (arith, p.size, length-drop (3 + head_long s) s))

-- the whole file
pub record Whole (o k : Bool) (s : List ℕ) : Type 0 where
  pub more : List Field
  pub run : Run o k [] s more
  pub there : all_there k more ≡ true
  pub answer : walk_by o k s ≡ walk 0 more

pub run_answer : (o k : Bool) (s : List ℕ) (more : List Field) → Run o k [] s more → all_there k more ≡ true → walk_by o k s ≡ walk 0 more
run_answer o k s more r a =
    let e : add_all [] more ≡ more = all_append [] more in
    run_walk (suc (length s)) [] s more r (omega arith) ∙ rw (e, a)

pub whole_of : (o k : Bool) (s : List ℕ) → (walk_by o k s).number ≡ 0 → Whole o k s
whole_of o k s e =
    let (more, r, a) = run_of_lem {o = o} {k = k} (suc (length s)) [] s (omega arith) e in
    let there : all_there k more ≡ true = rw (all_append [] more) at a in
    record { more = more; run = r; there = there; answer = run_answer o k s more r there }

-- a file that passed the walk has every field but the remark
pub all_there_lem : (o k : Bool) (s : List ℕ) → (walk_by o k s).number ≡ 0 → all_there k (walk_by o k s).fields ≡ true
all_there_lem o k s e = let w = whole_of o k s e in ap (λ (v : Walk). all_there k v.fields) w.answer ∙ w.there
