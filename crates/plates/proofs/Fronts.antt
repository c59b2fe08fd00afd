-- The front of a longer list, or of a longer shape file, has the number of the whole: its walk refuses both alike. Assumes nothing.
use mathlib.Core.Path.{◌≡◌, refl, sym, ap, ◌∙◌}
use mathlib.Core.Bool.{Bool, true, false}
use mathlib.Core.List.{List}
use Prim.Native.Nat.{ℕ, zero, suc, ◌≤◌}
use native.Mathlib.Omega.{arith}
use lib.ListN.{length, take}
use lib.Seq.{take_all}
use Rattle.finite.proofs.Tests.{first_some}
use Rattle.fields.proofs.Longest.{list_longest, shape_longest}
use Rattle.fields.proofs.Fronts.{walk_front}
use Rattle.plates.specs.Plates.{first_of}
use Rattle.plates.specs.Files.{walk_all, list_fault}
use Rattle.plates.specs.Says.{file_fault, check_fault}
use Rattle.plates.proofs.Lists.{list_walked}

-- a number that is the walk's where this is one
module _ (k : Bool) (F : List ℕ → ℕ) (first : (r : List ℕ) → ((walk_all k r).number ≡ 0 → ⊥) → F r ≡ (walk_all k r).number) (n : ℕ) (s : List ℕ) (m : 879 ≤ n) where
  front_by : ((walk_all k s).number ≡ 0 → length s ≤ 879) → F (take n s) ≡ F s
  front_by short = go (walk_all k s).number refl
    where
      go : (x : ℕ) → (walk_all k s).number ≡ x → F (take n s) ≡ F s
      go zero e = ap F (take_all n s (omega (arith, short e)))
      go (suc x) e =
          let w = walk_front true k n s m in
          first (take n s) (λ z. omega (arith, w, e, z)) ∙ w ∙ sym (first s (λ z. omega (arith, e, z)))

front_list : (n : ℕ) (s : List ℕ) → 879 ≤ n → list_fault (take n s) ≡ list_fault s
front_list n s m = front_by false list_fault (λ r. first_some (walk_all false r).number _) n s m (λ e. omega (arith, list_longest s e))

front_file : (s : List ℕ) (n : ℕ) (t : List ℕ) → 879 ≤ n → file_fault s (take n t) ≡ file_fault s t
front_file s n t m = front_by true (file_fault s) (λ r. first_some (walk_all true r).number _) n t m (λ e. omega (arith, shape_longest t e))

-- a list that is accepted is short, so it is whole
front_check : (n : ℕ) (s t : List ℕ) → 879 ≤ n → check_fault (take n s) (take n t) ≡ check_fault s t
front_check n s t m = go (list_fault s) refl
  where
    go : (x : ℕ) → list_fault s ≡ x → check_fault (take n s) (take n t) ≡ check_fault s t
    go zero e =
        let short = list_longest s (list_walked s e) in
        ap (λ (r : List ℕ). check_fault r (take n t)) (take_all n s (omega arith)) ∙ ap (first_of (list_fault s)) (front_file s n t m)
    go (suc x) e =
        let w = front_list n s m in
        first_some (list_fault (take n s)) _ (λ z. omega (arith, w, e, z)) ∙ w ∙ sym (first_some (list_fault s) _ (λ z. omega (arith, e, z)))

pub fronts : (n : ℕ) (s t : List ℕ) → 879 ≤ n → (list_fault (take n s) ≡ list_fault s) × (check_fault (take n s) (take n t) ≡ check_fault s t)
fronts n s t m = (front_list n s m, front_check n s t m)
