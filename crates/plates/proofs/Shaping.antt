-- What shaping promises, from what its steps give: the list's refusal, 24, 16, or the file of the best shape. Assumes nothing.
use mathlib.Core.Path.{◌≡◌, refl, sym, ap, subst, ◌∙◌}
use mathlib.Core.Bool.{Bool, true, false}
use mathlib.Core.List.{List}
use Prim.Native.Nat.{ℕ, zero, suc}
use native.Mathlib.Omega.{arith}
use lib.Dec.{ltb}
use lib.ListN.{length}
use Rattle.plates.specs.Answers.{Shaped, shaped}
use Rattle.plates.specs.Plates.{pick_t, first_of, when}
use Rattle.plates.specs.Shapes.{total, shape_of}
use Rattle.plates.specs.Files.{walk_all, list_fault, plate_of, file_bytes, shape_bytes}
use Rattle.plates.specs.Claims.{BestCounts, NoneWithin}
use Rattle.plates.specs.Says.{over, file_long, shape_fault, NoneKeeps, ShapeWith, ShapeSays}
use Rattle.plates.specs.Encodes.{FileSays}
use Rattle.plates.proofs.ReadsBack.{shape-bytes}

refused_with : (e : ℕ) (s o : List ℕ) → (e ≡ 0 → ⊥) → ShapeWith e s o o (shaped e 0 0)
refused_with zero s o n = absurd (n refl)
refused_with (suc e) s o n = (refl, refl, refl, refl)

-- any refusal, from its number
refused_says : (none : Bool) (e : ℕ) (s o : List ℕ) → NoneKeeps none s → shape_fault none s o ≡ e → (e ≡ 0 → ⊥) → ShapeSays s o o (shaped e 0 0)
refused_says none e s o k q n = (none, k, subst (λ (k : ℕ). ShapeWith k s o o (shaped e 0 0)) (sym q) (refused_with e s o n))

pub none_says : (s o : List ℕ) → list_fault s ≡ 0 → NoneWithin s → ShapeSays s o o (shaped 24 0 0)
none_says s o e none = refused_says true 24 s o (λ z. none) (ap (λ (k : ℕ). first_of k 24) e) (λ z. omega (arith, z))

-- the file of a best shape
module _ {s a r : List ℕ} (e : list_fault s ≡ 0) (g : BestCounts s a r) where
  abbrev b : List ℕ
  b = file_bytes (walk_all false s).fields a r

  abbrev Said : List ℕ → List ℕ → Shaped → Bool → Type 0
  Said o o' v short = pick_t short ((v.number ≡ 16) × (v.long ≡ 0) × (v.bends ≡ 0) × (o' ≡ o)) ((v.number ≡ 0) × (v.long ≡ length b) × (v.bends ≡ total r) × (o' ≡ over b o))

  pub best_says : (o o' : List ℕ) (v : Shaped) → FileSays s a r o o' v → ShapeSays s o o' v
  best_says o o' v said = (false, λ z. (shape_of (plate_of s) a r, g.best.meets_all, g.best.keeps_all), go (ltb (length o) (file_long s)) refl said)
    where
      same : shape_bytes (walk_all false s).fields (shape_of (plate_of s) a r) ≡ b
      same = shape-bytes s a r e g.best.meets_all g.counts

      fault_is : (short : Bool) → ltb (length o) (file_long s) ≡ short → shape_fault false s o ≡ when short 16
      fault_is short t = (λ i. first_of (e i) (when (t i) 16))

      go : (short : Bool) → ltb (length o) (file_long s) ≡ short → Said o o' v short → ShapeWith (shape_fault false s o) s o o' v
      go true t h = subst (λ (k : ℕ). ShapeWith k s o o' v) (sym (fault_is true t)) h
      go false t (number, long, bends, out) =
          subst (λ (k : ℕ). ShapeWith k s o o' v) (sym (fault_is false t))
          (number, (a, r, g.best, g.counts, (long ∙ ap length (sym same), bends, out ∙ ap (λ (b : List ℕ). over b o) (sym same))))
