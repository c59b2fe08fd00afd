-- What the check promises, from what its steps give: the list's refusal, the shape file's, the one judged, 22, 25, 39, or a sound verdict. Assumes nothing.
use mathlib.Core.Path.{◌≡◌, refl, sym, ap, subst, ◌∙◌}
use mathlib.Core.Bool.{Bool, true, false, ◌&&◌, not}
use mathlib.Core.List.{List}
use Prim.Native.Nat.{ℕ, zero, suc}
use lib.Dec.{eqb}
use lib.ListN.{length}
use borrow.Author.Tests.{eqb-true, eq-eqb, ne_eqb, not-false}
use Rattle.std.specs.Prelude.{Result, Err}
use Rattle.refusals.specs.Numbers.{number_of}
use Rattle.refusals.specs.declared.Refusal.{Refusal}
use Rattle.refusals.proofs.Numbered.{some_number}
use Rattle.finite.proofs.Tests.{and_left, and_right, first_none, first_some, first_assoc, when_none}
use Rattle.plates.specs.Plates.{first_of, when, darts, faces}
use Rattle.plates.specs.Shapes.{total, angles_ok, posts_ok, faces_ok, pair_sums, all_within, shape_of}
use Rattle.plates.specs.Files.{content_of, walk_all, list_fault, plate_of, limits_of}
use Rattle.plates.specs.Says.{word, angles_in, rights_in, sum_true, last_fault, check_fault, CheckWith, CheckSays}
use Rattle.plates.specs.Answers.{verdict, verdict_of}
use Rattle.plates.specs.declared.checking.Sound.{Sound}
use Rattle.plates.specs.Read.{shape_file_fault}
use Rattle.shapes.specs.Judge.{judgement}

-- a shape file without refusal of its own has an angle and right bends for each dart
pub file_many : (s t : List ℕ) → shape_file_fault s t ≡ 0 → (length (angles_in t) ≡ darts (plate_of s)) × (length (rights_in t) ≡ darts (plate_of s))
file_many s t e =
    let a = eqb (length (angles_in t)) (darts (plate_of s)) in
    let r = eqb (length (rights_in t)) (darts (plate_of s)) in
    let later = (first_none (walk_all true t).number _ e).1 in
    let both : (a && r) ≡ true = not-false (a && r) (when_none (not (a && r)) 16 (first_none (when (not (a && r)) 17) _ later).0) in
    (eqb-true _ _ (and_left a r both), eqb-true _ _ (and_right a r both))

-- places in turn: the list, the shape file, the verdict
module _ (s t : List ℕ) where
  abbrev said : ℕ
  said = word (content_of 18 (walk_all true t).fields)

  abbrev kept : Bool
  kept = all_within (limits_of s) (pair_sums (rights_in t))

  abbrev summed : Bool
  summed = sum_true (walk_all false s).fields (walk_all true t).fields

  abbrev from_25 : ℕ
  from_25 = last_fault (walk_all false s).fields (walk_all true t)

  abbrev last : ℕ
  last = first_of (when (not (eqb said (total (rights_in t)))) 22) from_25

  abbrev pub judged_then : ℕ
  judged_then = first_of (judgement (plate_of s) (angles_in t) (rights_in t)) last

  pub places : check_fault s t ≡ first_of (list_fault s) (first_of (shape_file_fault s t) judged_then)
  places =
      let p = plate_of s in
      let a = angles_in t in
      let r = rights_in t in
      let e1 = (walk_all true t).number in
      let e17 = when (not (eqb (length a) (darts p) && eqb (length r) (darts p))) 17 in
      let e18 = when (not (eqb (word (content_of 1 (walk_all false s).fields)) (word (content_of 17 (walk_all true t).fields)))) 18 in
      let e19 = when (not (angles_ok a)) 19 in
      let e20 = when (not (posts_ok p.posts 0 p a)) 20 in
      let e21 = when (not (faces_ok p a (shape_of p a r).words (faces p))) 21 in
      ap (first_of (list_fault s)) (
      ap (λ (k : ℕ). first_of e1 (first_of e17 (first_of e18 k))) (ap (first_of e19) (first_assoc e20 e21 last) ∙ first_assoc e19 (first_of e20 e21) last)
      ∙ ap (first_of e1) (first_assoc e17 e18 judged_then)
      ∙ first_assoc e1 (first_of e17 e18) judged_then
      )

  refused_with : (e : ℕ) → (e ≡ 0 → ⊥) → CheckWith e s t (verdict e 0 0 false)
  refused_with zero n = absurd (n refl)
  refused_with (suc e) n = (refl, refl, refl, refl)

  pub refused_check : {v : Result Sound Refusal} {r : Refusal} → v ≡ Err r → number_of r ≡ check_fault s t → CheckSays s t (verdict_of v)
  refused_check {r = r} is q =
      subst (λ (w : Result Sound Refusal). CheckSays s t (verdict_of w)) (sym is)
      (subst (λ (k : ℕ). CheckWith k s t (verdict (number_of r) 0 0 false)) q (refused_with (number_of r) (some_number r)))

  module _ (none : list_fault s ≡ 0) where
    pub file_refused_check : {v : Result Sound Refusal} {r : Refusal} → v ≡ Err r → number_of r ≡ shape_file_fault s t → CheckSays s t (verdict_of v)
    file_refused_check {r = r} is q =
        refused_check is
        (q ∙ sym (places ∙ ap (λ (k : ℕ). first_of k (first_of (shape_file_fault s t) judged_then)) none ∙ first_some (shape_file_fault s t) judged_then (λ z. some_number r (q ∙ z))))

    module _ (sound-file : shape_file_fault s t ≡ 0) where
      pub later : check_fault s t ≡ judged_then
      later = places ∙ ap (λ (k : ℕ). first_of k (first_of (shape_file_fault s t) judged_then)) none ∙ ap (λ (k : ℕ). first_of k judged_then) sound-file

      -- judged, then 22, then 25, then 39, then sound
      module _ {j : ℕ} (e : j ≡ judgement (plate_of s) (angles_in t) (rights_in t)) where
        pub judged_fault : (j ≡ 0 → ⊥) → j ≡ check_fault s t
        judged_fault n = e ∙ sym (later ∙ first_some (judgement (plate_of s) (angles_in t) (rights_in t)) last (λ z. n (e ∙ z)))

        module _ (z : j ≡ 0) {n k : ℕ} (n-is : n ≡ said) (k-is : k ≡ total (rights_in t)) where
          after_judge : check_fault s t ≡ last
          after_judge = later ∙ ap (λ (i : ℕ). first_of i last) (sym e ∙ z)

          pub total_fault : (n ≡ k → ⊥) → 22 ≡ check_fault s t
          total_fault m = sym (after_judge ∙ ap (λ (b : Bool). first_of (when (not b) 22) from_25) (ne_eqb said (total (rights_in t)) (λ y. m (n-is ∙ y ∙ sym k-is))))

          module _ (y : n ≡ k) {w : Bool} (w-is : w ≡ kept) where
            after_total : check_fault s t ≡ first_of (when (not w) 25) (when (not summed) 39)
            after_total =
                after_judge ∙ ap (λ (b : Bool). first_of (when (not b) 22) from_25) (eq-eqb said (total (rights_in t)) (sym n-is ∙ y ∙ k-is))
                ∙ ap (λ (b : Bool). first_of (when (not b) 25) (when (not summed) 39)) (sym w-is)

            pub limit_fault : w ≡ false → 25 ≡ check_fault s t
            limit_fault f = sym (after_total ∙ ap (λ (b : Bool). first_of (when (not b) 25) (when (not summed) 39)) f)

            module _ (f : w ≡ true) {v : Bool} (v-is : v ≡ summed) where
              after_limits : check_fault s t ≡ when (not v) 39
              after_limits = after_total ∙ (let back = sym v-is in λ i. first_of (when (not (f i)) 25) (when (not (back i)) 39))

              pub sum_fault : v ≡ false → 39 ≡ check_fault s t
              sum_fault g = sym (after_limits ∙ ap (λ (b : Bool). when (not b) 39) g)

              pub counts_pass : v ≡ true → 0 ≡ check_fault s t
              counts_pass g = sym (after_limits ∙ ap (λ (b : Bool). when (not b) 39) g)
