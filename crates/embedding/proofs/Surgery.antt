-- The faces of a plate are the orbits of the crate maps, so its surgeries count them: none more by a split or a hanging strip, one more by a join.
use mathlib.Core.Path.{◌≡◌, sym, ap, subst, ◌∙◌}
use mathlib.Core.List.{List}
use Prim.Native.Nat.{ℕ, suc, ◌+◌, ◌*◌, ◌/◌, ◌%◌, ◌<◌}
use native.Mathlib.Omega.{arith}
use lib.ListN.{length}
use Rattle.finite.specs.Walks.{OneToOne, lowest}
use Rattle.finite.proofs.Sums.{sum_below, sum_over_ones}
use Rattle.maps.specs.Surgery.{Split, Hung, Joined}
use Rattle.finite.proofs.Orbit.{lead_in}
use Rattle.maps.specs.Maps.{orbits}
use Rattle.maps.proofs.Splits.{split_faces, split_lead}
use Rattle.maps.proofs.Hangs.{hang_faces, hang_lead}
use Rattle.maps.proofs.Joins.{join_faces, join_finer}
use Rattle.embedding.specs.Plates.{when, Plate, darts, twin, after, is_lowest, faces}
use Rattle.embedding.specs.Read.{lead}
use Rattle.embedding.proofs.Faces.{face_is, sum_over_faces}

pub faces_orbits : (p : Plate) → length (faces p) ≡ orbits (after p) (darts p)
faces_orbits p =
    sym (sum_over_ones (faces p)) ∙ sum_over_faces p (λ d. 1)
    ∙ ap (λ (F : ℕ → List ℕ). sum_below (darts p) (λ d. when (is_lowest d (F d)) 1)) (face_is p)

pub lead_orbit : (p : Plate) (d : ℕ) → lead p d ≡ lead_in (after p) (darts p) d
lead_orbit p d = ap (λ (F : ℕ → List ℕ). lowest d (F d)) (face_is p)

-- over n darts, two for each strip
half : (n : ℕ) → n % 2 ≡ 0 → n ≡ 2 * (n / 2)
half n e = omega arith

module _ (next after : ℕ → ℕ) where
  -- faces as before: as many, and each old dart in the same one
  abbrev pub Kept : ℕ → Type 0
  Kept n = (orbits after (suc (suc n)) ≡ orbits next n) × ((x : ℕ) → x < n → lead_in after (suc (suc n)) x ≡ lead_in next n x)

  abbrev SplitLaw : ℕ → ℕ → Type 0
  SplitLaw t n =
      OneToOne next n → t < n → after t ≡ n → ((next t ≡ twin t → ⊥) → after n ≡ next t) → (next t ≡ twin t → after n ≡ suc n) → after (suc n) ≡ twin t
      → ((x : ℕ) → x < n → (x ≡ t → ⊥) → next x ≡ twin t → after x ≡ suc n) → ((x : ℕ) → x < n → (x ≡ t → ⊥) → (next x ≡ twin t → ⊥) → after x ≡ next x) → Kept n

  pub split_law : (t n : ℕ) → n % 2 ≡ 0 → SplitLaw t n
  split_law t n e = subst (SplitLaw t) (sym (half n e)) (at (n / 2))
    where
      at : (m : ℕ) → SplitLaw t (2 * m)
      at m F l a b c d f g =
          let s : Split next after m t = record { at = a; on = b; on_back = c; back = d; into = f; other = g } in
          (split_faces next after m t F l s, split_lead next after m t F l s)

  abbrev HangLaw : ℕ → ℕ → Type 0
  HangLaw d n = OneToOne next n → d < n → after d ≡ n → after n ≡ suc n → after (suc n) ≡ next d → ((x : ℕ) → x < n → (x ≡ d → ⊥) → after x ≡ next x) → Kept n

  pub hang_law : (d n : ℕ) → n % 2 ≡ 0 → HangLaw d n
  hang_law d n e = subst (HangLaw d) (sym (half n e)) (at (n / 2))
    where
      at : (m : ℕ) → HangLaw d (2 * m)
      at m F l a b c f =
          let h : Hung next after m d = record { at = a; end = b; back = c; other = f } in
          (hang_faces next after m d F l h, hang_lead next after m d F l h)

  -- one face more, and darts that are in one face now were in one
  abbrev pub Divided : ℕ → Type 0
  Divided n = (orbits after (suc (suc n)) ≡ orbits next n + 1) × ((x y : ℕ) → x < n → y < n → lead_in after (suc (suc n)) x ≡ lead_in after (suc (suc n)) y → lead_in next n x ≡ lead_in next n y)

  abbrev JoinLaw : ℕ → ℕ → ℕ → Type 0
  JoinLaw d e n =
      OneToOne next n → d < n → e < n → (d ≡ e → ⊥) → lead_in next n d ≡ lead_in next n e → after d ≡ n → after n ≡ next e → after e ≡ suc n → after (suc n) ≡ next d
      → ((x : ℕ) → x < n → (x ≡ d → ⊥) → (x ≡ e → ⊥) → after x ≡ next x) → Divided n

  pub join_law : (d e n : ℕ) → n % 2 ≡ 0 → JoinLaw d e n
  join_law d e n z = subst (JoinLaw d e) (sym (half n z)) (at (n / 2))
    where
      at : (m : ℕ) → JoinLaw d e (2 * m)
      at m F l k n same a b c g f =
          let j : Joined next after m d e = record { from = a; to = b; back_from = c; back_to = g; other = f } in
          (join_faces next after m d e F l k n j same, join_finer next after m d e F l k n j same)
