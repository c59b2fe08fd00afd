-- The contents of a file that a walk takes stand at their places in it. Assumes nothing.
use mathlib.Core.Path.{◌≡◌, refl, sym, subst, ap, ◌∙◌}
use mathlib.Core.Bool.{Bool, true, false}
use mathlib.Core.List.{List, [], ◌∷◌}
use Prim.Native.Nat.{ℕ, ◌+◌, ◌≤◌}
use native.Mathlib.Omega.{arith}
use lib.Dec.{eqb}
use lib.ListN.{length, get_or, take, drop, length-drop}
use lib.Seq.{drop-drop}
use Rattle.fields.specs.Files.{Field, Walk, content_of, add_field, head_long, field_at}
use Rattle.fields.specs.Says.{place_from, StandsAt, Stands}
use Rattle.fields.proofs.Turns.{passed_by, content_size}
use Rattle.fields.proofs.Runs.{Run, ended, met, whole_of}

-- a content c at the place p of s
abbrev Held : List ℕ → ℕ → List ℕ → Type 0
Held s p c = (p + length c ≤ length s) × (take (length c) (drop p s) ≡ c)

-- so is that of tag t, of the fields that a run meets from the place p of s on
module _ {o k : Bool} (s : List ℕ) (t : ℕ) where
  run_held : (fs : List Field) (r : List ℕ) (more : List Field) → Run o k fs r more → (p : ℕ) → p ≤ length s → r ≡ drop p s
      → Held s (place_from p t more) (content_of t more)
  run_held fs r [] (ended z) p h e = (omega arith, refl)
  run_held fs r (f ∷ more) (met q run) p h e =
      go (eqb t (get_or r 0 0)) (run_held (add_field fs (field_at r)) (drop (3 + head_long r) r) more run next within behind)
    where
      c : List ℕ
      c = (field_at r).content

      next : ℕ
      next = p + 3 + length c

      fits : 3 + head_long r ≤ length r
      fits = (passed_by o k fs r q).size

      size : length c ≡ head_long r
      size = content_size r fits

      within : next ≤ length s
      within = omega (arith, size, fits, ap length e, length-drop p s)

      behind : drop (3 + head_long r) r ≡ drop next s
      behind =
          let n : p + (3 + head_long r) ≡ next = omega (arith, size) in
          ap (drop (3 + head_long r)) e ∙ drop-drop (3 + head_long r) p s ∙ ap (λ (x : ℕ). drop x s) n

      own : take (length c) (drop (p + 3) s) ≡ c
      own = ap (λ (m : ℕ). take m (drop (p + 3) s)) size ∙ ap (take (head_long r)) (sym (drop-drop 3 p s) ∙ ap (drop 3) (sym e))

      go : (b : Bool) → Held s (place_from next t more) (content_of t more)
          → Held s (elim b as (λ (x : Bool). ℕ) [ true ↦ p + 3 | false ↦ place_from next t more ])
          (elim b as (λ (x : Bool). List ℕ) [ true ↦ c | false ↦ content_of t more ])
      go true l = (within, own)
      go false l = l

pub stands : Stands
stands o k s e t =
    let w = whole_of o k s e in
    let (a, b) = run_held {o = o} {k = k} s t [] s w.more w.run 0 (omega arith) refl in
    subst (λ (v : Walk). StandsAt s v.fields t) (sym w.answer) (record { inside = a; content = b })
