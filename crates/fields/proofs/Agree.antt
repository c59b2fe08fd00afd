-- The rule of a tag agrees with `tag_ok` and `long_ok`: shown at each tag by computation, and where the tag is none of them. Assumes nothing.
use mathlib.Core.Path.{◌≡◌, refl, sym, subst, ◌∙◌}
use mathlib.Core.Bool.{Bool, true, false, ◌&&◌}
use Rattle.std.specs.Prelude.{None, is_some}
use Prim.Native.Nat.{ℕ, ◌+◌, ◌≤◌, ◌<◌}
use native.Mathlib.Omega.{arith}
use lib.Dec.{T, eqb, leb}
use borrow.Author.Tests.{eqb-true, eqb-false, leb-true, ne_eqb}
use Rattle.finite.proofs.Tests.{and_parts}
use Rattle.fields.specs.Files.{tag_ok, long_ok}
use Rattle.fields.specs.Rules.{allowed, rule_of, first_tag}

-- to show P at t, show it at a, and where t is another number
pub at_or : (P : ℕ → Type 0) (a t : ℕ) → P a → ((t ≡ a → ⊥) → P t) → P t
at_or P a t here other = go (eqb t a) refl
  where
    go : (b : Bool) → eqb t a ≡ b → P t
    go true e = subst P (sym (eqb-true t a e)) here
    go false e = other (eqb-false t a e)

-- a range with its ends and all between left out
outside : (a b t : ℕ) → (a ≤ t → t ≤ b → ⊥) → (leb a t && leb t b) ≡ false
outside a b t h = go (leb a t) (leb t b) refl refl
  where
    go : (x y : Bool) → leb a t ≡ x → leb t b ≡ y → (x && y) ≡ false
    go true true p q = absurd (h (leb-true a t p) (leb-true t b q))
    go true false p q = refl
    go false y p q = refl

-- what the table says of a tag and a length
pub record Agrees (k : Bool) (t : ℕ) : Type 0 where
  pub tag : is_some (rule_of k t) ≡ tag_ok k t
  pub long : (n : ℕ) → tag_ok k t ≡ true → allowed (rule_of k t) n ≡ long_ok k t n

no_tag : (k : Bool) (t : ℕ) → rule_of k t ≡ None → tag_ok k t ≡ false → Agrees k t
no_tag k t r f = record { tag = rw (r, f); long = λ n e. absurd (subst T (sym e ∙ f) tt) }

-- the tags of a list left out, in two steps
pub above_four : (t : ℕ) → (t ≡ 1 → ⊥) → (t ≡ 2 → ⊥) → (t ≡ 3 → ⊥) → (t ≡ 4 → ⊥) → 1 ≤ t → 5 ≤ t
above_four t n1 n2 n3 n4 l = omega arith

five_to_eight : (t : ℕ) → (t ≡ 5 → ⊥) → (t ≡ 6 → ⊥) → (t ≡ 7 → ⊥) → (t ≡ 8 → ⊥) → 5 ≤ t → t ≤ 8 → ⊥
five_to_eight t n5 n6 n7 n8 l h = omega arith

pub agrees : (k : Bool) (t : ℕ) → Agrees k t
agrees false t =
    at_or (Agrees false) 1 t (record { tag = refl; long = λ n e. refl }) λ n1.
    at_or (Agrees false) 2 t (record { tag = refl; long = λ n e. refl }) λ n2.
    at_or (Agrees false) 3 t (record { tag = refl; long = λ n e. refl }) λ n3.
    at_or (Agrees false) 4 t (record { tag = refl; long = λ n e. refl }) λ n4.
    at_or (Agrees false) 5 t (record { tag = refl; long = λ n e. refl }) λ n5.
    at_or (Agrees false) 6 t (record { tag = refl; long = λ n e. refl }) λ n6.
    at_or (Agrees false) 7 t (record { tag = refl; long = λ n e. refl }) λ n7.
    at_or (Agrees false) 8 t (record { tag = refl; long = λ n e. refl }) λ n8.
    no_tag false t
    (simp (ne_eqb t 1 n1, ne_eqb t 2 n2, ne_eqb t 3 n3, ne_eqb t 4 n4, ne_eqb t 5 n5, ne_eqb t 6 n6, ne_eqb t 7 n7, ne_eqb t 8 n8))
    (outside 1 8 t (λ l h. five_to_eight t n5 n6 n7 n8 (above_four t n1 n2 n3 n4 l) h))
agrees true t =
    at_or (Agrees true) 17 t (record { tag = refl; long = λ n e. refl }) λ n17.
    at_or (Agrees true) 18 t (record { tag = refl; long = λ n e. refl }) λ n18.
    at_or (Agrees true) 19 t (record { tag = refl; long = λ n e. refl }) λ n19.
    at_or (Agrees true) 20 t (record { tag = refl; long = λ n e. refl }) λ n20.
    at_or (Agrees true) 21 t (record { tag = refl; long = λ n e. refl }) λ n21.
    at_or (Agrees true) 22 t (record { tag = refl; long = λ n e. refl }) λ n22.
    no_tag true t
    (simp (outside 17 18 t (omega arith), outside 19 20 t (omega arith), ne_eqb t 21 n21, ne_eqb t 22 n22))
    (outside 17 22 t (omega arith))

-- a tag of a file stands in the file's range
pub tag_from : (k : Bool) (t : ℕ) → tag_ok k t ≡ true → (first_tag k ≤ t) × (t < first_tag k + 8)
tag_from true t e =
    let (a, b) = and_parts (leb 17 t) (leb t 22) e in
    let l : 17 ≤ t = leb-true 17 t a in
    let h : t ≤ 22 = leb-true t 22 b in
    omega arith
tag_from false t e =
    let (a, b) = and_parts (leb 1 t) (leb t 8) e in
    let l : 1 ≤ t = leb-true 1 t a in
    let h : t ≤ 8 = leb-true t 8 b in
    omega arith
