-- A plate with one strip more: where its darts leave and end, its degrees, and that it is connected if the old one is.
use mathlib.Core.Path.{◌≡◌, refl, sym, ap, subst, ◌∙◌}
use mathlib.Core.Bool.{Bool, true, false}
use mathlib.Core.List.{List, [], ◌∷◌, ◌++◌}
use mathlib.Core.Logic.{⊎_elim}
use Prim.Native.Nat.{ℕ, suc, ◌+◌, ◌%◌, ◌≤◌, ◌<◌}
use native.Mathlib.Omega.{arith}
use borrow.Author.Tests.{eq-eqb, ne_eqb}
use lib.Dec.{eqb}
use lib.ListN.{length, get_or, length-append, get_or-append}
use lib.Seq.{get_or_at, get_or-append-add}
use Rattle.finite.proofs.Members.{all_in, all_of, in_append, in_cases, in_none}
use Rattle.finite.proofs.Sums.{sum_nothing}
use Rattle.finite.proofs.Tests.{not_true_false}
use Rattle.embedding.specs.Plates.{when, is_in, Plate, darts, twin, leaves, ends_at, degree_from, degree, all_below, connected, part_of, after}
use Rattle.embedding.specs.Edits.{put_before}
use Rattle.embedding.proofs.Rotation.{Ordered, twin_even, twin_odd, twin_below, round_before, degree_count, leaves_below, length_part, part_leaves, part_members}
use Rattle.embedding.proofs.Reach.{spreads}
use Rattle.embedding.proofs.Placing.{put_count}
use Rattle.embedding.proofs.Spread.{Closed}

pub count_on : (v a : ℕ) → v ≡ a → when (eqb v a) 1 ≡ 1
count_on v a e = ap (λ (b : Bool). when b 1) (eq-eqb v a e)

pub count_off : (v a : ℕ) → (v ≡ a → ⊥) → when (eqb v a) 1 ≡ 0
count_off v a e = ap (λ (b : Bool). when b 1) (ne_eqb v a e)

degree_append : (v : ℕ) (xs ys : List ℕ) → degree_from v (xs ++ ys) ≡ degree_from v xs + degree_from v ys
degree_append v [] ys = omega arith
degree_append v (x ∷ xs) ys = omega (arith, degree_append v xs ys)

-- the dart after x, once its end and its twin are known
pub after_at : (q : Plate) (x v t : ℕ) → ends_at q x ≡ v → twin x ≡ t → after q x ≡ round_before (part_of q v) t
after_at q x v t e w = ap (λ (u : ℕ). round_before (part_of q u) (twin x)) e ∙ ap (round_before (part_of q v)) w

module _ (p q : Plate) (a b : ℕ) (even : darts p % 2 ≡ 0) (e : q.ends ≡ p.ends ++ (a ∷ (b ∷ []))) where
  pub grown_darts : darts q ≡ suc (suc (darts p))
  grown_darts = omega (arith, ap (length {A = ℕ}) e, length-append p.ends (a ∷ (b ∷ [])))

  pub grown_even : darts q % 2 ≡ 0
  grown_even = omega (arith, grown_darts)

  pub old_leaves : (d : ℕ) → d < darts p → leaves q d ≡ leaves p d
  old_leaves d l = ap (λ (es : List ℕ). get_or es d 0) e ∙ get_or-append p.ends (a ∷ (b ∷ [])) 0 d l

  pub first_leaves : leaves q (darts p) ≡ a
  first_leaves = ap (λ (es : List ℕ). get_or es (darts p) 0) e ∙ get_or_at p.ends a (b ∷ []) 0 (darts p) refl

  pub second_leaves : leaves q (suc (darts p)) ≡ b
  second_leaves =
      ap (λ (es : List ℕ). get_or es (suc (darts p)) 0) e
      ∙ ap (λ (i : ℕ). get_or (p.ends ++ (a ∷ (b ∷ []))) i 0) {x = suc (darts p)} {y = darts p + 1} (omega arith)
      ∙ get_or-append-add p.ends (a ∷ (b ∷ [])) 1 0

  pub twin_first : twin (darts p) ≡ suc (darts p)
  twin_first = twin_even (darts p) even

  pub twin_second : twin (suc (darts p)) ≡ darts p
  twin_second = omega (arith, twin_odd (suc (darts p)) (omega arith))

  pub old_twin : (d : ℕ) → d < darts p → twin d < darts p
  old_twin d l = twin_below (darts p) d even l

  pub old_ends : (d : ℕ) → d < darts p → ends_at q d ≡ ends_at p d
  old_ends d l = old_leaves (twin d) (old_twin d l)

  pub first_ends : ends_at q (darts p) ≡ b
  first_ends = ap (leaves q) twin_first ∙ second_leaves

  pub second_ends : ends_at q (suc (darts p)) ≡ a
  second_ends = ap (leaves q) twin_second ∙ first_leaves

  pub grown_degree : (v : ℕ) → degree q v ≡ degree p v + when (eqb v a) 1 + when (eqb v b) 1
  grown_degree v = omega (arith, ap (degree_from v) e, degree_append v p.ends (a ∷ (b ∷ [])))

  pub grown_below : (n k : ℕ) → n ≤ k → all_below n p.ends ≡ true → a < k → b < k → all_below k q.ends ≡ true
  grown_below n k l h la lb = subst (λ (es : List ℕ). all_below k es ≡ true) (sym e) (all_of k (p.ends ++ (a ∷ (b ∷ []))) each)
    where
      new : (x : ℕ) → is_in x (a ∷ (b ∷ [])) ≡ true → x < k
      new x i = ⊎_elim (λ q. omega arith) (λ j. ⊎_elim (λ q. omega arith) (λ z. absurd (in_none x z)) (in_cases x b [] j)) (in_cases x a (b ∷ []) i)

      each : (x : ℕ) → is_in x (p.ends ++ (a ∷ (b ∷ []))) ≡ true → x < k
      each x i = ⊎_elim (λ j. omega (arith, all_in n x p.ends h j)) (new x) (in_append x p.ends (a ∷ (b ∷ [])) i)

  -- what closes over the strips of q and has post 0 has every post of p
  pub grown_spread : all_below p.posts p.ends ≡ true → connected p ≡ true → (S : ℕ → Bool) → S 0 ≡ true → Closed S q.ends → (v : ℕ) → v < p.posts → S v ≡ true
  grown_spread below linked S root closed = spreads p (λ v. S v ≡ true) below linked root along
    where
      along : (i : ℕ) → i % 2 ≡ 0 → suc i < darts p → (S (leaves p i) ≡ true → S (leaves p (suc i)) ≡ true) × (S (leaves p (suc i)) ≡ true → S (leaves p i) ≡ true)
      along i z l =
          let same : S (leaves p i) ≡ S (leaves p (suc i)) = ap S (sym (old_leaves i (omega arith))) ∙ closed i z (omega (arith, grown_darts)) ∙ ap S (old_leaves (suc i) l) in
          (λ h. sym same ∙ h, λ h. same ∙ h)

  -- and both ends of the new strip or neither
  pub grown_strip : (S : ℕ → Bool) → Closed S q.ends → S a ≡ S b
  grown_strip S closed = ap S (sym first_leaves) ∙ closed (darts p) even (omega (arith, grown_darts)) ∙ ap S second_leaves

-- no strip ends at what is no post
pub degree_none : (p : Plate) → Ordered p → (v : ℕ) → p.posts ≤ v → degree p v ≡ 0
degree_none p o v l =
    degree_count p v
    ∙ sum_nothing (darts p) (λ i. when (eqb v (leaves p i)) 1) (λ i k. count_off v (leaves p i) (λ q. omega (arith, leaves_below p o i k)))

-- no new dart stands in an old part
pub not_in_part : (p : Plate) → Ordered p → (v : ℕ) → v < p.posts → (x : ℕ) → darts p ≤ x → is_in x (part_of p v) ≡ false
not_in_part p o v k x l = not_true_false (is_in x (part_of p v)) (λ h. omega (arith, (part_leaves p o v k x h).0))

-- a part is one longer where t stands
pub put_degree : (p : Plate) → Ordered p → (v : ℕ) → v < p.posts → (t b : ℕ) → t < darts p → length (put_before t b (part_of p v)) ≡ degree p v + when (eqb v (leaves p t)) 1
put_degree p o v k t b l =
    omega (arith, put_count t b (part_of p v), length_part p o v, ap (λ (c : Bool). when c 1) (part_members p o v k t l))
