-- Classes of the numbers below n, by labels: each number has the label of its class, and each class is labelled by one of its numbers.
use mathlib.Core.Path.{◌≡◌, refl, sym, ap, subst, ◌∙◌}
use mathlib.Core.Bool.{Bool, true, false, ◌&&◌, false≢true}
use mathlib.Core.Logic.{◌⊎◌, inl, inr, ⊎_elim}
use Prim.Native.Nat.{ℕ, zero, suc, ◌+◌, ◌≤◌, ◌<◌}
use native.Mathlib.Omega.{arith}
use borrow.Author.Tests.{eqb-true, eq-eqb, ne_eqb}
use lib.Dec.{eqb}
use Rattle.finite.specs.Base.{pick, when}
use Rattle.finite.proofs.Sums.{sum_below, sum_cong, sum_add, sum_le, sum_swap, sum_at}
use Rattle.finite.proofs.Tests.{equal_or_not, and_left, and_right, and_both}

pub record Labels (L : ℕ → ℕ) (n : ℕ) : Type 0 where
  pub below : (i : ℕ) → i < n → L i < n
  pub again : (i : ℕ) → i < n → L (L i) ≡ L i

-- the number of classes
abbrev pub classes : (ℕ → ℕ) → ℕ → ℕ
classes L n = sum_below n (λ i. when (eqb i (L i)) 1)

-- what has one label in L has one in M
abbrev pub Finer : (ℕ → ℕ) → (ℕ → ℕ) → ℕ → Type 0
Finer L M n = (i j : ℕ) → i < n → j < n → L i ≡ L j → M i ≡ M j

-- number i has its own label in L, and label j in M: then j has its own label in M, and i in L
module _ (n : ℕ) (L M : ℕ → ℕ) (A : Labels L n) (B : Labels M n) (f : Finer M L n) where
  own_label : (i j : ℕ) → i < n → j < n → eqb j (M i) && eqb i (L i) ≡ true → eqb i (L j) && eqb j (M j) ≡ true
  own_label i j l k e = and_both (eqb i (L j)) (eqb j (M j)) (eq-eqb i (L j) (q ∙ f i j l k (sym p ∙ own_j))) (eq-eqb j (M j) own_j)
    where
      p : j ≡ M i
      p = eqb-true j (M i) (and_left (eqb j (M i)) (eqb i (L i)) e)

      q : i ≡ L i
      q = eqb-true i (L i) (and_right (eqb j (M i)) (eqb i (L i)) e)

      own_j : j ≡ M j
      own_j = p ∙ sym (B.again i l) ∙ ap M (sym p)

-- labels that tell fewer numbers apart have fewer classes
pub classes_less : (n : ℕ) (L M : ℕ → ℕ) → Labels L n → Labels M n → Finer M L n → classes L n ≤ classes M n
classes_less n L M A B f =
    omega (
      arith,
      sum_cong n (λ i. when (eqb i (L i)) 1) (λ i. sum_below n (λ j. when (eqb j (M i)) (when (eqb i (L i)) 1))) (λ i l. sym (sum_at n (M i) (λ j. when (eqb i (L i)) 1) (B.below i l))),
      sum_swap n n (λ i j. when (eqb j (M i)) (when (eqb i (L i)) 1)),
      sum_le n (λ j. sum_below n (λ i. when (eqb j (M i)) (when (eqb i (L i)) 1))) (λ j. sum_below n (λ i. when (eqb i (L j)) (when (eqb j (M j)) 1)))
          (λ j k. sum_le n (λ i. when (eqb j (M i)) (when (eqb i (L i)) 1)) (λ i. when (eqb i (L j)) (when (eqb j (M j)) 1))
          (λ i l. less (eqb j (M i)) (eqb i (L i)) (eqb i (L j)) (eqb j (M j)) (own_label n L M A B f i j l k))),
      sum_cong n (λ j. sum_below n (λ i. when (eqb i (L j)) (when (eqb j (M j)) 1))) (λ j. when (eqb j (M j)) 1) (λ j k. sum_at n (L j) (λ i. when (eqb j (M j)) 1) (A.below j k)),
    )
  where
    less : (a b c d : Bool) → (a && b ≡ true → c && d ≡ true) → when a (when b 1) ≤ when c (when d 1)
    less true true true true h = omega arith
    less true true true false h = absurd (false≢true (h refl))
    less true true false d h = absurd (false≢true (h refl))
    less true false c d h = omega arith
    less false b c d h = omega arith

-- labels that tell the same numbers apart have as many classes
pub classes_same : (n : ℕ) (L M : ℕ → ℕ) → Labels L n → Labels M n → Finer L M n → Finer M L n → classes L n ≡ classes M n
classes_same n L M A B f g = omega (arith, classes_less n L M A B g, classes_less n M L B A f)

pub classes_one : (n : ℕ) (L : ℕ → ℕ) → Labels L n → ((i j : ℕ) → i < n → j < n → L i ≡ L j) → classes L n ≤ 1
classes_one zero L A h = omega arith
classes_one (suc n) L A h =
    omega (
      arith,
      sum_at (suc n) (L 0) (λ i. 1) (A.below 0 (omega arith)),
      sum_cong (suc n) (λ i. when (eqb i (L i)) 1) (λ i. when (eqb i (L 0)) 1) (λ i l. ap (λ (x : ℕ). when (eqb i x) 1) (h i 0 l (omega arith))),
    )

-- the classes of a and b made one
abbrev pub joined : (ℕ → ℕ) → ℕ → ℕ → ℕ → ℕ
joined L a b d = pick (eqb (L d) (L b)) (L a) (L d)

module _ (L : ℕ → ℕ) (a b d : ℕ) where
  pub joined_second : L d ≡ L b → joined L a b d ≡ L a
  joined_second e = ap (λ (t : Bool). pick t (L a) (L d)) (eq-eqb (L d) (L b) e)

  pub joined_other : (L d ≡ L b → ⊥) → joined L a b d ≡ L d
  joined_other e = ap (λ (t : Bool). pick t (L a) (L d)) (ne_eqb (L d) (L b) e)

  pub joined_first : L d ≡ L a → joined L a b d ≡ L a
  joined_first e = ⊎_elim joined_second (λ h. joined_other h ∙ e) (equal_or_not (L d) (L b))

-- what has one label in L and joins a and b has one label in the joined one
pub joined_finer : (L M : ℕ → ℕ) (n a b : ℕ) → a < n → b < n → Finer L M n → M a ≡ M b → Finer (joined L a b) M n
joined_finer L M n a b la lb f e i j l k q = go (equal_or_not (L i) (L b)) (equal_or_not (L j) (L b))
  where
    go : (L i ≡ L b) ⊎ (L i ≡ L b → ⊥) → (L j ≡ L b) ⊎ (L j ≡ L b → ⊥) → M i ≡ M j
    go (inl x) (inl y) = f i j l k (x ∙ sym y)
    go (inl x) (inr y) = f i b l lb x ∙ sym e ∙ f a j la k (sym (joined_second L a b i x) ∙ q ∙ joined_other L a b j y)
    go (inr x) (inl y) = f i a l la (sym (joined_other L a b i x) ∙ q ∙ joined_second L a b j y) ∙ e ∙ sym (f j b k lb y)
    go (inr x) (inr y) = f i j l k (sym (joined_other L a b i x) ∙ q ∙ joined_other L a b j y)

module _ (L : ℕ → ℕ) (n a b : ℕ) (A : Labels L n) (la : a < n) (lb : b < n) where
  pub joined_labels : Labels (joined L a b) n
  joined_labels = record { below = below; again = again }
    where
      below : (i : ℕ) → i < n → joined L a b i < n
      below i l =
          ⊎_elim (λ e. subst (λ (x : ℕ). x < n) (sym (joined_second L a b i e)) (A.below a la))
          (λ e. subst (λ (x : ℕ). x < n) (sym (joined_other L a b i e)) (A.below i l))
          (equal_or_not (L i) (L b))

      again : (i : ℕ) → i < n → joined L a b (joined L a b i) ≡ joined L a b i
      again i l =
          ⊎_elim (λ e. ap (joined L a b) (joined_second L a b i e) ∙ joined_first L a b (L a) (A.again a la) ∙ sym (joined_second L a b i e))
          (λ e. ap (joined L a b) (joined_other L a b i e) ∙ joined_other L a b (L i) (λ h. e (sym (A.again i l) ∙ h)) ∙ A.again i l ∙ sym (joined_other L a b i e))
          (equal_or_not (L i) (L b))

  pub classes_joined : (L a ≡ L b → ⊥) → classes (joined L a b) n + 1 ≡ classes L n
  classes_joined apart =
      omega (
        arith,
        sum_cong n (λ i. when (eqb i (L i)) 1) (λ i. when (eqb i (joined L a b i)) 1 + when (eqb i (L b)) 1) each,
        sum_add n (λ i. when (eqb i (joined L a b i)) 1) (λ i. when (eqb i (L b)) 1),
        sum_at n (L b) (λ i. 1) (A.below b lb),
      )
    where
      no : (i x : ℕ) → (i ≡ x → ⊥) → when (eqb i x) 1 ≡ 0
      no i x h = ap (λ (t : Bool). when t 1) (ne_eqb i x h)

      each : (i : ℕ) → i < n → when (eqb i (L i)) 1 ≡ when (eqb i (joined L a b i)) 1 + when (eqb i (L b)) 1
      each i l =
          ⊎_elim
          (λ e. let gone : when (eqb i (joined L a b i)) 1 ≡ 0 = no i (joined L a b i) (λ q. apart (sym (A.again a la) ∙ ap L (sym (q ∙ joined_second L a b i e)) ∙ e)) in
          omega (arith, ap (λ (x : ℕ). when (eqb i x) 1) e))
          (λ e. let gone : when (eqb i (L b)) 1 ≡ 0 = no i (L b) (λ q. e (ap L q ∙ A.again b lb)) in
          omega (arith, ap (λ (x : ℕ). when (eqb i x) 1) (joined_other L a b i e)))
          (equal_or_not (L i) (L b))
