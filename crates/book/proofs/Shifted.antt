-- Two lists of numbers: those of the first, with 0 behind them, are distinct, and they are its first one in front of the second list. Then the first one, and no other of the first list, is not in the second.
use mathlib.Core.Path.{◌≡◌, refl, sym, ap, subst, ◌∙◌}
use mathlib.Core.Logic.{⊎_elim}
use mathlib.Core.Bool.{Bool, true, false}
use mathlib.Core.List.{List, [], ◌∷◌, ◌++◌}
use Prim.Native.Nat.{ℕ}
use lib.ListN.{get_or}
use Rattle.finite.specs.Base.{pick, is_in, distinct}
use Rattle.finite.proofs.Tests.{not_both, not_true_false}
use Rattle.finite.proofs.Members.{in_here, in_one, in_cases, in_append, in_left, in_right, distinct_head, distinct_more}
use Rattle.book.specs.Entries.{first_not_in}

pub record Shifted (xs ys : List ℕ) : Type 0 where
  pub apart : distinct (xs ++ (0 ∷ [])) ≡ true
  pub moved : xs ++ (0 ∷ []) ≡ get_or xs 0 0 ∷ ys

module _ (xs ys : List ℕ) (c : Shifted xs ys) where
  pub first_kept : is_in (get_or xs 0 0) ys ≡ false
  first_kept = distinct_head (get_or xs 0 0) ys (subst (λ (zs : List ℕ). distinct zs ≡ true) c.moved c.apart)

  pub first_only : (r : ℕ) → is_in r xs ≡ true → is_in r ys ≡ false → r ≡ get_or xs 0 0
  first_only r h n =
      ⊎_elim (λ e. e) (λ t. absurd (not_both t n))
      (in_cases r (get_or xs 0 0) ys (subst (λ (zs : List ℕ). is_in r zs ≡ true) c.moved (in_left r xs (0 ∷ []) h)))

pub first_found : (xs ys : List ℕ) → Shifted xs ys → first_not_in ys xs ≡ get_or xs 0 0
first_found [] ys c = refl
first_found (x ∷ xs) ys c = ap (λ (b : Bool). pick b (first_not_in ys xs) x) (first_kept (x ∷ xs) ys c)

pub first_not_zero : (x : ℕ) (xs ys : List ℕ) → Shifted (x ∷ xs) ys → x ≡ 0 → ⊥
first_not_zero x xs ys c z =
    not_both (subst (λ (k : ℕ). is_in k (xs ++ (0 ∷ [])) ≡ true) (sym z) (in_right 0 xs (0 ∷ []) (in_here 0 []))) (distinct_head x (xs ++ (0 ∷ [])) c.apart)

-- one number more in each: a further one, and the first so far
pub shifted_on : (xs ys : List ℕ) (r q : ℕ) → (r ≡ 0 → ⊥) → is_in r xs ≡ false → q ≡ first_not_in ys xs → Shifted xs ys → Shifted (r ∷ xs) (q ∷ ys)
shifted_on xs ys r q some further next c =
    record {
      apart =
          distinct_more r (xs ++ (0 ∷ [])) (not_true_false _ (λ t. ⊎_elim (λ u. not_both u further) (λ z. some (in_one r 0 z)) (in_append r xs (0 ∷ []) t))) c.apart;
      moved = ap (λ (zs : List ℕ). r ∷ zs) (c.moved ∙ ap (λ (l : ℕ). l ∷ ys) (sym (next ∙ first_found xs ys c)));
    }
