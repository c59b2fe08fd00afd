-- A table filled a place at a time.
use mathlib.Core.Path.{◌≡◌, refl, sym, ap, ◌∙◌}
use mathlib.Core.Bool.{Bool, true, false}
use mathlib.Core.List.{List}
use mathlib.Core.Logic.{⊎_elim}
use Prim.Native.Nat.{ℕ, ◌+◌, ◌≤◌, ◌<◌}
use native.Mathlib.Omega.{arith}
use borrow.Author.Tests.{lt-ltb, le-ltb, ltb-true, ltb-false}
use lib.Dec.{ltb}
use lib.ListN.{length, get_or, set, length-set, replicate, length-replicate, get_or-replicate, get_or-eq_default}
use lib.Seq.{get_or-set_same, get_or-set_other, ext_get_or}
use Rattle.finite.specs.Base.{pick}
use Rattle.finite.specs.Tables.{Table, up_to}
use Rattle.finite.proofs.Tests.{equal_or_not}

pub up_below : (k : ℕ) (f : ℕ → ℕ) (i : ℕ) → i < k → up_to k f i ≡ f i
up_below k f i l = rw (lt-ltb i k l)

pub up_from : (k : ℕ) (f : ℕ → ℕ) (i : ℕ) → k ≤ i → up_to k f i ≡ 0
up_from k f i l = rw (le-ltb i k l)

pub up_cong : (k : ℕ) (f g : ℕ → ℕ) (i : ℕ) → (i < k → f i ≡ g i) → up_to k f i ≡ up_to k g i
up_cong k f g i h = go (ltb i k) refl
  where
    go : (b : Bool) → ltb i k ≡ b → pick b (f i) 0 ≡ pick b (g i) 0
    go true e = h (ltb-true i k e)
    go false e = refl

pub table_none : (n : ℕ) (f : ℕ → ℕ) → Table n (up_to 0 f) (replicate n 0)
table_none n f = record { size = length-replicate n 0; at = λ i l. get_or-replicate n i 0 0 l ∙ sym (up_from 0 f i (omega arith)) }

pub table_cong : (n : ℕ) (f g : ℕ → ℕ) (xs : List ℕ) → ((i : ℕ) → i < n → f i ≡ g i) → Table n f xs → Table n g xs
table_cong n f g xs h t = record { size = t.size; at = λ i l. t.at i l ∙ h i l }

-- one place set
pub table_set : (n : ℕ) (f g : ℕ → ℕ) (xs : List ℕ) (k w : ℕ) → Table n f xs → k < n → w ≡ g k → ((i : ℕ) → (i ≡ k → ⊥) → g i ≡ f i) → Table n g (set xs k w)
table_set n f g xs k w t l e h =
    record {
      size = length-set xs k w ∙ t.size;
      at = λ i m. ⊎_elim (λ q. ap (λ (j : ℕ). get_or (set xs k w) j 0) q ∙ get_or-set_same xs k w 0 (omega (arith, t.size)) ∙ e ∙ ap g (sym q))
          (λ q. get_or-set_other xs k i w 0 q ∙ t.at i m ∙ sym (h i q)) (equal_or_not i k);
    }

pub up_more : (f : ℕ → ℕ) (k i : ℕ) → (i ≡ k → ⊥) → up_to (k + 1) f i ≡ up_to k f i
up_more f k i q = ap (λ (b : Bool). pick b (f i) 0) (same (ltb i (k + 1)) (ltb i k) refl refl)
  where
    same : (a b : Bool) → ltb i (k + 1) ≡ a → ltb i k ≡ b → a ≡ b
    same true true e d = refl
    same false false e d = refl
    same true false e d = absurd (q (omega (arith, ltb-true, ltb-false)))
    same false true e d = absurd (omega (arith, ltb-true, ltb-false))

-- the table up to k, one more place
pub table_more : (n : ℕ) (f : ℕ → ℕ) (xs : List ℕ) (k w : ℕ) → Table n (up_to k f) xs → k < n → w ≡ f k → Table n (up_to (k + 1) f) (set xs k w)
table_more n f xs k w t l e = table_set n (up_to k f) (up_to (k + 1) f) xs k w t l (e ∙ sym (up_below (k + 1) f k (omega arith))) (up_more f k)

-- a list copied as far as it goes
pub table_list : (n : ℕ) (s xs : List ℕ) (k : ℕ) → length s ≤ k → Table n (up_to k (λ i. get_or s i 0)) xs → Table n (λ i. get_or s i 0) xs
table_list n s xs k h = table_cong n (up_to k (λ i. get_or s i 0)) (λ i. get_or s i 0) xs (λ i l. go i (ltb i k) refl)
  where
    go : (i : ℕ) (b : Bool) → ltb i k ≡ b → pick b (get_or s i 0) 0 ≡ get_or s i 0
    go i true e = refl
    go i false e = sym (get_or-eq_default s 0 {n = i} (omega (arith, ltb-false i k e)))

pub table_only : (n : ℕ) (f : ℕ → ℕ) (xs ys : List ℕ) → Table n f xs → Table n f ys → xs ≡ ys
table_only n f xs ys s t = ext_get_or 0 xs ys (s.size ∙ sym t.size) (λ i l. s.at i (omega (arith, s.size)) ∙ sym (t.at i (omega (arith, s.size))))
