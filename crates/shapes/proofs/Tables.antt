-- Lists in two parts and lists by a rule, and the flow sums over them.
use mathlib.Core.Path.{◌≡◌, refl, ap, subst, ◌∙◌}
use mathlib.Core.List.{List, [], ◌∷◌, ◌++◌, map}
use Prim.Native.Nat.{ℕ, zero, suc, ◌+◌, ◌-◌, ◌<◌}
use native.Mathlib.Decide.{dec_lt}
use native.Mathlib.Nat.{le_of_suc-le-suc}
use native.Mathlib.Omega.{arith}
use lib.Dec.{eqb}
use lib.ListN.{length, get_or, replicate, length-replicate, get_or-replicate, get_or-append}
use lib.Seq.{get_or-append-add}
use Rattle.finite.proofs.Sums.{sum_below, sum_over}
use Rattle.flow.specs.Network.{when, units_at, total, cost_of}
use Rattle.shapes.specs.NetworkOf.{table}

pub length_table : (n : ℕ) (f : ℕ → ℕ) → length (table n f) ≡ n
length_table zero f = refl
length_table (suc n) f = ap suc (length_table n (λ i. f (suc i)))

pub table_at : (n : ℕ) (f : ℕ → ℕ) (i : ℕ) → i < n → get_or (table n f) i 0 ≡ f i
table_at zero f i l = absurd (omega arith)
table_at (suc n) f zero l = refl
table_at (suc n) f (suc i) l = table_at n (λ i. f (suc i)) i (le_of_suc-le-suc l)

pub map_at : (f : ℕ → ℕ) (xs : List ℕ) (i : ℕ) → i < length xs → get_or (map f xs) i 0 ≡ f (get_or xs i 0)
map_at f [] i l = absurd (omega arith)
map_at f (x ∷ xs) zero l = refl
map_at f (x ∷ xs) (suc i) l = map_at f xs i (le_of_suc-le-suc l)

-- two parts, the first n long
module _ (xs ys : List ℕ) (n : ℕ) (long : length xs ≡ n) where
  pub first_at : (i : ℕ) → i < n → get_or (xs ++ ys) i 0 ≡ get_or xs i 0
  first_at i l = get_or-append xs ys 0 i (omega arith)

  pub second_at : (i : ℕ) → get_or (xs ++ ys) (n + i) 0 ≡ get_or ys i 0
  second_at i = subst (λ (k : ℕ). get_or (xs ++ ys) (k + i) 0 ≡ get_or ys i 0) long (get_or-append-add xs ys i 0)

-- m of one number, then m of another
module _ (m a b : ℕ) where
  pub two_first : (i : ℕ) → i < m → get_or (replicate m a ++ replicate m b) i 0 ≡ a
  two_first i l = first_at (replicate m a) (replicate m b) m (length-replicate m a) i l ∙ get_or-replicate m i a 0 l

  pub two_second : (i : ℕ) → i < m → get_or (replicate m a ++ replicate m b) (m + i) 0 ≡ b
  two_second i l = second_at (replicate m a) (replicate m b) m (length-replicate m a) i ∙ get_or-replicate m i b 0 l

pub by_parts : (P : ℕ → Type 0) (m n : ℕ) → ((i : ℕ) → i < m → P i) → ((i : ℕ) → i < n → P (m + i)) → (a : ℕ) → a < m + n → P a
by_parts P m n f g a l = go (dec_lt a m)
  where
    go : Dec (a < m) → P a
    go (yes h) = f a h
    go (no h) =
        let q : m + (a - m) ≡ a = omega arith in
        subst P q (g (a - m) (omega arith))

pub units_append : (es fs xs ys : List ℕ) (v : ℕ) → length es ≡ length xs → units_at (es ++ fs) (xs ++ ys) v ≡ units_at es xs v + units_at fs ys v
units_append [] fs [] ys v e = omega arith
units_append [] fs (x ∷ xs) ys v e = omega arith
units_append (t ∷ es) fs [] ys v e = omega arith
units_append (t ∷ es) fs (x ∷ xs) ys v e = omega (arith, units_append es fs xs ys v (omega arith))

pub units_table : (n : ℕ) (f : ℕ → ℕ) (xs : List ℕ) (v : ℕ) → length xs ≡ n → units_at (table n f) xs v ≡ sum_below n (λ d. when (eqb (f d) v) (get_or xs d 0))
units_table zero f xs v e = refl
units_table (suc n) f [] v e = omega arith
units_table (suc n) f (x ∷ xs) v e = omega (arith, units_table n (λ i. f (suc i)) xs v (omega arith))

-- units that cost 1 each, then units that cost nothing
cost_free : (n : ℕ) (ys : List ℕ) → cost_of (replicate n 0) ys ≡ 0
cost_free zero ys = refl
cost_free (suc n) [] = refl
cost_free (suc n) (y ∷ ys) = omega (arith, cost_free n ys)

pub cost_first : (m n : ℕ) (xs ys : List ℕ) → length xs ≡ m → cost_of (replicate m 1 ++ replicate n 0) (xs ++ ys) ≡ total xs
cost_first zero n [] ys e = cost_free n ys
cost_first zero n (x ∷ xs) ys e = omega arith
cost_first (suc m) n [] ys e = omega arith
cost_first (suc m) n (x ∷ xs) ys e = omega (arith, cost_first m n xs ys (omega arith))

pub total_append : (xs ys : List ℕ) → total (xs ++ ys) ≡ total xs + total ys
total_append [] ys = omega arith
total_append (x ∷ xs) ys = omega (arith, total_append xs ys)

pub total_replicate : (n c : ℕ) → total (replicate n c) ≡ sum_below n (λ i. c)
total_replicate zero c = refl
total_replicate (suc n) c = omega (arith, total_replicate n c)

pub total_map : (f : ℕ → ℕ) (xs : List ℕ) → total (map f xs) ≡ sum_over xs f
total_map f [] = refl
total_map f (x ∷ xs) = omega (arith, total_map f xs)
