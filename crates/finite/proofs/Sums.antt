-- Sums of numbers over a list, and over all numbers below a bound.
use mathlib.Core.Path.{◌≡◌, refl, sym, ap, ◌∙◌}
use mathlib.Core.Bool.{Bool, true, false, ◌&&◌}
use mathlib.Core.List.{List, [], ◌∷◌, ◌++◌}
use mathlib.Core.Logic.{◌⊎◌, inl, inr}
use Prim.Native.Nat.{ℕ, zero, suc, ◌+◌, ◌*◌, ◌≤◌, ◌<◌, zero-le, suc-le-suc}
use native.Mathlib.Nat.{le_refl, le_of_suc-le-suc, eq-or-lt_of_le, zero-add, suc-add, add-zero, add-mul, mul-add, suc-mul}
use native.Mathlib.Numerals.{add-one}
use native.Mathlib.Omega.{arith}
use lib.Dec.{eqb, eqb-zero-suc, eqb-suc-zero, eqb-suc-suc}
use lib.ListN.{length, get_or, set}
use lib.Seq.{get_or-set_same, get_or-set_other}
use Rattle.finite.specs.Base.{when, total}

abbrev pub sum_below : ℕ → (ℕ → ℕ) → ℕ
sum_below zero g = 0
sum_below (suc n) g = g 0 + sum_below n (λ i. g (suc i))

abbrev pub sum_over : List ℕ → (ℕ → ℕ) → ℕ
sum_over [] g = 0
sum_over (x ∷ xs) g = g x + sum_over xs g

-- ---- term by term

pub sum_cong : (n : ℕ) (f g : ℕ → ℕ) → ((i : ℕ) → i < n → f i ≡ g i) → sum_below n f ≡ sum_below n g
sum_cong zero f g h = refl
sum_cong (suc n) f g h = cc (h 0 (omega arith), sum_cong n (λ i. f (suc i)) (λ i. g (suc i)) (λ i l. h (suc i) (suc-le-suc l)))

pub sum_none : (n : ℕ) → sum_below n (λ i. 0) ≡ 0
sum_none zero = refl
sum_none (suc n) = omega (arith, sum_none n)

pub sum_nothing : (n : ℕ) (f : ℕ → ℕ) → ((i : ℕ) → i < n → f i ≡ 0) → sum_below n f ≡ 0
sum_nothing n f h = sum_cong n f (λ i. 0) h ∙ sum_none n

pub sum_constant : (n c : ℕ) → sum_below n (λ i. c) ≡ n * c
sum_constant zero c = omega arith
sum_constant (suc n) c = omega (arith, sum_constant n c, suc-mul n c)

pub sum_ones : (n : ℕ) → sum_below n (λ i. 1) ≡ n
sum_ones n = omega (arith, sum_constant n 1)

pub sum_add : (n : ℕ) (f g : ℕ → ℕ) → sum_below n (λ i. f i + g i) ≡ sum_below n f + sum_below n g
sum_add zero f g = refl
sum_add (suc n) f g = omega (arith, sum_add n (λ i. f (suc i)) (λ i. g (suc i)))

pub sum_times : (c n : ℕ) (f : ℕ → ℕ) → sum_below n (λ i. c * f i) ≡ c * sum_below n f
sum_times c zero f = omega arith
sum_times c (suc n) f = omega (arith, sum_times c n (λ i. f (suc i)), mul-add c (f 0) (sum_below n (λ i. f (suc i))))

pub sum_le : (n : ℕ) (f g : ℕ → ℕ) → ((i : ℕ) → i < n → f i ≤ g i) → sum_below n f ≤ sum_below n g
sum_le zero f g h = zero-le
sum_le (suc n) f g h = omega (arith, h 0 (omega arith), sum_le n (λ i. f (suc i)) (λ i. g (suc i)) (λ i l. h (suc i) (suc-le-suc l)))

-- a term is at most the sum
pub sum_has : (n : ℕ) (f : ℕ → ℕ) (i : ℕ) → i < n → f i ≤ sum_below n f
sum_has zero f i l = absurd (omega arith)
sum_has (suc n) f zero l = omega arith
sum_has (suc n) f (suc i) l = omega (arith, sum_has n (λ i. f (suc i)) i (omega arith))

pub sum_lt : (n : ℕ) (f g : ℕ → ℕ) → ((i : ℕ) → i < n → f i ≤ g i) → (j : ℕ) → j < n → f j < g j → sum_below n f < sum_below n g
sum_lt zero f g h j l s = absurd (omega arith)
sum_lt (suc n) f g h zero l s = omega (arith, sum_le n (λ i. f (suc i)) (λ i. g (suc i)) (λ i k. h (suc i) (suc-le-suc k)))
sum_lt (suc n) f g h (suc j) l s =
    omega (arith, h 0 (omega arith), sum_lt n (λ i. f (suc i)) (λ i. g (suc i)) (λ i k. h (suc i) (suc-le-suc k)) j (le_of_suc-le-suc l) s)

-- equal sums of terms that are each at most the other are equal term by term
pub sum_tight : (n : ℕ) (f g : ℕ → ℕ) → ((i : ℕ) → i < n → f i ≤ g i) → sum_below n f ≡ sum_below n g → (i : ℕ) → i < n → f i ≡ g i
sum_tight n f g h e i l = at (eq-or-lt_of_le (h i l))
  where
    at : (f i ≡ g i) ⊎ (f i < g i) → f i ≡ g i
    at (inl q) = q
    at (inr s) = absurd (omega (arith, sum_lt n f g h i l s))

-- two families that differ at one index
pub sum_change : (n : ℕ) (f g : ℕ → ℕ) (j : ℕ) → j < n → ((i : ℕ) → i < n → (i ≡ j → ⊥) → f i ≡ g i) → sum_below n f + g j ≡ sum_below n g + f j
sum_change zero f g j l e = absurd (omega arith)
sum_change (suc n) f g zero l e =
    omega (arith, sum_cong n (λ i. f (suc i)) (λ i. g (suc i)) (λ i k. e (suc i) (suc-le-suc k) (λ (c : suc i ≡ 0). omega arith)))
sum_change (suc n) f g (suc j) l e =
    omega (
      arith,
      e 0 (omega arith) (λ (c : 0 ≡ suc j). omega arith),
      sum_change n (λ i. f (suc i)) (λ i. g (suc i)) j (le_of_suc-le-suc l) (λ i k c. e (suc i) (suc-le-suc k) (λ (q : suc i ≡ suc j). c (omega arith))),
    )

-- a family that is 0 but at one index
pub sum_one : (n : ℕ) (f : ℕ → ℕ) (j : ℕ) → j < n → ((i : ℕ) → i < n → (i ≡ j → ⊥) → f i ≡ 0) → sum_below n f ≡ f j
sum_one n f j l e = omega (arith, sum_change n f (λ i. 0) j l e, sum_none n)

-- a family over a list with one element set
pub sum_set : (n : ℕ) (f : ℕ → ℕ → ℕ) (xs : List ℕ) (a w : ℕ) → a < n → a < length xs
    → sum_below n (λ i. f i (get_or (set xs a w) i 0)) + f a (get_or xs a 0) ≡ sum_below n (λ i. f i (get_or xs i 0)) + f a w
sum_set n f xs a w l m =
    sum_change n (λ i. f i (get_or (set xs a w) i 0)) (λ i. f i (get_or xs i 0)) a l (λ i h k. ap (f i) (get_or-set_other xs a i w 0 k))
    ∙ ap (λ (z : ℕ). sum_below n (λ i. f i (get_or xs i 0)) + f a z) (get_or-set_same xs a w 0 m)

-- ---- parts of a sum

pub sum_split : (m n : ℕ) (g : ℕ → ℕ) → sum_below (m + n) g ≡ sum_below m g + sum_below n (λ i. g (m + i))
sum_split zero n g =
    ap (λ (k : ℕ). sum_below k g) (zero-add n) ∙ sym (zero-add (sum_below n g))
    ∙ ap (λ (s : ℕ). 0 + s) (sum_cong n g (λ i. g (0 + i)) (λ i l. ap g (sym (zero-add i))))
sum_split (suc m) n g =
    omega (
      arith,
      ap (λ (k : ℕ). sum_below k g) (suc-add m n),
      sum_split m n (λ i. g (suc i)),
      sum_cong n (λ i. g (suc m + i)) (λ i. g (suc (m + i))) (λ i l. ap g (suc-add m i)),
    )

-- the last term
pub sum_last : (n : ℕ) (g : ℕ → ℕ) → sum_below (suc n) g ≡ sum_below n g + g n
sum_last zero g = omega arith
sum_last (suc n) g = omega (arith, sum_last n (λ i. g (suc i)))

-- one term more, as a loop has it
pub sum_more : (n : ℕ) (g : ℕ → ℕ) → sum_below (n + 1) g ≡ sum_below n g + g n
sum_more n g = rw add-one (sum_last n g)

-- the first terms make no more than all
pub sum_part : (g : ℕ → ℕ) (i n : ℕ) → i ≤ n → sum_below i g ≤ sum_below n g
sum_part g zero n h = zero-le
sum_part g (suc i) zero h = absurd (omega arith)
sum_part g (suc i) (suc n) h = omega (arith, sum_part (λ j. g (suc j)) i n (le_of_suc-le-suc h))

pub sum_swap : (n m : ℕ) (h : ℕ → ℕ → ℕ) → sum_below n (λ i. sum_below m (λ j. h i j)) ≡ sum_below m (λ j. sum_below n (λ i. h i j))
sum_swap zero m h = sym (sum_none m)
sum_swap (suc n) m h = omega (arith, sum_swap n m (λ i. h (suc i)), sum_add m (λ j. h 0 j) (λ j. sum_below n (λ i. h (suc i) j)))

-- ---- terms where a test passes

pub when_zero : (b : Bool) → when b 0 ≡ 0
when_zero true = refl
when_zero false = refl

pub when_swap : (a b : Bool) (n : ℕ) → when a (when b n) ≡ when b (when a n)
when_swap true b n = refl
when_swap false b n = sym (when_zero b)

pub when_most : (b : Bool) (x : ℕ) → when b x ≤ x
when_most true x = le_refl x
when_most false x = zero-le

pub when_add : (b : Bool) (x y : ℕ) → when b (x + y) ≡ when b x + when b y
when_add true x y = refl
when_add false x y = refl

pub when_and : (a b : Bool) (n : ℕ) → when a (when b n) ≡ when (a && b) n
when_and true b n = refl
when_and false b n = refl

pub sum_when : (b : Bool) (n : ℕ) (g : ℕ → ℕ) → when b (sum_below n g) ≡ sum_below n (λ i. when b (g i))
sum_when true n g = refl
sum_when false n g = sym (sum_none n)

-- all but one term are nothing
pub sum_at : (n x : ℕ) (g : ℕ → ℕ) → x < n → sum_below n (λ i. when (eqb i x) (g i)) ≡ g x
sum_at zero x g l = omega arith
sum_at (suc n) zero g l =
    omega (arith, sum_none n, sum_cong n (λ i. when (eqb (suc i) 0) (g (suc i))) (λ i. 0) (λ i k. ap (λ (b : Bool). when b (g (suc i))) (eqb-suc-zero i)))
sum_at (suc n) (suc x) g l =
    omega (
      arith,
      sum_at n x (λ i. g (suc i)) (le_of_suc-le-suc l),
      ap (λ (b : Bool). when b (g 0)) (eqb-zero-suc x),
      sum_cong n (λ i. when (eqb (suc i) (suc x)) (g (suc i))) (λ i. when (eqb i x) (g (suc i))) (λ i k. ap (λ (b : Bool). when b (g (suc i))) (eqb-suc-suc i x)),
    )

-- the same number, as often as a test passes
pub sum_count : (n : ℕ) (t : ℕ → Bool) (c : ℕ) → sum_below n (λ i. when (t i) c) ≡ sum_below n (λ i. when (t i) 1) * c
sum_count zero t c = omega arith
sum_count (suc n) t c = by (t 0) (sum_count n (λ i. t (suc i)) c)
  where
    by : (b : Bool) → sum_below n (λ i. when (t (suc i)) c) ≡ sum_below n (λ i. when (t (suc i)) 1) * c
        → when b c + sum_below n (λ i. when (t (suc i)) c) ≡ (when b 1 + sum_below n (λ i. when (t (suc i)) 1)) * c
    by true h = omega (arith, h, add-mul 1 (sum_below n (λ i. when (t (suc i)) 1)) c)
    by false h = omega (arith, h, add-mul 0 (sum_below n (λ i. when (t (suc i)) 1)) c)

-- ---- sums over lists

pub sum_over_places : (xs : List ℕ) (g : ℕ → ℕ) → sum_over xs g ≡ sum_below (length xs) (λ i. g (get_or xs i 0))
sum_over_places [] g = refl
sum_over_places (x ∷ xs) g = ap (λ (s : ℕ). g x + s) (sum_over_places xs g)

pub sum_over_append : (xs ys : List ℕ) (g : ℕ → ℕ) → sum_over (xs ++ ys) g ≡ sum_over xs g + sum_over ys g
sum_over_append [] ys g = omega arith
sum_over_append (x ∷ xs) ys g = omega (arith, sum_over_append xs ys g)

pub sum_over_ones : (xs : List ℕ) → sum_over xs (λ i. 1) ≡ length xs
sum_over_ones [] = refl
sum_over_ones (x ∷ xs) = omega (arith, sum_over_ones xs)

pub sum_over_cong : (xs : List ℕ) (f g : ℕ → ℕ) → ((i : ℕ) → f i ≡ g i) → sum_over xs f ≡ sum_over xs g
sum_over_cong [] f g h = refl
sum_over_cong (x ∷ xs) f g h = cc (h x, sum_over_cong xs f g h)

pub total_sum : (xs : List ℕ) → total xs ≡ sum_below (length xs) (λ i. get_or xs i 0)
total_sum [] = refl
total_sum (x ∷ xs) = omega (arith, total_sum xs)

pub total_set : (xs : List ℕ) (a w : ℕ) → a < length xs → total (set xs a w) + get_or xs a 0 ≡ total xs + w
total_set (x ∷ xs) zero w m = omega arith
total_set (x ∷ xs) (suc a) w m = omega (arith, total_set xs a w (le_of_suc-le-suc m))
total_set [] a w m = omega arith

-- a sum that counts its numbers up from a
pub sum_from : (F : ℕ → ℕ → ℕ) (g : ℕ → ℕ) → ((a : ℕ) → F 0 a ≡ 0) → ((n a : ℕ) → F (suc n) a ≡ g a + F n (suc a)) → (n a : ℕ) → F n a ≡ sum_below n (λ i. g (a + i))
sum_from F g none more zero a = none a
sum_from F g none more (suc n) a =
    omega (arith, more n a, sum_from F g none more n (suc a), ap g (add-zero a), sum_cong n (λ i. g (suc a + i)) (λ i. g (a + suc i)) (λ i l. ap g (omega arith)))
