-- What the specification's sums are by index; a per-node equation becomes a sum by arc.
use mathlib.Core.Path.{◌≡◌, refl, sym, ap, ◌∙◌}
use mathlib.Core.Bool.{Bool, ◌&&◌, not}
use mathlib.Core.List.{List, [], ◌∷◌}
use Prim.Native.Nat.{ℕ, zero, suc, ◌+◌, ◌*◌, ◌<◌}
use native.Mathlib.Nat.{mul-add, mul-zero}
use native.Mathlib.Omega.{arith}
use lib.Dec.{eqb}
use lib.ListN.{length, get_or}
use borrow.Author.Tests.{eq-eqb, ne_eqb}
use Rattle.finite.proofs.Sums.{sum_below, sum_cong, sum_nothing, sum_add, sum_one, when_zero, when_add}
use Rattle.flow.specs.Network.{when, units_at, cost_of, within, held, crossing}

-- ---- the specification's sums by index

pub cost_of_sum : (cs xs : List ℕ) → cost_of cs xs ≡ sum_below (length cs) (λ a. get_or cs a 0 * get_or xs a 0)
cost_of_sum [] xs = refl
cost_of_sum (c ∷ cs) [] = sym (sum_nothing (suc (length cs)) (λ a. get_or (c ∷ cs) a 0 * 0) (λ a h. mul-zero (get_or (c ∷ cs) a 0)))
cost_of_sum (c ∷ cs) (x ∷ xs) = omega (arith, cost_of_sum cs xs)

pub held_sum : (s : List Bool) (xs : List ℕ) → held s xs ≡ sum_below (length xs) (λ v. when (within s v) (get_or xs v 0))
held_sum [] xs = sym (sum_nothing (length xs) (λ v. when (within [] v) (get_or xs v 0)) (λ v h. refl))
held_sum (b ∷ s) [] = refl
held_sum (b ∷ s) (x ∷ xs) = omega (arith, held_sum s xs)

pub crossing_sum : (s : List Bool) (ts hs xs : List ℕ) (arcs : ℕ) → length ts ≡ arcs → length hs ≡ arcs
    → crossing s ts hs xs ≡ sum_below arcs (λ a. when (within s (get_or ts a 0) && not (within s (get_or hs a 0))) (get_or xs a 0))
crossing_sum s [] hs xs zero p q = refl
crossing_sum s [] hs xs (suc m) p q = omega arith
crossing_sum s (t ∷ ts) hs xs zero p q = omega arith
crossing_sum s (t ∷ ts) [] xs (suc m) p q = omega arith
crossing_sum s (t ∷ ts) (h ∷ hs) [] (suc m) p q =
    sym (sum_nothing (suc m) (λ a. when (within s (get_or (t ∷ ts) a 0) && not (within s (get_or (h ∷ hs) a 0))) 0)
    (λ a l. when_zero (within s (get_or (t ∷ ts) a 0) && not (within s (get_or (h ∷ hs) a 0)))))
crossing_sum s (t ∷ ts) (h ∷ hs) (x ∷ xs) (suc m) p q =
    omega (
      arith,
      crossing_sum s ts hs xs m (omega arith) (omega arith),
    )

-- ---- from nodes to arcs

-- a weight by node, of units
pub record Additive (w : ℕ → ℕ → ℕ) : Type 0 where
  pub none : (v : ℕ) → w v 0 ≡ 0
  pub more : (v x y : ℕ) → w v (x + y) ≡ w v x + w v y

abbrev pub worth : List ℕ → ℕ → ℕ → ℕ
worth p v x = get_or p v 0 * x

abbrev pub inside : List Bool → ℕ → ℕ → ℕ
inside s v x = when (within s v) x

pub worth_additive : (p : List ℕ) → Additive (worth p)
worth_additive p = record { none = λ v. mul-zero (get_or p v 0); more = λ v x y. mul-add (get_or p v 0) x y }

pub inside_additive : (s : List Bool) → Additive (inside s)
inside_additive s = record { none = λ v. when_zero (within s v); more = λ v x y. when_add (within s v) x y }

module _ (w : ℕ → ℕ → ℕ) (add : Additive w) (nodes : ℕ) where
  -- what one arc's units weigh over all nodes
  one_arc : (e x : ℕ) → e < nodes → sum_below nodes (λ v. w v (when (eqb e v) x)) ≡ w e x
  one_arc e x l =
      sum_one nodes (λ v. w v (when (eqb e v) x)) e l
      (λ v h n. ap (λ (b : Bool). w v (when b x)) (ne_eqb e v (λ (q : e ≡ v). n (sym q))) ∙ add.none v)
      ∙ ap (λ (b : Bool). w e (when b x)) (eq-eqb e e refl)

  pub by-arc : (es xs : List ℕ) → ((a : ℕ) → a < length es → get_or es a 0 < nodes)
      → sum_below nodes (λ v. w v (units_at es xs v)) ≡ sum_below (length es) (λ a. w (get_or es a 0) (get_or xs a 0))
  by-arc [] xs h = sum_nothing nodes (λ v. w v 0) (λ v l. add.none v)
  by-arc (e ∷ es) [] h =
      sum_nothing nodes (λ v. w v 0) (λ v l. add.none v)
      ∙ sym (sum_nothing (suc (length es)) (λ a. w (get_or (e ∷ es) a 0) 0) (λ a l. add.none (get_or (e ∷ es) a 0)))
  by-arc (e ∷ es) (x ∷ xs) h =
      omega (
        arith,
        sum_cong nodes (λ v. w v (when (eqb e v) x + units_at es xs v)) (λ v. w v (when (eqb e v) x) + w v (units_at es xs v)) (λ v l. add.more v (when (eqb e v) x) (units_at es xs v)),
        sum_add nodes (λ v. w v (when (eqb e v) x)) (λ v. w v (units_at es xs v)),
        one_arc e x (h 0 (omega arith)),
        by-arc es xs (λ a l. h (suc a) (omega arith)),
      )

  -- an equation at each node, with what else leaves (o) and comes (i) there, as one equation by arc
  pub balance : (ts hs xs : List ℕ) → length hs ≡ length ts
      → ((a : ℕ) → a < length ts → get_or ts a 0 < nodes) → ((a : ℕ) → a < length ts → get_or hs a 0 < nodes)
      → (o i : ℕ → ℕ) → ((v : ℕ) → v < nodes → units_at ts xs v + o v ≡ units_at hs xs v + i v)
      → sum_below (length ts) (λ a. w (get_or ts a 0) (get_or xs a 0)) + sum_below nodes (λ v. w v (o v)) ≡ sum_below (length ts) (λ a. w (get_or hs a 0) (get_or xs a 0)) + sum_below nodes (λ v. w v (i v))
  balance ts hs xs long tails_in heads_in o i e =
      omega (
        arith,
        by-arc ts xs tails_in,
        by-arc hs xs (λ a l. heads_in a (omega arith)),
        ap (λ (k : ℕ). sum_below k (λ a. w (get_or hs a 0) (get_or xs a 0))) long,
        spread ts o,
        spread hs i,
        sum_cong nodes (λ v. w v (units_at ts xs v + o v)) (λ v. w v (units_at hs xs v + i v)) (λ v l. ap (w v) (e v l)),
      )
    where
      spread : (es : List ℕ) (f : ℕ → ℕ) → sum_below nodes (λ v. w v (units_at es xs v + f v)) ≡ sum_below nodes (λ v. w v (units_at es xs v)) + sum_below nodes (λ v. w v (f v))
      spread es f =
          sum_cong nodes (λ v. w v (units_at es xs v + f v)) (λ v. w v (units_at es xs v) + w v (f v)) (λ v l. add.more v (units_at es xs v) (f v))
          ∙ sum_add nodes (λ v. w v (units_at es xs v)) (λ v. w v (f v))

-- over the members of a set, sums add
pub inside_add : (s : List Bool) (k : ℕ) (f g : ℕ → ℕ) → sum_below k (λ i. when (within s i) (f i + g i)) ≡ sum_below k (λ i. when (within s i) (f i)) + sum_below k (λ i. when (within s i) (g i))
inside_add s k f g =
    sum_cong k (λ i. when (within s i) (f i + g i)) (λ i. when (within s i) (f i) + when (within s i) (g i)) (λ i l. when_add (within s i) (f i) (g i))
    ∙ sum_add k (λ i. when (within s i) (f i)) (λ i. when (within s i) (g i))
