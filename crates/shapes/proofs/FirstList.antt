-- Of the lists that pass a test, all of one length and with bounded elements, some list comes first, or there is none.
use mathlib.Core.Path.{◌≡◌, refl, sym, subst}
use mathlib.Core.Bool.{Bool, true, ◌&&◌}
use mathlib.Core.List.{List, [], ◌∷◌}
use mathlib.Core.Logic.{◌⊎◌, inl, inr, ⊎_elim}
use Prim.Native.Nat.{ℕ, zero, suc, ◌+◌, ◌<◌}
use native.Mathlib.Decide.{ℕ_discrete, dec_lt}
use native.Mathlib.Omega.{arith}
use borrow.Author.Tests.{eq-eqb, ltb-true, lt-ltb}
use lib.Dec.{eqb, ltb}
use lib.ListN.{length}
use Rattle.finite.proofs.Tests.{either, not_both, and_left, and_right, and_both, or_left, or_right}
use Rattle.embedding.specs.Plates.{all_below}
use Rattle.shapes.specs.Shapes.{smaller}

pub record First (t : List ℕ → Bool) : Type 0 where
  pub list : List ℕ
  pub passes : t list ≡ true
  pub first : (y : List ℕ) → t y ≡ true → (y ≡ list) ⊎ (smaller list y ≡ true)

abbrev None : (List ℕ → Bool) → Type 0
None t = (y : List ℕ) → t y ≡ true → ⊥

-- what passes has this length and its elements below k
abbrev pub Boxed : ℕ → ℕ → (List ℕ → Bool) → Type 0
Boxed n k t = (y : List ℕ) → t y ≡ true → (length y ≡ n) × (all_below k y ≡ true)

head_less : (a b : ℕ) (xs ys : List ℕ) → a < b → smaller (a ∷ xs) (b ∷ ys) ≡ true
head_less a b xs ys l = or_left (ltb a b) (eqb a b && smaller xs ys) (lt-ltb a b l)

head_same : (a b : ℕ) (xs ys : List ℕ) → a ≡ b → smaller xs ys ≡ true → smaller (a ∷ xs) (b ∷ ys) ≡ true
head_same a b xs ys e s = or_right (ltb a b) (eqb a b && smaller xs ys) (and_both (eqb a b) (smaller xs ys) (eq-eqb a b e) s)

module _ (n k : ℕ) (t : List ℕ → Bool) (box : Boxed (suc n) k t) where
  box_rest : (a : ℕ) → Boxed n k (λ y. t (a ∷ y))
  box_rest a y e = let b = box (a ∷ y) e in (omega (arith, b.0), and_right (ltb a k) (all_below k y) b.1)

  -- the first head with which one passes
  heads : ((a : ℕ) → First (λ y. t (a ∷ y)) ⊎ None (λ y. t (a ∷ y)))
      → (m a : ℕ) → a + m ≡ k → ((b : ℕ) (y : List ℕ) → b < a → t (b ∷ y) ≡ true → ⊥) → First t ⊎ None t
  heads search zero a e below = inr none
    where
      none : (y : List ℕ) → t y ≡ true → ⊥
      none [] h = omega (arith, (box [] h).0)
      none (b ∷ y) h = below b y (omega (arith, ltb-true b k (and_left (ltb b k) (all_below k y) (box (b ∷ y) h).1))) h
  heads search (suc m) a e below = ⊎_elim (λ r. inl (found r)) (λ r. heads search m (suc a) (omega arith) (λ b y l h. up r b y l h (ℕ_discrete b a))) (search a)
    where
      found : First (λ y. t (a ∷ y)) → First t
      found r = record { list = a ∷ r.list; passes = r.passes; first = first }
        where
          at : (b : ℕ) (y : List ℕ) → t (b ∷ y) ≡ true → Dec (b < a) → Dec (b ≡ a) → ((b ∷ y) ≡ (a ∷ r.list)) ⊎ (smaller (a ∷ r.list) (b ∷ y) ≡ true)
          at b y h (yes l) e = absurd (below b y l h)
          at b y h (no l) (yes e) =
              ⊎_elim (λ q. inl (cc (e, q))) (λ q. inr (head_same a b r.list y (sym e) q)) (r.first y (subst (λ (c : ℕ). t (c ∷ y) ≡ true) e h))
          at b y h (no l) (no e) = inr (head_less a b r.list y (omega arith))

          first : (y : List ℕ) → t y ≡ true → (y ≡ (a ∷ r.list)) ⊎ (smaller (a ∷ r.list) y ≡ true)
          first [] h = absurd (omega (arith, (box [] h).0))
          first (b ∷ y) h = at b y h (dec_lt b a) (ℕ_discrete b a)

      up : None (λ y. t (a ∷ y)) → (b : ℕ) (y : List ℕ) → b < suc a → t (b ∷ y) ≡ true → Dec (b ≡ a) → ⊥
      up r b y l h (yes e) = r y (subst (λ (c : ℕ). t (c ∷ y) ≡ true) e h)
      up r b y l h (no n) = below b y (omega arith) h

pub first_list : (n k : ℕ) (t : List ℕ → Bool) → Boxed n k t → First t ⊎ None t
first_list zero k t box = ⊎_elim (λ e. inl (record { list = []; passes = e; first = λ y h. inl (empty y (box y h).0) })) (λ e. inr (λ y h. not_both (subst (λ (z : List ℕ). t z ≡ true) (empty y (box y h).0) h) e)) (either (t []))
  where
    empty : (y : List ℕ) → length y ≡ 0 → y ≡ []
    empty [] e = refl
    empty (b ∷ y) e = absurd (omega arith)
first_list (suc n) k t box = heads n k t box (λ a. first_list n k (λ y. t (a ∷ y)) (box_rest n k t box a)) k 0 (omega arith) (λ b y l h. omega arith)
