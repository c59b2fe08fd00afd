-- What holds of post 0 and passes along strips holds of every post of a connected plate.
use mathlib.Core.Path.{◌≡◌, refl, sym, subst}
use mathlib.Core.Bool.{Bool, true, false, ◌&&◌, not}
use mathlib.Core.List.{List, [], ◌∷◌}
use Prim.Native.Nat.{ℕ, zero, suc, ◌%◌, ◌<◌}
use native.Mathlib.Omega.{arith}
use borrow.Author.Tests.{eqb-true, ltb-true, lt-ltb, not-true}
use lib.Dec.{ltb}
use lib.ListN.{length, get_or}
use Rattle.finite.proofs.Members.{in_one, in_cases, distinct_more}
use Rattle.finite.proofs.Pigeonhole.{has_all}
use Rattle.finite.proofs.Tests.{and_left, and_right, and_both}
use Rattle.embedding.specs.Plates.{pick, is_in, Plate, darts, all_below, distinct, joins, reach, connected}
use mathlib.Core.Logic.{⊎_elim}

-- P holds of both ends of a strip or of neither
abbrev pub Linked : (ℕ → Type 0) → List ℕ → Type 0
Linked P [] = Unit {0}
Linked P (a ∷ []) = Unit {0}
Linked P (a ∷ (b ∷ es)) = (P a → P b) × (P b → P a) × Linked P es

pub linked : (P : ℕ → Type 0) (es : List ℕ) → ((i : ℕ) → i % 2 ≡ 0 → suc i < length es → (P (get_or es i 0) → P (get_or es (suc i) 0)) × (P (get_or es (suc i) 0) → P (get_or es i 0))) → Linked P es
linked P [] h = tt
linked P (a ∷ []) h = tt
linked P (a ∷ (b ∷ es)) h = ((h 0 refl (omega arith)).0, (h 0 refl (omega arith)).1, linked P es (λ i e l. h (suc (suc i)) (omega arith) (omega arith)))

-- posts seen: distinct, below n, P holds of each
pub record Good (n : ℕ) (P : ℕ → Type 0) (seen : List ℕ) : Type 0 where
  pub once : distinct seen ≡ true
  pub below : all_below n seen ≡ true
  pub holds : (v : ℕ) → is_in v seen ≡ true → P v

module _ (n : ℕ) (P : ℕ → Type 0) where
  more_good : (b : ℕ) (seen : List ℕ) → is_in b seen ≡ false → b < n → P b → Good n P seen → Good n P (b ∷ seen)
  more_good b seen e l h g =
      record {
        once = distinct_more b seen e g.once;
        below = and_both (ltb b n) (all_below n seen) (lt-ltb b n l) g.below;
        holds = λ v i. ⊎_elim (λ q. subst P (sym q) h) (g.holds v) (in_cases v b seen i);
      }

  -- one side of the strip a b seen and the other not
  side_good : (a b : ℕ) (seen rest : List ℕ) → b < n → (P a → P b) → Good n P seen → Good n P rest → (t : Bool) → is_in a seen && not (is_in b seen) ≡ t → Good n P (pick t (b ∷ seen) rest)
  side_good a b seen rest l f g r true e =
      more_good b seen (not-true (is_in b seen) (and_right (is_in a seen) (not (is_in b seen)) e)) l
      (f (g.holds a (and_left (is_in a seen) (not (is_in b seen)) e))) g
  side_good a b seen rest l f g r false e = r

  pub joins_good : (es seen : List ℕ) → all_below n es ≡ true → Linked P es → Good n P seen → Good n P (joins es seen)
  joins_good [] seen a k g = g
  joins_good (x ∷ []) seen a k g = g
  joins_good (x ∷ (y ∷ es)) seen a k g =
      joins_good es _ (and_right (ltb y n) (all_below n es) past) k.2
      (side_good x y seen _ (ltb-true y n (and_left (ltb y n) (all_below n es) past)) k.0 g
      (side_good y x seen seen (ltb-true x n (and_left (ltb x n) (ltb y n && all_below n es) a)) k.1 g g (is_in y seen && not (is_in x seen)) refl)
      (is_in x seen && not (is_in y seen)) refl)
    where
      past : ltb y n && all_below n es ≡ true
      past = and_right (ltb x n) (ltb y n && all_below n es) a

  reach_good : (p : Plate) (k : ℕ) (seen : List ℕ) → all_below n p.ends ≡ true → Linked P p.ends → Good n P seen → Good n P (reach k p seen)
  reach_good p zero seen a h g = g
  reach_good p (suc k) seen a h g = reach_good p k (joins p.ends seen) a h (joins_good p.ends seen a h g)

pub spreads : (p : Plate) (P : ℕ → Type 0) → all_below p.posts p.ends ≡ true → connected p ≡ true → P 0
    → ((i : ℕ) → i % 2 ≡ 0 → suc i < darts p → (P (get_or p.ends i 0) → P (get_or p.ends (suc i) 0)) × (P (get_or p.ends (suc i) 0) → P (get_or p.ends i 0)))
    → (v : ℕ) → v < p.posts → P v
spreads p P a c h pass v l = reached.holds v (has_all p.posts all reached.once reached.below (eqb-true (length all) p.posts c) v l)
  where
    all : List ℕ
    all = reach p.posts p (0 ∷ [])

    first : Good p.posts P (0 ∷ [])
    first = record { once = refl; below = and_both (ltb 0 p.posts) true (lt-ltb 0 p.posts (omega arith)) refl; holds = λ u e. subst P (sym (in_one u 0 e)) h }

    reached : Good p.posts P all
    reached = reach_good p.posts P p p.posts (0 ∷ []) a (linked P p.ends pass) first
