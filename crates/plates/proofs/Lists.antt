-- The plate of an accepted list is accepted, and the strips of a walked list are whole, so what is proved of plates holds of lists. Assumes nothing.
use mathlib.Core.Path.{◌≡◌, refl, sym, ap, subst}
use mathlib.Core.Bool.{Bool, true, false, ◌&&◌, not}
use mathlib.Core.List.{List, []}
use mathlib.Core.Logic.{◌↔◌}
use Prim.Native.Nat.{ℕ, ◌≤◌}
use native.Mathlib.Omega.{arith}
use lib.Dec.{eqb}
use lib.ListN.{length}
use borrow.Author.Tests.{eqb-true, not-false}
use Rattle.finite.proofs.Tests.{and_left, and_right, or_second, first_none, first_same, first-of, fault-of, when_of, when_none}
use Rattle.fields.proofs.Laid.{absent_none}
use Rattle.fields.proofs.Turns.{walk_number}
use Rattle.embedding.proofs.Loops.{plate_number}
use Rattle.embedding.proofs.OnePass.{stopped-after, answered_after, pass-fault}
use Rattle.shapes.specs.Claims.{Accepted}
use Rattle.shapes.specs.Rates.{rates, prices_ok, Fair}
use Rattle.shapes.proofs.Demands as Plates
use Rattle.shapes.proofs.StripLoops.{prices_fair}
use Rattle.shapes.proofs.Unpriced.{fair_unpriced, within_by, by_within, by_free, free_best, best_free}
use Rattle.shapes.proofs.RatedOrder.{one_best_by}
use Rattle.plates.specs.Plates.{first_of, when, strips, plate_fault}
use Rattle.plates.specs.Shapes.{Shape, Rates, all_free, BestBy, BestWithin, shape_of}
use Rattle.plates.specs.Files.{has_tag, walk_all, list_fault, limits_fit, prices_fit, rates_fault, plate_of, limits_of, prices_of, is_priced, rates_of}
use Rattle.plates.specs.Pass.{pass_fault, list_pass, OnePass}
use Rattle.plates.specs.Claims.{Best, BestOf, SomeWithin, HasBest, Demands}
use Rattle.plates.proofs.Contents.{list_fields}

module _ (b : List ℕ) (e : list_fault b ≡ 0) where
  abbrev later : ℕ
  later = first_of (plate_fault (plate_of b)) (rates_fault (walk_all false b).fields)

  pub list_walked : (walk_all false b).number ≡ 0
  list_walked = (first_none (walk_all false b).number later e).0

  pub list_faultless : plate_fault (plate_of b) ≡ 0
  list_faultless = (first_none (plate_fault (plate_of b)) (rates_fault (walk_all false b).fields) (first_none (walk_all false b).number later e).1).0

  pub list_accepted : Accepted (plate_of b)
  list_accepted = record { no_fault = list_faultless; even_darts = (list_fields b list_walked).ends_even }

  late : rates_fault (walk_all false b).fields ≡ 0
  late = (first_none (plate_fault (plate_of b)) _ (first_none (walk_all false b).number later e).1).1

  pub list_limits : limits_fit (walk_all false b).fields ≡ true
  list_limits = not-false _ (when_none (not (limits_fit (walk_all false b).fields)) 22 (first_none (when (not (limits_fit (walk_all false b).fields)) 23) _ late).0)

  pub list_prices : prices_fit (walk_all false b).fields ≡ true
  list_prices = not-false _ (when_none (not (prices_fit (walk_all false b).fields)) 37 (first_none (when (not (limits_fit (walk_all false b).fields)) 23) _ late).1)

  -- one limit and one price for each strip, where the list has any
  pub limits_each : has_tag 7 (walk_all false b).fields ≡ true → length (limits_of b) ≡ strips (plate_of b)
  limits_each h = eqb-true (length (limits_of b)) (strips (plate_of b)) (or_second (not (has_tag 7 (walk_all false b).fields)) _ list_limits (ap not h))

  pub priced_fit : is_priced b ≡ true → (eqb (length (prices_of b)) (strips (plate_of b)) && prices_ok (prices_of b)) ≡ true
  priced_fit h = or_second (not (is_priced b)) _ list_prices (ap not h)

  pub prices_each : is_priced b ≡ true → length (prices_of b) ≡ strips (plate_of b)
  prices_each h = eqb-true (length (prices_of b)) (strips (plate_of b)) (and_left (eqb (length (prices_of b)) (strips (plate_of b))) _ (priced_fit h))

  -- and prices are 1 to 100, of a list without them too
  pub list_fair : Fair (rates_of b)
  list_fair = by (is_priced b) refl
    where
      by : (p : Bool) → is_priced b ≡ p → Fair (rates_of b)
      by true h = prices_fair (limits_of b) (prices_of b) (and_right (eqb (length (prices_of b)) (strips (plate_of b))) _ (priced_fit h))
      by false h = subst (λ (ps : List ℕ). Fair (rates (limits_of b) ps)) (sym (absent_none 8 (walk_all false b).fields h)) (fair_unpriced (limits_of b))

-- without limits there is a best shape; where some shape keeps the limits there is one, and it is such a shape
some_best : (b : List ℕ) → list_fault b ≡ 0 → all_free (limits_of b) ≡ true → HasBest b
some_best b e free =
    let (a, r, best, rights) = (Plates.demand_by).always_some (plate_of b) (prices_of b) (list_accepted b e) (record { some_price = (list_fair b e).some_price; price_most = (list_fair b e).price_most }) in
    (a, r, by_free (limits_of b) free best, rights)

best_within : (b : List ℕ) → list_fault b ≡ 0 → SomeWithin b → HasBest b
best_within b e (u, m, k) = (Plates.demand_by).some_best (plate_of b) (rates_of b) (list_accepted b e) (list_fair b e) u m k

pub best_some : (b : List ℕ) → HasBest b → SomeWithin b
best_some b (a, r, best, rights) = (shape_of (plate_of b) a r, best.meets_all, best.keeps_all)

-- the best shape of a list without prices, and of one without limits either
module _ (b : List ℕ) (unpriced : is_priced b ≡ false) (u : Shape) where
  pub rates_are : rates_of b ≡ rates (limits_of b) []
  rates_are = ap (rates (limits_of b)) (absent_none 8 (walk_all false b).fields unpriced)

  pub of_within : BestOf b u ↔ BestWithin (plate_of b) (limits_of b) u
  of_within = (λ h. within_by (limits_of b) (subst (λ (r : Rates). BestBy (plate_of b) r u) rates_are h), λ h. subst (λ (r : Rates). BestBy (plate_of b) r u) (sym rates_are) (by_within (limits_of b) h))

  pub of_plate : all_free (limits_of b) ≡ true → BestOf b u ↔ Best (plate_of b) u
  of_plate free = (λ h. free_best (limits_of b) free (of_within.0 h), λ h. of_within.1 (best_free (limits_of b) free h))

pub free_some : (b : List ℕ) → list_fault b ≡ 0 → all_free (limits_of b) ≡ true → SomeWithin b
free_some b e free = best_some b (some_best b e free)

pub list_demands : Demands
list_demands = record {
  network = λ b e. (Plates.demands).network (plate_of b) (list_accepted b e);
  third = record { some_best = some_best; some_within = λ b e. (best_some b, best_within b e); one_best = λ b s u e. one_best_by (plate_of b) (rates_of b) s u };
}

-- a list is refused with 1 to 15 but 10, with 23, 38 or 29: what holds of these numbers and of 0 holds of its number
module _ (P : ℕ → Type 0) (few : (n : ℕ) → n ≤ 15 → (n ≡ 10 → ⊥) → P n) (limits : P 23) (prices : P 38) (below : P 29) where
  none : P 0
  none = few 0 (omega arith) (λ e. omega arith)

  pub file_number : (k : Bool) (s : List ℕ) → P (walk_all k s).number
  file_number = walk_number P true (λ n l. few n (omega arith) (λ e. omega arith)) (λ b. when_of P none b 29 below)

  pub list_number : (s : List ℕ) → P (list_fault s)
  list_number s =
      first-of P none (walk_all false s).number _ (file_number false s)
      (first-of P none (plate_fault (plate_of s)) _ (plate_number P few (plate_of s))
      (fault-of P none (not (limits_fit (walk_all false s).fields)) 23 limits (when_of P none (not (prices_fit (walk_all false s).fields)) 38 prices)))

-- a list that is refused in its walk has that number either way
list-pass : (k : ℕ) (s : List ℕ) → list_pass k s ≡ list_fault s
list-pass k s =
    let rates = rates_fault (walk_all false s).fields in
    first_same (walk_all false s).number (first_of (pass_fault k (plate_of s)) rates) (first_of (plate_fault (plate_of s)) rates)
    (λ q. ap (λ (n : ℕ). first_of n rates) (pass-fault k (plate_of s) (list_fields s q).ends_even))

pub one_pass : OnePass
one_pass =
    record {
      goes_on = stopped-after;
      in_sequence = λ k s e few. answered_after (plate_of s) (list_fields s e).ends_even few k;
      answered = list-pass;
    }
