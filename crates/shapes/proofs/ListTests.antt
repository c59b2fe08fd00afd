-- Tests of every number of a list, as the library's words and as our definitions.
use mathlib.Core.Path.{◌≡◌, refl, sym, ap, ◌∙◌}
use mathlib.Core.Bool.{Bool, true, false, ◌&&◌}
use mathlib.Core.List.{List, [], ◌∷◌}
use Prim.Native.Nat.{ℕ, zero, suc}
use native.Mathlib.Omega.{arith}
use native.Mathlib.Numerals.{add-one}
use denote.Param.Members.{Mut}
use lib.Dec.{leb}
use Rattle.std.specs.Fn.{Called}
use Rattle.std.specs.Iterator.{YieldsThen}
use Rattle.std.specs.List.{FoldsTo}
use Rattle.std.specs.Option.{MatchOption}
use Rattle.std.specs.declared.ops.Range.{Range}
use Rattle.std.specs.declared.option.Option.{Option}
use Rattle.std.proofs.iter.Yields.{nat_range_steps}
use Rattle.std.specs.List.{list_all, range_with_len}
use Rattle.std.proofs.lemmas.Iterator.{YieldsList-from_range}
use Rattle.std.proofs.lemmas.Iterator.Search.{all_from_yields_List}
use Rattle.finite.proofs.Tests.{and_assoc}

-- each number from 1 to m
pub all_from_one : (m : ℕ) (F : List ℕ → Bool) → F [] ≡ true → ((x : ℕ) (xs : List ℕ) → F (x ∷ xs) ≡ leb 1 x && (leb x m && F xs)) → (xs : List ℕ) → list_all (λ a. leb 1 a && leb a m) xs ≡ F xs
all_from_one m F none more [] = sym none
all_from_one m F none more (x ∷ xs) =
    ap (λ (b : Bool). (leb 1 x && leb x m) && b) (all_from_one m F none more xs)
    ∙ sym (and_assoc (leb 1 x) (leb x m) (F xs)) ∙ sym (more x xs)

-- a test of n numbers from v on
pub all_upward : (F : ℕ → ℕ → Bool) (t : ℕ → Bool) → ((v : ℕ) → F zero v ≡ true) → ((n v : ℕ) → F (suc n) v ≡ t v && F n (suc v)) → (n v : ℕ) → list_all t (range_with_len v n) ≡ F n v
all_upward F t none more zero v = sym (none v)
all_upward F t none more (suc n) v =
    ap (λ (w : ℕ). t v && list_all t (range_with_len w n)) (add-one v)
    ∙ ap (λ (b : Bool). t v && b) (all_upward F t none more n (suc v)) ∙ sym (more n v)

-- what a chain tells that tries each number below n
pub all_tried : {F : Type 0} {g : Mut F (ℕ × Unit {0}) Bool} {u : Range ℕ} {f : F} (t : ℕ → Bool) (n : ℕ) (r : Bool)
    → (xs : List ℕ) × (o : Option ℕ) × (j : F) × YieldsThen nat_range_steps (record { start = 0; end = n }) xs o u × FoldsTo (λ p x q. Called g p (x, tt) true q) f xs j
    × MatchOption o (r ≡ true) (λ x. (r ≡ false) × ((h : F) × Called g j (x, tt) false h))
    → ((x : ℕ) (b : Bool) (q : F) → Called g f (x, tt) b q → (q ≡ f) × (b ≡ t x)) → r ≡ list_all t (range_with_len 0 n)
all_tried {u = u} {f = f} t n r ran tells = all_from_yields_List t u f r ran (YieldsList-from_range 0 n n refl (omega arith)) tells
