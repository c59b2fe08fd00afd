-- One face labelled: its darts so far, and the rest of its walk.
use mathlib.Core.Path.{◌≡◌, refl, sym, ap, ap₂, subst, ◌∙◌}
use mathlib.Core.Bool.{Bool, true, false, ◌||◌}
use mathlib.Core.List.{List, [], ◌∷◌, ◌++◌, append_assoc}
use mathlib.Core.Logic.{⊎_elim}
use Prim.Native.Nat.{ℕ, zero, suc, ◌+◌, ◌≤◌, ◌<◌}
use native.Mathlib.Omega.{arith}
use borrow.Author.Tests.{eq-eqb, ne_eqb}
use lib.Dec.{eqb}
use lib.ListN.{length, get_or, set, length-set, length-append}
use lib.Seq.{get_or-set_same, get_or-set_other}
use Rattle.finite.specs.Walks.{walk, orbit, OneToOne}
use Rattle.finite.proofs.Orbit.{stops, goes, short, orbit_distinct, orbit_all_below}
use Rattle.finite.proofs.Pigeonhole.{at_most}
use Rattle.finite.proofs.Tests.{equal_or_not, or_right}
use Rattle.embedding.specs.Plates.{pick, is_in}
use Rattle.embedding.specs.Steps.{next_of, FaceLabelled}

in_last : (x y : ℕ) (ds : List ℕ) → is_in x (ds ++ (y ∷ [])) ≡ is_in x ds || eqb x y
in_last x y [] = by (eqb x y)
  where
    by : (b : Bool) → b || false ≡ b
    by true = refl
    by false = refl
in_last x y (d ∷ ds) = ap (λ (t : Bool). eqb x d || t) (in_last x y ds) ∙ assoc (eqb x d) (is_in x ds) (eqb x y)
  where
    assoc : (a b c : Bool) → a || (b || c) ≡ (a || b) || c
    assoc true b c = refl
    assoc false b c = refl

last_new : (x y : ℕ) (ds : List ℕ) → x ≡ y → is_in x (ds ++ (y ∷ [])) ≡ true
last_new x y ds q = in_last x y ds ∙ or_right (is_in x ds) (eqb x y) (eq-eqb x y q)

last_old : (x y : ℕ) (ds : List ℕ) → (x ≡ y → ⊥) → is_in x (ds ++ (y ∷ [])) ≡ is_in x ds
last_old x y ds q = in_last x y ds ∙ ap (λ (t : Bool). is_in x ds || t) (ne_eqb x y q) ∙ by (is_in x ds)
  where
    by : (b : Bool) → b || false ≡ b
    by true = refl
    by false = refl

-- the darts done have the label, and the others what they had
pub record Marked (number : ℕ) (done face₀ : List ℕ) (met₀ : List Bool) (face : List ℕ) (met : List Bool) : Type 0 where
  pub face_long : length face ≡ 256
  pub met_long : length met ≡ 256
  pub face_at : (x : ℕ) → get_or face x 0 ≡ pick (is_in x done) number (get_or face₀ x 0)
  pub met_at : (x : ℕ) → get_or met x false ≡ is_in x done || get_or met₀ x false

marked_more : (number : ℕ) (done face₀ : List ℕ) (met₀ : List Bool) (face : List ℕ) (met : List Bool) (at : ℕ) → at < 256
    → Marked number done face₀ met₀ face met → Marked number (done ++ (at ∷ [])) face₀ met₀ (set face at number) (set met at true)
marked_more number done face₀ met₀ face met at l m =
    record {
      face_long = length-set face at number ∙ m.face_long;
      met_long = length-set met at true ∙ m.met_long;
      face_at = λ x. ⊎_elim
          (λ q. ap (λ (j : ℕ). get_or (set face at number) j 0) q ∙ get_or-set_same face at number 0 (omega (arith, m.face_long)) ∙ ap (λ (t : Bool). pick t number (get_or face₀ x 0)) (sym (last_new x at done q)))
          (λ q. get_or-set_other face at x number 0 q ∙ m.face_at x ∙ ap (λ (t : Bool). pick t number (get_or face₀ x 0)) (sym (last_old x at done q)))
          (equal_or_not x at);
      met_at = λ x. ⊎_elim
          (λ q. ap (λ (j : ℕ). get_or (set met at true) j false) q ∙ get_or-set_same met at true false (omega (arith, m.met_long)) ∙ ap (λ (t : Bool). t || get_or met₀ x false) (sym (last_new x at done q)))
          (λ q. get_or-set_other met at x true false q ∙ m.met_at x ∙ ap (λ (t : Bool). t || get_or met₀ x false) (sym (last_old x at done q)))
          (equal_or_not x at);
    }

pub record Labelling (next : List ℕ) (n d number : ℕ) (face₀ : List ℕ) (met₀ : List Bool) (face : List ℕ) (met : List Bool) (size at : ℕ) : Type 0 where
  pub done : List ℕ
  pub fuel : ℕ
  pub whole : orbit (next_of next) n d ≡ done ++ walk (next_of next) (suc fuel) d at
  pub ends : length (walk (next_of next) (suc (suc fuel)) d at) ≤ suc fuel
  pub at_below : at < n
  pub sized : size ≡ length done
  pub small : size < n
  pub marked : Marked number done face₀ met₀ face met

-- the fuel that is needed is there
pub opened : (f : ℕ → ℕ) (k d at : ℕ) → length (walk f (suc k) d at) ≤ k → (j : ℕ) × (k ≡ suc j)
opened f zero d at l = absurd (omega arith)
opened f (suc j) d at l = (j, refl)

-- the darts done, with some left
done_small : (f : ℕ → ℕ) (n d : ℕ) → OneToOne f n → d < n → (done : List ℕ) (fuel at : ℕ) → orbit f n d ≡ done ++ walk f (suc fuel) d at → length done < n
done_small f n d o l done fuel at whole =
    omega (arith, ap length whole, length-append done (walk f (suc fuel) d at), at_most n (orbit f n d) (orbit_distinct f n o d l) (orbit_all_below f n o d l))

module _ {next : List ℕ} {n d number : ℕ} {face₀ : List ℕ} {met₀ : List Bool} (o : OneToOne (next_of next) n) (l : d < n) (b : n ≤ 256) where
  pub labelling_start : length face₀ ≡ 256 → length met₀ ≡ 256 → Labelling next n d number face₀ met₀ face₀ met₀ 0 d
  labelling_start p q =
      let j = opened (next_of next) n d d (short (next_of next) n o d l) in
      record {
        done = [];
        fuel = j.0;
        whole = ap (λ (k : ℕ). walk (next_of next) k d d) j.1;
        ends = subst (λ (k : ℕ). length (walk (next_of next) (suc k) d d) ≤ k) j.1 (short (next_of next) n o d l);
        at_below = l;
        sized = refl;
        small = omega arith;
        marked = record { face_long = p; met_long = q; face_at = λ x. refl; met_at = λ x. refl };
      }

  module _ {face : List ℕ} {met : List Bool} {size at : ℕ} (h : Labelling next n d number face₀ met₀ face met size at) where
    pub labelling_done : next_of next at ≡ d → FaceLabelled next n d number face₀ met₀ (set face at number) (set met at true) (size + 1)
    labelling_done q =
        record {
          face_at = λ x. m.face_at x ∙ ap (λ (ds : List ℕ). pick (is_in x ds) number (get_or face₀ x 0)) (sym all);
          met_at = λ x. m.met_at x ∙ ap (λ (ds : List ℕ). is_in x ds || get_or met₀ x false) (sym all);
          sized = omega (arith, h.sized, ap length all, length-append h.done (at ∷ []));
        }
      where
        all : orbit (next_of next) n d ≡ h.done ++ (at ∷ [])
        all = h.whole ∙ ap (λ (r : List ℕ). h.done ++ (at ∷ r)) (stops (next_of next) h.fuel d at q)

        m : Marked number (h.done ++ (at ∷ [])) face₀ met₀ (set face at number) (set met at true)
        m = marked_more number h.done face₀ met₀ face met at (omega (arith, h.at_below)) h.marked

    pub labelling_more : {w : ℕ} → (next_of next at ≡ d → ⊥) → w ≡ next_of next at → Labelling next n d number face₀ met₀ (set face at number) (set met at true) (size + 1) w
    labelling_more {w} q e =
        let left : length (walk (next_of next) (suc h.fuel) d (next_of next at)) ≤ h.fuel = omega (arith, h.ends, ap length (goes (next_of next) (suc h.fuel) d at q)) in
        let j = opened (next_of next) h.fuel d (next_of next at) left in
        let all : orbit (next_of next) n d ≡ (h.done ++ (at ∷ [])) ++ walk (next_of next) (suc j.0) d w = h.whole
        ∙ ap (λ (r : List ℕ). h.done ++ (at ∷ r)) (goes (next_of next) h.fuel d at q ∙ ap₂ (λ (k x : ℕ). walk (next_of next) k d x) j.1 (sym e))
        ∙ sym (append_assoc h.done (at ∷ []) (walk (next_of next) (suc j.0) d w)) in
        record {
          done = h.done ++ (at ∷ []);
          fuel = j.0;
          whole = all;
          ends = subst (λ (x : ℕ). length (walk (next_of next) (suc (suc j.0)) d x) ≤ suc j.0) (sym e) (subst (λ (k : ℕ). length (walk (next_of next) (suc k) d (next_of next at)) ≤ k) j.1 left);
          at_below = subst (λ (x : ℕ). x < n) (sym e) (o.below at h.at_below);
          sized = omega (arith, h.sized, length-append h.done (at ∷ []));
          small = omega (arith, h.sized, length-append h.done (at ∷ []), done_small (next_of next) n d o l (h.done ++ (at ∷ [])) j.0 w all);
          marked = marked_more number h.done face₀ met₀ face met at (omega (arith, h.at_below)) h.marked;
        }
