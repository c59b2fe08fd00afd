-- Units sent over one tight arc: the flow, its prices, and what is left and lacking after it.
use mathlib.Core.Path.{◌≡◌, refl, sym, ◌∙◌, subst}
use mathlib.Core.List.{List}
use Prim.Native.Nat.{ℕ, ◌+◌, ◌-◌, ◌*◌, ◌≤◌, ◌<◌}
use native.Mathlib.Nat.{le_refl}
use native.Mathlib.Omega.{arith}
use lib.ListN.{length, get_or, set, length-set}
use Rattle.finite.proofs.Sums.{total_set}
use Rattle.residual.specs.Residual.{Residual, Within, Shaped, reflowed, tail_of, head_of, tight}
use Rattle.residual.proofs.Units.{units_at_more}
use Rattle.flow.specs.Network.{total}
use Rattle.flow.specs.Solver.{Carried, Ready, Sent, Eased, phase_most}
use Rattle.flow.proofs.Starts.{taken, at_set}
use Rattle.flow.proofs.Phases.{reshaped, carried_none, carried_join}
use Rattle.flow.proofs.Settles.{priced_set}

-- nothing was sent
pub eased_none : (r : Residual) (left lack : List ℕ) → Ready r (phase_most * total left) left lack → Eased r left lack left
eased_none r left lack k = record { ready = k; no_more = le_refl (total left) }

pub eased_join : (r r' : Residual) (left₀ left lack left' lack' : List ℕ) → Eased r left lack left₀ → Eased r' left' lack' left → Eased r' left' lack' left₀
eased_join r r' left₀ left lack left' lack' p q = record { ready = q.ready; no_more = omega (arith, p.no_more, q.no_more) }

-- units sent, and then some more or none
pub sent_join : (r r' : Residual) (left₀ left lack left' lack' : List ℕ) → Sent r left lack left₀ → Eased r' left' lack' left → Sent r' left' lack' left₀
sent_join r r' left₀ left lack left' lack' p q = record { ready = q.ready; fewer = omega (arith, p.fewer, q.no_more) }

-- units sent over some arcs, in a row
pub record Sending (r : Residual) (left₀ lack₀ x left lack : List ℕ) : Type 0 where
  pub carried : Carried r.tails r.heads r.x left₀ lack₀ x left lack
  pub eased : Eased (reflowed r x) left lack left₀
  pub long : length left ≡ length left₀

pub sending_none : (r : Residual) (left lack : List ℕ) → Ready r (phase_most * total left) left lack → Sending r left lack r.x left lack
sending_none r left lack k = record { carried = carried_none r.tails r.heads r.x left lack; eased = eased_none r left lack k; long = refl }

pub sending_more : (r : Residual) (left₀ lack₀ x left lack x' left' lack' : List ℕ) → Sending r left₀ lack₀ x left lack → Carried r.tails r.heads x left lack x' left' lack' → Eased (reflowed r x') left' lack' left → length left' ≡ length left
    → Sending r left₀ lack₀ x' left' lack'
sending_more r left₀ lack₀ x left lack x' left' lack' s c e l = record {
  carried = carried_join r.tails r.heads r.x left₀ lack₀ x left lack x' left' lack' s.carried c;
  eased = eased_join (reflowed r x) (reflowed r x') left₀ left lack left' lack' s.eased e;
  long = l ∙ s.long;
}

-- u units go over a tight arc a, from its tail t to its head h; no more than t has left, h lacks and the arc has room for
module _ (r : Residual) (left lack : List ℕ) (k : Ready r (phase_most * total left) left lack) (a : ℕ) (arc : a < length r.tails) (t h : ℕ) (te : t ≡ tail_of r a) (he : h ≡ head_of r a) (even : tight r a)
    (u : ℕ) (has : u ≤ get_or left t 0) (lacks : u ≤ get_or lack h 0) (room : get_or r.x a 0 + u ≤ get_or r.uppers a 0) where
  abbrev x' : List ℕ
  x' = set r.x a (get_or r.x a 0 + u)

  abbrev left' : List ℕ
  left' = set left t (get_or left t 0 - u)

  abbrev lack' : List ℕ
  lack' = set lack h (get_or lack h 0 - u)

  x_in : a < length r.x
  x_in = omega (arith, k.shaped.x_long)

  left_in : t < length left
  left_in = omega (arith, te, k.shaped.tails_in a arc)

  lack_in : h < length lack
  lack_in = omega (arith, he, k.shaped.heads_in a arc, k.lack_long)

  fewer : total left' + u ≡ total left
  fewer = omega (arith, total_set left t (get_or left t 0 - u) left_in, has)

  pub carried_over : Carried r.tails r.heads r.x left lack x' left' lack'
  carried_over = record {
    balance = λ v. omega (
      arith,
      rw (← te) at (units_at_more r.tails r.x a u v arc x_in),
      rw (← he) at (units_at_more r.heads r.x a u v (omega (arith, k.shaped.heads_long)) x_in),
      taken left t u v left_in has,
      taken lack h u v lack_in lacks,
    );
    slow = λ i. omega (arith, at_set (λ j z. z ≤ get_or r.x j 0 + u) r.x a (get_or r.x a 0 + u) i x_in (le_refl _) (omega arith), fewer);
  }

  within_over : Within (reflowed r x')
  within_over =
      let w = k.shaped.within in
      record {
        above = λ i l. at_set (λ j z. get_or r.lowers j 0 ≤ z) r.x a (get_or r.x a 0 + u) i x_in (omega (arith, w.above a arc)) (w.above i l);
        below = λ i l. at_set (λ j z. z ≤ get_or r.uppers j 0) r.x a (get_or r.x a 0 + u) i x_in room (w.below i l);
      }

  pub eased_over : Eased (reflowed r x') left' lack' left
  eased_over = record {
    ready = record {
      shaped = subst (Shaped (reflowed r x')) (sym (length-set left t _)) (reshaped r (length left) x' r.pot (length-set r.x a _) refl within_over k.shaped);
      lack_long = length-set lack h _ ∙ k.lack_long ∙ sym (length-set left t _);
      priced = priced_set r a (get_or r.x a 0 + u) even k.priced;
      cheap = k.cheap;
      sources = λ v p. k.sources v (omega (arith, taken left t u v left_in has));
      budget = λ v. omega (arith, k.budget v, fewer);
    };
    no_more = omega (arith, fewer);
  }
