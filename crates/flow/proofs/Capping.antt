-- With each arc held to the excess above its least, a least flow is a least flow, and what stalls stalls.
use mathlib.Core.Path.{◌≡◌, sym, ap, ◌∙◌, subst}
use mathlib.Core.Logic.{◌⊎◌, inl, inr, ⊎_elim}
use mathlib.Core.Bool.{Bool, true, false}
use mathlib.Core.List.{List}
use Prim.Native.Nat.{ℕ, ◌+◌, ◌*◌, ◌≤◌, ◌<◌, min}
use native.Mathlib.Nat.{mul-le-mul_left, le_refl}
use native.Mathlib.Omega.{arith}
use native.Mathlib.Decide.{dec_lt}
use lib.ListN.{length, get_or, get_or-eq_default}
use Rattle.finite.proofs.Sums.{sum_below, sum_cong, sum_le, total_sum}
use Rattle.residual.specs.Residual.{Shaped}
use Rattle.residual.specs.Chains.{Movable}
use Rattle.flow.specs.Network.{Network, Flow, Sound, Least, total, cost_of, smaller, unbounded, excess, excess_at, network, Either, Best, NoFlow}
use Rattle.flow.specs.Solver.{residual_of, State, Carried, Caps, Spread, Zeros, Ready, Stalled, Capped, First, Settled, Finished, Blocked, phase_most}
use Rattle.flow.proofs.Names.{arcs, nodes, tail, head, lower, upper, GoesOut, GoesIn, Full, AtLower}
use Rattle.flow.proofs.Units.{cost_of_sum}
use Rattle.flow.proofs.Fills.{total_has}
use Rattle.flow.proofs.Starts.{state_start, shaped}
use Rattle.flow.proofs.Stuck.{stuck_cut, finished}
use Rattle.flow.proofs.Members.{members, reached_member, member_reached, member_unreached}
use Rattle.flow.proofs.Duality.{capped_spare}
use Rattle.flow.proofs.Lexicographic.{upto_none, priced_least}
use Rattle.flow.proofs.Trims.{excess_sum, trim}
use Rattle.flow.proofs.Uniques.{smaller_trans, below_smaller}

-- what can move below its cap can move
pub capped_moves : {lowers uppers : List ℕ} {e : ℕ} {caps : List ℕ} → Caps lowers uppers e caps → (a : ℕ) → Movable lowers caps a → Movable lowers uppers a
capped_moves {uppers = uppers} {caps = caps} c a m = elim (dec_lt a (length uppers)) [
  | yes l ↦ omega (arith, c.at a l)
  | no n ↦ absurd (omega (arith, get_or-eq_default caps 0 {n = a} (omega (arith, n, c.long))))
]

abbrev pub capped : Network → List ℕ → Network
capped n caps = network n.tails n.heads n.lowers caps n.costs n.supplies n.demands

-- fewer units on each arc cost no more
cost_below : (cs x y : List ℕ) → ((a : ℕ) → get_or x a 0 ≤ get_or y a 0) → cost_of cs x ≤ cost_of cs y
cost_below cs x y h =
    omega (
      arith,
      cost_of_sum cs x,
      cost_of_sum cs y,
      sum_le (length cs) (λ a. get_or cs a 0 * get_or x a 0) (λ a. get_or cs a 0 * get_or y a 0) (λ a l. mul-le-mul_left (get_or cs a 0) (h a)),
    )

module _ (n : Network) (sound : Sound n) (e : ℕ) (is-excess : e ≡ excess n) (caps : List ℕ) (c : Caps n.lowers n.uppers e caps) where
  abbrev m : Network
  m = capped n caps

  cap_at : (a : ℕ) → a < arcs n → get_or caps a 0 ≡ min (upper n a) (lower n a + e)
  cap_at a l = c.at a (omega (arith, sound.uppers_long))

  lower_few : (a : ℕ) → a < arcs n → lower n a < 8192
  lower_few a l = omega (arith, total_has n.lowers a (omega (arith, sound.lowers_long)), sound.small)

  e_few : e < 256
  e_few = omega (arith, sound.few)

  cap_bounds : (a : ℕ) → a < arcs n → get_or caps a 0 < unbounded
  cap_bounds a l = omega (arith, cap_at a l, lower_few a l, e_few)

  pub same_excess : excess m ≡ excess n
  same_excess = excess_sum m ∙ sym (excess_sum n)

  pub sound_capped : Sound m
  sound_capped = record {
    heads_long = sound.heads_long;
    lowers_long = sound.lowers_long;
    uppers_long = c.long ∙ sound.uppers_long;
    costs_long = sound.costs_long;
    demands_long = sound.demands_long;
    arcs_few = sound.arcs_few;
    nodes_few = sound.nodes_few;
    tails_in = sound.tails_in;
    heads_in = sound.heads_in;
    ordered = λ a l. omega (arith, cap_at a l, sound.ordered a l);
    cheap = sound.cheap;
    even = sound.even;
    small = sound.small;
    few = omega (arith, same_excess, sound.few);
  }

  -- ---- the least flow

  below_cap : (x : List ℕ) → Flow m x → (a : ℕ) → a < arcs n → get_or x a 0 ≤ get_or caps a 0
  below_cap x f a l = ⊎_elim (λ u. absurd (omega (arith, cap_bounds a l))) (λ h. h) (f.below a l)

  flow-of : (x : List ℕ) → Flow m x → Flow n x
  flow-of x f = record { long = f.long; above = f.above; below = λ a l. inr (omega (arith, below_cap x f a l, cap_at a l)); kept = f.kept }

  flow_in : (y : List ℕ) → Flow n y → ((a : ℕ) → a < arcs n → get_or y a 0 ≤ lower n a + excess n) → Flow m y
  flow_in y f near = record {
    long = f.long;
    above = f.above;
    below = λ a l. inr (⊎_elim
        (λ u. omega (arith, near a l, cap_at a l, lower_few a l, e_few))
        (λ h. omega (arith, near a l, cap_at a l))
        (f.below a l));
    kept = f.kept;
  }

  module _ (x : List ℕ) (least : Least m x) where
    trimmed : (y : List ℕ) (f : Flow n y) → Flow m (trim n sound y f).flow
    trimmed y f = flow_in (trim n sound y f).flow (trim n sound y f).is-flow (trim n sound y f).near

    cheapest_of : (y : List ℕ) (f : Flow n y) → (cost_of n.costs x ≤ cost_of n.costs (trim n sound y f).flow) × (cost_of n.costs (trim n sound y f).flow ≤ cost_of n.costs y)
    cheapest_of y f = (least.cheapest (trim n sound y f).flow (trimmed y f), cost_below n.costs (trim n sound y f).flow y (trim n sound y f).below)

    first-of : (y : List ℕ) → Flow n y → cost_of n.costs y ≡ cost_of n.costs x → (y ≡ x) ⊎ (smaller x y ≡ true)
    first-of y f q =
        let t = trim n sound y f in
        let low = cheapest_of y f in
        go t.flow t.is-flow.long (least.first t.flow (trimmed y f) (omega (arith, low.0, low.1))) (below_smaller t.flow y (f.long ∙ sym t.is-flow.long) t.below)
      where
        go : (z : List ℕ) → length z ≡ arcs n → (z ≡ x) ⊎ (smaller x z ≡ true) → (z ≡ y) ⊎ (smaller z y ≡ true) → (y ≡ x) ⊎ (smaller x y ≡ true)
        go z l (inl p) (inl r) = inl (sym r ∙ p)
        go z l (inl p) (inr r) = inr (subst (λ (w : List ℕ). smaller w y ≡ true) p r)
        go z l (inr p) (inl r) = inr (subst (λ (w : List ℕ). smaller x w ≡ true) r p)
        go z l (inr p) (inr r) = inr (smaller_trans x z y (l ∙ sym least.flow.long) (f.long ∙ sym least.flow.long) p r)

    pub best : Best n x
    best = record {
      least = record {
        flow = flow-of x least.flow;
        cheapest = λ y f. let low = cheapest_of y f in omega (arith, low.0, low.1);
        first = first-of;
      };
      near = λ a l. omega (arith, below_cap x least.flow a l, cap_at a l);
    }

  -- ---- from the start to the end

  module _ (left₀ lack₀ : List ℕ) (s : Spread n left₀ lack₀) where
    started : State n n.lowers left₀ lack₀
    started = state_start n sound left₀ lack₀ s.over s.under

    pub ready_first : (pot : List ℕ) → Zeros (nodes n) pot → total left₀ ≡ e → Ready (residual_of m n.lowers pot) (phase_most * total left₀) left₀ lack₀
    ready_first pot z all = record {
      shaped = subst (Shaped (residual_of m n.lowers pot)) (sym s.left_long) (shaped m n.lowers pot sound_capped sound.lowers_long z.long (record { above = λ a l. le_refl (lower n a); below = λ a l. omega (arith, cap_at a l, sound.ordered a l) }));
      lack_long = s.lack_long ∙ sym s.left_long;
      priced = record {
        up = λ a l room. omega (arith, z.zero_at (head n a));
        down = λ a l room. absurd (omega arith);
      };
      cheap = sound.cheap;
      sources = λ v h. z.zero_at v;
      budget = λ v. omega (arith, z.zero_at v, e_few);
    }

    module _ (x left lack : List ℕ) (kept : Carried n.tails n.heads n.lowers left₀ lack₀ x left lack) (pot : List ℕ) (rest : ℕ) (k : Ready (residual_of m x pot) rest left lack) where
      state-of : (us : List ℕ) → ((a : ℕ) → a < arcs n → get_or caps a 0 ≤ get_or us a 0) → State (capped n us) x left lack
      state-of us h = record {
        bounds = record { long = k.shaped.x_long; above = k.shaped.within.above; below = λ a l. inr (omega (arith, k.shaped.within.below a l, h a l)) };
        kept = λ v l. omega (arith, started.kept v l, kept.balance v);
      }

      pub flow_found : total left ≡ 0 → length left ≡ nodes n → First m 0 x
      flow_found none long = record {
        flow = finished m sound_capped x left lack (state-of caps (λ a l. le_refl (get_or caps a 0))) (λ v l. omega (arith, total_has left v (omega (arith, long))));
        upto = upto_none m x;
      }

    -- what stalls shows a cut
    pub stalled_cut : (x left lack pot : List ℕ) → total left₀ ≡ e → Carried n.tails n.heads n.lowers left₀ lack₀ x left lack → length left ≡ nodes n → Stalled (residual_of m x pot) left lack → NoFlow n
    stalled_cut x left lack pot all kept long t = record {
      set = members t.marks;
      cut = stuck_cut n sound x left lack (state-of x left lack kept pot 0 t.ready n.uppers (λ a l. omega (arith, cap_at a l))) (members t.marks)
          (λ v l o. t.met v (omega (arith, long)) (member_reached t.marks v (omega (arith, long, t.long)) o))
          t.source (omega (arith, long, t.node)) (reached_member t.marks t.source (omega (arith, t.node, t.long)) t.marked) t.some
          (λ a l o. full a l o) (λ a l o. low a l o);
    }
      where
        node : (v : ℕ) → v < nodes n → v < length t.marks
        node v h = omega (arith, long, t.long)

        full : (a : ℕ) → a < arcs n → GoesOut n a (members t.marks) → Full n a x
        full a l o =
            let none = t.full a l (member_reached t.marks (tail n a) (node (tail n a) (sound.tails_in a l)) o.0) (member_unreached t.marks (head n a) (node (head n a) (sound.heads_in a l)) o.1) in
            let some = total_has left t.source t.node in (
              omega (arith, none, cap_at a l, kept.slow a, all, some, t.some),
              λ u. omega (arith, none, cap_at a l, kept.slow a, all, some, t.some, lower_few a l, e_few),
            )

        low : (a : ℕ) → a < arcs n → GoesIn n a (members t.marks) → AtLower n a x
        low a l o = t.low a l (member_reached t.marks (head n a) (node (head n a) (sound.heads_in a l)) o.0) (member_unreached t.marks (tail n a) (node (tail n a) (sound.tails_in a l)) o.1)

  -- ---- settled: the least

  pub settled_best : (x z pot : List ℕ) → First m 0 x → Settled (residual_of m x pot) 0 (arcs n) z → Best n z
  settled_best x z pot f s =
      let first = s.first n.supplies n.demands sound_capped f in
      best z (priced_least m sound_capped pot z (capped_spare m z cap_bounds) first.flow s.priced first.upto)

  pub capped_bounds : (x pot : List ℕ) → Capped (residual_of m x pot)
  capped_bounds x pot = cap_bounds

  -- from a start to the least flow, or to a cut
  pub ended :
      (left lack : List ℕ) →
      Spread n left lack →
      total left ≡ e →
      (x x' : List ℕ) →
      x ≡ n.lowers →
      (b : Bool) →
      Either b (Finished n.tails n.heads n.lowers caps n.costs x left lack x') (Blocked n.tails n.heads n.lowers caps n.costs x left lack) →
      Either b (Best n x') (NoFlow n)
  ended left lack s all x x' is true f =
      settled_best f.units x' f.pot
      (flow_found left lack s f.units f.left' f.lack' (subst (λ (w : List ℕ). Carried n.tails n.heads w left lack f.units f.left' f.lack') is f.carried) f.pot 0 f.emptied.ready f.emptied.none (f.long ∙ s.left_long))
      f.settled
  ended left lack s all x x' is false f =
      stalled_cut left lack s f.units f.left' f.lack' f.pot all (subst (λ (w : List ℕ). Carried n.tails n.heads w left lack f.units f.left' f.lack') is f.carried) (f.long ∙ s.left_long) f.stalled

-- what is left at first is the excess
pub spread_total : (n : Network) (left lack : List ℕ) → Spread n left lack → total left ≡ excess n
spread_total n left lack s =
    total_sum left ∙ ap (λ (k : ℕ). sum_below k (λ v. get_or left v 0)) s.left_long ∙ sum_cong (nodes n) (λ v. get_or left v 0) (excess_at n) s.over ∙ sym (excess_sum n)
