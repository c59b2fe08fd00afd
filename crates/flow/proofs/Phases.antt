-- A phase of the solver: how far potentials can rise, what a raise and a new search make, and what a push sends.
use mathlib.Core.Path.{◌≡◌, refl, sym, ap, ◌∙◌, subst}
use Rattle.std.proofs.Common.{Option, Some, None}
use Rattle.std.specs.Option.{IfNone}
use mathlib.Core.Logic.{⊎_elim}
use mathlib.Core.List.{List}
use Prim.Native.Nat.{ℕ, zero, suc, ◌+◌, ◌-◌, ◌*◌, ◌^◌, ◌≤◌, ◌<◌}
use native.Mathlib.Nat.{le_refl, not-suc-le-zero}
use native.Mathlib.Decide.{dec_lt}
use native.Mathlib.Omega.{arith}
use lib.ListN.{length, get_or, set, length-set, get_or-eq_default}
use Rattle.finite.proofs.Sums.{total_set}
use Rattle.residual.specs.Residual.{Residual, Within, Shaped, Rooted, Searched, Pushed, reflowed, repriced, tail_of, head_of, reached, unreached}
use Rattle.residual.specs.Searches.{Lacks, Sought}
use Rattle.residual.specs.Prices.{Gap, Raised, Sums}
use Rattle.residual.proofs.Sources.{marks_long, source_marked, marked_source, some_left}
use Rattle.residual.proofs.Passes.{unreached_set}
use Rattle.residual.proofs.Queues.{searched_whole}
use Rattle.residual.proofs.Duals.{unreached_source, priced_pushed, priced_raised, same_price, price, search_further, full_out, least_in}
use Rattle.flow.specs.Network.{total, cost_most}
use Rattle.flow.specs.Solver.{Carried, Ready, Stalled, Explored, Sent, marks_of, raise_most, phase_most}
use Rattle.flow.proofs.Starts.{taken}

-- the same arcs with another flow and other potentials of the same lengths
pub reshaped : (r : Residual) (nodes : ℕ) (x pot : List ℕ) → length x ≡ length r.x → length pot ≡ length r.pot → Within (reflowed r x) → Shaped r nodes → Shaped (reflowed (repriced r pot) x) nodes
reshaped r nodes x pot lx lp w s = record {
  heads_long = s.heads_long;
  lowers_long = s.lowers_long;
  uppers_long = s.uppers_long;
  costs_long = s.costs_long;
  x_long = lx ∙ s.x_long;
  pot_long = lp ∙ s.pot_long;
  arcs_few = s.arcs_few;
  nodes_few = s.nodes_few;
  tails_in = s.tails_in;
  heads_in = s.heads_in;
  within = record { above = w.above; below = w.below };
}

-- a push keeps the bounds
pub within_pushed : {r : Residual} {from : ℕ} {dist : List ℕ} {target : ℕ} {x' : List ℕ} {source : ℕ} → Pushed r from dist target x' source → Within r → Within (reflowed r x')
within_pushed p w = record {
  above = λ a l. ⊎_elim (λ h. omega (arith, h, w.above a l)) (λ h. h.above (w.above a l)) (p.arcs a);
  below = λ a l. ⊎_elim (λ h. omega (arith, h, w.below a l)) (λ h. h.below (w.below a l)) (p.arcs a);
}

-- what may still be spent may also be saved
pub ready_rest : (r : Residual) (rest less : ℕ) (left lack : List ℕ) → less ≤ rest → Ready r rest left lack → Ready r less left lack
ready_rest r rest less left lack h k = record {
  shaped = k.shaped;
  lack_long = k.lack_long;
  priced = k.priced;
  cheap = k.cheap;
  sources = k.sources;
  budget = λ v. omega (arith, k.budget v);
}

pub ready_sums : (r : Residual) (rest : ℕ) (left lack : List ℕ) → Ready r rest left lack → Sums r
ready_sums r rest left lack k a l = omega (arith, k.cheap a l, k.budget (tail_of r a))

module _ (r : Residual) (rest : ℕ) (left lack dist via : List ℕ) (k : Ready r rest left lack) (s : Rooted r 0 (marks_of left) dist via) where
  dist_long : length dist ≡ length left
  dist_long = s.long ∙ marks_long left

  -- a source is reached
  source_reached : (v : ℕ) → 0 < get_or left v 0 → get_or dist v 0 ≡ 0
  source_reached v h = s.keeps v (source_marked left v h)

  -- beyond the nodes there is no potential
  source_free : (v : ℕ) → get_or dist v 0 ≡ 0 → get_or r.pot v 0 ≡ 0
  source_free v z = elim (dec_lt v (length left)) [
    | yes h ↦ k.sources v (marked_source left v h (s.adds_none v z))
    | no h ↦ get_or-eq_default r.pot 0 {n = v} (omega (arith, h, k.shaped.pot_long))
  ]

  -- each step of the tree adds a cost at most
  price_below : (m v : ℕ) → get_or dist v 0 < m → reached dist v → get_or r.pot v 0 ≤ cost_most * get_or dist v 0
  price_below zero v h in' = absurd (not-suc-le-zero h)
  price_below (suc m) v h in' =
      elim (dec_lt 0 (get_or dist v 0)) [
        | no z ↦ omega (arith, source_free v (omega (arith, z)))
        | yes pos ↦ (let l = s.tree v pos in' in
            let a = get_or via v 0 in
            ⊎_elim
            (λ w. omega (
              arith,
              price_below m (tail_of r a) (omega (arith, w.0.nearer)) (omega (arith, w.0.nearer)),
              w.0.nearer,
              l.even,
              k.cheap a l.arc,
              ap (λ (u : ℕ). get_or r.pot u 0) w.0.at,
            ))
            (λ w. omega (
              arith,
              price_below m (head_of r a) (omega (arith, w.0.nearer)) (omega (arith, w.0.nearer)),
              w.0.nearer,
              l.even,
              ap (λ (u : ℕ). get_or r.pot u 0) w.0.at,
            ))
            l.way)
      ]

  pub price_reached : (v : ℕ) → reached dist v → get_or r.pot v 0 ≤ cost_most * 254
  price_reached v h = omega (arith, price_below (suc (get_or dist v 0)) v (omega arith) h)

  pub gap_most : (g : ℕ) → Gap r dist g → 0 < g → g ≤ raise_most
  gap_most g m pos =
      let (a, arc, l) = m.met pos in
      ⊎_elim
      (λ w. omega (arith, w.1, price_reached (tail_of r a) w.0.near_in, k.cheap a arc))
      (λ w. omega (arith, w.1, price_reached (head_of r a) w.0.near_in))
      l

-- ---- the first search of a phase

-- what holds holds where there is none
if_none : {P : Type 0} (o : Option ℕ) → P → IfNone o P
if_none None p = p
if_none (Some v) p = tt

module _ (r : Residual) (left lack dist via : List ℕ) (found : Option ℕ) (some : 0 < total left) where
  pub explored_first : Ready r (phase_most * total left) left lack → Sought r 0 (marks_of left) lack dist via found → Explored r left lack dist via found
  explored_first k s =
      let (u, l, p) = some_left left some in
      let few = unreached_source dist u (omega (arith, dist_long r (phase_most * total left) left lack dist via k s.rooted)) (omega (arith, source_reached r (phase_most * total left) left lack dist via k s.rooted u p)) in
      record {
        ready = ready_rest r (phase_most * total left) (phase_most * (total left - 1)) left lack (omega arith) k;
        sought = s;
        raises = if_none found (ready_rest r (phase_most * total left) (raise_most * unreached dist + phase_most * (total left - 1)) left lack
            (omega (arith, few, dist_long r (phase_most * total left) left lack dist via k s.rooted, k.shaped.nodes_few)) k);
      }

module _ (r : Residual) (left lack dist via : List ℕ) (x : Explored r left lack dist via None) where
  abbrev rest : ℕ
  rest = raise_most * unreached dist + phase_most * (total left - 1)

  abbrev k : Ready r rest left lack
  k = x.raises

  s : Searched r 0 (marks_of left) dist via
  s = searched_whole x.sought

  stuck_nodes : length dist ≡ length left
  stuck_nodes = dist_long r rest left lack dist via k s.rooted

  pub shaped_stuck : Shaped r (length dist)
  shaped_stuck = subst (Shaped r) (sym stuck_nodes) k.shaped

  pub raise_fits : (g : ℕ) → Gap r dist g → 0 < g → (u : ℕ) → 255 ≤ get_or dist u 0 → get_or r.pot u 0 + g < 2 ^ 64
  raise_fits g m pos u h = omega (arith, gap_most r rest left lack dist via k s.rooted g m pos, k.budget u)

  module _ (g : ℕ) (m : Gap r dist g) (pos : 0 < g) (pot' : List ℕ) (q : Raised dist g r.pot pot') where
    pub shaped_raised : Shaped (repriced r pot') (length left)
    shaped_raised = reshaped r (length left) r.x pot' refl q.long k.shaped.within k.shaped

    -- an arc leaves the reached nodes, so one node at least is not reached
    some_unreached : 0 < unreached dist
    some_unreached =
        let (a, arc, l) = m.met pos in
        ⊎_elim
        (λ w. omega (arith, unreached_set dist (head_of r a) 0 (shaped_stuck.heads_in a arc) w.0.far_out (omega arith)))
        (λ w. omega (arith, unreached_set dist (tail_of r a) 0 (shaped_stuck.tails_in a arc) w.0.far_out (omega arith)))
        l

    raised_ready : (less : ℕ) → less + raise_most ≤ rest → Ready (repriced r pot') less left lack
    raised_ready less h = record {
      shaped = shaped_raised;
      lack_long = k.lack_long;
      priced = priced_raised r dist g pot' q k.priced (λ a l. s.closed a (omega arith) l) m;
      cheap = k.cheap;
      sources = λ u h.
          same_price r dist g pot' q u (omega (arith, source_reached r rest left lack dist via k s.rooted u h)) ∙ k.sources u h;
      budget = λ u.
          ⊎_elim
          (λ w. omega (arith, w.0, k.budget u))
          (λ w. omega (arith, w.0, k.budget u, gap_most r rest left lack dist via k s.rooted g m pos))
          (price r dist g pot' q u);
    }

    module _ (dist' via' : List ℕ) where
      pub fewer_unreached : Sought (repriced r pot') 0 (marks_of left) lack dist' via' None → unreached dist' < unreached dist
      fewer_unreached n = search_further r (marks_of left) dist via s g m pos pot' q dist' via' (searched_whole n) shaped_stuck

      pub explored_again : (found : Option ℕ) → Sought (repriced r pot') 0 (marks_of left) lack dist' via' found → Explored (repriced r pot') left lack dist' via' found
      explored_again found n = record {
        ready = raised_ready (phase_most * (total left - 1)) (omega (arith, some_unreached));
        sought = n;
        raises = rises found n;
      }
        where
          rises : (found : Option ℕ) → Sought (repriced r pot') 0 (marks_of left) lack dist' via' found → IfNone found (Ready (repriced r pot') (raise_most * unreached dist' + phase_most * (total left - 1)) left lack)
          rises None n = raised_ready (raise_most * unreached dist' + phase_most * (total left - 1)) (omega (arith, fewer_unreached n))
          rises (Some v) n = tt

  -- ---- nothing can be sent

  pub stalled : 0 < total left → Gap r dist 0 → Stalled r left lack
  stalled some m =
      let (u, node, p) = some_left left some in
      record {
        ready = ready_rest r rest 0 left lack (omega arith) k;
        marks = dist;
        long = stuck_nodes;
        met = λ w h. x.sought.none w (omega (arith, stuck_nodes));
        source = u;
        node = node;
        marked = omega (arith, source_reached r rest left lack dist via k s.rooted u p);
        some = p;
        full = full_out r dist k.priced (λ a h. s.closed a (omega arith) h) m;
        low = least_in r dist k.priced (λ a h. s.closed a (omega arith) h) m;
      }

-- ---- one unit is sent to the node that was reached

module _ (r : Residual) (left lack dist via : List ℕ) (target : ℕ) (x : Explored r left lack dist via (Some target)) where
  abbrev here : ℕ
  here = phase_most * (total left - 1)

  pub nodes_reached : length dist ≡ length left
  nodes_reached = dist_long r here left lack dist via x.ready x.sought.rooted

  pub shaped_here : Shaped r (length dist)
  shaped_here = subst (Shaped r) (sym nodes_reached) x.ready.shaped

  module _ (x' : List ℕ) (source : ℕ) (p : Pushed r 0 dist target x' source) where
    abbrev lacking : Lacks dist lack target
    lacking = x.sought.some

    pub source_in : source < length left
    source_in = omega (arith, p.node, nodes_reached)

    pub source_some : 0 < get_or left source 0
    source_some = marked_source left source source_in (x.sought.rooted.adds_none source p.source_mark)

    pub target_in : target < length lack
    target_in = omega (arith, lacking.node, nodes_reached, x.ready.lack_long)

    abbrev left' : List ℕ
    left' = set left source (get_or left source 0 - 1)

    abbrev lack' : List ℕ
    lack' = set lack target (get_or lack target 0 - 1)

    one_fewer : total left' + 1 ≡ total left
    one_fewer = omega (arith, total_set left source (get_or left source 0 - 1) source_in, source_some)

    pub carried : Carried r.tails r.heads r.x left lack x' left' lack'
    carried = record {
      balance = λ v. omega (arith, p.balanced v, taken left source 1 v source_in source_some, taken lack target 1 v target_in lacking.some);
      slow = λ a.
          ⊎_elim (λ h. omega (arith, h, one_fewer)) (λ h. ⊎_elim (λ w. omega (arith, w, one_fewer)) (λ w. omega (arith, w, one_fewer)) h.by_one) (p.arcs a);
    }

    pub sent : Sent (reflowed r x') left' lack' left
    sent = record {
      ready = record {
        shaped = subst (Shaped (reflowed r x')) (sym (length-set left source _)) (reshaped r (length left) x' r.pot p.long refl (within_pushed p x.ready.shaped.within) x.ready.shaped);
        lack_long = length-set lack target _ ∙ x.ready.lack_long ∙ sym (length-set left source _);
        priced = priced_pushed r 0 dist target x' source p x.ready.priced;
        cheap = x.ready.cheap;
        sources = λ v h. x.ready.sources v (omega (arith, taken left source 1 v source_in source_some));
        budget = λ v. omega (arith, x.ready.budget v, one_fewer);
      };
      fewer = omega (arith, one_fewer);
    }

-- nothing has moved
pub carried_none : (tails heads x left lack : List ℕ) → Carried tails heads x left lack x left lack
carried_none tails heads x left lack = record { balance = λ v. omega arith; slow = λ a. le_refl (get_or x a 0 + total left) }

pub carried_join : (tails heads x left lack x' left' lack' x'' left'' lack'' : List ℕ) → Carried tails heads x left lack x' left' lack'
    → Carried tails heads x' left' lack' x'' left'' lack'' → Carried tails heads x left lack x'' left'' lack''
carried_join tails heads x left lack x' left' lack' x'' left'' lack'' p q = record {
  balance = λ v. omega (arith, p.balance v, q.balance v);
  slow = λ a. omega (arith, p.slow a, q.slow a);
}
