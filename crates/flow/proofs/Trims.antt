-- Each flow has one below it that carries no more than the excess above each arc's least: units that go round a cycle are taken off.
use mathlib.Core.Path.{◌≡◌, refl, sym, ap, ◌∙◌, subst}
use mathlib.Core.Logic.{◌⊎◌, inl, inr, ⊎_elim}
use mathlib.Core.Bool.{Bool, true, false, ◌&&◌, not}
use mathlib.Core.List.{List, [], ◌∷◌, map}
use Prim.Native.Nat.{ℕ, zero, suc, ◌+◌, ◌-◌, ◌≤◌, ◌<◌}
use native.Mathlib.Nat.{le_refl, not-suc-le-zero, le_of_suc-le-suc}
use native.Mathlib.Decide.{ℕ_discrete, dec_lt}
use native.Mathlib.Omega.{arith}
use lib.ListN.{length, get_or, set, length-set}
use lib.Seq.{get_or-set_same, get_or-set_other}
use Rattle.finite.proofs.Sums.{sum_below, when_most, sum_cong, sum_le, sum_lt, sum_set, total_sum}
use Rattle.residual.specs.Residual.{Residual, residual, reached, unreached, Opens, ShutAt, Searched, Walkable, Walked, Pushed, Balanced}
use Rattle.residual.proofs.Sources.{single_fresh}
use Rattle.residual.proofs.Passes.{Passed, pass_start, pass_over, pass_reach, pass_join, pass_last, fresh_ranked}
use Rattle.residual.proofs.Walks.{walk_start, step_walks, pushed}
use Rattle.flow.specs.Network.{Network, Flow, Sound, total, units_at, when, within, crossing, excess, excess_at, excess_from}
use Rattle.flow.specs.Solver.{Single, Bounded}
use Rattle.flow.proofs.Names.{arcs, nodes, tail, head, lower, supply, demand, GoesOut, GoesIn}
use Rattle.flow.proofs.Units.{crossing_sum, inside_add}
use Rattle.flow.proofs.Crossing.{crossing_le, crossing_balance}
use Rattle.flow.proofs.Members.{members, reached_member, unreached_member, member_reached, member_unreached}
use Rattle.flow.proofs.Starts.{at_set}
use Rattle.flow.proofs.Cycles.{cycle_flow}

-- ---- the excess as a sum

excess-from : (n : Network) (k v : ℕ) → excess_from k v n ≡ sum_below k (λ i. excess_at n (v + i))
excess-from n zero v = refl
excess-from n (suc k) v =
    omega (
      arith,
      excess-from n k (suc v),
      sum_cong k (λ i. excess_at n (suc v + i)) (λ i. excess_at n (v + suc i)) (λ i h. let e : suc v + i ≡ v + suc i = omega arith in ap (excess_at n) e),
      (let e : v ≡ v + 0 = omega arith in ap (excess_at n) e),
    )

pub excess_sum : (n : Network) → excess n ≡ sum_below (nodes n) (excess_at n)
excess_sum n = excess-from n (nodes n) 0 ∙ sum_cong (nodes n) (λ i. excess_at n (0 + i)) (excess_at n) (λ i h. let e : 0 + i ≡ i = omega arith in ap (excess_at n) e)

-- ---- a set that no unit above the least enters: no arc leaves it with more than the excess

crossing_set : (s : List Bool) (ts hs xs : List ℕ) (m a w : ℕ) → length ts ≡ m → length hs ≡ m → length xs ≡ m → a < m → within s (get_or ts a 0) ≡ true → within s (get_or hs a 0) ≡ false
    → crossing s ts hs (set xs a w) + get_or xs a 0 ≡ crossing s ts hs xs + w
crossing_set s ts hs xs m a w tl hl xl l t h =
    let b : ℕ → Bool = λ i. within s (get_or ts i 0) && not (within s (get_or hs i 0)) in
    let yes : (z : ℕ) → when (b a) z ≡ z = λ z. rw (t, h) in
    omega (
      arith,
      crossing_sum s ts hs xs m tl hl,
      crossing_sum s ts hs (set xs a w) m tl hl,
      sum_set m (λ i x. when (b i) x) xs a w l (omega arith),
      yes (get_or xs a 0),
      yes w,
    )

when_le : (b : Bool) (x y : ℕ) → x ≤ y → when b x ≤ when b y
when_le true x y h = h
when_le false x y h = le_refl 0

module _ (n : Network) (sound : Sound n) (y : List ℕ) (flow : Flow n y) (s : List Bool) where
  abbrev outs : ℕ → ℕ
  outs v = units_at n.tails n.lowers v

  abbrev ins : ℕ → ℕ
  ins v = units_at n.heads n.lowers v

  over_within : sum_below (nodes n) (λ v. when (within s v) (supply n v + ins v)) ≤ sum_below (nodes n) (λ v. when (within s v) (demand n v + outs v)) + excess n
  over_within =
      omega (
        arith,
        sum_le (nodes n) (λ v. when (within s v) (supply n v + ins v)) (λ v. when (within s v) (demand n v + outs v + excess_at n v))
            (λ v l. when_le (within s v) (supply n v + ins v) (demand n v + outs v + excess_at n v) (omega arith)),
        inside_add s (nodes n) (λ v. demand n v + outs v) (excess_at n),
        sum_le (nodes n) (λ v. when (within s v) (excess_at n v)) (excess_at n) (λ v l. when_most (within s v) (excess_at n v)),
        excess_sum n,
      )

  pub leaves_few : ((a : ℕ) → a < arcs n → GoesIn n a s → get_or y a 0 ≤ lower n a) → (a : ℕ) → a < arcs n → GoesOut n a s → get_or y a 0 ≤ lower n a + excess n
  leaves_few low a l o = elim (dec_lt (lower n a + excess n) (get_or y a 0)) [
    | no h ↦ omega (arith, h)
    | yes h ↦ absurd
        (let w : ℕ = lower n a + excess n + 1 in
        omega (
          arith,
          crossing_balance n sound s y (demand n) (supply n) flow.kept,
          crossing_balance n sound s n.lowers ins outs (λ v g. omega arith),
          over_within,
          inside_add s (nodes n) (supply n) ins,
          inside_add s (nodes n) (demand n) outs,
          crossing_set s n.tails n.heads n.lowers (arcs n) a w refl sound.heads_long sound.lowers_long l o.0 o.1,
          crossing_le s n.tails n.heads (arcs n) refl sound.heads_long (set n.lowers a w) y (more w (omega arith)),
          crossing_le s n.heads n.tails (arcs n) sound.heads_long refl y n.lowers low,
        ))
  ]
    where
      more : (w : ℕ) → w ≤ get_or y a 0 → (b : ℕ) → b < arcs n → GoesOut n b s → get_or (set n.lowers a w) b 0 ≤ get_or y b 0
      more w h b g o = elim (ℕ_discrete b a) [
        | yes e ↦ omega (arith, ap (λ (i : ℕ). get_or (set n.lowers a w) i 0) e, ap (λ (i : ℕ). get_or y i 0) e, get_or-set_same n.lowers a w 0 (omega (arith, sound.lowers_long)))
        | no d ↦ omega (arith, get_or-set_other n.lowers a b w 0 d, flow.above b g)
      ]

-- ---- a search back along the arcs that carry more than their least, but for arc a

module _ (n : Network) (sound : Sound n) (y : List ℕ) (flow : Flow n y) (a : ℕ) (arc : a < arcs n) where
  -- no costs and no potentials, and no room: each step goes back along an arc
  abbrev back : Residual
  back = residual n.tails n.heads (set n.lowers a (get_or y a 0)) y [] y []

  pub record Found (rank₀ k : ℕ) (dist₀ : List ℕ) : Type 0 where
    rank : ℕ
    dist : List ℕ
    via : List ℕ
    passed : Passed back 0 k rank₀ dist₀ rank dist via

  at_arc : (dist : List ℕ) → length dist ≡ nodes n → (b : ℕ) → b < arcs n → ShutAt back dist b ⊎ Opens back dist b (tail n b)
  at_arc dist long b l = go (dec_lt (get_or back.lowers b 0) (get_or y b 0)) (dec_lt (get_or dist (head n b) 0) 255) (dec_lt (get_or dist (tail n b) 0) 255)
    where
      go : Dec (get_or back.lowers b 0 < get_or y b 0) → Dec (get_or dist (head n b) 0 < 255) → Dec (get_or dist (tail n b) 0 < 255) → ShutAt back dist b ⊎ Opens back dist b (tail n b)
      go (yes room) (yes near) (no far) = inr (record { node = omega (arith, sound.tails_in b l); new = omega (arith, far); even = refl; way = inr (refl, room, near) })
      go (no none) near far = inl (record { up = λ _ _ h. absurd (omega arith); down = λ _ _ h. absurd (none h) })
      go (yes room) (no near) far = inl (record { up = λ _ _ h. absurd (omega arith); down = λ _ h. absurd (near h) })
      go (yes room) (yes near) (yes far) = inl (record { up = λ _ _ h. absurd (omega arith); down = λ _ _ _. far })

  one_pass : (k rank₀ : ℕ) (dist₀ via₀ : List ℕ) → length dist₀ ≡ nodes n → k ≤ arcs n → Passed back 0 0 rank₀ dist₀ rank₀ dist₀ via₀ → Found rank₀ k dist₀
  one_pass zero rank₀ dist₀ via₀ long h p = record { rank = rank₀; dist = dist₀; via = via₀; passed = p }
  one_pass (suc k) rank₀ dist₀ via₀ long h p = next (one_pass k rank₀ dist₀ via₀ long (omega arith) p)
    where
      next : Found rank₀ k dist₀ → Found rank₀ (suc k) dist₀
      next f = step (at_arc f.dist (f.passed.long ∙ long) k (omega arith))
        where
          step : ShutAt back f.dist k ⊎ Opens back f.dist k (tail n k) → Found rank₀ (suc k) dist₀
          step (inl shut) = record {
            rank = f.rank;
            dist = f.dist;
            via = f.via;
            passed = subst (λ (j : ℕ). Passed back 0 j rank₀ dist₀ f.rank f.dist f.via) (omega arith) (pass_over back 0 rank₀ dist₀ k f.rank f.dist f.via f.passed shut);
          }
          step (inr opens) = record {
            rank = f.rank + 1;
            dist = set f.dist (tail n k) f.rank;
            via = set f.via (tail n k) k;
            passed = subst (λ (j : ℕ). Passed back 0 j rank₀ dist₀ (f.rank + 1) (set f.dist (tail n k) f.rank) (set f.via (tail n k) k)) (omega arith)
                (pass_reach back 0 rank₀ dist₀ k f.rank f.dist f.via f.passed (tail n k) (omega arith) (omega arith) opens);
          }

  pub record Closed (start : List ℕ) : Type 0 where
    dist : List ℕ
    via : List ℕ
    searched : Searched back 0 start dist via

  passes : (fuel rank : ℕ) (start dist via : List ℕ) → length start ≡ nodes n → unreached dist < fuel → Passed back 0 0 1 start rank dist via → Closed start
  passes zero rank start dist via long h p = absurd (not-suc-le-zero h)
  passes (suc fuel) rank start dist via long h p = next (one_pass (arcs n) rank dist via (p.long ∙ long) (le_refl (arcs n)) (pass_start back 0 rank dist via (p.via_long ∙ sym p.long) p.ranked)) (passes fuel)
    where
      next : Found rank (arcs n) dist → ((rank' : ℕ) (start dist via : List ℕ) → length start ≡ nodes n → unreached dist < fuel → Passed back 0 0 1 start rank' dist via → Closed start) → Closed start
      next f again = elim (ℕ_discrete f.rank rank) [
        | yes e ↦ record {
          dist = f.dist;
          via = f.via;
          searched = pass_last back 0 (arcs n) 1 rank f.rank start dist f.dist via f.via p f.passed refl e;
        }
        | no d ↦ again f.rank start f.dist f.via long (omega (arith, d, f.passed.count, f.passed.more)) (pass_join back 0 (arcs n) 1 rank f.rank start dist f.dist via f.via p f.passed)
      ]

  pub search_back : (start via : List ℕ) → length start ≡ nodes n → length via ≡ nodes n → Single start (tail n a) → Closed start
  search_back start via long via_long one =
      passes (suc (unreached start)) 1 start start via long (omega arith)
      (pass_start back 0 1 start via (via_long ∙ sym long) (fresh_ranked back 0 start via (single_fresh start (tail n a) (omega (arith, sound.tails_in a arc)) (omega (arith, sound.nodes_few)) one)))

-- ---- the push along it

abbrev no_mark : ℕ → ℕ
no_mark x = 255

abbrev unmarked : List ℕ → List ℕ
unmarked xs = map no_mark xs

fill_long : (xs : List ℕ) → length (unmarked xs) ≡ length xs
fill_long [] = refl
fill_long (x ∷ xs) = ap suc (fill_long xs)

fill_at : (xs : List ℕ) (v : ℕ) → v < length xs → get_or (unmarked xs) v 0 ≡ 255
fill_at [] v h = absurd (not-suc-le-zero h)
fill_at (x ∷ xs) zero h = refl
fill_at (x ∷ xs) (suc v) h = fill_at xs v (le_of_suc-le-suc h)

module _ (tails heads dist via x : List ℕ) (k : Walkable tails heads x dist via) (target : ℕ) where
  pub record DownToSource : Type 0 where
    flow : List ℕ
    source : ℕ
    walked : Walked tails heads dist via x target flow source
    marked : get_or dist source 0 ≡ 0

  walk_down : (fuel : ℕ) (x' : List ℕ) (v : ℕ) → get_or dist v 0 < fuel → Walked tails heads dist via x target x' v → DownToSource
  walk_down zero x' v h w = absurd (not-suc-le-zero h)
  walk_down (suc fuel) x' v h w = go (dec_lt 0 (get_or dist v 0)) (walk_down fuel)
    where
      b : ℕ
      b = get_or via v 0

      go : Dec (0 < get_or dist v 0) → ((x' : List ℕ) (v : ℕ) → get_or dist v 0 < fuel → Walked tails heads dist via x target x' v → DownToSource) → DownToSource
      go (no z) again = record { flow = x'; source = v; walked = w; marked = omega (arith, z) }
      go (yes pos) again = elim (ℕ_discrete (get_or heads (get_or via v 0) 0) v) [
        | yes e ↦ (let y : List ℕ = set x' (get_or via v 0) (get_or x' (get_or via v 0) 0 + 1) in
            let u : ℕ = get_or tails (get_or via v 0) 0 in
            let (w', low) = step_walks tails heads dist via x target k x' v w pos y u (inl (record { at = e; flow = refl; next = refl })) in
            again y u (omega arith) w')
        | no d ↦ (let y : List ℕ = set x' (get_or via v 0) (get_or x' (get_or via v 0) 0 - 1) in
            let u : ℕ = get_or heads (get_or via v 0) 0 in
            let (w', low) = step_walks tails heads dist via x target k x' v w pos y u (inr (record { off = d; flow = refl; next = refl })) in
            again y u (omega arith) w')
      ]

-- a flow with fewer units, no more on any arc
pub record Fewer (n : Network) (y : List ℕ) : Type 0 where
  flow : List ℕ
  is-flow : Flow n flow
  below : (b : ℕ) → get_or flow b 0 ≤ get_or y b 0
  less : total flow < total y

module _ (n : Network) (sound : Sound n) (y : List ℕ) (flow : Flow n y) (a : ℕ) (arc : a < arcs n) (over : lower n a + excess n < get_or y a 0) where
  abbrev r : Residual
  r = back n sound y flow a arc

  abbrev start : List ℕ
  start = set (unmarked n.supplies) (tail n a) 0

  start_long : length start ≡ nodes n
  start_long = length-set (unmarked n.supplies) (tail n a) 0 ∙ fill_long n.supplies

  start_single : Single start (tail n a)
  start_single = record {
    marked = get_or-set_same (unmarked n.supplies) (tail n a) 0 0 (omega (arith, fill_long n.supplies, sound.tails_in a arc));
    others = λ v l d. get_or-set_other (unmarked n.supplies) (tail n a) v 0 0 d ∙ fill_at n.supplies v (omega (arith, start_long));
  }

  closed : Closed n sound y flow a arc start
  closed = search_back n sound y flow a arc start n.supplies start_long refl start_single

  abbrev dist : List ℕ
  dist = closed.dist

  abbrev via : List ℕ
  via = closed.via

  abbrev found : Searched r 0 start dist via
  found = closed.searched

  long : length dist ≡ nodes n
  long = found.rooted.long ∙ start_long

  lower_at : (b : ℕ) → (b ≡ a → ⊥) → get_or r.lowers b 0 ≡ lower n b
  lower_at b d = get_or-set_other n.lowers a b (get_or y a 0) 0 d

  lower_here : get_or r.lowers a 0 ≡ get_or y a 0
  lower_here = get_or-set_same n.lowers a (get_or y a 0) 0 (omega (arith, sound.lowers_long))

  -- arc a leads out of what was found, unless its head was found too
  head_found : reached dist (head n a)
  head_found = elim (dec_lt (get_or dist (head n a) 0) 255) [
    | yes h ↦ h
    | no far ↦ absurd (omega (
      arith,
      leaves_few n sound y flow (members dist) low a arc (
        reached_member dist (tail n a) (omega (arith, long, sound.tails_in a arc)) (omega (arith, found.rooted.keeps (tail n a) start_single.marked)),
        unreached_member dist (head n a) (omega (arith, long, sound.heads_in a arc)) (omega (arith, far)),
      ),
    ))
  ]
    where
      low : (b : ℕ) → b < arcs n → GoesIn n b (members dist) → get_or y b 0 ≤ lower n b
      low b l o =
          let near = member_reached dist (head n b) (omega (arith, long, sound.heads_in b l)) o.0 in
          let out = member_unreached dist (tail n b) (omega (arith, long, sound.tails_in b l)) o.1 in
          elim (dec_lt (get_or r.lowers b 0) (get_or y b 0)) [
            | yes room ↦ absurd (omega (arith, (found.closed b (omega arith) l).down refl near room))
            | no none ↦ elim (ℕ_discrete b a) [
              | yes e ↦ absurd (omega (arith, found.rooted.keeps (tail n a) start_single.marked, ap (λ (i : ℕ). get_or dist (tail n i) 0) e))
              | no d ↦ omega (arith, none, lower_at b d)
            ]
          ]

  walks : Walkable n.tails n.heads y dist via
  walks = record {
    heads_long = sound.heads_long;
    x_long = flow.long;
    via_long = found.rooted.via_long ∙ sym found.rooted.long;
    tails_in = λ b l. omega (arith, long, sound.tails_in b l);
    heads_in = λ b l. omega (arith, long, sound.heads_in b l);
    arcs_in = λ v pos h. (found.rooted.tree v pos h).arc;
    way = λ v pos h. ⊎_elim (λ q. absurd (omega (arith, q.1))) (λ q. inr (q.0, omega (arith, q.1))) (found.rooted.tree v pos h).way;
  }

  walk : DownToSource n.tails n.heads dist via y walks (head n a)
  walk =
      walk_down n.tails n.heads dist via y walks (head n a) (suc (get_or dist (head n a) 0)) y (head n a) (omega arith)
      (walk_start n.tails n.heads dist via y (head n a) (omega (arith, long, sound.heads_in a arc)) head_found)

  abbrev y' : List ℕ
  y' = walk.flow

  push : Pushed r 0 dist (head n a) y' walk.source
  push = pushed r 0 dist via found.rooted.tree y' (head n a) walk.source walk.walked walk.marked

  source_is : walk.source ≡ tail n a
  source_is = elim (ℕ_discrete walk.source (tail n a)) [
    | yes e ↦ e
    | no d ↦ absurd (omega (arith, found.rooted.adds_none walk.source walk.marked, start_single.others walk.source (omega (arith, push.node, found.rooted.long)) d))
  ]

  no_more : (b : ℕ) → get_or y' b 0 ≤ get_or y b 0
  no_more b = ⊎_elim (λ e. omega (arith, e)) (λ m. m.below (le_refl (get_or y b 0))) (push.arcs b)

  same_here : get_or y' a 0 ≡ get_or y a 0
  same_here = ⊎_elim (λ e. e) (λ m. omega (arith, no_more a, m.above (omega (arith, lower_here)), lower_here)) (push.arcs a)

  bounds : Bounded n y'
  bounds = record {
    long = push.long ∙ flow.long;
    above = λ b l. elim (ℕ_discrete b a) [
      | yes e ↦ omega (arith, same_here, flow.above b l, ap (λ (i : ℕ). get_or y' i 0) e, ap (λ (i : ℕ). get_or y i 0) e)
      | no d ↦ ⊎_elim (λ e. omega (arith, e, flow.above b l)) (λ m. omega (arith, lower_at b d, m.above (omega (arith, lower_at b d, flow.above b l)))) (push.arcs b)
    ];
    below = λ b l. ⊎_elim (λ e. inl e) (λ h. inr (omega (arith, no_more b))) (flow.below b l);
  }

  abbrev z : List ℕ
  z = set y' a (get_or y' a 0 - 1)

  no_more_z : (b : ℕ) → get_or z b 0 ≤ get_or y b 0
  no_more_z b = at_set (λ i w. w ≤ get_or y i 0) y' a (get_or y' a 0 - 1) b (omega (arith, bounds.long)) (omega (arith, same_here)) (no_more b)

  z_long : length z ≡ length y
  z_long = length-set y' a _ ∙ push.long

  pub fewer : Fewer n y
  fewer = record {
    flow = z;
    is-flow = cycle_flow n sound y y' a arc flow bounds (omega (arith, same_here)) (subst (λ (v : ℕ). Balanced n.tails n.heads y y' (head n a) v) source_is push.balanced);
    below = no_more_z;
    less =
        omega (
          arith,
          total_sum z,
          total_sum y,
          ap (λ (k : ℕ). sum_below k (λ i. get_or z i 0)) z_long,
          sum_lt (length y) (λ i. get_or z i 0) (λ i. get_or y i 0) (λ i h. no_more_z i) a (omega (arith, flow.long))
              (omega (arith, same_here, get_or-set_same y' a (get_or y' a 0 - 1) 0 (omega (arith, bounds.long)))),
        );
  }

-- ---- until no arc is over

pub record Trimmed (n : Network) (y : List ℕ) : Type 0 where
  pub flow : List ℕ
  pub is-flow : Flow n flow
  pub below : (b : ℕ) → get_or flow b 0 ≤ get_or y b 0
  pub near : (b : ℕ) → b < arcs n → get_or flow b 0 ≤ lower n b + excess n

module _ (n : Network) (sound : Sound n) where
  some_over : (y : List ℕ) (k : ℕ) → ((a : ℕ) × (a < k) × (lower n a + excess n < get_or y a 0)) ⊎ ((b : ℕ) → b < k → get_or y b 0 ≤ lower n b + excess n)
  some_over y zero = inr (λ b h. absurd (not-suc-le-zero h))
  some_over y (suc k) = go (some_over y k) (dec_lt (lower n k + excess n) (get_or y k 0))
    where
      go : ((a : ℕ) × (a < k) × (lower n a + excess n < get_or y a 0)) ⊎ ((b : ℕ) → b < k → get_or y b 0 ≤ lower n b + excess n) → Dec (lower n k + excess n < get_or y k 0)
          → ((a : ℕ) × (a < suc k) × (lower n a + excess n < get_or y a 0)) ⊎ ((b : ℕ) → b < suc k → get_or y b 0 ≤ lower n b + excess n)
      go (inl (a, l, h)) d = inl (a, omega arith, h)
      go (inr all) (yes h) = inl (k, omega arith, h)
      go (inr all) (no h) = inr (λ b l. elim (ℕ_discrete b k) [ yes e ↦ rw e (omega (arith, h)) | no d ↦ all b (omega (arith, d)) ])

  trim_by : (fuel : ℕ) (y : List ℕ) → total y < fuel → Flow n y → Trimmed n y
  trim_by zero y h f = absurd (not-suc-le-zero h)
  trim_by (suc fuel) y h f = go (some_over y (arcs n)) (trim_by fuel)
    where
      go : ((a : ℕ) × (a < arcs n) × (lower n a + excess n < get_or y a 0)) ⊎ ((b : ℕ) → b < arcs n → get_or y b 0 ≤ lower n b + excess n)
          → ((y : List ℕ) → total y < fuel → Flow n y → Trimmed n y) → Trimmed n y
      go (inr all) again = record { flow = y; is-flow = f; below = λ b. le_refl (get_or y b 0); near = all }
      go (inl (a, l, o)) again =
          let less = fewer n sound y f a l o in
          let t = again less.flow (omega (arith, less.less)) less.is-flow in
          record { flow = t.flow; is-flow = t.is-flow; below = λ b. omega (arith, t.below b, less.below b); near = t.near }

  pub trim : (y : List ℕ) → Flow n y → Trimmed n y
  trim y f = trim_by (suc (total y)) y (omega arith) f
