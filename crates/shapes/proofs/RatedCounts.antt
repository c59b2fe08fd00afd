-- Counts within the limits are a flow, at the cost of their priced sum, cornered posts and bends; each flow is no cheaper than such counts, and as cheap only if it is theirs.
use mathlib.Core.Path.{◌≡◌, refl, sym, ap, ap₂, subst, ◌∙◌}
use mathlib.Core.Bool.{Bool, true, false}
use mathlib.Core.List.{List, ◌++◌}
use mathlib.Core.Logic.{◌⊎◌, inl, inr}
use Prim.Native.Nat.{ℕ, suc, ◌+◌, ◌-◌, ◌*◌, ◌/◌, ◌%◌, ◌≤◌, ◌<◌}
use native.Mathlib.Decide.{dec_lt}
use native.Mathlib.Nat.{mul-le-mul_left}
use native.Mathlib.Omega.{arith}
use borrow.Author.Tests.{lt-ltb, le-ltb}
use lib.Dec.{ltb}
use lib.ListN.{length, get_or, take, drop, take-append-drop}
use lib.Seq.{ext_get_or}
use Rattle.finite.proofs.Sums.{sum_below, sum_cong, sum_le, sum_has}
use Rattle.flow.specs.Network.{Flow, cost_of, unbounded}
use Rattle.embedding.specs.Plates.{pick, Plate, darts, twin}
use Rattle.embedding.proofs.Rotation.{Ordered, twin_cases, twin_dart}
use Rattle.shapes.specs.Shapes.{cornered_from, total}
use Rattle.shapes.specs.Claims.{is_flow}
use Rattle.shapes.specs.Rates.{Rates, pair_sums}
use Rattle.shapes.specs.NetworkOf.{is_joint, rated_of}
use Rattle.shapes.proofs.Tables.{length_table}
use Rattle.shapes.proofs.FlowFacts.{IsFlow, is_flow_facts}
use Rattle.shapes.proofs.Strips.{price_at, Within, StripWithin}
use Rattle.shapes.proofs.Apart.{low, high, apart, apart_long, apart_low, apart_high, apart_whole, apart_least, apart_only}
use Rattle.shapes.proofs.Corners.{joint_most, cornered_corners}
use Rattle.shapes.proofs.RatedFlows.{Fits, flow_fits, flow_plain, plain_flow, rated_cost, bends_long, corners_long, parted}
use Rattle.shapes.proofs.Straight.{both, both_twin, straightened, straight_flow, less, straight_total}

-- a limit as the most units of an arc, and back
most_within : (l b x : ℕ) → x ≤ b → Within l b → (pick (ltb l 255) l unbounded ≡ unbounded) ⊎ (x ≤ pick (ltb l 255) l unbounded)
most_within l b x h w = go (dec_lt l 255) w
  where
    go : Dec (l < 255) → Within l b → (pick (ltb l 255) l unbounded ≡ unbounded) ⊎ (x ≤ pick (ltb l 255) l unbounded)
    go (yes k) (inl e) = absurd (omega arith)
    go (yes k) (inr e) = inr (rw (lt-ltb l 255 k) (omega arith))
    go (no k) e = inl (rw (le-ltb l 255 (omega arith)) refl)

within_most : (l x : ℕ) → (pick (ltb l 255) l unbounded ≡ unbounded) ⊎ (x ≤ pick (ltb l 255) l unbounded) → Within l x
within_most l x h = go (dec_lt l 255) h
  where
    go : Dec (l < 255) → (pick (ltb l 255) l unbounded ≡ unbounded) ⊎ (x ≤ pick (ltb l 255) l unbounded) → Within l x
    go (yes k) (inl e) = absurd (omega (arith, ap (λ (b : Bool). pick b l unbounded) (lt-ltb l 255 k)))
    go (yes k) (inr e) = inr (omega (arith, ap (λ (b : Bool). pick b l unbounded) (lt-ltb l 255 k)))
    go (no k) e = inl (omega arith)

-- both darts of a strip have its limit
twin_half : (d : ℕ) → twin d / 2 ≡ d / 2
twin_half d = go (twin_cases d)
  where
    go : ((d % 2 ≡ 0) × (twin d ≡ suc d)) ⊎ ((d % 2 ≡ 1) × (twin d ≡ d - 1)) → twin d / 2 ≡ d / 2
    go (inl (e, t)) = omega arith
    go (inr (e, t)) = omega arith

-- the bounds of a corner's two arcs
corner_parts : (t : Bool) (c : ℕ) → 1 ≤ c → c ≤ 4 → (t ≡ true → c ≤ 3) → (1 ≤ low t c) × (low t c ≤ pick t 2 4) × (high t c ≤ pick t 1 0)
corner_parts true c l h k = (omega arith, omega arith, omega (arith, k refl))
corner_parts false c l h k = (omega arith, omega arith, omega arith)

second_fits : (t : Bool) (a b : ℕ) → a ≤ pick t 2 4 → b ≤ pick t 1 0 → high t (a + b) ≤ b
second_fits true a b h k = omega arith
second_fits false a b h k = omega arith

module _ (p : Plate) (r : Rates) (o : Ordered p) where
  -- the weighed sum of counts
  abbrev pub costly : List ℕ → ℕ → ℕ
  costly xs second = 4294967296 * sum_below (darts p) (λ d. price_at r.prices d * get_or xs d 0) + (65536 * second + total xs)

  abbrev pub on_arcs : List ℕ → List ℕ
  on_arcs cs = apart (is_joint p) (darts p) cs

  module _ (cs xs : List ℕ) (e : is_flow p cs xs ≡ true) where
    abbrev facts : IsFlow p cs xs
    facts = is_flow_facts p cs xs e

    second_arcs : sum_below (darts p) (λ d. get_or (on_arcs cs) (suc (d + d)) 0) ≡ cornered_from p.posts 0 p cs
    second_arcs = sum_cong (darts p) (λ d. get_or (on_arcs cs) (suc (d + d)) 0) (λ d. high (is_joint p d) (get_or cs d 0)) (apart_high (is_joint p) (darts p) cs) ∙ cornered_corners p o cs xs facts

    pub counts_cost : cost_of (rated_of p r).costs (xs ++ on_arcs cs) ≡ costly xs (cornered_from p.posts 0 p cs)
    counts_cost = omega (arith, rated_cost p r o xs (on_arcs cs) facts.units_long (apart_long (is_joint p) (darts p) cs), second_arcs)

    pub counts_flow : ((d : ℕ) → d < darts p → StripWithin r.limits xs d) → Flow (rated_of p r) (xs ++ on_arcs cs)
    counts_flow w =
        plain_flow p r o xs (on_arcs cs) facts.units_long (apart_long (is_joint p) (darts p) cs) (rw (apart_whole (is_joint p) (darts p) cs facts.corners_long) e) (record {
          bend-most = λ d l. most_within (get_or r.limits (d / 2) 255) (get_or xs d 0 + get_or xs (twin d) 0) (get_or xs d 0) (omega arith) (w d l);
          low_least = λ d l. omega (arith, apart_low (is_joint p) (darts p) cs d l, (parts d l).0);
          low_most = λ d l. omega (arith, apart_low (is_joint p) (darts p) cs d l, (parts d l).1);
          high_most = λ d l. omega (arith, apart_high (is_joint p) (darts p) cs d l, (parts d l).2);
        })
      where
        parts : (d : ℕ) → d < darts p → (1 ≤ low (is_joint p d) (get_or cs d 0)) × (low (is_joint p d) (get_or cs d 0) ≤ pick (is_joint p d) 2 4) × (high (is_joint p d) (get_or cs d 0) ≤ pick (is_joint p d) 1 0)
        parts d l = corner_parts (is_joint p d) (get_or cs d 0) (facts.corner_range d l).0 (facts.corner_range d l).1 (joint_most p o cs xs facts d l)

  -- a flow, its strips straightened and each corner put together
  module _ (y : List ℕ) (f : Flow (rated_of p r) y) where
    abbrev ys : List ℕ
    ys = take (darts p) y

    abbrev zs : List ℕ
    zs = drop (darts p) y

    abbrev pub units_of : List ℕ
    units_of = straightened p o (take (darts p) y)

    abbrev pub angles_of : List ℕ
    angles_of = pair_sums (drop (darts p) y)

    ys_long : length ys ≡ darts p
    ys_long = bends_long p r y f

    zs_long : length zs ≡ darts p + darts p
    zs_long = corners_long p r y f

    fits : Fits p r ys zs
    fits = flow_fits p r o ys zs ys_long zs_long (parted p r y f)

    plain : is_flow p angles_of ys ≡ true
    plain = flow_plain p r o ys zs ys_long zs_long (parted p r y f)

    pub flow_counts : is_flow p angles_of units_of ≡ true
    flow_counts = straight_flow p o ys angles_of plain

    counts_less : (d : ℕ) → d < darts p → get_or units_of d 0 ≤ get_or ys d 0
    counts_less d l = omega (arith, less p o ys d l)

    pub counts_within : (d : ℕ) → d < darts p → StripWithin r.limits units_of d
    counts_within d l = go (within_most limit (get_or ys d 0) (fits.bend-most d l)) (subst (λ (k : ℕ). Within (get_or r.limits k 255) (get_or ys (twin d) 0)) (twin_half d) (within_most (get_or r.limits (twin d / 2) 255) (get_or ys (twin d) 0) (fits.bend-most (twin d) t)))
      where
        limit : ℕ
        limit = get_or r.limits (d / 2) 255

        t : twin d < darts p
        t = twin_dart p o d l

        go : Within limit (get_or ys d 0) → Within limit (get_or ys (twin d) 0) → Within limit (get_or units_of d 0 + get_or units_of (twin d) 0)
        go (inl h) k = inl h
        go (inr h) (inl k) = inl k
        go (inr h) (inr k) = inr (omega (arith, less p o ys d l, less p o ys (twin d) t, both_twin p o ys d))

    -- all three parts of the cost are no more
    cost_is : cost_of (rated_of p r).costs y ≡ costly ys (sum_below (darts p) (λ d. get_or zs (suc (d + d)) 0))
    cost_is = ap (cost_of (rated_of p r).costs) (sym (take-append-drop (darts p) y)) ∙ rated_cost p r o ys zs ys_long zs_long

    less_priced : sum_below (darts p) (λ d. price_at r.prices d * get_or units_of d 0) ≤ sum_below (darts p) (λ d. price_at r.prices d * get_or ys d 0)
    less_priced =
        sum_le (darts p) (λ d. price_at r.prices d * get_or units_of d 0) (λ d. price_at r.prices d * get_or ys d 0) (λ d l. mul-le-mul_left (price_at r.prices d) (counts_less d l))

    seconds_fit : (d : ℕ) → d < darts p → high (is_joint p d) (get_or zs (d + d) 0 + get_or zs (suc (d + d)) 0) ≤ get_or zs (suc (d + d)) 0
    seconds_fit d l = second_fits (is_joint p d) (get_or zs (d + d) 0) (get_or zs (suc (d + d)) 0) (fits.low_most d l) (fits.high_most d l)

    less_cornered : cornered_from p.posts 0 p angles_of ≤ sum_below (darts p) (λ d. get_or zs (suc (d + d)) 0)
    less_cornered = omega (arith, second_arcs angles_of ys plain, apart_least (is_joint p) (darts p) zs zs_long seconds_fit)

    pub counts_cheaper : costly units_of (cornered_from p.posts 0 p angles_of) ≤ cost_of (rated_of p r).costs y
    counts_cheaper = omega (arith, cost_is, less_priced, less_cornered, straight_total p o ys ys_long)

    pub counts_only : costly units_of (cornered_from p.posts 0 p angles_of) ≡ cost_of (rated_of p r).costs y → y ≡ units_of ++ on_arcs angles_of
    counts_only e = sym (take-append-drop (darts p) y) ∙ ap₂ (λ (us ws : List ℕ). us ++ ws) units_same corners_same
      where
        nothing : sum_below (darts p) (both p o ys) ≡ 0
        nothing = omega (arith, cost_is, less_priced, less_cornered, straight_total p o ys ys_long)

        units_same : ys ≡ units_of
        units_same =
            ext_get_or 0 ys units_of (ys_long ∙ sym (length_table (darts p) (λ d. get_or ys d 0 - both p o ys d)))
            (λ d l. omega (arith, nothing, less p o ys d (omega (arith, ys_long)), sum_has (darts p) (both p o ys) d (omega (arith, ys_long))))

        corners_same : zs ≡ on_arcs angles_of
        corners_same =
            apart_only (is_joint p) (darts p) zs zs_long seconds_fit
            (omega (arith, second_arcs angles_of ys plain, cost_is, less_priced, less_cornered, straight_total p o ys ys_long))
