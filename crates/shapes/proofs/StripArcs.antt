-- The arcs of the two darts of a strip: each is the other turned round, and a limit and a price are those of the strip. Assumes nothing.
use mathlib.Core.Path.{◌≡◌, sym, ap, subst, ◌∙◌}
use mathlib.Core.List.{List}
use Prim.Native.Nat.{ℕ, ◌+◌, ◌*◌, ◌/◌, ◌<◌, ◌≤◌}
use native.Mathlib.Omega.{arith}
use lib.ListN.{length, get_or, set, length-set}
use Rattle.residual.specs.declared.arcs.Arc.{Arc}
use Rattle.embedding.specs.Plates.{twin}
use Rattle.embedding.specs.declared.Plate.{Plate as Held}
use Rattle.embedding.proofs.Rotation.{twin_even, twin_odd}
use Rattle.shapes.specs.Rates.{Rates}
use Rattle.shapes.specs.NetworkOf.{strip_most}
use Rattle.shapes.specs.Entries.{node_at, bend_arc, Begun}
use Rattle.shapes.proofs.Filled.{begun_more}

module _ (i : ℕ) where
  twin_first : twin (i + i) ≡ i + i + 1
  twin_first = omega (arith, twin_even (i + i) (omega arith))

  twin_second : twin (i + i + 1) ≡ i + i
  twin_second = omega (arith, twin_odd (i + i + 1) (omega arith))

  half_first : (i + i) / 2 ≡ i
  half_first = omega arith

  half_second : (i + i + 1) / 2 ≡ i
  half_second = omega arith

module _ (q : Held) (r : Rates) (i : ℕ) {t h m c : ℕ} (tail : t ≡ node_at q.posts q.face (i + i)) (head : h ≡ node_at q.posts q.face (i + i + 1)) (most : m ≡ strip_most r.limits i) (price : c ≡ get_or r.prices i 1) where
  abbrev arc : ℕ → ℕ → Arc
  arc x y = record { tail = x; head = y; lower = 0; upper = m; cost = c * 4294967296 + 1 }

  -- the rates by a dart of the strip
  most_by : (k : ℕ) → k ≡ i → m ≡ strip_most r.limits k
  most_by k e = most ∙ ap (strip_most r.limits) (sym e)

  price_by : (k : ℕ) → k ≡ i → c ≡ get_or r.prices k 1
  price_by k e = price ∙ ap (λ (k : ℕ). get_or r.prices k 1) (sym e)

  pub strip_arcs : (arc t h ≡ bend_arc q r (i + i)) × (arc h t ≡ bend_arc q r (i + i + 1))
  strip_arcs =
      let there = head ∙ ap (node_at q.posts q.face) (sym (twin_first i)) in
      let back = tail ∙ ap (node_at q.posts q.face) (sym (twin_second i)) in
      let m0 = most_by ((i + i) / 2) (half_first i) in
      let m1 = most_by ((i + i + 1) / 2) (half_second i) in
      let c0 = price_by ((i + i) / 2) (half_first i) in
      let c1 = price_by ((i + i + 1) / 2) (half_second i) in (
        λ j. record { tail = tail j; head = there j; lower = 0; upper = m0 j; cost = c0 j * 4294967296 + 1 },
        λ j. record { tail = head j; head = back j; lower = 0; upper = m1 j; cost = c1 j * 4294967296 + 1 },
      )

-- a list of the darts' arcs with those of one strip more
pub strip_more : {A : Type 0} {none : A} {n : ℕ} {f : ℕ → A} (i : ℕ) {xs : List A} {x y : A} → Begun none n f (i + i) xs → i + i + 1 < length xs → x ≡ f (i + i) → y ≡ f (i + i + 1)
    → Begun none n f (i + 1 + (i + 1)) (set (set xs (i + i) x) (i + i + 1) y)
strip_more {none = none} {n} {f} i {xs} {x} {y} b l p q =
    let e : i + i + 1 + 1 ≡ i + 1 + (i + 1) = omega arith in
    subst (λ (k : ℕ). Begun none n f k (set (set xs (i + i) x) (i + i + 1) y)) e
    (begun_more (begun_more b (omega arith) p) (omega (arith, length-set xs (i + i) x)) q)

-- and with those of all strips
pub strips_done : {A : Type 0} {none : A} {n : ℕ} {f : ℕ → A} (q : Held) (i : ℕ) {xs : List A} → i ≤ q.darts / 2 → q.darts / 2 ≤ i → Begun none n f (i + i) xs → Begun none n f q.darts xs
strips_done {none = none} {n} {f} q i {xs} a b h =
    let e : i + i ≡ q.darts = omega (arith, q.accepted.even_darts, q.stands.dart_count) in
    subst (λ (k : ℕ). Begun none n f k xs) e h
