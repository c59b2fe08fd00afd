-- How search, push and raise go together: pushes and raises keep the prices, and a search after a raise reaches more nodes.
use mathlib.Core.Path.{◌≡◌, sym, ◌∙◌, subst}
use mathlib.Core.Logic.{◌⊎◌, inl, inr, ⊎_elim}
use mathlib.Core.List.{List, [], ◌∷◌}
use Prim.Native.Nat.{ℕ, zero, suc, ◌+◌, ◌-◌, ◌≤◌, ◌<◌}
use native.Mathlib.Nat.{not-suc-le-zero, le_of_suc-le-suc, lt_of_not-le}
use native.Mathlib.Decide.{dec_le, dec_lt}
use native.Mathlib.Omega.{arith}
use borrow.Author.Tests.{le-leb, lt-leb}
use lib.Dec.{leb}
use lib.ListN.{length, get_or}
use Rattle.finite.specs.Base.{when}
use Rattle.residual.specs.Residual.{Residual, Shaped, ShutAt, Searched, Pushed, repriced, reflowed, tail_of, head_of, tight, can_up, can_down, reached, unreached}
use Rattle.residual.specs.Prices.{Priced, Leaves, Gap, Raised, over, there}

-- ---- how many nodes are not reached

pub unreached_few : (d : List ℕ) → unreached d ≤ length d
unreached_few [] = omega arith
unreached_few (e ∷ d) = elim (dec_le 255 e) [ yes h ↦ rw (le-leb 255 e h) (omega (arith, unreached_few d)) | no n ↦ rw (lt-leb 255 e (lt_of_not-le n)) (omega (arith, unreached_few d)) ]

mark_count : (m n : ℕ) → (n < 255 → m < 255) → when (leb 255 m) 1 ≤ when (leb 255 n) 1
mark_count m n h =
    elim (dec_le 255 n) [
      | yes g ↦ rw (le-leb 255 n g) (elim (dec_le 255 m) [ yes f ↦ rw (le-leb 255 m f) (omega arith) | no f ↦ rw (lt-leb 255 m (lt_of_not-le f)) (omega arith) ])
      | no g ↦ rw (lt-leb 255 m (h (lt_of_not-le g))) (omega arith)
    ]

-- marks that reach at least the same nodes leave at most as many
pub unreached_le : (d e : List ℕ) → length e ≡ length d → ((v : ℕ) → reached d v → reached e v) → unreached e ≤ unreached d
unreached_le [] [] l h = omega arith
unreached_le [] (n ∷ e) l h = absurd (omega (arith, l))
unreached_le (m ∷ d) [] l h = absurd (omega (arith, l))
unreached_le (m ∷ d) (n ∷ e) l h = omega (arith, mark_count n m (h 0), unreached_le d e (omega (arith, l)) (λ v. h (suc v)))

-- and fewer with a node that is new
pub unreached_lt : (d e : List ℕ) (u : ℕ) → length e ≡ length d → ((v : ℕ) → reached d v → reached e v) → u < length d → 255 ≤ get_or d u 0 → reached e u → unreached e < unreached d
unreached_lt [] e u l h node out in' = absurd (not-suc-le-zero node)
unreached_lt (m ∷ d) [] u l h node out in' = absurd (omega (arith, l))
unreached_lt (m ∷ d) (n ∷ e) zero l h node out in' = rw (le-leb 255 m out, lt-leb 255 n in') (omega (arith, unreached_le d e (omega (arith, l)) (λ v. h (suc v))))
unreached_lt (m ∷ d) (n ∷ e) (suc u) l h node out in' = omega (arith, mark_count n m (h 0), unreached_lt d e u (omega (arith, l)) (λ v. h (suc v)) (le_of_suc-le-suc node) out in')

-- a source leaves fewer than all
pub unreached_source : (d : List ℕ) (v : ℕ) → v < length d → reached d v → unreached d < length d
unreached_source [] v node in' = absurd (not-suc-le-zero node)
unreached_source (m ∷ d) zero node in' = rw (lt-leb 255 m in') (omega (arith, unreached_few d))
unreached_source (m ∷ d) (suc v) node in' = elim (dec_le 255 m) [
  | yes h ↦ rw (le-leb 255 m h) (omega (arith, unreached_source d v (le_of_suc-le-suc node) in'))
  | no n ↦ rw (lt-leb 255 m (lt_of_not-le n)) (omega (arith, unreached_source d v (le_of_suc-le-suc node) in'))
]

-- ---- prices after a push

module _ (r : Residual) (from : ℕ) (dist : List ℕ) (target : ℕ) (x' : List ℕ) (source : ℕ) (p : Pushed r from dist target x' source) (k : Priced r) where
  pub priced_pushed : Priced (reflowed r x')
  priced_pushed =
      record {
        up = λ a h room. ⊎_elim (λ e. k.up a h (omega (arith, e))) (λ m. omega (arith, m.even)) (p.arcs a);
        down = λ a h room. ⊎_elim (λ e. k.down a h (omega (arith, e))) (λ m. omega (arith, m.even)) (p.arcs a);
      }

-- ---- prices after a raise by the gap

module _ (r : Residual) (dist : List ℕ) (g : ℕ) (pot' : List ℕ) (q : Raised dist g r.pot pot') where
  pub same_price : (v : ℕ) → reached dist v → get_or pot' v 0 ≡ get_or r.pot v 0
  same_price v h = omega (arith, rw (lt-leb 255 (get_or dist v 0) h) at (q.prices v))

  more_price : (v : ℕ) → 255 ≤ get_or dist v 0 → get_or pot' v 0 ≡ get_or r.pot v 0 + g
  more_price v h = rw (le-leb 255 (get_or dist v 0) h) at (q.prices v)

  pub price : (v : ℕ) → ((get_or pot' v 0 ≡ get_or r.pot v 0) × reached dist v) ⊎ ((get_or pot' v 0 ≡ get_or r.pot v 0 + g) × (255 ≤ get_or dist v 0))
  price v = elim (dec_le 255 (get_or dist v 0)) [ yes h ↦ inr (more_price v h, h) | no n ↦ inl (same_price v (lt_of_not-le n), lt_of_not-le n) ]

  pub still_tight : (a : ℕ) → tight r a → reached dist (tail_of r a) → reached dist (head_of r a) → tight (repriced r pot') a
  still_tight a e t h = omega (arith, same_price (tail_of r a) t, same_price (head_of r a) h)

  module _ (k : Priced r) (closed : (a : ℕ) → a < length r.tails → ShutAt r dist a) (m : Gap r dist g) where
    -- an arc that leaves the reached nodes is short by the gap at least
    up_short : (a : ℕ) → a < length r.tails → can_up r a → reached dist (tail_of r a) → 255 ≤ get_or dist (head_of r a) 0 → there r a + g ≤ over r a
    up_short a h room near far =
        let s = over r a - there r a in
        let l : Leaves r dist a s = inl (record { near_in = near; far_out = far; room = room }, omega (arith, k.up a h room)) in
        elim (dec_lt 0 s) [
          | yes pos ↦ omega (arith, (m.least a s h l pos).1, k.up a h room)
          | no n ↦ absurd (omega (arith, (closed a h).up (omega (arith, n, k.up a h room)) near room))
        ]

    down_short : (a : ℕ) → a < length r.tails → can_down r a → reached dist (head_of r a) → 255 ≤ get_or dist (tail_of r a) 0 → over r a + g ≤ there r a
    down_short a h room near far =
        let s = there r a - over r a in
        let l : Leaves r dist a s = inr (record { near_in = near; far_out = far; room = room }, omega (arith, k.down a h room)) in
        elim (dec_lt 0 s) [
          | yes pos ↦ omega (arith, (m.least a s h l pos).1, k.down a h room)
          | no n ↦ absurd (omega (arith, (closed a h).down (omega (arith, n, k.down a h room)) near room))
        ]

    pub priced_raised : Priced (repriced r pot')
    priced_raised =
        record {
          up = λ a h room. let old = k.up a h room in ⊎_elim
              (λ t. ⊎_elim (λ e. omega (arith, old, t.0, e.0)) (λ e. omega (arith, up_short a h room t.1 e.1, t.0, e.0)) (price (head_of r a)))
              (λ t. ⊎_elim (λ e. omega (arith, old, t.0, e.0)) (λ e. omega (arith, old, t.0, e.0)) (price (head_of r a)))
              (price (tail_of r a));
          down = λ a h room. let old = k.down a h room in ⊎_elim
              (λ t. ⊎_elim (λ e. omega (arith, old, t.0, e.0)) (λ e. omega (arith, old, t.0, e.0)) (price (head_of r a)))
              (λ t. ⊎_elim (λ e. omega (arith, down_short a h room e.1 t.1, t.0, e.0)) (λ e. omega (arith, old, t.0, e.0)) (price (head_of r a)))
              (price (tail_of r a));
        }

-- ---- a search after a raise

module _ (r : Residual) (from : ℕ) (start dist via : List ℕ) (s : Searched r from start dist via) (g : ℕ) (pot' : List ℕ) (q : Raised dist g r.pot pot')
    (dist' via' : List ℕ) (n : Searched (repriced r pot') from start dist' via') where
  again_below : (k v : ℕ) → get_or dist v 0 < k → reached dist v → reached dist' v
  again_below zero v h in' = absurd (not-suc-le-zero h)
  again_below (suc k) v h in' =
      elim (dec_lt 0 (get_or dist v 0)) [
        | no z ↦ omega (arith, n.rooted.keeps v (s.rooted.adds_none v (omega (arith, z))))
        | yes pos ↦ (let l = s.rooted.tree v pos in' in
            let a = get_or via v 0 in
            ⊎_elim
            (λ w. subst (reached dist') w.0.at
            ((n.closed a l.late l.arc).up
            (still_tight r dist g pot' q a l.even (omega (arith, w.0.nearer)) (subst (reached dist) (sym w.0.at) in'))
            (again_below k (tail_of r a) (omega (arith, w.0.nearer)) (omega (arith, w.0.nearer)))
            w.1))
            (λ w. subst (reached dist') w.0.at
            ((n.closed a l.late l.arc).down
            (still_tight r dist g pot' q a l.even (subst (reached dist) (sym w.0.at) in') (omega (arith, w.0.nearer)))
            (again_below k (head_of r a) (omega (arith, w.0.nearer)) (omega (arith, w.0.nearer)))
            w.1))
            l.way)
      ]

  -- it reaches every node that the search before the raise did
  pub again : (v : ℕ) → reached dist v → reached dist' v
  again v = again_below (suc (get_or dist v 0)) v (omega arith)

-- With a gap above 0 it reaches more: fewer nodes are left.
module _ (r : Residual) (start dist via : List ℕ) (s : Searched r 0 start dist via) (g : ℕ) (m : Gap r dist g) (some : 0 < g) (pot' : List ℕ) (q : Raised dist g r.pot pot')
    (dist' via' : List ℕ) (n : Searched (repriced r pot') 0 start dist' via') (ends : Shaped r (length dist)) where
  kept : (v : ℕ) → reached dist v → reached dist' v
  kept = again r 0 start dist via s g pot' q dist' via' n

  pub search_further : unreached dist' < unreached dist
  search_further =
      let a = (m.met some).0 in
      let arc = (m.met some).1 in
      let long : length dist' ≡ length dist = n.rooted.long ∙ sym s.rooted.long in
      ⊎_elim
      (λ w. unreached_lt dist dist' (head_of r a) long kept (ends.heads_in a arc) w.0.far_out
      ((n.closed a (omega arith) arc).up
      (omega (arith, w.1, same_price r dist g pot' q (tail_of r a) w.0.near_in, more_price r dist g pot' q (head_of r a) w.0.far_out))
      (kept (tail_of r a) w.0.near_in)
      w.0.room))
      (λ w. unreached_lt dist dist' (tail_of r a) long kept (ends.tails_in a arc) w.0.far_out
      ((n.closed a (omega arith) arc).down
      (omega (arith, w.1, same_price r dist g pot' q (head_of r a) w.0.near_in, more_price r dist g pot' q (tail_of r a) w.0.far_out))
      (kept (head_of r a) w.0.near_in)
      w.0.room))
      (m.met some).2

-- With no gap, no residual arc leaves the reached nodes: those out are full, those in are at their least.
module _ (r : Residual) (dist : List ℕ) (k : Priced r) (closed : (a : ℕ) → a < length r.tails → ShutAt r dist a) (m : Gap r dist 0) where
  none_out : (a s : ℕ) → a < length r.tails → Leaves r dist a s → s ≡ 0
  none_out a s h l = elim (dec_lt 0 s) [ yes pos ↦ absurd (omega (arith, (m.least a s h l pos).0)) | no n ↦ omega (arith, n) ]

  pub full_out : (a : ℕ) → a < length r.tails → reached dist (tail_of r a) → 255 ≤ get_or dist (head_of r a) 0 → get_or r.uppers a 0 ≤ get_or r.x a 0
  full_out a h near far = elim (dec_lt (get_or r.x a 0) (get_or r.uppers a 0)) [
    | no n ↦ omega (arith, n)
    | yes room ↦ (let price = k.up a h room in
        let e = none_out a (over r a - there r a) h (inl (record { near_in = near; far_out = far; room = room }, omega arith)) in
        absurd (omega (arith, (closed a h).up (omega (arith, e, price)) near room)))
  ]

  pub least_in : (a : ℕ) → a < length r.tails → reached dist (head_of r a) → 255 ≤ get_or dist (tail_of r a) 0 → get_or r.x a 0 ≤ get_or r.lowers a 0
  least_in a h near far = elim (dec_lt (get_or r.lowers a 0) (get_or r.x a 0)) [
    | no n ↦ omega (arith, n)
    | yes room ↦ (let price = k.down a h room in
        let e = none_out a (there r a - over r a) h (inr (record { near_in = near; far_out = far; room = room }, omega arith)) in
        absurd (omega (arith, (closed a h).down (omega (arith, e, price)) near room)))
  ]
