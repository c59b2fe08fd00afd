-- Orbits of a function that maps the numbers below n to numbers below n, no two to one.
use mathlib.Core.Path.{◌≡◌, refl, sym, ap, subst, ◌∙◌}
use mathlib.Core.Bool.{Bool, true, false, ◌&&◌}
use mathlib.Core.List.{List, [], ◌∷◌}
use mathlib.Core.Logic.{◌⊎◌, inl, inr, ⊎_elim}
use Prim.Native.Nat.{ℕ, zero, suc, ◌≤◌, ◌<◌}
use native.Mathlib.Omega.{arith}
use borrow.Author.Tests.{eqb-true, eq-eqb, ne_eqb, leb-true, le-leb, ltb-true, ltb-false}
use lib.Dec.{eqb, leb, ltb}
use lib.ListN.{length}
use Rattle.finite.specs.Base.{pick, when, is_in, distinct, all_below, last_of, is_lowest}
pub use Rattle.finite.specs.Walks.{walk, orbit, OneToOne, lowest}
use Rattle.finite.proofs.Sums.{sum_below, sum_over, sum_cong, sum_swap, sum_at, sum_when, when_and}
use Rattle.finite.proofs.Tests.{equal_or_not, and_left, and_right, and_both, same_test, not_true_false}
use Rattle.finite.proofs.Members.{in_none, in_here, in_more, in_cases, all_of, distinct_more, last_in}
use Rattle.finite.proofs.Pigeonhole.{sum_over_members, at_most}

last_of_more : (x : ℕ) (xs : List ℕ) → 0 < length xs → last_of (x ∷ xs) ≡ last_of xs
last_of_more x [] l = absurd (omega arith)
last_of_more x (y ∷ ys) l = refl

-- what is left of a walk after its first
abbrev pub rest : (ℕ → ℕ) → ℕ → ℕ → ℕ → List ℕ
rest f k s d = elim (eqb (f d) s) [ true ↦ [] | false ↦ walk f k s (f d) ]

-- the place of x in a walk, if not the first: f takes `from` there
pub record After (f : ℕ → ℕ) (xs : List ℕ) (s x : ℕ) : Type 0 where
  pub from : ℕ
  pub from_in : is_in from xs ≡ true
  pub to : f from ≡ x
  pub not_start : x ≡ s → ⊥

-- d is met on the way from s, which is not met again
pub data Met (f : ℕ → ℕ) (s : ℕ) : ℕ → Type 0 where
  start : Met f s s
  next : {d : ℕ} → Met f s d → (f d ≡ s → ⊥) → Met f s (f d)

module _ (f : ℕ → ℕ) where
  pub stops : (k s d : ℕ) → f d ≡ s → rest f k s d ≡ []
  stops k s d e = ap (λ (b : Bool). elim b as (λ b. List ℕ) [ true ↦ [] | false ↦ walk f k s (f d) ]) (eq-eqb (f d) s e)

  pub goes : (k s d : ℕ) → (f d ≡ s → ⊥) → rest f k s d ≡ walk f k s (f d)
  goes k s d e = ap (λ (b : Bool). elim b as (λ b. List ℕ) [ true ↦ [] | false ↦ walk f k s (f d) ]) (ne_eqb (f d) s e)

  went_on : (k s d x : ℕ) → is_in x (rest f k s d) ≡ true → f d ≡ s → ⊥
  went_on k s d x e q = in_none x (subst (λ (l : List ℕ). is_in x l ≡ true) (stops k s d q) e)

  pub in_rest : (k s d x : ℕ) → is_in x (rest f k s d) ≡ true → is_in x (walk f k s (f d)) ≡ true
  in_rest k s d x e = subst (λ (l : List ℕ). is_in x l ≡ true) (goes k s d (went_on k s d x e)) e

  pub rest_in : (k s d x : ℕ) → (f d ≡ s → ⊥) → is_in x (walk f k s (f d)) ≡ true → is_in x (walk f (suc k) s d) ≡ true
  rest_in k s d x q e = in_more x d (rest f k s d) (subst (λ (l : List ℕ). is_in x l ≡ true) (sym (goes k s d q)) e)

  pub starts : (k s d : ℕ) → is_in d (walk f (suc k) s d) ≡ true
  starts k s d = in_here d (rest f k s d)

  -- what holds of d and is kept by f holds of the whole walk
  pub walk_keeps : (P : ℕ → Type 0) → ((x : ℕ) → P x → P (f x)) → (k s d : ℕ) → P d → (x : ℕ) → is_in x (walk f k s d) ≡ true → P x
  walk_keeps P step zero s d h x e = absurd (in_none x e)
  walk_keeps P step (suc k) s d h x e =
      ⊎_elim (λ z. subst P (sym z) h) (λ z. walk_keeps P step k s (f d) (step d h) x (in_rest k s d x z)) (in_cases x d (rest f k s d) e)

  -- what holds of a place of the walk and is kept backwards holds of d
  pub walk_back : (P : ℕ → Type 0) → ((x : ℕ) → P (f x) → P x) → (k s d x : ℕ) → is_in x (walk f k s d) ≡ true → P x → P d
  walk_back P step zero s d x e h = absurd (in_none x e)
  walk_back P step (suc k) s d x e h =
      ⊎_elim (λ z. subst P z h) (λ z. step d (walk_back P step k s (f d) x (in_rest k s d x z) h)) (in_cases x d (rest f k s d) e)

  -- all of a walk that started at s is met on the way from s
  pub walk_met : (k s : ℕ) {d : ℕ} → Met f s d → (x : ℕ) → is_in x (walk f k s d) ≡ true → Met f s x
  walk_met zero s m x e = absurd (in_none x e)
  walk_met (suc k) s {d} m x e =
      ⊎_elim (λ z. subst (Met f s) (sym z) m) (λ z. walk_met k s (next m (went_on k s d x z)) x (in_rest k s d x z)) (in_cases x d (rest f k s d) e)

  came_from : (k s d x : ℕ) → is_in x (walk f k s d) ≡ true → (x ≡ d) ⊎ After f (walk f k s d) s x
  came_from zero s d x e = absurd (in_none x e)
  came_from (suc k) s d x e = ⊎_elim inl (λ z. inr (later z (came_from k s (f d) x (in_rest k s d x z)))) (in_cases x d (rest f k s d) e)
    where
      later : is_in x (rest f k s d) ≡ true → (x ≡ f d) ⊎ After f (walk f k s (f d)) s x → After f (walk f (suc k) s d) s x
      later z (inl q) = record { from = d; from_in = starts k s d; to = sym q; not_start = λ w. went_on k s d x z (sym q ∙ w) }
      later z (inr a) = record { from = a.from; from_in = rest_in k s d a.from (went_on k s d x z) a.from_in; to = a.to; not_start = a.not_start }

  -- a walk that ends before its fuel does comes back to s
  ends : (k s d : ℕ) → length (walk f (suc k) s d) ≤ k → f (last_of (walk f k s d)) ≡ s
  ends zero s d l = absurd (omega arith)
  ends (suc k) s d l = ⊎_elim stop (λ q. go q (ends k s (f d))) (equal_or_not (f d) s)
    where
      stop : f d ≡ s → f (last_of (walk f (suc k) s d)) ≡ s
      stop q = ap (λ (r : List ℕ). f (last_of (d ∷ r))) (stops k s d q) ∙ q

      go : (f d ≡ s → ⊥) → (length (walk f (suc k) s (f d)) ≤ k → f (last_of (walk f k s (f d))) ≡ s) → f (last_of (walk f (suc k) s d)) ≡ s
      go q ih =
          let short : length (walk f (suc k) s (f d)) ≤ k = omega (arith, ap length (goes (suc k) s d q)) in
          ap (λ (r : List ℕ). f (last_of (d ∷ r))) (goes k s d q) ∙ ap f (last_of_more d (walk f k s (f d)) (some k short)) ∙ ih short
        where
          some : (k : ℕ) → length (walk f (suc k) s (f d)) ≤ k → 0 < length (walk f k s (f d))
          some zero l = absurd (omega arith)
          some (suc k) l = omega arith

  pub head_in : (k s d : ℕ) → length (walk f (suc k) s d) ≤ k → is_in d (walk f k s d) ≡ true
  head_in zero s d l = absurd (omega arith)
  head_in (suc k) s d l = starts k s d

  pub enough : (k s d : ℕ) → length (walk f (suc k) s d) ≤ k → walk f (suc k) s d ≡ walk f k s d
  enough zero s d l = absurd (omega arith)
  enough (suc k) s d l =
      ap (λ (r : List ℕ). d ∷ r)
      (⊎_elim (λ q. stops (suc k) s d q ∙ sym (stops k s d q)) (λ q. goes (suc k) s d q ∙ enough k s (f d) (omega (arith, ap length (goes (suc k) s d q))) ∙ sym (goes k s d q)) (equal_or_not (f d) s))

  pub next_in : (k s d x : ℕ) → length (walk f (suc k) s d) ≤ k → is_in x (walk f k s d) ≡ true → (f x ≡ s) ⊎ (is_in (f x) (walk f k s d) ≡ true)
  next_in zero s d x l e = absurd (in_none x e)
  next_in (suc k) s d x l e = ⊎_elim here (λ z. later z (next_in k s (f d) x)) (in_cases x d (rest f k s d) e)
    where
      short : (f d ≡ s → ⊥) → length (walk f (suc k) s (f d)) ≤ k
      short q = omega (arith, ap length (goes (suc k) s d q))

      here : x ≡ d → (f x ≡ s) ⊎ (is_in (f x) (walk f (suc k) s d) ≡ true)
      here w =
          ⊎_elim (λ q. inl (ap f w ∙ q))
          (λ q. inr (subst (λ (y : ℕ). is_in (f y) (walk f (suc k) s d) ≡ true) (sym w) (rest_in k s d (f d) q (head_in k s (f d) (short q)))))
          (equal_or_not (f d) s)

      later : is_in x (rest f k s d) ≡ true → (length (walk f (suc k) s (f d)) ≤ k → is_in x (walk f k s (f d)) ≡ true → (f x ≡ s) ⊎ (is_in (f x) (walk f k s (f d)) ≡ true)) → (f x ≡ s) ⊎ (is_in (f x) (walk f (suc k) s d) ≡ true)
      later z ih =
          let q : (f d ≡ s → ⊥) = went_on k s d x z in
          ⊎_elim inl (λ w. inr (rest_in k s d (f x) q w)) (ih (short q) (in_rest k s d x z))

picked : (x m : ℕ) (b : Bool) → ltb x m ≡ b → (pick b x m ≤ x) × (pick b x m ≤ m)
picked x m true e = omega (arith, ltb-true)
picked x m false e = omega (arith, ltb-false)

lowest_start : (m : ℕ) (xs : List ℕ) → lowest m xs ≤ m
lowest_start m [] = omega arith
lowest_start m (x ∷ xs) = omega (arith, lowest_start (pick (ltb x m) x m) xs, picked x m (ltb x m) refl)

lowest_le : (m : ℕ) (xs : List ℕ) (x : ℕ) → is_in x xs ≡ true → lowest m xs ≤ x
lowest_le m [] x e = absurd (in_none x e)
lowest_le m (y ∷ ys) x e =
    ⊎_elim (λ q. omega (arith, q, lowest_start (pick (ltb y m) y m) ys, picked y m (ltb y m) refl))
    (λ z. lowest_le (pick (ltb y m) y m) ys x z)
    (in_cases x y ys e)

lowest_in : (m : ℕ) (xs : List ℕ) → is_in (lowest m xs) (m ∷ xs) ≡ true
lowest_in m [] = in_here m []
lowest_in m (x ∷ xs) = go (ltb x m) (in_cases (lowest (pick (ltb x m) x m) xs) (pick (ltb x m) x m) xs (lowest_in (pick (ltb x m) x m) xs))
  where
    go : (b : Bool) {y : ℕ} → (y ≡ pick b x m) ⊎ (is_in y xs ≡ true) → is_in y (m ∷ (x ∷ xs)) ≡ true
    go true {y} (inl q) = in_more y m (x ∷ xs) (subst (λ (z : ℕ). is_in z (x ∷ xs) ≡ true) (sym q) (in_here x xs))
    go false {y} (inl q) = subst (λ (z : ℕ). is_in z (m ∷ (x ∷ xs)) ≡ true) (sym q) (in_here m (x ∷ xs))
    go true {y} (inr z) = in_more y m (x ∷ xs) (in_more y x xs z)
    go false {y} (inr z) = in_more y m (x ∷ xs) (in_more y x xs z)

is-lowest : (d : ℕ) (xs : List ℕ) → ((x : ℕ) → is_in x xs ≡ true → d ≤ x) → is_lowest d xs ≡ true
is-lowest d [] h = refl
is-lowest d (x ∷ xs) h =
    and_both (leb d x) (is_lowest d xs) (le-leb d x (h x (in_here x xs))) (is-lowest d xs (λ y e. h y (in_more y x xs e)))

lowest_is : (d : ℕ) (xs : List ℕ) → is_lowest d xs ≡ true → (x : ℕ) → is_in x xs ≡ true → d ≤ x
lowest_is d [] h x e = absurd (in_none x e)
lowest_is d (y ∷ ys) h x e =
    ⊎_elim (λ q. omega (arith, q, leb-true d y (and_left (leb d y) (is_lowest d ys) h)))
    (lowest_is d ys (and_right (leb d y) (is_lowest d ys) h) x)
    (in_cases x y ys e)

-- the least place of d's orbit
abbrev pub lead_in : (ℕ → ℕ) → ℕ → ℕ → ℕ
lead_in f n d = lowest d (orbit f n d)

module _ (f : ℕ → ℕ) (n : ℕ) (F : OneToOne f n) where
  pub walk_below : (k s d : ℕ) → d < n → (x : ℕ) → is_in x (walk f k s d) ≡ true → x < n
  walk_below k s d l = walk_keeps f (λ x. x < n) F.below k s d l

  met_below : {s d : ℕ} → Met f s d → s < n → d < n
  met_below start l = l
  met_below (next {d = c} m q) l = F.below c (met_below m l)

  -- a place met is not met again
  pub once : {s d : ℕ} → Met f s d → s < n → (k : ℕ) → (f d ≡ s → ⊥) → is_in d (walk f k s (f d)) ≡ true → ⊥
  once {s} start l k q e = ⊎_elim (λ z. q (sym z)) (λ a. a.not_start refl) (came_from f k s (f s) s e)
  once {s} (next {d = c} m r) l k q e = once m l (suc k) r (⊎_elim here later (came_from f k s (f (f c)) (f c) e))
    where
      c_below : c < n
      c_below = met_below m l

      here : f c ≡ f (f c) → is_in c (walk f (suc k) s (f c)) ≡ true
      here z = subst (λ (x : ℕ). is_in x (walk f (suc k) s (f c)) ≡ true) (sym (F.one c (f c) c_below (F.below c c_below) z)) (starts f k s (f c))

      later : After f (walk f k s (f (f c))) s (f c) → is_in c (walk f (suc k) s (f c)) ≡ true
      later a =
          rest_in f k s (f c) c q
          (subst (λ (x : ℕ). is_in x (walk f k s (f (f c))) ≡ true)
          (F.one a.from c (walk_below k s (f (f c)) (F.below (f c) (F.below c c_below)) a.from a.from_in) c_below a.to)
          a.from_in)

  pub walk_distinct : (k : ℕ) {s d : ℕ} → Met f s d → s < n → distinct (walk f k s d) ≡ true
  walk_distinct zero m l = refl
  walk_distinct (suc k) {s} {d} m l = ⊎_elim stop (λ q. go q (walk_distinct k (next m q) l)) (equal_or_not (f d) s)
    where
      stop : f d ≡ s → distinct (walk f (suc k) s d) ≡ true
      stop q = ap (λ (r : List ℕ). distinct (d ∷ r)) (stops f k s d q)

      go : (f d ≡ s → ⊥) → distinct (walk f k s (f d)) ≡ true → distinct (walk f (suc k) s d) ≡ true
      go q ih =
          ap (λ (r : List ℕ). distinct (d ∷ r)) (goes f k s d q)
          ∙ distinct_more d (walk f k s (f d)) (not_true_false (is_in d (walk f k s (f d))) (once m l k q)) ih

  -- no walk is longer than n
  pub walk_most : (k : ℕ) {s d : ℕ} → Met f s d → s < n → length (walk f k s d) ≤ n
  walk_most k {s} {d} m l = at_most n (walk f k s d) (walk_distinct k m l) (all_of n (walk f k s d) (walk_below k s d (met_below m l)))

  module _ (d : ℕ) (l : d < n) where
    pub orbit_distinct : distinct (orbit f n d) ≡ true
    orbit_distinct = walk_distinct n start l

    pub orbit_below : (x : ℕ) → is_in x (orbit f n d) ≡ true → x < n
    orbit_below = walk_below n d d l

    pub orbit_all_below : all_below n (orbit f n d) ≡ true
    orbit_all_below = all_of n (orbit f n d) orbit_below

    pub short : length (walk f (suc n) d d) ≤ n
    short = walk_most (suc n) start l

    pub orbit_closes : f (last_of (orbit f n d)) ≡ d
    orbit_closes = ends f n d d short

    pub orbit_start : is_in d (orbit f n d) ≡ true
    orbit_start = head_in f n d d short

    pub orbit_next : (x : ℕ) → is_in x (orbit f n d) ≡ true → is_in (f x) (orbit f n d) ≡ true
    orbit_next x e = ⊎_elim (λ q. subst (λ (y : ℕ). is_in y (orbit f n d) ≡ true) (sym q) orbit_start) (λ z. z) (next_in f n d d x short e)

    pub orbit_sum : (g : ℕ → ℕ) → sum_over (orbit f n d) g ≡ sum_below n (λ i. when (is_in i (orbit f n d)) (g i))
    orbit_sum = sum_over_members n (orbit f n d) orbit_distinct orbit_all_below

    pub orbit_back : (y : ℕ) → y < n → is_in (f y) (orbit f n d) ≡ true → is_in y (orbit f n d) ≡ true
    orbit_back y k e = ⊎_elim first later (came_from f n d d (f y) e)
      where
        at_end : is_in (last_of (orbit f n d)) (orbit f n d) ≡ true
        at_end = last_in d (orbit f n d) orbit_start

        first : f y ≡ d → is_in y (orbit f n d) ≡ true
        first q =
            subst (λ (z : ℕ). is_in z (orbit f n d) ≡ true)
            (F.one (last_of (orbit f n d)) y (orbit_below (last_of (orbit f n d)) at_end) k (orbit_closes ∙ sym q))
            at_end

        later : After f (orbit f n d) d (f y) → is_in y (orbit f n d) ≡ true
        later a = subst (λ (z : ℕ). is_in z (orbit f n d) ≡ true) (F.one a.from y (orbit_below a.from a.from_in) k a.to) a.from_in

    pub lead-in : is_in (lead_in f n d) (orbit f n d) ≡ true
    lead-in =
        ⊎_elim (λ q. subst (λ (z : ℕ). is_in z (orbit f n d) ≡ true) (sym q) orbit_start) (λ z. z)
        (in_cases (lead_in f n d) d (orbit f n d) (lowest_in d (orbit f n d)))

    pub lead_below : lead_in f n d < n
    lead_below = orbit_below (lead_in f n d) lead-in

    pub lead_le : (x : ℕ) → is_in x (orbit f n d) ≡ true → lead_in f n d ≤ x
    lead_le = lowest_le d (orbit f n d)

  -- to lie in one orbit is symmetric and transitive
  module _ (d e : ℕ) (l : d < n) (h : is_in e (orbit f n d) ≡ true) where
    e_below : e < n
    e_below = orbit_below d l e h

    pub orbit_sym : is_in d (orbit f n e) ≡ true
    orbit_sym =
        walk_back f (λ x. x < n → is_in x (orbit f n e) ≡ true) (λ x p k. orbit_back e e_below x k (p (F.below x k))) n d d e h
        (λ k. orbit_start e e_below) l

    pub orbit_trans : (x : ℕ) → is_in x (orbit f n e) ≡ true → is_in x (orbit f n d) ≡ true
    orbit_trans x k = walk_keeps f (λ y. is_in y (orbit f n d) ≡ true) (orbit_next d l) n e e h x k

  pub orbit_same : (d e : ℕ) → d < n → is_in e (orbit f n d) ≡ true → (x : ℕ) → is_in x (orbit f n d) ≡ is_in x (orbit f n e)
  orbit_same d e l h x =
      same_test (is_in x (orbit f n d)) (is_in x (orbit f n e)) (orbit_trans e d (e_below d e l h) (orbit_sym d e l h) x) (orbit_trans d e l h x)

  lead_order : (d e : ℕ) → d < n → is_in e (orbit f n d) ≡ true → lead_in f n d ≤ lead_in f n e
  lead_order d e l h = lead_le d l (lead_in f n e) (orbit_trans d e l h (lead_in f n e) (lead-in e (e_below d e l h)))

  pub lead_same : (d e : ℕ) → d < n → is_in e (orbit f n d) ≡ true → lead_in f n e ≡ lead_in f n d
  lead_same d e l h = omega (arith, lead_order d e l h, lead_order e d (e_below d e l h) (orbit_sym d e l h))

  pub lead_lowest : (d : ℕ) → d < n → is_lowest (lead_in f n d) (orbit f n (lead_in f n d)) ≡ true
  lead_lowest d l =
      is-lowest (lead_in f n d) (orbit f n (lead_in f n d)) (λ x e. lead_le d l x (orbit_trans d (lead_in f n d) l (lead-in d l) x e))

  -- i is the lowest of its orbit and e lies there: i leads e
  pub leads : (i e : ℕ) → i < n → e < n → is_lowest i (orbit f n i) && is_in e (orbit f n i) ≡ eqb i (lead_in f n e)
  leads i e l k = same_test (is_lowest i (orbit f n i) && is_in e (orbit f n i)) (eqb i (lead_in f n e)) there back
    where
      there : is_lowest i (orbit f n i) && is_in e (orbit f n i) ≡ true → eqb i (lead_in f n e) ≡ true
      there h =
          let e-in : is_in e (orbit f n i) ≡ true = and_right (is_lowest i (orbit f n i)) (is_in e (orbit f n i)) h in
          eq-eqb i (lead_in f n e)
          (omega (
            arith,
            lead_le e k i (orbit_sym i e l e-in),
            lowest_is i (orbit f n i) (and_left (is_lowest i (orbit f n i)) (is_in e (orbit f n i)) h) (lead_in f n e) (orbit_trans i e l e-in (lead_in f n e) (lead-in e k)),
          ))

      back : eqb i (lead_in f n e) ≡ true → is_lowest i (orbit f n i) && is_in e (orbit f n i) ≡ true
      back q =
          subst (λ (j : ℕ). is_lowest j (orbit f n j) && is_in e (orbit f n j) ≡ true) (sym (eqb-true i (lead_in f n e) q))
          (and_both (is_lowest (lead_in f n e) (orbit f n (lead_in f n e))) (is_in e (orbit f n (lead_in f n e))) (lead_lowest e k) (orbit_sym e (lead_in f n e) k (lead-in e k)))

  -- summed over the orbits, one for each lowest place, a sum over an orbit is the sum over all
  pub orbits_sum : (g : ℕ → ℕ) → sum_below n (λ d. when (is_lowest d (orbit f n d)) (sum_over (orbit f n d) g)) ≡ sum_below n g
  orbits_sum g =
      sum_cong n (λ d. when (low d) (sum_over (orbit f n d) g)) (λ d. sum_below n (λ e. when (eqb d (lead_in f n e)) (g e))) one_orbit
      ∙ sum_swap n n (λ d e. when (eqb d (lead_in f n e)) (g e))
      ∙ sum_cong n (λ e. sum_below n (λ d. when (eqb d (lead_in f n e)) (g e))) g (λ e k. sum_at n (lead_in f n e) (λ d. g e) (lead_below e k))
    where
      low : ℕ → Bool
      low d = is_lowest d (orbit f n d)

      one_orbit : (d : ℕ) → d < n → when (low d) (sum_over (orbit f n d) g) ≡ sum_below n (λ e. when (eqb d (lead_in f n e)) (g e))
      one_orbit d l =
          ap (when (low d)) (orbit_sum d l g)
          ∙ sum_when (low d) n (λ e. when (is_in e (orbit f n d)) (g e))
          ∙ sum_cong n (λ e. when (low d) (when (is_in e (orbit f n d)) (g e))) (λ e. when (eqb d (lead_in f n e)) (g e))
          (λ e k. when_and (low d) (is_in e (orbit f n d)) (g e) ∙ ap (λ (b : Bool). when b (g e)) (leads d e l k))

  -- each place is come to from one place, the last of its orbit; so a sum over all is the same taken through f
  module _ (e : ℕ) (k : e < n) where
    from_below : last_of (orbit f n e) < n
    from_below = orbit_below e k (last_of (orbit f n e)) (last_in e (orbit f n e) (orbit_start e k))

    from_only : (d : ℕ) → d < n → eqb e (f d) ≡ eqb d (last_of (orbit f n e))
    from_only d l =
        same_test (eqb e (f d)) (eqb d (last_of (orbit f n e)))
        (λ q. eq-eqb d (last_of (orbit f n e)) (F.one d (last_of (orbit f n e)) l from_below (sym (eqb-true e (f d) q) ∙ sym (orbit_closes e k))))
        (λ q. eq-eqb e (f d) (sym (orbit_closes e k) ∙ ap f (sym (eqb-true d (last_of (orbit f n e)) q))))

  pub sum_through : (g : ℕ → ℕ) → sum_below n (λ d. g (f d)) ≡ sum_below n g
  sum_through g =
      sum_cong n (λ d. g (f d)) (λ d. sum_below n (λ e. when (eqb e (f d)) (g e))) (λ d l. sym (sum_at n (f d) g (F.below d l)))
      ∙ sum_swap n n (λ d e. when (eqb e (f d)) (g e))
      ∙ sum_cong n (λ e. sum_below n (λ d. when (eqb e (f d)) (g e))) g
      (λ e k. sum_cong n (λ d. when (eqb e (f d)) (g e)) (λ d. when (eqb d (last_of (orbit f n e))) (g e)) (λ d l. ap (λ (b : Bool). when b (g e)) (from_only e k d l))
      ∙ sum_at n (last_of (orbit f n e)) (λ d. g e) (from_below e k))
