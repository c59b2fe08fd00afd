-- The number of orbits, and how it changes when two numbers exchange their images.
use mathlib.Core.Path.{◌≡◌, refl, sym, ap, subst, ◌∙◌, fun_ext}
use mathlib.Core.Bool.{Bool, true, ◌&&◌}
use mathlib.Core.List.{List}
use mathlib.Core.Logic.{⊎_elim}
use Prim.Native.Nat.{ℕ, suc, ◌+◌, ◌≤◌, ◌<◌}
use native.Mathlib.Omega.{arith}
use borrow.Author.Tests.{eqb-true, eq-eqb, ne_eqb}
use lib.Dec.{eqb}
use lib.ListN.{length}
use Rattle.finite.specs.Base.{pick, when, is_in, is_lowest}
use Rattle.finite.proofs.Sums.{sum_below, sum_cong, sum_ones, sum_swap, sum_at, when_and}
use Rattle.finite.proofs.Tests.{either, not_both, equal_or_not, and_left, and_right, and_both, same_test}
use Rattle.finite.proofs.Members.{all_of}
use Rattle.finite.proofs.Pigeonhole.{at_most}
use Rattle.finite.proofs.Orbit.{OneToOne, Met, start, next, walk, orbit, lead_in, walk_keeps, walk_met, head_in, next_in, once, walk_distinct, walk_below, orbit_start, orbit_next, orbit_sym, orbit_trans, lead-in, lead_below, lead_same, leads}
use Rattle.maps.proofs.Labels.{Labels, classes, Finer, classes_same, joined, joined_first, joined_second, joined_finer, joined_labels, classes_joined}
pub use Rattle.maps.specs.Maps.{orbits}

module _ (f : ℕ → ℕ) (n : ℕ) (F : OneToOne f n) where
  pub lead_next : (d : ℕ) → d < n → lead_in f n (f d) ≡ lead_in f n d
  lead_next d l = lead_same f n F d (f d) l (orbit_next f n F d l d (orbit_start f n F d l))

  pub in_orbit : (d e : ℕ) → d < n → e < n → lead_in f n d ≡ lead_in f n e → is_in e (orbit f n d) ≡ true
  in_orbit d e l k q =
      orbit_trans f n F d (lead_in f n d) l (lead-in f n F d l) e
      (subst (λ (x : ℕ). is_in e (orbit f n x) ≡ true) (sym q) (orbit_sym f n F e (lead_in f n e) k (lead-in f n F e k)))

  pub lead_labels : Labels (lead_in f n) n
  lead_labels = record { below = λ i l. lead_below f n F i l; again = λ i l. lead_same f n F i (lead_in f n i) l (lead-in f n F i l) }

  pub orbits_classes : orbits f n ≡ classes (lead_in f n) n
  orbits_classes = sum_cong n (λ d. when (is_lowest d (orbit f n d)) 1) (λ d. when (eqb d (lead_in f n d)) 1) (λ d l. ap (λ (t : Bool). when t 1) (low d l))
    where
      low : (d : ℕ) → d < n → is_lowest d (orbit f n d) ≡ eqb d (lead_in f n d)
      low d l =
          same_test (is_lowest d (orbit f n d)) (eqb d (lead_in f n d))
          (λ e. sym (leads f n F d d l l) ∙ and_both (is_lowest d (orbit f n d)) (is_in d (orbit f n d)) e (orbit_start f n F d l))
          (λ e. and_left (is_lowest d (orbit f n d)) (is_in d (orbit f n d)) (leads f n F d d l l ∙ e))

  -- what f keeps is the same all over an orbit
  pub lead_finer : (K : ℕ → ℕ) → ((x : ℕ) → x < n → K (f x) ≡ K x) → Finer (lead_in f n) K n
  lead_finer K h i j l k q =
      sym (walk_keeps f (λ x. (x < n) × (K x ≡ K i)) (λ x p. (F.below x p.0, h x p.0 ∙ p.1)) n i i (l, refl) j (in_orbit i j l k q)).1

-- functions that agree below n have as many orbits
pub orbits_agree : (f g : ℕ → ℕ) (n : ℕ) → OneToOne f n → OneToOne g n → ((x : ℕ) → x < n → f x ≡ g x) → orbits f n ≡ orbits g n
orbits_agree f g n F G e =
    orbits_classes f n F
    ∙ classes_same n (lead_in f n) (lead_in g n) (lead_labels f n F) (lead_labels g n G)
    (lead_finer f n F (lead_in g n) (λ x l. ap (lead_in g n) (e x l) ∙ lead_next g n G x l))
    (lead_finer g n G (lead_in f n) (λ x l. ap (lead_in f n) (sym (e x l)) ∙ lead_next f n F x l))
    ∙ sym (orbits_classes g n G)

-- each orbit has a kind of its own below v, and each kind has an orbit: there are v orbits
module _ (f : ℕ → ℕ) (n : ℕ) (F : OneToOne f n) (kind : ℕ → ℕ) (v : ℕ) (small : (d : ℕ) → d < n → kind d < v) (kept : (d : ℕ) → d < n → kind (f d) ≡ kind d) (tells : Finer kind (lead_in f n) n) (some : (p : ℕ) → p < v → (d : ℕ) × (d < n) × (kind d ≡ p)) where
  pub orbits_kinds : orbits f n ≡ v
  orbits_kinds =
      orbits_classes f n F
      ∙ sum_cong n (λ i. when (eqb i (L i)) 1) (λ i. sum_below v (λ p. when (eqb p (kind i)) (when (eqb i (L i)) 1))) (λ i l. sym (sum_at v (kind i) (λ p. when (eqb i (L i)) 1) (small i l)))
      ∙ sum_swap n v (λ i p. when (eqb p (kind i)) (when (eqb i (L i)) 1))
      ∙ sum_cong v (λ p. sum_below n (λ i. when (eqb p (kind i)) (when (eqb i (L i)) 1))) (λ p. 1) (λ p l. one p (some p l).0 (some p l).1 (some p l).2)
      ∙ sum_ones v
    where
      L : ℕ → ℕ
      L = lead_in f n

      A : Labels L n
      A = lead_labels f n F

      one : (p d : ℕ) → d < n → kind d ≡ p → sum_below n (λ i. when (eqb p (kind i)) (when (eqb i (L i)) 1)) ≡ 1
      one p d l e =
          sum_cong n (λ i. when (eqb p (kind i)) (when (eqb i (L i)) 1)) (λ i. when (eqb i (L d)) 1)
          (λ i k. when_and (eqb p (kind i)) (eqb i (L i)) 1 ∙ ap (λ (b : Bool). when b 1) (same_test (eqb p (kind i) && eqb i (L i)) (eqb i (L d)) (there i k) (back i)))
          ∙ sum_at n (L d) (λ i. 1) (A.below d l)
        where
          there : (i : ℕ) → i < n → eqb p (kind i) && eqb i (L i) ≡ true → eqb i (L d) ≡ true
          there i k q =
              eq-eqb i (L d)
              (eqb-true i (L i) (and_right (eqb p (kind i)) (eqb i (L i)) q) ∙ tells i d k l (sym (eqb-true p (kind i) (and_left (eqb p (kind i)) (eqb i (L i)) q)) ∙ sym e))

          back : (i : ℕ) → eqb i (L d) ≡ true → eqb p (kind i) && eqb i (L i) ≡ true
          back i q =
              let lead : i ≡ L d = eqb-true i (L d) q in
              and_both (eqb p (kind i)) (eqb i (L i))
              (eq-eqb p (kind i) (sym e ∙ lead_finer f n F kind kept d (L d) l (A.below d l) (sym (A.again d l)) ∙ ap kind (sym lead)))
              (eq-eqb i (L i) (lead ∙ sym (A.again d l) ∙ ap L (sym lead)))

-- x, but b for a and a for b
abbrev pub swapped : ℕ → ℕ → ℕ → ℕ
swapped a b x = pick (eqb x a) b (pick (eqb x b) a x)

module _ (a b : ℕ) where
  pub swapped_first : (x : ℕ) → x ≡ a → swapped a b x ≡ b
  swapped_first x e = ap (λ (t : Bool). pick t b (pick (eqb x b) a x)) (eq-eqb x a e)

  not_first : (x : ℕ) → (x ≡ a → ⊥) → swapped a b x ≡ pick (eqb x b) a x
  not_first x e = ap (λ (t : Bool). pick t b (pick (eqb x b) a x)) (ne_eqb x a e)

  pub swapped_second : (x : ℕ) → x ≡ b → swapped a b x ≡ a
  swapped_second x e = ⊎_elim (λ q. swapped_first x q ∙ sym e ∙ q) (λ q. not_first x q ∙ ap (λ (t : Bool). pick t a x) (eq-eqb x b e)) (equal_or_not x a)

  pub swapped_other : (x : ℕ) → (x ≡ a → ⊥) → (x ≡ b → ⊥) → swapped a b x ≡ x
  swapped_other x p q = not_first x p ∙ ap (λ (t : Bool). pick t a x) (ne_eqb x b q)

  -- what holds of a, b, and all else holds of x
  pub at_swap : {P : Type 0} (x : ℕ) → (x ≡ a → P) → (x ≡ b → P) → ((x ≡ a → ⊥) → (x ≡ b → ⊥) → P) → P
  at_swap x u v w = ⊎_elim u (λ p. ⊎_elim v (w p) (equal_or_not x b)) (equal_or_not x a)

  pub swapped_twice : (x : ℕ) → swapped a b (swapped a b x) ≡ x
  swapped_twice x =
      at_swap x (λ e. swapped_second (swapped a b x) (swapped_first x e) ∙ sym e) (λ e. swapped_first (swapped a b x) (swapped_second x e) ∙ sym e)
      (λ p q. ap (swapped a b) (swapped_other x p q) ∙ swapped_other x p q)

  pub swapped_below : (n x : ℕ) → a < n → b < n → x < n → swapped a b x < n
  swapped_below n x la lb l =
      at_swap x (λ e. subst (λ (y : ℕ). y < n) (sym (swapped_first x e)) lb) (λ e. subst (λ (y : ℕ). y < n) (sym (swapped_second x e)) la)
      (λ p q. subst (λ (y : ℕ). y < n) (sym (swapped_other x p q)) l)

-- f with the images of a and b exchanged
abbrev pub exchanged : (ℕ → ℕ) → ℕ → ℕ → ℕ → ℕ
exchanged f a b x = f (swapped a b x)

pub exchanged_twice : (f : ℕ → ℕ) (a b : ℕ) → exchanged (exchanged f a b) a b ≡ f
exchanged_twice f a b = fun_ext (λ x. ap f (swapped_twice a b x))

pub exchanged_one : (f : ℕ → ℕ) (n a b : ℕ) → OneToOne f n → a < n → b < n → OneToOne (exchanged f a b) n
exchanged_one f n a b F la lb =
    record {
      below = λ i l. F.below (swapped a b i) (swapped_below a b n i la lb l);
      one = λ i j l k e.
          sym (swapped_twice a b i) ∙ ap (swapped a b) (F.one (swapped a b i) (swapped a b j) (swapped_below a b n i la lb l) (swapped_below a b n j la lb k) e)
          ∙ swapped_twice a b j;
    }

module _ (f : ℕ → ℕ) (n : ℕ) (F : OneToOne f n) (a b : ℕ) (la : a < n) (lb : b < n) where
  G : OneToOne (exchanged f a b) n
  G = exchanged_one f n a b F la lb

  -- from a the exchanged function goes on as f does from b, so it comes to b, unless f leads from b to a
  pub exchange_meets : (lead_in f n a ≡ lead_in f n b → ⊥) → lead_in (exchanged f a b) n a ≡ lead_in (exchanged f a b) n b
  exchange_meets apart = ⊎_elim met (λ e. met (reached (λ h. not_both h e))) (either (is_in b from_a))
    where
      from_a : List ℕ
      from_a = orbit (exchanged f a b) n a

      met : is_in b from_a ≡ true → lead_in (exchanged f a b) n a ≡ lead_in (exchanged f a b) n b
      met h = sym (lead_same (exchanged f a b) n G a b la h)

      Both : ℕ → Type 0
      Both x = (is_in x (orbit f n b) ≡ true) × (is_in x from_a ≡ true)

      reached : (is_in b from_a ≡ true → ⊥) → is_in b from_a ≡ true
      reached missed = (walk_keeps f Both onward n (f b) (f b) first b (orbit_sym f n F b (f b) lb first.0)).1
        where
          first : Both (f b)
          first = (
            orbit_next f n F b lb b (orbit_start f n F b lb),
            subst (λ (x : ℕ). is_in (f x) from_a ≡ true) (swapped_first a b a refl)
                (orbit_next (exchanged f a b) n G a la a (orbit_start (exchanged f a b) n G a la)),
          )

          onward : (x : ℕ) → Both x → Both (f x)
          onward x h = (
            orbit_next f n F b lb x h.0,
            subst (λ (y : ℕ). is_in (f y) from_a ≡ true)
                (swapped_other a b x (λ e. apart (lead_same f n F b a lb (subst (λ (y : ℕ). is_in y (orbit f n b) ≡ true) e h.0)))
                (λ e. missed (subst (λ (y : ℕ). is_in y from_a ≡ true) e h.1)))
                (orbit_next (exchanged f a b) n G a la x h.1),
          )

  -- on the way from f a to b there is no a, and the exchanged function leads from b to f a
  pub exchange_parts : lead_in f n a ≡ lead_in f n b → (a ≡ b → ⊥) → lead_in (exchanged f a b) n a ≡ lead_in (exchanged f a b) n b → ⊥
  exchange_parts together other met = no_a (walk_keeps (exchanged f a b) On onward n (f a) (f a) first a back)
    where
      fa : f a < n
      fa = F.below a la

      fb : f b < n
      fb = F.below b lb

      On : ℕ → Type 0
      On x = is_in x (walk f n (f b) (f a)) ≡ true

      past_a : f a ≡ f b → ⊥
      past_a e = other (F.one a b la lb e)

      met_a : Met f (f b) a
      met_a = walk_met f n (f b) start a (in_orbit f n F (f b) a fb la (lead_next f n F b lb ∙ sym together))

      no_a : On a → ⊥
      no_a = once f n F met_a fb n past_a

      short : length (walk f (suc n) (f b) (f a)) ≤ n
      short =
          at_most n (walk f (suc n) (f b) (f a)) (walk_distinct f n F (suc n) (next met_a past_a) fb)
          (all_of n (walk f (suc n) (f b) (f a)) (walk_below f n F (suc n) (f b) (f a) fa))

      first : On (f a)
      first = head_in f n (f b) (f a) short

      onward : (x : ℕ) → On x → On (exchanged f a b x)
      onward x h =
          at_swap a b x (λ e. absurd (no_a (subst On e h))) (λ e. subst (λ (y : ℕ). On (f y)) (sym (swapped_second a b x e)) first)
          (λ p q. subst (λ (y : ℕ). On (f y)) (sym (swapped_other a b x p q))
          (⊎_elim (λ e. absurd (q (F.one x b (walk_below f n F n (f b) (f a) fa x h) lb e))) (λ z. z) (next_in f n (f b) (f a) x short h)))

      back : is_in a (orbit (exchanged f a b) n (f a)) ≡ true
      back =
          in_orbit (exchanged f a b) n G (f a) a fa la
          (ap (λ (y : ℕ). lead_in (exchanged f a b) n (f y)) (sym (swapped_second a b b refl)) ∙ lead_next (exchanged f a b) n G b lb ∙ sym met)

  module _ (apart : lead_in f n a ≡ lead_in f n b → ⊥) where
    -- numbers of one orbit stay in one
    pub exchange_keeps : Finer (lead_in f n) (lead_in (exchanged f a b) n) n
    exchange_keeps = lead_finer f n F (lead_in (exchanged f a b) n) kept
      where
        L : ℕ → ℕ
        L = lead_in (exchanged f a b) n

        ab : L a ≡ L b
        ab = exchange_meets apart

        -- f x is the exchanged image of x swapped
        kept : (x : ℕ) → x < n → L (f x) ≡ L x
        kept x l =
            ap (λ (y : ℕ). L (f y)) (sym (swapped_twice a b x))
            ∙ lead_next (exchanged f a b) n G (swapped a b x) (swapped_below a b n x la lb l)
            ∙ at_swap a b x (λ e. ap L (swapped_first a b x e) ∙ sym ab ∙ ap L (sym e)) (λ e. ap L (swapped_second a b x e) ∙ ab ∙ ap L (sym e))
            (λ p q. ap L (swapped_other a b x p q))

    pub joined_exchanged : Finer (joined (lead_in f n) a b) (lead_in (exchanged f a b) n) n
    joined_exchanged = joined_finer (lead_in f n) (lead_in (exchanged f a b) n) n a b la lb exchange_keeps (exchange_meets apart)

    pub exchanged_joined : Finer (lead_in (exchanged f a b) n) (joined (lead_in f n) a b) n
    exchanged_joined = lead_finer (exchanged f a b) n G J kept
      where
        L : ℕ → ℕ
        L = lead_in f n

        J : ℕ → ℕ
        J = joined L a b

        J-next : (x : ℕ) → x < n → J (f x) ≡ J x
        J-next x l = ap (λ (y : ℕ). pick (eqb y (L b)) (L a) y) (lead_next f n F x l)

        ab : J a ≡ J b
        ab = joined_first L a b a refl ∙ sym (joined_second L a b b refl)

        kept : (x : ℕ) → x < n → J (exchanged f a b x) ≡ J x
        kept x l =
            J-next (swapped a b x) (swapped_below a b n x la lb l)
            ∙ at_swap a b x (λ e. ap J (swapped_first a b x e) ∙ sym ab ∙ ap J (sym e)) (λ e. ap J (swapped_second a b x e) ∙ ab ∙ ap J (sym e))
            (λ p q. ap J (swapped_other a b x p q))

    -- the orbits of a and b become one
    pub exchange_apart : orbits (exchanged f a b) n + 1 ≡ orbits f n
    exchange_apart =
        omega (
          arith,
          orbits_classes f n F,
          orbits_classes (exchanged f a b) n G,
          classes_joined (lead_in f n) n a b (lead_labels f n F) la lb apart,
          classes_same n (joined (lead_in f n) a b) (lead_in (exchanged f a b) n) (joined_labels (lead_in f n) n a b (lead_labels f n F) la lb)
              (lead_labels (exchanged f a b) n G) joined_exchanged exchanged_joined,
        )

-- one orbit becomes two
pub exchange_same : (f : ℕ → ℕ) (n : ℕ) → OneToOne f n → (a b : ℕ) → a < n → b < n → lead_in f n a ≡ lead_in f n b → (a ≡ b → ⊥) → orbits (exchanged f a b) n ≡ orbits f n + 1
exchange_same f n F a b la lb together other =
    sym (subst (λ (h : ℕ → ℕ). orbits h n + 1 ≡ orbits (exchanged f a b) n) (exchanged_twice f a b)
    (exchange_apart (exchanged f a b) n (exchanged_one f n a b F la lb) a b la lb (exchange_parts f n F a b la lb together other)))
