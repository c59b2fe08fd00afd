-- A one-to-one function with one more number: put in after a number, or going to itself.
use mathlib.Core.Path.{◌≡◌, refl, sym, ap, subst, ◌∙◌}
use mathlib.Core.Bool.{Bool}
use mathlib.Core.Logic.{⊎_elim}
use Prim.Native.Nat.{ℕ, suc, ◌+◌, ◌≤◌, ◌<◌}
use native.Mathlib.Omega.{arith}
use borrow.Author.Tests.{eq-eqb, ne_eqb}
use lib.Dec.{eqb}
use Rattle.finite.specs.Base.{pick, when}
use Rattle.maps.specs.Surgery.{put}
use Rattle.finite.proofs.Sums.{sum_over, sum_cong, sum_none, sum_last}
use Rattle.finite.proofs.Tests.{equal_or_not}
use Rattle.finite.proofs.Orbit.{OneToOne, orbit, lead_in, orbit_start, lead_le, lead_below}
use Rattle.maps.proofs.Labels.{Finer}
use Rattle.maps.proofs.Cycles.{orbits, orbits_classes, lead_next, lead_labels, lead_finer}
use Rattle.maps.proofs.Along.{sum_along}
use Rattle.maps.proofs.Walks.{along_of}

-- g is f with n put in after a
pub record Inserted (f g : ℕ → ℕ) (n a : ℕ) : Type 0 where
  pub before : g a ≡ n
  pub after : g n ≡ f a
  pub other : (x : ℕ) → x < n → (x ≡ a → ⊥) → g x ≡ f x

-- g is f with n going to itself
pub record Loose (f g : ℕ → ℕ) (n : ℕ) : Type 0 where
  pub fixed : g n ≡ n
  pub other : (x : ℕ) → x < n → g x ≡ f x

pub put-at : (f : ℕ → ℕ) (n v x : ℕ) → x ≡ n → put f n v x ≡ v
put-at f n v x e = ap (λ (t : Bool). pick t v (f x)) (eq-eqb x n e)

pub put_other : (f : ℕ → ℕ) (n v x : ℕ) → (x ≡ n → ⊥) → put f n v x ≡ f x
put_other f n v x e = ap (λ (t : Bool). pick t v (f x)) (ne_eqb x n e)

-- a term that counts where x is y
pub on : (x y k : ℕ) → x ≡ y → when (eqb x y) k ≡ k
on x y k e = ap (λ (t : Bool). when t k) (eq-eqb x y e)

pub off : (x y k : ℕ) → (x ≡ y → ⊥) → when (eqb x y) k ≡ 0
off x y k e = ap (λ (t : Bool). when t k) (ne_eqb x y e)

-- a number leads itself or a lower one does
pub lead_self : (f : ℕ → ℕ) (n : ℕ) → OneToOne f n → (d : ℕ) → d < n → lead_in f n d ≤ d
lead_self f n F d l = lead_le f n F d l d (orbit_start f n F d l)

-- functions that tell the same numbers below n apart have the same lowest numbers
module _ (f g : ℕ → ℕ) (n k : ℕ) (F : OneToOne f n) (G : OneToOne g k) (small : n ≤ k)
    (there : Finer (lead_in f n) (lead_in g k) n) (back : Finer (lead_in g k) (lead_in f n) n) where
  pub leads_agree : (i : ℕ) → i < n → lead_in g k i ≡ lead_in f n i
  leads_agree i l = omega (arith, down, up)
    where
      f_low : lead_in f n i < n
      f_low = lead_below f n F i l

      g_low : lead_in g k i < n
      g_low = omega (arith, lead_self g k G i (omega arith))

      down : lead_in g k i ≤ lead_in f n i
      down =
          omega (arith, lead_self g k G (lead_in f n i) (omega (arith, f_low)), there (lead_in f n i) i f_low l ((lead_labels f n F).again i l))

      up : lead_in f n i ≤ lead_in g k i
      up =
          omega (arith, lead_self f n F (lead_in g k i) g_low, back (lead_in g k i) i g_low l ((lead_labels g k G).again i (omega arith)))

-- functions that agree below n have the same orbits
module _ (f g : ℕ → ℕ) (n : ℕ) (F : OneToOne f n) (e : (x : ℕ) → x < n → g x ≡ f x) where
  pub agree_one : OneToOne g n
  agree_one = record { below = λ i l. subst (λ (y : ℕ). y < n) (sym (e i l)) (F.below i l); one = λ i j l k q. F.one i j l k (sym (e i l) ∙ q ∙ e j k) }

  pub agree_lead : (i : ℕ) → i < n → lead_in g n i ≡ lead_in f n i
  agree_lead =
      leads_agree f g n n F agree_one (omega arith)
      (lead_finer f n F (lead_in g n) (λ x l. ap (lead_in g n) (sym (e x l)) ∙ lead_next g n agree_one x l))
      (lead_finer g n agree_one (lead_in f n) (λ x l. ap (lead_in f n) (e x l) ∙ lead_next f n F x l))

  pub agree_sum : (d : ℕ) → d < n → (w : ℕ → ℕ) → sum_over (orbit g n d) w ≡ sum_over (orbit f n d) w
  agree_sum d l w =
      sym (along_of g n agree_one w d l)
      ∙ sum_cong n (λ i. when (eqb (lead_in g n d) (lead_in g n i)) (w i)) (λ i. when (eqb (lead_in f n d) (lead_in f n i)) (w i))
      (λ i k. ap (λ (x : ℕ). when (eqb x (lead_in g n i)) (w i)) (agree_lead d l) ∙ ap (λ (x : ℕ). when (eqb (lead_in f n d) x) (w i)) (agree_lead i k))
      ∙ along_of f n F w d l

-- the numbers below n are led as before
module _ (f g : ℕ → ℕ) (n : ℕ) (F : OneToOne f n) (G : OneToOne g (suc n)) (same : (i : ℕ) → i < n → lead_in g (suc n) i ≡ lead_in f n i) where
  pub along_more : (r : ℕ) (w : ℕ → ℕ) → sum_along (suc n) (lead_in g (suc n)) r w ≡ sum_along n (lead_in f n) r w + when (eqb r (lead_in g (suc n) n)) (w n)
  along_more r w =
      omega (
        arith,
        sum_last n (λ i. when (eqb r (lead_in g (suc n) i)) (w i)),
        sum_cong n (λ i. when (eqb r (lead_in g (suc n) i)) (w i)) (λ i. when (eqb r (lead_in f n i)) (w i)) (λ i l. ap (λ (x : ℕ). when (eqb r x) (w i)) (same i l)),
      )

  pub over_more : (d : ℕ) → d < n → (w : ℕ → ℕ) → sum_over (orbit g (suc n) d) w ≡ sum_over (orbit f n d) w + when (eqb (lead_in f n d) (lead_in g (suc n) n)) (w n)
  over_more d l w =
      sym (along_of g (suc n) G w d (omega arith))
      ∙ ap (λ (r : ℕ). sum_along (suc n) (lead_in g (suc n)) r w) (same d l)
      ∙ along_more (lead_in f n d) w
      ∙ ap (λ (s : ℕ). s + when (eqb (lead_in f n d) (lead_in g (suc n) n)) (w n)) (along_of f n F w d l)

  pub orbits_more : orbits g (suc n) ≡ orbits f n + when (eqb n (lead_in g (suc n) n)) 1
  orbits_more =
      omega (
        arith,
        orbits_classes g (suc n) G,
        orbits_classes f n F,
        sum_last n (λ i. when (eqb i (lead_in g (suc n) i)) 1),
        sum_cong n (λ i. when (eqb i (lead_in g (suc n) i)) 1) (λ i. when (eqb i (lead_in f n i)) 1) (λ i l. ap (λ (x : ℕ). when (eqb i x) 1) (same i l)),
      )

module _ (f g : ℕ → ℕ) (n a : ℕ) (F : OneToOne f n) (la : a < n) (I : Inserted f g n a) where
  -- what holds at n, a and all else below n holds below n + 1
  at_inserted : {P : Type 0} (x : ℕ) → x < suc n → (x ≡ n → P) → (x ≡ a → P) → (x < n → (x ≡ a → ⊥) → P) → P
  at_inserted x l u v w = ⊎_elim u (λ p. ⊎_elim v (λ q. w (omega arith) q) (equal_or_not x a)) (equal_or_not x n)

  pub inserted_one : OneToOne g (suc n)
  inserted_one = record { below = below; one = one }
    where
      at_n : (x : ℕ) → x ≡ n → g x ≡ f a
      at_n x e = ap g e ∙ I.after

      at_a : (x : ℕ) → x ≡ a → g x ≡ n
      at_a x e = ap g e ∙ I.before

      below : (i : ℕ) → i < suc n → g i < suc n
      below i l = at_inserted i l (λ e. omega (arith, at_n i e, F.below a la)) (λ e. omega (arith, at_a i e)) (λ k e. omega (arith, I.other i k e, F.below i k))

      one : (i j : ℕ) → i < suc n → j < suc n → g i ≡ g j → i ≡ j
      one i j l k q =
          at_inserted i l
          (λ e. at_inserted j k (λ h. e ∙ sym h) (λ h. omega (arith, at_n i e, at_a j h, F.below a la))
          (λ b h. absurd (h (sym (F.one a j la b (sym (at_n i e) ∙ q ∙ I.other j b h))))))
          (λ e. at_inserted j k (λ h. omega (arith, at_a i e, at_n j h, F.below a la)) (λ h. e ∙ sym h)
          (λ b h. omega (arith, at_a i e, I.other j b h, F.below j b)))
          (λ b e. at_inserted j k (λ h. absurd (e (F.one i a b la (sym (I.other i b e) ∙ q ∙ at_n j h))))
          (λ h. omega (arith, at_a j h, I.other i b e, F.below i b))
          (λ c h. F.one i j b c (sym (I.other i b e) ∙ q ∙ I.other j c h)))

  inserted_finer : Finer (lead_in f n) (lead_in g (suc n)) n
  inserted_finer = lead_finer f n F (lead_in g (suc n)) kept
    where
      on : (x : ℕ) → x < suc n → lead_in g (suc n) (g x) ≡ lead_in g (suc n) x
      on = lead_next g (suc n) inserted_one

      kept : (x : ℕ) → x < n → lead_in g (suc n) (f x) ≡ lead_in g (suc n) x
      kept x l =
          ⊎_elim
          (λ e. ap (λ (y : ℕ). lead_in g (suc n) (f y)) e ∙ ap (lead_in g (suc n)) (sym I.after) ∙ on n (omega arith) ∙ ap (lead_in g (suc n)) (sym I.before) ∙ on a (omega arith) ∙ ap (lead_in g (suc n)) (sym e))
          (λ e. ap (lead_in g (suc n)) (sym (I.other x l e)) ∙ on x (omega arith))
          (equal_or_not x a)

  -- n counted to a
  abbrev home : ℕ → ℕ
  home = put (lead_in f n) n (lead_in f n a)

  home_old : (x : ℕ) → x < n → home x ≡ lead_in f n x
  home_old x l = put_other (lead_in f n) n (lead_in f n a) x (omega arith)

  home_new : (x : ℕ) → x ≡ n → home x ≡ lead_in f n a
  home_new = put-at (lead_in f n) n (lead_in f n a)

  home_finer : Finer (lead_in g (suc n)) home (suc n)
  home_finer = lead_finer g (suc n) inserted_one home kept
    where
      kept : (x : ℕ) → x < suc n → home (g x) ≡ home x
      kept x l =
          at_inserted x l
          (λ e. ap home (ap g e ∙ I.after) ∙ home_old (f a) (F.below a la) ∙ lead_next f n F a la ∙ sym (home_new x e))
          (λ e. home_new (g x) (ap g e ∙ I.before) ∙ sym (home_old a la) ∙ ap home (sym e))
          (λ k e. ap home (I.other x k e) ∙ home_old (f x) (F.below x k) ∙ lead_next f n F x k ∙ sym (home_old x k))

  -- the numbers below n are led as before, and n as a
  pub inserted_old : (i : ℕ) → i < n → lead_in g (suc n) i ≡ lead_in f n i
  inserted_old =
      leads_agree f g n (suc n) F inserted_one (omega arith) inserted_finer
      (λ i j l k e. sym (home_old i l) ∙ home_finer i j (omega arith) (omega arith) e ∙ home_old j k)

  pub inserted_new : lead_in g (suc n) n ≡ lead_in f n a
  inserted_new = ap (lead_in g (suc n)) (sym I.before) ∙ lead_next g (suc n) inserted_one a (omega arith) ∙ inserted_old a la

  pub inserted_orbits : orbits g (suc n) ≡ orbits f n
  inserted_orbits =
      omega (
        arith,
        orbits_more f g n F inserted_one inserted_old,
        ap (λ (t : Bool). when t 1) (ne_eqb n (lead_in g (suc n) n) (λ e. omega (arith, e, inserted_new, lead_below f n F a la))),
      )

  -- the orbit of a has n more
  pub inserted_sum : (d : ℕ) → d < n → (w : ℕ → ℕ) → sum_over (orbit g (suc n) d) w ≡ sum_over (orbit f n d) w + when (eqb (lead_in f n d) (lead_in f n a)) (w n)
  inserted_sum d l w =
      over_more f g n F inserted_one inserted_old d l w
      ∙ ap (λ (x : ℕ). sum_over (orbit f n d) w + when (eqb (lead_in f n d) x) (w n)) inserted_new

module _ (f g : ℕ → ℕ) (n : ℕ) (F : OneToOne f n) (I : Loose f g n) where
  at_loose : {P : Type 0} (x : ℕ) → x < suc n → (x ≡ n → P) → (x < n → P) → P
  at_loose x l u v = ⊎_elim u (λ p. v (omega arith)) (equal_or_not x n)

  loose_at : (x : ℕ) → x ≡ n → g x ≡ n
  loose_at x e = ap g e ∙ I.fixed

  pub loose_one : OneToOne g (suc n)
  loose_one =
      record {
        below = λ i l. at_loose i l (λ e. omega (arith, loose_at i e)) (λ k. omega (arith, I.other i k, F.below i k));
        one = λ i j l k q.
            at_loose i l (λ e. at_loose j k (λ h. e ∙ sym h) (λ b. omega (arith, loose_at i e, I.other j b, F.below j b)))
            (λ b. at_loose j k (λ h. omega (arith, loose_at j h, I.other i b, F.below i b)) (λ c. F.one i j b c (sym (I.other i b) ∙ q ∙ I.other j c)));
      }

  pub loose_old : (i : ℕ) → i < n → lead_in g (suc n) i ≡ lead_in f n i
  loose_old =
      leads_agree f g n (suc n) F loose_one (omega arith)
      (lead_finer f n F (lead_in g (suc n)) (λ x l. ap (lead_in g (suc n)) (sym (I.other x l)) ∙ lead_next g (suc n) loose_one x (omega arith)))
      (λ i j l k e. sym (put_other (lead_in f n) n n i (omega arith)) ∙ lead_finer g (suc n) loose_one (put (lead_in f n) n n) kept i j (omega arith) (omega arith) e ∙ put_other (lead_in f n) n n j (omega arith))
    where
      kept : (x : ℕ) → x < suc n → put (lead_in f n) n n (g x) ≡ put (lead_in f n) n n x
      kept x l =
          at_loose x l (λ e. ap (put (lead_in f n) n n) (loose_at x e ∙ sym e))
          (λ k. ap (put (lead_in f n) n n) (I.other x k) ∙ put_other (lead_in f n) n n (f x) (omega (arith, F.below x k)) ∙ lead_next f n F x k ∙ sym (put_other (lead_in f n) n n x (omega arith)))

  pub loose_new : lead_in g (suc n) n ≡ n
  loose_new = ⊎_elim (λ e. e) (λ e. absurd (low (omega (arith, e, lead_self g (suc n) loose_one n (omega arith))))) (equal_or_not (lead_in g (suc n) n) n)
    where
      low : lead_in g (suc n) n < n → ⊥
      low l =
          omega (
            arith,
            sym (put-at (lead_in f n) n n n refl),
            lead_finer g (suc n) loose_one (λ x. when (eqb x n) 1) kept (lead_in g (suc n) n) n (omega arith) (omega arith) ((lead_labels g (suc n) loose_one).again n (omega arith)),
            ap (λ (t : Bool). when t 1) (eq-eqb n n refl),
            ap (λ (t : Bool). when t 1) (ne_eqb (lead_in g (suc n) n) n (omega arith)),
          )
        where
          kept : (x : ℕ) → x < suc n → when (eqb (g x) n) 1 ≡ when (eqb x n) 1
          kept x k =
              at_loose x k (λ e. ap (λ (y : ℕ). when (eqb y n) 1) (loose_at x e ∙ sym e))
              (λ b. ap (λ (t : Bool). when t 1) (ne_eqb (g x) n (omega (arith, I.other x b, F.below x b)) ∙ sym (ne_eqb x n (omega arith))))

  pub loose_orbits : orbits g (suc n) ≡ orbits f n + 1
  loose_orbits = omega (arith, orbits_more f g n F loose_one loose_old, ap (λ (t : Bool). when t 1) (eq-eqb n (lead_in g (suc n) n) (sym loose_new)))

  pub loose_sum : (d : ℕ) → d < n → (w : ℕ → ℕ) → sum_over (orbit g (suc n) d) w ≡ sum_over (orbit f n d) w
  loose_sum d l w =
      omega (
        arith,
        over_more f g n F loose_one loose_old d l w,
        ap (λ (t : Bool). when t (w n)) (ne_eqb (lead_in f n d) (lead_in g (suc n) n) (λ e. omega (arith, e, loose_new, lead_below f n F d l))),
      )

  pub loose_alone : (w : ℕ → ℕ) → sum_over (orbit g (suc n) n) w ≡ w n
  loose_alone w =
      sym (along_of g (suc n) loose_one w n (omega arith))
      ∙ ap (λ (r : ℕ). sum_along (suc n) (lead_in g (suc n)) r w) loose_new
      ∙ along_more f g n F loose_one loose_old n w
      ∙ omega (arith, ap (λ (t : Bool). when t (w n)) (eq-eqb n (lead_in g (suc n) n) (sym loose_new)), none)
    where
      none : sum_along n (lead_in f n) n w ≡ 0
      none = sum_cong n (λ i. when (eqb n (lead_in f n i)) (w i)) (λ i. 0) (λ i l. ap (λ (t : Bool). when t (w i)) (ne_eqb n (lead_in f n i) (λ e. omega (arith, e, lead_below f n F i l)))) ∙ sum_none n
