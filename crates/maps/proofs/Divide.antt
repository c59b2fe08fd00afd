-- One orbit becomes two when two of its numbers exchange their images: who leads whom then, and the sums; and orbits under other names.
use mathlib.Core.Path.{◌≡◌, refl, sym, ap, subst, ◌∙◌}
use mathlib.Core.Bool.{Bool}
use mathlib.Core.Logic.{◌⊎◌, inl, inr, ⊎_elim}
use Prim.Native.Nat.{ℕ, ◌+◌, ◌≤◌, ◌<◌}
use native.Mathlib.Omega.{arith}
use borrow.Author.Tests.{eqb-true, eq-eqb}
use lib.Dec.{eqb}
use Rattle.finite.specs.Base.{when}
use Rattle.finite.proofs.Sums.{sum_over, sum_cong, sum_add}
use Rattle.finite.proofs.Tests.{equal_or_not, same_test}
use Rattle.finite.proofs.Orbit.{OneToOne, orbit, lead_in, lead_below, sum_through}
use Rattle.maps.proofs.Labels.{Labels, Finer, classes_same, joined, joined_second, joined_other}
use Rattle.maps.proofs.Cycles.{orbits, orbits_classes, lead_next, lead_labels, lead_finer, exchanged, exchanged_one, exchanged_twice, exchange_parts, exchange_keeps, exchanged_joined}
use Rattle.maps.proofs.Along.{sum_along}
use Rattle.maps.proofs.Walks.{along_of}
use Rattle.maps.proofs.Insert.{on, off, lead_self}

-- numbers of one orbit have one sum
pub sum_lead : (f : ℕ → ℕ) (n : ℕ) → OneToOne f n → (x y : ℕ) → x < n → y < n → lead_in f n x ≡ lead_in f n y → (w : ℕ → ℕ) → sum_over (orbit f n x) w ≡ sum_over (orbit f n y) w
sum_lead f n F x y l k e w = sym (along_of f n F w x l) ∙ ap (λ (r : ℕ). sum_along n (lead_in f n) r w) e ∙ along_of f n F w y k

module _ (f : ℕ → ℕ) (n : ℕ) (F : OneToOne f n) (a b : ℕ) (la : a < n) (lb : b < n) (together : lead_in f n a ≡ lead_in f n b) (other : a ≡ b → ⊥) where
  abbrev J : ℕ → ℕ
  J = exchanged f a b

  G : OneToOne J n
  G = exchanged_one f n a b F la lb

  pub divided_apart : lead_in J n a ≡ lead_in J n b → ⊥
  divided_apart = exchange_parts f n F a b la lb together other

  pub divided_finer : Finer (lead_in J n) (lead_in f n) n
  divided_finer =
      subst (λ (h : ℕ → ℕ). Finer (lead_in J n) (lead_in h n) n) (exchanged_twice f a b) (exchange_keeps J n G a b la lb divided_apart)

  together_again : Finer (lead_in f n) (joined (lead_in J n) a b) n
  together_again =
      subst (λ (h : ℕ → ℕ). Finer (lead_in h n) (joined (lead_in J n) a b) n) (exchanged_twice f a b) (exchanged_joined J n G a b la lb divided_apart)

  outside : (x : ℕ) → x < n → (lead_in f n x ≡ lead_in f n a → ⊥) → joined (lead_in J n) a b x ≡ lead_in J n x
  outside x l out = joined_other (lead_in J n) a b x (λ e. out (divided_finer x b l lb e ∙ sym together))

  -- other orbits stay
  pub divided_other : (x : ℕ) → x < n → (lead_in f n x ≡ lead_in f n a → ⊥) → lead_in J n x ≡ lead_in f n x
  divided_other x l out = omega (arith, down, up)
    where
      low : lead_in f n x < n
      low = lead_below f n F x l

      again : lead_in f n (lead_in f n x) ≡ lead_in f n x
      again = (lead_labels f n F).again x l

      down : lead_in J n x ≤ lead_in f n x
      down =
          omega (
            arith,
            lead_self J n G (lead_in f n x) low,
            sym (outside (lead_in f n x) low (λ e. out (sym again ∙ e))) ∙ together_again (lead_in f n x) x low l again ∙ outside x l out,
          )

      up : lead_in f n x ≤ lead_in J n x
      up =
          omega (
            arith,
            lead_self f n F (lead_in J n x) (lead_below J n G x l),
            divided_finer (lead_in J n x) x (lead_below J n G x l) l ((lead_labels J n G).again x l),
          )

  -- what was in the orbit is in one of the two
  pub divided_either : (x : ℕ) → x < n → lead_in f n x ≡ lead_in f n a → (lead_in J n x ≡ lead_in J n a) ⊎ (lead_in J n x ≡ lead_in J n b)
  divided_either x l within =
      ⊎_elim inr (λ e. inl (sym (joined_other (lead_in J n) a b x e) ∙ together_again x b l lb (within ∙ together) ∙ joined_second (lead_in J n) a b b refl))
      (equal_or_not (lead_in J n x) (lead_in J n b))

  pub divided_sum : (w : ℕ → ℕ) → sum_over (orbit J n a) w + sum_over (orbit J n b) w ≡ sum_over (orbit f n a) w
  divided_sum w =
      omega (
        arith,
        along_of J n G w a la,
        along_of J n G w b lb,
        along_of f n F w a la,
        sum_add n (λ i. when (eqb (lead_in J n a) (lead_in J n i)) (w i)) (λ i. when (eqb (lead_in J n b) (lead_in J n i)) (w i)),
        sum_cong n (λ i. when (eqb (lead_in J n a) (lead_in J n i)) (w i) + when (eqb (lead_in J n b) (lead_in J n i)) (w i)) (λ i. when (eqb (lead_in f n a) (lead_in f n i)) (w i)) each,
      )
    where
      each : (i : ℕ) → i < n → when (eqb (lead_in J n a) (lead_in J n i)) (w i) + when (eqb (lead_in J n b) (lead_in J n i)) (w i) ≡ when (eqb (lead_in f n a) (lead_in f n i)) (w i)
      each i l =
          ⊎_elim
          (λ e. ⊎_elim
          (λ q. omega (arith, on (lead_in f n a) (lead_in f n i) (w i) (sym e), on (lead_in J n a) (lead_in J n i) (w i) (sym q), off (lead_in J n b) (lead_in J n i) (w i) (λ h. divided_apart (sym q ∙ sym h))))
          (λ q. omega (arith, on (lead_in f n a) (lead_in f n i) (w i) (sym e), on (lead_in J n b) (lead_in J n i) (w i) (sym q), off (lead_in J n a) (lead_in J n i) (w i) (λ h. divided_apart (h ∙ q))))
          (divided_either i l e))
          (λ e. omega (
            arith,
            off (lead_in f n a) (lead_in f n i) (w i) (λ h. e (sym h)),
            off (lead_in J n a) (lead_in J n i) (w i) (λ h. e (sym (divided_finer a i la l h))),
            off (lead_in J n b) (lead_in J n i) (w i) (λ h. e (sym (together ∙ divided_finer b i lb l h))),
          ))
          (equal_or_not (lead_in f n i) (lead_in f n a))

  pub divided_else : (x : ℕ) → x < n → (lead_in f n x ≡ lead_in f n a → ⊥) → (w : ℕ → ℕ) → sum_over (orbit J n x) w ≡ sum_over (orbit f n x) w
  divided_else x l out w =
      sym (along_of J n G w x l)
      ∙ sum_cong n (λ i. when (eqb (lead_in J n x) (lead_in J n i)) (w i)) (λ i. when (eqb (lead_in f n x) (lead_in f n i)) (w i)) (λ i k. ap (λ (t : Bool). when t (w i)) (same i k))
      ∙ along_of f n F w x l
    where
      same : (i : ℕ) → i < n → eqb (lead_in J n x) (lead_in J n i) ≡ eqb (lead_in f n x) (lead_in f n i)
      same i k =
          same_test (eqb (lead_in J n x) (lead_in J n i)) (eqb (lead_in f n x) (lead_in f n i))
          (λ e. eq-eqb (lead_in f n x) (lead_in f n i) (divided_finer x i l k (eqb-true (lead_in J n x) (lead_in J n i) e)))
          (λ e. let q : lead_in f n x ≡ lead_in f n i = eqb-true (lead_in f n x) (lead_in f n i) e in
          eq-eqb (lead_in J n x) (lead_in J n i) (divided_other x l out ∙ q ∙ sym (divided_other i k (λ h. out (q ∙ h)))))

-- g is f under other names, exchanged in pairs by v
module _ (f g v : ℕ → ℕ) (n : ℕ) (F : OneToOne f n) (G : OneToOne g n) (below : (x : ℕ) → x < n → v x < n) (twice : (x : ℕ) → v (v x) ≡ x) (renames : (x : ℕ) → x < n → g (v x) ≡ v (f x)) where
  V-one : OneToOne v n
  V-one = record { below = below; one = λ i j l k e. sym (twice i) ∙ ap v e ∙ twice j }

  renamed_finer : Finer (lead_in f n) (λ x. lead_in g n (v x)) n
  renamed_finer = lead_finer f n F (λ x. lead_in g n (v x)) (λ x l. ap (lead_in g n) (sym (renames x l)) ∙ lead_next g n G (v x) (below x l))

  renames_back : (x : ℕ) → x < n → f (v x) ≡ v (g x)
  renames_back x l = sym (twice (f (v x))) ∙ ap v (sym (renames (v x) (below x l)) ∙ ap g (twice x))

  finer_renamed : Finer (lead_in g n) (λ x. lead_in f n (v x)) n
  finer_renamed = lead_finer g n G (λ x. lead_in f n (v x)) (λ x l. ap (lead_in f n) (sym (renames_back x l)) ∙ lead_next f n F (v x) (below x l))

  pub renamed_same : (i j : ℕ) → i < n → j < n → eqb (lead_in g n (v i)) (lead_in g n j) ≡ eqb (lead_in f n i) (lead_in f n (v j))
  renamed_same i j l k =
      same_test (eqb (lead_in g n (v i)) (lead_in g n j)) (eqb (lead_in f n i) (lead_in f n (v j)))
      (λ e. eq-eqb (lead_in f n i) (lead_in f n (v j)) (ap (lead_in f n) (sym (twice i)) ∙ finer_renamed (v i) j (below i l) k (eqb-true (lead_in g n (v i)) (lead_in g n j) e)))
      (λ e. eq-eqb (lead_in g n (v i)) (lead_in g n j) (renamed_finer i (v j) l (below j k) (eqb-true (lead_in f n i) (lead_in f n (v j)) e) ∙ ap (lead_in g n) (twice j)))

  pub renamed_sum : (d : ℕ) → d < n → (w : ℕ → ℕ) → sum_over (orbit g n (v d)) w ≡ sum_over (orbit f n d) (λ x. w (v x))
  renamed_sum d l w =
      sym (along_of g n G w (v d) (below d l))
      ∙ sum_cong n (λ i. when (eqb (lead_in g n (v d)) (lead_in g n i)) (w i)) (λ i. when (eqb (lead_in f n d) (lead_in f n (v i))) (w (v (v i))))
      (λ i k. ap (λ (t : Bool). when t (w i)) (renamed_same d i l k) ∙ ap (λ (y : ℕ). when (eqb (lead_in f n d) (lead_in f n (v i))) (w y)) (sym (twice i)))
      ∙ sum_through v n V-one (λ i. when (eqb (lead_in f n d) (lead_in f n i)) (w (v i)))
      ∙ along_of f n F (λ x. w (v x)) d l

  pub renamed_orbits : orbits g n ≡ orbits f n
  renamed_orbits =
      orbits_classes g n G
      ∙ classes_same n (lead_in g n) M (lead_labels g n G) M-labels (λ i j l k e. ap v (finer_renamed i j l k e))
      (λ i j l k e. back i j l k (sym (twice (lead_in f n (v i))) ∙ ap v e ∙ twice (lead_in f n (v j))))
      ∙ sum_cong n (λ i. when (eqb i (M i)) 1) (λ i. when (eqb (v i) (lead_in f n (v i))) 1) (λ i l. ap (λ (t : Bool). when t 1) (own i))
      ∙ sum_through v n V-one (λ i. when (eqb i (lead_in f n i)) 1)
      ∙ sym (orbits_classes f n F)
    where
      M : ℕ → ℕ
      M x = v (lead_in f n (v x))

      M-labels : Labels M n
      M-labels =
          record {
            below = λ i l. below (lead_in f n (v i)) (lead_below f n F (v i) (below i l));
            again = λ i l. ap v (ap (lead_in f n) (twice (lead_in f n (v i))) ∙ (lead_labels f n F).again (v i) (below i l));
          }

      back : (i j : ℕ) → i < n → j < n → lead_in f n (v i) ≡ lead_in f n (v j) → lead_in g n i ≡ lead_in g n j
      back i j l k e = ap (lead_in g n) (sym (twice i)) ∙ renamed_finer (v i) (v j) (below i l) (below j k) e ∙ ap (lead_in g n) (twice j)

      own : (i : ℕ) → eqb i (M i) ≡ eqb (v i) (lead_in f n (v i))
      own i =
          same_test (eqb i (M i)) (eqb (v i) (lead_in f n (v i)))
          (λ e. eq-eqb (v i) (lead_in f n (v i)) (ap v (eqb-true i (M i) e) ∙ twice (lead_in f n (v i))))
          (λ e. eq-eqb i (M i) (sym (twice i) ∙ ap v (eqb-true (v i) (lead_in f n (v i)) e)))
