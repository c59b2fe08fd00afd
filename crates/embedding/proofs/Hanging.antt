-- A strip hung in the corner where d ends: the definition holds the table, and an accepted plate stays one, with the faces as before.
use mathlib.Core.Path.{◌≡◌, refl, sym, ap, subst, ◌∙◌}
use mathlib.Core.Bool.{Bool, true}
use mathlib.Core.List.{List, [], ◌∷◌, ◌++◌}
use mathlib.Core.Logic.{⊎_elim}
use Prim.Native.Nat.{ℕ, suc, ◌+◌, ◌≤◌, ◌<◌}
use native.Mathlib.Omega.{arith}
use lib.Dec.{eqb}
use lib.ListN.{length, length-append}
use Rattle.finite.proofs.Members.{in_one}
use Rattle.finite.proofs.Tests.{equal_or_not}
use Rattle.finite.proofs.Orbit.{lead_in}
use Rattle.maps.specs.Maps.{orbits}
use Rattle.embedding.specs.Plates.{when, is_in, Plate, darts, twin, leaves, ends_at, degree, part_of, distinct, all_below, after, faces, connected}
use Rattle.embedding.specs.Read.{lead}
use Rattle.embedding.specs.Edits.{laid, put_before, hang, HangTable}
use Rattle.embedding.proofs.Rotation.{Ordered, twin_dart, twin_one, part_leaves, part_distinct, own_part, after_one_to_one, round_before, before_here}
use Rattle.embedding.proofs.Totals.{ends_at_below}
use Rattle.embedding.proofs.Faultless.{Faultless}
use Rattle.embedding.proofs.Degrees.{faultless_of, degree_most}
use Rattle.embedding.proofs.Placing.{put_members, put_distinct, round_put, round_new, round_else}
use Rattle.embedding.proofs.Rows.{laid_long, part_laid, part_rest, before_all, ordered_from}
use Rattle.embedding.proofs.Spread.{Closed, connected_from}
use Rattle.embedding.proofs.Surgery.{Kept, faces_orbits, lead_orbit, hang_law}
use Rattle.embedding.proofs.Grown.{count_on, count_off, after_at, grown_darts, grown_even, old_leaves, first_leaves, second_leaves, twin_first, twin_second, old_ends, first_ends, second_ends, grown_degree, grown_below, grown_spread, grown_strip, degree_none, not_in_part, put_degree}

-- the posts below n + 1: those below n, and n
pub at_post : {P : Type 0} (n v : ℕ) → v < suc n → (v < n → P) → (v ≡ n → P) → P
at_post n v l u w = ⊎_elim w (λ p. u (omega arith)) (equal_or_not v n)

module _ (p : Plate) (o : Ordered p) (d : ℕ) (l : d < darts p) where
  abbrev K : ℕ
  K = darts p

  abbrev n : ℕ
  n = p.posts

  abbrev w : ℕ
  w = ends_at p d

  abbrev t : ℕ
  t = twin d

  wl : w < n
  wl = ends_at_below p o d l

  tl : t < K
  tl = twin_dart p o d l

  -- the definition holds the table
  abbrev row : ℕ → List ℕ
  row v = put_before t K (part_of p v)

  row_long : (v : ℕ) → v < n → length (row v) ≡ degree (hang p d) v
  row_long v k = omega (arith, put_degree p o v k t K tl, grown_degree p (hang p d) w n o.even refl v, count_off v n (omega arith))

  last_degree : degree (hang p d) n ≡ 1
  last_degree = omega (arith, grown_degree p (hang p d) w n o.even refl n, degree_none p o n (omega arith), count_off n w (omega (arith, wl)), count_on n n refl)

  pub hang_table : HangTable p d (hang p d)
  hang_table =
      record {
        one_post = refl;
        strip_ends = refl;
        old_order = part_laid (hang p d) row n (suc K ∷ []) refl row_long;
        new_order = part_rest (hang p d) row n (suc K ∷ []) refl row_long (sym last_degree);
        order_long =
            omega (
              arith,
              length-append (laid n row) (suc K ∷ []),
              laid_long (hang p d) row n row_long,
              last_degree,
              before_all (hang p d) (grown_below p (hang p d) w n o.even refl n (suc n) (omega arith) o.ends_below (omega (arith, wl)) (omega arith)),
            );
        same_outer = refl;
      }

  -- a plate that holds the table
  module _ (q : Plate) (h : HangTable p d q) where
    abbrev e : q.ends ≡ p.ends ++ (w ∷ (n ∷ []))
    e = h.strip_ends

    darts_now : darts q ≡ suc (suc K)
    darts_now = grown_darts p q w n o.even e

    below : all_below q.posts q.ends ≡ true
    below = grown_below p q w n o.even e n q.posts (omega (arith, h.one_post)) o.ends_below (omega (arith, wl, h.one_post)) (omega (arith, h.one_post))

    pub hang_ordered : Ordered q
    hang_ordered =
        ordered_from q below (grown_even p q w n o.even e) h.order_long
        (λ v k x i. at_post n v (omega (arith, h.one_post)) (λ j. old v j x (subst (λ (ds : List ℕ). is_in x ds ≡ true) (h.old_order v j) i))
        (λ j. new v j x (subst (λ (ds : List ℕ). is_in x ds ≡ true) (ap (part_of q) j ∙ h.new_order) i)))
        (λ v k. at_post n v (omega (arith, h.one_post)) (λ j. subst (λ (ds : List ℕ). distinct ds ≡ true) (sym (h.old_order v j)) (put_distinct t K (part_of p v) (part_distinct p o v j) (not_in_part p o v j K (omega arith))))
        (λ j. subst (λ (ds : List ℕ). distinct ds ≡ true) (sym (ap (part_of q) j ∙ h.new_order)) refl))
      where
        old : (v : ℕ) → v < n → (x : ℕ) → is_in x (row v) ≡ true → (x < darts q) × (leaves q x ≡ v)
        old v j x i =
            ⊎_elim
            (λ z. (omega (arith, darts_now), ap (leaves q) z.0 ∙ first_leaves p q w n o.even e ∙ (part_leaves p o v j t z.1).1))
            (λ z. let at_x = part_leaves p o v j x z in (omega (arith, darts_now), old_leaves p q w n o.even e x at_x.0 ∙ at_x.1))
            (put_members t K (part_of p v) x i)

        new : (v : ℕ) → v ≡ n → (x : ℕ) → is_in x (suc K ∷ []) ≡ true → (x < darts q) × (leaves q x ≡ v)
        new v j x i = let z = in_one x (suc K) i in (omega (arith, darts_now), ap (leaves q) z ∙ second_leaves p q w n o.even e ∙ sym j)

    -- the dart after each dart
    hang-at : after q d ≡ K
    hang-at =
        after_at q d w t (old_ends p q w n o.even e d l) refl ∙ ap (λ (ds : List ℕ). round_before ds t) (h.old_order w wl)
        ∙ round_put t K (part_of p w) (own_part p o t tl) (omega (arith, tl))

    hang_end : after q K ≡ suc K
    hang_end =
        after_at q K n (suc K) (first_ends p q w n o.even e) (twin_first p q w n o.even e) ∙ ap (λ (ds : List ℕ). round_before ds (suc K)) h.new_order
        ∙ before_here (suc K) (suc K) (suc K) [] refl

    hang_back : after q (suc K) ≡ after p d
    hang_back =
        after_at q (suc K) w K (second_ends p q w n o.even e) (twin_second p q w n o.even e) ∙ ap (λ (ds : List ℕ). round_before ds K) (h.old_order w wl)
        ∙ round_new t K (part_of p w) (own_part p o t tl) (not_in_part p o w wl K (omega arith))

    hang_other : (x : ℕ) → x < K → (x ≡ d → ⊥) → after q x ≡ after p x
    hang_other x k ne =
        after_at q x (ends_at p x) (twin x) (old_ends p q w n o.even e x k) refl ∙ ap (λ (ds : List ℕ). round_before ds (twin x)) (h.old_order (ends_at p x) (ends_at_below p o x k))
        ∙ round_else t K (part_of p (ends_at p x)) (twin x) (λ z. ne (twin_one x d z)) (omega (arith, twin_dart p o x k))

    law : Kept (after p) (after q) K
    law = hang_law (after p) (after q) d K o.even (after_one_to_one p o) l hang-at hang_end hang_back hang_other

    -- as many faces, and each dart in the face of the same lowest dart
    pub hang_faces : length (faces q) ≡ length (faces p)
    hang_faces = faces_orbits q ∙ ap (orbits (after q)) darts_now ∙ law.0 ∙ sym (faces_orbits p)

    pub hang_lead : (x : ℕ) → x < K → lead q x ≡ lead p x
    hang_lead x k = lead_orbit q x ∙ ap (λ (j : ℕ). lead_in (after q) j x) darts_now ∙ law.1 x k ∙ sym (lead_orbit p x)

    hang_connected : connected p ≡ true → connected q ≡ true
    hang_connected c = connected_from q below (omega (arith, h.one_post)) spread
      where
        spread : (S : ℕ → Bool) → S 0 ≡ true → Closed S q.ends → (v : ℕ) → v < q.posts → S v ≡ true
        spread S root closed v k =
            at_post n v (omega (arith, h.one_post)) (old v)
            (λ j. ap S j ∙ sym (grown_strip p q w n o.even e S closed) ∙ old w wl)
          where
            old : (v : ℕ) → v < n → S v ≡ true
            old = grown_spread p q w n o.even e o.ends_below c S root closed

    pub hang_faultless : Faultless p → n < 64 → degree p w < 4 → Faultless q
    hang_faultless f few room =
        faultless_of q hang_ordered (omega (arith, h.one_post)) (omega (arith, h.one_post)) (omega (arith, darts_now)) four
        (omega (arith, darts_now, h.same_outer, f.outer_dart)) (hang_connected f.is_connected) (omega (arith, h.one_post, darts_now, hang_faces, f.euler, o.even))
      where
        four : (v : ℕ) → v < q.posts → degree q v ≤ 4
        four v k = at_post n v (omega (arith, h.one_post)) old (λ j. omega (arith, ap (degree q) j, now n, degree_none p o n (omega arith), count_off n w (omega (arith, wl)), count_on n n refl))
          where
            now : (u : ℕ) → degree q u ≡ degree p u + when (eqb u w) 1 + when (eqb u n) 1
            now = grown_degree p q w n o.even e

            old : v < n → degree q v ≤ 4
            old j =
                ⊎_elim (λ z. omega (arith, now v, count_on v w z, count_off v n (omega arith), ap (degree p) z))
                (λ z. omega (arith, now v, count_off v w z, count_off v n (omega arith), degree_most p f v j))
                (equal_or_not v w)
