-- An edge between two corners of one face: the posts stay, the face falls into two.
use mathlib.Core.Path.{◌≡◌, refl, sym, ap, ◌∙◌}
use mathlib.Core.Bool.{Bool, true, false}
use mathlib.Core.Logic.{◌⊎◌, inl, inr, ⊎_elim}
use Prim.Native.Nat.{ℕ, suc, ◌+◌, ◌-◌, ◌*◌, ◌≤◌, ◌<◌}
use native.Mathlib.Omega.{arith}
use lib.Dec.{eqb}
use Rattle.finite.specs.Base.{when}
use Rattle.maps.specs.Maps.{twin, turn, Connected}
use Rattle.maps.specs.Surgery.{put, Joined, JoinedAngles}
use Rattle.finite.proofs.Sums.{sum_over}
use Rattle.finite.proofs.Tests.{equal_or_not}
use Rattle.finite.proofs.Orbit.{OneToOne, orbit, lead_in}
use Rattle.maps.proofs.Cycles.{orbits, orbits_agree, lead_next, exchanged, exchanged_one, exchange_same, at_swap, swapped_first, swapped_second, swapped_other}
use Rattle.maps.proofs.Darts.{twin_below, twin_twin, twin_first, twin_second}
use Rattle.maps.proofs.Euler.{turn_one_to_one}
use Rattle.maps.proofs.RightAngles.{RightAngled}
use Rattle.maps.proofs.Insert.{on, off, Inserted, put-at, put_other, agree_one, agree_lead, agree_sum, inserted_one, inserted_old, inserted_new, inserted_orbits, inserted_sum}
use Rattle.maps.proofs.Divide.{sum_lead, divided_apart, divided_finer, divided_other, divided_either, divided_sum, divided_else}
use Rattle.maps.proofs.NewEdge.{size, turn_more, at_new, at_all, sum_but, Rounded, RightOn, right_on, right_of, connected_more}

when_rest : (t : Bool) (x y : ℕ) → y ≤ x → when t (x - y) + when t y ≡ when t x
when_rest true x y l = omega arith
when_rest false x y l = omega arith

module _ (next after : ℕ → ℕ) (m d e : ℕ) (F : OneToOne next (2 * m)) (ld : d < 2 * m) (le : e < 2 * m) (apart : d ≡ e → ⊥) (J : Joined next after m d e) where
  abbrev n : ℕ
  n = 2 * m

  abbrev N : ℕ
  N = suc (suc (2 * m))

  -- 2m put in after e, 2m + 1 after d, and then d and e exchange where they go
  abbrev half : ℕ → ℕ
  half = put (put next n (next e)) e n

  half_in : Inserted next half n e
  half_in =
      record {
        before = put-at (put next n (next e)) e n e refl;
        after = put_other (put next n (next e)) e n n (omega arith) ∙ put-at next n (next e) n refl;
        other = λ x k q. put_other (put next n (next e)) e n x q ∙ put_other next n (next e) x (omega arith);
      }

  half_one : OneToOne half (suc n)
  half_one = inserted_one next half n e F le half_in

  abbrev whole : ℕ → ℕ
  whole = put (put half (suc n) (half d)) d (suc n)

  d_below : d < suc n
  d_below = omega arith

  whole_in : Inserted half whole (suc n) d
  whole_in =
      record {
        before = put-at (put half (suc n) (half d)) d (suc n) d refl;
        after = put_other (put half (suc n) (half d)) d (suc n) (suc n) (omega arith) ∙ put-at half (suc n) (half d) (suc n) refl;
        other = λ x k q. put_other (put half (suc n) (half d)) d (suc n) x q ∙ put_other half (suc n) (half d) x (omega arith);
      }

  whole_one : OneToOne whole N
  whole_one = inserted_one half whole (suc n) d half_one d_below whole_in

  d_n : d < N
  d_n = omega arith

  e_n : e < N
  e_n = omega arith

  agrees : (x : ℕ) → x < N → after x ≡ exchanged whole d e x
  agrees x k =
      at_swap d e x
      (λ q. ap after q ∙ J.from ∙ sym (ap whole (swapped_first d e x q) ∙ whole_in.other e (omega arith) (λ h. apart (sym h)) ∙ half_in.before))
      (λ q. ap after q ∙ J.back_from ∙ sym (ap whole (swapped_second d e x q) ∙ whole_in.before))
      (λ p q. rest p q ∙ ap whole (sym (swapped_other d e x p q)))
    where
      rest : (x ≡ d → ⊥) → (x ≡ e → ⊥) → after x ≡ whole x
      rest p q =
          at_new m x k (λ b. J.other x b p q ∙ sym (whole_in.other x (omega arith) p ∙ half_in.other x b q))
          (λ h. ap after h ∙ J.to ∙ sym (ap whole h ∙ whole_in.other n (omega arith) (omega arith) ∙ half_in.after))
          (λ h. ap after h ∙ J.back_to ∙ sym (ap whole h ∙ whole_in.after ∙ half_in.other d ld apart))

  crossed : OneToOne (exchanged whole d e) N
  crossed = exchanged_one whole N d e whole_one d_n e_n

  pub join_one_lem : OneToOne after N
  join_one_lem = agree_one (exchanged whole d e) after N crossed agrees

  lead_after : (x : ℕ) → x < N → lead_in after N x ≡ lead_in (exchanged whole d e) N x
  lead_after = agree_lead (exchanged whole d e) after N crossed agrees

  lead_whole : (x : ℕ) → x < n → lead_in whole N x ≡ lead_in next n x
  lead_whole x k = inserted_old half whole (suc n) d half_one d_below whole_in x (omega arith) ∙ inserted_old next half n e F le half_in x k

  -- 2m is in the face of d, 2m + 1 in the face of e
  pub join_lead_on : lead_in after N n ≡ lead_in after N d
  join_lead_on = ap (lead_in after N) (sym J.from) ∙ lead_next after N join_one_lem d d_n

  pub join_lead_back : lead_in after N (suc n) ≡ lead_in after N e
  join_lead_back = ap (lead_in after N) (sym J.back_from) ∙ lead_next after N join_one_lem e e_n

  module _ (together : lead_in next n d ≡ lead_in next n e) where
    near : lead_in whole N d ≡ lead_in whole N e
    near = lead_whole d ld ∙ together ∙ sym (lead_whole e le)

    pub join_faces : orbits after N ≡ orbits next n + 1
    join_faces =
        omega (
          arith,
          orbits_agree after (exchanged whole d e) N join_one_lem crossed agrees,
          exchange_same whole N whole_one d e d_n e_n near apart,
          inserted_orbits half whole (suc n) d half_one d_below whole_in,
          inserted_orbits next half n e F le half_in,
        )

    pub join_apart : lead_in after N d ≡ lead_in after N e → ⊥
    join_apart q = divided_apart whole N whole_one d e d_n e_n near apart (sym (lead_after d d_n) ∙ q ∙ lead_after e e_n)

    pub join_other : (x : ℕ) → x < n → (lead_in next n x ≡ lead_in next n d → ⊥) → lead_in after N x ≡ lead_in next n x
    join_other x k out =
        lead_after x (omega arith) ∙ divided_other whole N whole_one d e d_n e_n near apart x (omega arith) (λ q. out (sym (lead_whole x k) ∙ q ∙ lead_whole d ld)) ∙ lead_whole x k

    pub join_either : (x : ℕ) → x < n → lead_in next n x ≡ lead_in next n d → (lead_in after N x ≡ lead_in after N d) ⊎ (lead_in after N x ≡ lead_in after N e)
    join_either x k q =
        ⊎_elim (λ h. inl (lead_after x (omega arith) ∙ h ∙ sym (lead_after d d_n))) (λ h. inr (lead_after x (omega arith) ∙ h ∙ sym (lead_after e e_n)))
        (divided_either whole N whole_one d e d_n e_n near apart x (omega arith) (lead_whole x k ∙ q ∙ sym (lead_whole d ld)))

    pub join_finer : (x y : ℕ) → x < n → y < n → lead_in after N x ≡ lead_in after N y → lead_in next n x ≡ lead_in next n y
    join_finer x y k h q =
        sym (lead_whole x k) ∙ divided_finer whole N whole_one d e d_n e_n near apart x y (omega arith) (omega arith) (sym (lead_after x (omega arith)) ∙ q ∙ lead_after y (omega arith)) ∙ lead_whole y h

    pub join_sum : (w : ℕ → ℕ) → sum_over (orbit after N d) w + sum_over (orbit after N e) w ≡ sum_over (orbit next n d) w + w n + w (suc n)
    join_sum w =
        omega (
          arith,
          agree_sum (exchanged whole d e) after N crossed agrees d d_n w,
          agree_sum (exchanged whole d e) after N crossed agrees e e_n w,
          divided_sum whole N whole_one d e d_n e_n near apart w,
          inserted_sum half whole (suc n) d half_one d_below whole_in d d_below w,
          inserted_sum next half n e F le half_in d ld w,
          on (lead_in half (suc n) d) (lead_in half (suc n) d) (w (suc n)) refl,
          on (lead_in next n d) (lead_in next n e) (w n) together,
        )

    pub join_else : (x : ℕ) → x < n → (lead_in next n x ≡ lead_in next n d → ⊥) → (w : ℕ → ℕ) → sum_over (orbit after N x) w ≡ sum_over (orbit next n x) w
    join_else x k out w =
        omega (
          arith,
          agree_sum (exchanged whole d e) after N crossed agrees x (omega arith) w,
          divided_else whole N whole_one d e d_n e_n near apart x (omega arith) (λ q. out (sym (lead_whole x k) ∙ q ∙ lead_whole d ld)) w,
          inserted_sum half whole (suc n) d half_one d_below whole_in x (omega arith) w,
          inserted_sum next half n e F le half_in x k w,
          off (lead_in half (suc n) x) (lead_in half (suc n) d) (w (suc n)) (λ q. out (sym (inserted_old next half n e F le half_in x k) ∙ q ∙ inserted_old next half n e F le half_in d ld)),
          off (lead_in next n x) (lead_in next n e) (w n) (λ q. out (q ∙ sym together)),
        )

  -- posts: 2m is put in after d's twin, 2m + 1 after e's
  T : OneToOne (turn next) n
  T = turn_one_to_one next m F

  td : twin d < n
  td = twin_below m d ld

  te : twin e < n
  te = twin_below m e le

  twins_apart : twin e ≡ twin d → ⊥
  twins_apart q = apart (sym (sym (twin_twin e) ∙ ap twin q ∙ twin_twin d))

  abbrev around : ℕ → ℕ
  around = put (put (turn next) n (next d)) (twin d) n

  around_in : Inserted (turn next) around n (twin d)
  around_in =
      record {
        before = put-at (put (turn next) n (next d)) (twin d) n (twin d) refl;
        after = put_other (put (turn next) n (next d)) (twin d) n n (omega (arith, td)) ∙ put-at (turn next) n (next d) n refl ∙ ap next (sym (twin_twin d));
        other = λ x k q. put_other (put (turn next) n (next d)) (twin d) n x q ∙ put_other (turn next) n (next d) x (omega arith);
      }

  around_one : OneToOne around (suc n)
  around_one = inserted_one (turn next) around n (twin d) T td around_in

  te_more : twin e < suc n
  te_more = omega (arith, te)

  posts_in : Inserted around (turn after) (suc n) (twin e)
  posts_in =
      record {
        before = ap after (twin_twin e) ∙ J.back_from;
        after = ap after (twin_second m) ∙ J.to ∙ sym (around_in.other (twin e) te twins_apart ∙ ap next (twin_twin e));
        other = other;
      }
    where
      other : (x : ℕ) → x < suc n → (x ≡ twin e → ⊥) → turn after x ≡ around x
      other x k out = ⊎_elim first (λ p. ⊎_elim at_d (λ q. rest (omega arith) q) (equal_or_not x (twin d))) (equal_or_not x n)
        where
          first : x ≡ n → turn after x ≡ around x
          first q = ap (turn after) q ∙ ap after (twin_first m) ∙ J.back_to ∙ sym (ap around q ∙ around_in.after ∙ ap next (twin_twin d))

          at_d : x ≡ twin d → turn after x ≡ around x
          at_d q = ap after (ap twin q ∙ twin_twin d) ∙ J.from ∙ sym (ap around q ∙ around_in.before)

          rest : x < n → (x ≡ twin d → ⊥) → turn after x ≡ around x
          rest b q =
              J.other (twin x) (twin_below m x b) (λ h. q (sym (twin_twin x) ∙ ap twin h)) (λ h. out (sym (twin_twin x) ∙ ap twin h)) ∙ sym (around_in.other x b q)

  turn_after : OneToOne (turn after) N
  turn_after = turn_more after m join_one_lem

  pub join_posts : orbits (turn after) N ≡ orbits (turn next) n
  join_posts = inserted_orbits around (turn after) (suc n) (twin e) around_one te_more posts_in ∙ inserted_orbits (turn next) around n (twin d) T td around_in

  -- so the plane equation stays
  pub join_plane : lead_in next n d ≡ lead_in next n e → orbits (turn next) n + orbits next n ≡ m + 2 → orbits (turn after) N + orbits after N ≡ suc m + 2
  join_plane near e = omega (arith, join_posts, join_faces near)

  abbrev P : ℕ → ℕ
  P = lead_in (turn next) n

  pub join_post_lead : (x : ℕ) → x < n → lead_in (turn after) N x ≡ P x
  join_post_lead x k = inserted_old around (turn after) (suc n) (twin e) around_one te_more posts_in x (omega arith) ∙ inserted_old (turn next) around n (twin d) T td around_in x k

  post_lead_on : lead_in (turn after) N n ≡ P (twin d)
  post_lead_on = inserted_old around (turn after) (suc n) (twin e) around_one te_more posts_in n (omega arith) ∙ inserted_new (turn next) around n (twin d) T td around_in

  post_lead_back : lead_in (turn after) N (suc n) ≡ P (twin e)
  post_lead_back = inserted_new around (turn after) (suc n) (twin e) around_one te_more posts_in ∙ inserted_old (turn next) around n (twin d) T td around_in (twin e) te

  pub join_post_sum : (x : ℕ) → x < n → (w : ℕ → ℕ) → sum_over (orbit (turn after) N x) w ≡ sum_over (orbit (turn next) n x) w + when (eqb (P x) (P (twin d))) (w n) + when (eqb (P x) (P (twin e))) (w (suc n))
  join_post_sum x k w =
      omega (
        arith,
        inserted_sum around (turn after) (suc n) (twin e) around_one te_more posts_in x (omega arith) w,
        inserted_sum (turn next) around n (twin d) T td around_in x k w,
        ap (λ (y : ℕ). when (eqb y (lead_in around (suc n) (twin e))) (w (suc n))) (inserted_old (turn next) around n (twin d) T td around_in x k),
        ap (λ (y : ℕ). when (eqb (P x) y) (w (suc n))) (inserted_old (turn next) around n (twin d) T td around_in (twin e) te),
      )

  pub join_connected : Connected next n → Connected after N
  join_connected linked = connected_more next after m d linked join_one_lem ld J.from keeps
    where
      keeps : (s : ℕ → Bool) → ((x : ℕ) → x < N → s (after x) ≡ s x) → ((x : ℕ) → x < N → s (twin x) ≡ s x) → (x : ℕ) → x < n → s (next x) ≡ s x
      keeps s kept over x k =
          at_swap d e x
          (λ q. ap (λ (y : ℕ). s (next y)) q ∙ ap s (sym J.back_to) ∙ kept (suc n) (omega arith) ∙ pair ∙ ap s (sym J.from) ∙ kept d d_n ∙ ap s (sym q))
          (λ q. ap (λ (y : ℕ). s (next y)) q ∙ ap s (sym J.to) ∙ kept n (omega arith) ∙ sym pair ∙ ap s (sym J.back_from) ∙ kept e e_n ∙ ap s (sym q))
          (λ p q. ap s (sym (J.other x k p q)) ∙ kept x (omega arith))
        where
          pair : s (suc n) ≡ s n
          pair = ap s (sym (twin_first m)) ∙ over n (omega arith)

  -- corners of d and e divided between the old dart and the new one
  module _ (angle angles : ℕ → ℕ) (a b o : ℕ) (A : JoinedAngles angle angles m d e a b) (a-least : 1 ≤ a) (a-most : a < angle d) (b-least : 1 ≤ b) (b-most : b < angle e)
      (together : lead_in next n d ≡ lead_in next n e) (M : RightOn next angle m o n) where
    -- weights that differ at d and e only
    two_put : (f : ℕ → ℕ) → OneToOne f n → (p q : ℕ) → p < n → q < n → (q ≡ p → ⊥) → (v w : ℕ → ℕ) → ((x : ℕ) → x < n → (x ≡ p → ⊥) → (x ≡ q → ⊥) → v x ≡ w x) → (x : ℕ) → x < n
        → sum_over (orbit f n x) v + when (eqb (lead_in f n x) (lead_in f n p)) (w p) + when (eqb (lead_in f n x) (lead_in f n q)) (w q)
        ≡ sum_over (orbit f n x) w + when (eqb (lead_in f n x) (lead_in f n p)) (v p) + when (eqb (lead_in f n x) (lead_in f n q)) (v q)
    two_put f G p q lp lq pq v w but x k =
        omega (
          arith,
          sum_but f n G p lp u w (λ y h i. put_other w p (v p) y i) x k,
          sum_but f n G q lq v u (λ y h i. ⊎_elim (λ z. ap v z ∙ sym (put-at w p (v p) y z)) (λ z. but y h z i ∙ sym (put_other w p (v p) y z)) (equal_or_not y p)) x k,
          ap (when (eqb (lead_in f n x) (lead_in f n p))) (put-at w p (v p) p refl),
          ap (when (eqb (lead_in f n x) (lead_in f n q))) (put_other w p (v p) q pq),
        )
      where
        u : ℕ → ℕ
        u = put w p (v p)

    -- the two faces together have the corners of the old one
    pub join_corners : sum_over (orbit after N d) angles + sum_over (orbit after N e) angles ≡ sum_over (orbit next n d) angle
    join_corners =
        omega (
          arith,
          join_sum together angles,
          A.to,
          A.back_to,
          A.from,
          A.back_from,
          two_put next F d e ld le (λ q. apart (sym q)) angles angle A.other d ld,
          on (lead_in next n d) (lead_in next n d) (angle d) refl,
          on (lead_in next n d) (lead_in next n d) (angles d) refl,
          on (lead_in next n d) (lead_in next n e) (angle e) together,
          on (lead_in next n d) (lead_in next n e) (angles e) together,
        )

    -- other faces keep theirs
    join_corners_else : (x : ℕ) → x < n → (lead_in next n x ≡ lead_in next n d → ⊥) → sum_over (orbit after N x) angles ≡ sum_over (orbit next n x) angle
    join_corners_else x k out =
        omega (
          arith,
          join_else together x k out angles,
          two_put next F d e ld le (λ q. apart (sym q)) angles angle A.other x k,
          off (lead_in next n x) (lead_in next n d) (angle d) out,
          off (lead_in next n x) (lead_in next n d) (angles d) out,
          off (lead_in next n x) (lead_in next n e) (angle e) (λ q. out (q ∙ sym together)),
          off (lead_in next n x) (lead_in next n e) (angles e) (λ q. out (q ∙ sym together)),
        )

    bounds : (x : ℕ) → x < N → (1 ≤ angles x) × (angles x ≤ 4)
    bounds x k =
        at_new m x k
        (λ h. at_swap d e x (λ q. omega (arith, ap angles q ∙ A.from, M.most d ld)) (λ q. omega (arith, ap angles q ∙ A.back_from, M.most e le))
        (λ p q. omega (arith, A.other x h p q, M.least x h, M.most x h)))
        (λ q. omega (arith, ap angles q ∙ A.to, M.most e le))
        (λ q. omega (arith, ap angles q ∙ A.back_to, M.most d ld))

    post : (x : ℕ) → x < n → sum_over (orbit (turn after) N x) (λ y. angles (twin y)) ≡ 4
    post x k =
        omega (
          arith,
          join_post_sum x k (λ y. angles (twin y)),
          M.posts x k,
          two_put (turn next) T (twin d) (twin e) td te twins_apart (λ y. angles (twin y)) (λ y. angle (twin y))
              (λ y h i j. A.other (twin y) (twin_below m y h) (λ q. i (sym (twin_twin y) ∙ ap twin q)) (λ q. j (sym (twin_twin y) ∙ ap twin q))) x k,
          ap (when (eqb (P x) (P (twin d)))) (ap angles (twin_first m) ∙ A.back_to),
          ap (when (eqb (P x) (P (twin e)))) (ap angles (twin_second m) ∙ A.to),
          ap (when (eqb (P x) (P (twin d)))) (ap angles (twin_twin d) ∙ A.from),
          ap (when (eqb (P x) (P (twin e)))) (ap angles (twin_twin e) ∙ A.back_from),
          ap (λ (y : ℕ). when (eqb (P x) (P (twin d))) (angle y)) (twin_twin d),
          ap (λ (y : ℕ). when (eqb (P x) (P (twin e))) (angle y)) (twin_twin e),
          when_rest (eqb (P x) (P (twin d))) (angle d) a (omega arith),
          when_rest (eqb (P x) (P (twin e))) (angle e) b (omega arith),
        )

    module _ (d-even : (lead_in after N d ≡ lead_in after N o → ⊥) → Rounded after angles N d) (e-even : (lead_in after N e ≡ lead_in after N o → ⊥) → Rounded after angles N e) where
      moved : (x y : ℕ) → x < N → y < N → lead_in after N x ≡ lead_in after N y → Rounded after angles N y → Rounded after angles N x
      moved x y k h q p = omega (arith, p, sum_lead after N join_one_lem x y k h q angles, sum_lead after N join_one_lem x y k h q (λ z. 2))

      o_below : o < n
      o_below = M.outside

      o_n : o < N
      o_n = omega (arith, o_below)

      inner_old : (x : ℕ) → x < n → (lead_in after N x ≡ lead_in after N o → ⊥) → Rounded after angles N x
      inner_old x k out = ⊎_elim within beyond (equal_or_not (lead_in next n x) (lead_in next n d))
        where
          within : lead_in next n x ≡ lead_in next n d → Rounded after angles N x
          within q =
              ⊎_elim (λ h. moved x d (omega arith) d_n h (d-even (λ z. out (h ∙ z)))) (λ h. moved x e (omega arith) e_n h (e-even (λ z. out (h ∙ z)))) (join_either together x k q)

          beyond : (lead_in next n x ≡ lead_in next n d → ⊥) → Rounded after angles N x
          beyond q =
              omega (
                arith,
                join_corners_else x k q,
                join_else together x k q (λ z. 2),
                M.inner x k (λ h. out (join_other together x k q ∙ h ∙ sym (join_other together o o_below (λ z. q (h ∙ z))))),
              )

      outer : sum_over (orbit after N o) angles ≡ sum_over (orbit after N o) (λ x. 2) + 4
      outer = ⊎_elim within (λ q. omega (arith, join_corners_else o o_below q, join_else together o o_below q (λ z. 2), M.outer)) (equal_or_not (lead_in next n o) (lead_in next n d))
        where
          within : lead_in next n o ≡ lead_in next n d → sum_over (orbit after N o) angles ≡ sum_over (orbit after N o) (λ x. 2) + 4
          within q =
              ⊎_elim
              (λ h. omega (
                arith,
                old,
                new,
                twos,
                e-even (λ z. join_apart together (sym h ∙ sym z)),
                M.outer,
                same,
                same_twos,
                sum_lead after N join_one_lem o d o_n d_n h angles,
                sum_lead after N join_one_lem o d o_n d_n h (λ z. 2),
              ))
              (λ h. omega (
                arith,
                old,
                new,
                twos,
                d-even (λ z. join_apart together (z ∙ h)),
                M.outer,
                same,
                same_twos,
                sum_lead after N join_one_lem o e o_n e_n h angles,
                sum_lead after N join_one_lem o e o_n e_n h (λ z. 2),
              ))
              (join_either together o o_below q)
            where
              old : sum_over (orbit after N d) angles + sum_over (orbit after N e) angles ≡ sum_over (orbit next n d) angle
              old = join_corners

              new : sum_over (orbit after N d) (λ z. 2) + sum_over (orbit after N e) (λ z. 2) ≡ sum_over (orbit next n d) (λ z. 2) + 2 + 2
              new = join_sum together (λ z. 2)

              twos : 2 + 2 ≡ 4
              twos = omega arith

              same : sum_over (orbit next n o) angle ≡ sum_over (orbit next n d) angle
              same = sum_lead next n F o d o_below ld q angle

              same_twos : sum_over (orbit next n o) (λ z. 2) ≡ sum_over (orbit next n d) (λ z. 2)
              same_twos = sum_lead next n F o d o_below ld q (λ z. 2)

      pub join_on : RightOn after angles (suc m) o N
      join_on =
          record {
            one = join_one_lem;
            linked = join_connected M.linked;
            plane = join_plane together M.plane;
            outside = o_n;
            least = λ x k. (bounds x k).0;
            most = λ x k. (bounds x k).1;
            posts =
                at_all (turn after) m (twin d) (twin e) td te (post_lead_on ∙ sym (join_post_lead (twin d) td)) (post_lead_back ∙ sym (join_post_lead (twin e) te))
                (λ x. sum_over (orbit (turn after) N x) (λ y. angles (twin y)) ≡ 4) (λ x y k h q p. sum_lead (turn after) N turn_after x y k h q (λ y. angles (twin y)) ∙ p) post;
            inner =
                at_all after m d e ld le join_lead_on join_lead_back (λ x. (lead_in after N x ≡ lead_in after N o → ⊥) → Rounded after angles N x)
                (λ x y k h q p out. moved x y k h q (p (λ z. out (q ∙ z)))) inner_old;
            outer = outer;
          }

    -- if o is on neither part of the face, the face was an inner one
    face_inner : (lead_in after N d ≡ lead_in after N o → ⊥) → (lead_in after N e ≡ lead_in after N o → ⊥) → Rounded next angle n d
    face_inner p q = M.inner d ld (λ h. ⊎_elim (λ z. p (sym z)) (λ z. q (sym z)) (join_either together o M.outside (sym h)))

    -- one part of the face is well-rounded: so is the other
    pub join_on_from : (lead_in after N d ≡ lead_in after N o → ⊥) → Rounded after angles N d → RightOn after angles (suc m) o N
    join_on_from p r = join_on (λ h. r) (λ q. omega (arith, r, face_inner p q, join_corners, join_sum together (λ z. 2)))

    pub join_on_to : (lead_in after N e ≡ lead_in after N o → ⊥) → Rounded after angles N e → RightOn after angles (suc m) o N
    join_on_to q r = join_on (λ p. omega (arith, r, face_inner p q, join_corners, join_sum together (λ z. 2))) (λ h. r)

module _ (next after angle angles : ℕ → ℕ) (m d e a b o : ℕ) (M : RightAngled next angle m o) (ld : d < 2 * m) (le : e < 2 * m) (apart : d ≡ e → ⊥)
    (J : Joined next after m d e) (A : JoinedAngles angle angles m d e a b) (a-least : 1 ≤ a) (a-most : a < angle d) (b-least : 1 ≤ b) (b-most : b < angle e)
    (together : lead_in next (2 * m) d ≡ lead_in next (2 * m) e) where
  abbrev K : ℕ
  K = suc (suc (2 * m))

  -- a right-angled map stays so if a part without o turns right by four quarters
  pub join_right_from : (lead_in after K d ≡ lead_in after K o → ⊥) → Rounded after angles K d → RightAngled after angles (suc m) o
  join_right_from p r =
      right_of after angles (suc m) o K (sym (size m)) (join_on_from next after m d e M.one ld le apart J angle angles a b o A a-least a-most b-least b-most together (right_on next angle m o M) p r)

  pub join_right_to : (lead_in after K e ≡ lead_in after K o → ⊥) → Rounded after angles K e → RightAngled after angles (suc m) o
  join_right_to p r =
      right_of after angles (suc m) o K (sym (size m)) (join_on_to next after m d e M.one ld le apart J angle angles a b o A a-least a-most b-least b-most together (right_on next angle m o M) p r)
