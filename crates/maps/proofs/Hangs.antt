-- An edge from a corner to a new post: one post more, one face longer by two.
use mathlib.Core.Path.{◌≡◌, refl, sym, ap, ◌∙◌}
use mathlib.Core.Bool.{Bool, true, false}
use mathlib.Core.Logic.{⊎_elim}
use Prim.Native.Nat.{ℕ, suc, ◌+◌, ◌-◌, ◌*◌, ◌≤◌, ◌<◌}
use native.Mathlib.Omega.{arith}
use lib.Dec.{eqb}
use Rattle.finite.specs.Base.{when}
use Rattle.maps.specs.Maps.{twin, turn, Connected}
use Rattle.maps.specs.Surgery.{put, Hung, HungAngles}
use Rattle.finite.proofs.Sums.{sum_over}
use Rattle.finite.proofs.Tests.{equal_or_not}
use Rattle.finite.proofs.Orbit.{OneToOne, orbit, lead_in}
use Rattle.maps.proofs.Cycles.{orbits}
use Rattle.maps.proofs.Darts.{twin_below, twin_twin, twin_first, twin_second}
use Rattle.maps.proofs.Euler.{turn_one_to_one}
use Rattle.maps.proofs.RightAngles.{RightAngled}
use Rattle.maps.proofs.Insert.{Inserted, Loose, put-at, put_other, inserted_one, inserted_old, inserted_new, inserted_orbits, inserted_sum, loose_old, loose_orbits, loose_sum, loose_alone}
use Rattle.maps.proofs.Divide.{sum_lead}
use Rattle.maps.proofs.NewEdge.{size, turn_more, at_new, at_all, sum_but, Rounded, RightOn, right_on, right_of, connected_more}

when_hung : (t : Bool) (x y : ℕ) → y ≤ x → (when t (x - y) + when t y ≡ when t x) × (when t 4 ≡ when t 2 + when t 2)
when_hung true x y l = omega arith
when_hung false x y l = omega arith

module _ (next after : ℕ → ℕ) (m d : ℕ) (F : OneToOne next (2 * m)) (ld : d < 2 * m) (H : Hung next after m d) where
  abbrev n : ℕ
  n = 2 * m

  abbrev N : ℕ
  N = suc (suc (2 * m))

  -- 2m is put in after d, and 2m + 1 after 2m
  abbrev half : ℕ → ℕ
  half = put (put next n (next d)) d n

  half_in : Inserted next half n d
  half_in =
      record {
        before = put-at (put next n (next d)) d n d refl;
        after = put_other (put next n (next d)) d n n (omega arith) ∙ put-at next n (next d) n refl;
        other = λ x k q. put_other (put next n (next d)) d n x q ∙ put_other next n (next d) x (omega arith);
      }

  half_one : OneToOne half (suc n)
  half_one = inserted_one next half n d F ld half_in

  last_below : n < suc n
  last_below = omega arith

  whole_in : Inserted half after (suc n) n
  whole_in =
      record {
        before = H.end;
        after = H.back ∙ sym half_in.after;
        other = λ x k q. ⊎_elim (λ h. ap after h ∙ H.at ∙ sym (ap half h ∙ half_in.before)) (λ h. H.other x (omega arith) h ∙ sym (half_in.other x (omega arith) h)) (equal_or_not x d);
      }

  pub hang_one : OneToOne after N
  hang_one = inserted_one half after (suc n) n half_one last_below whole_in

  pub hang_faces : orbits after N ≡ orbits next n
  hang_faces = inserted_orbits half after (suc n) n half_one last_below whole_in ∙ inserted_orbits next half n d F ld half_in

  -- the old darts are in one face as before, the new ones in d's
  pub hang_lead : (x : ℕ) → x < n → lead_in after N x ≡ lead_in next n x
  hang_lead x k = inserted_old half after (suc n) n half_one last_below whole_in x (omega arith) ∙ inserted_old next half n d F ld half_in x k

  pub hang_lead_on : lead_in after N n ≡ lead_in next n d
  hang_lead_on = inserted_old half after (suc n) n half_one last_below whole_in n last_below ∙ inserted_new next half n d F ld half_in

  pub hang_lead_back : lead_in after N (suc n) ≡ lead_in next n d
  hang_lead_back = inserted_new half after (suc n) n half_one last_below whole_in ∙ inserted_new next half n d F ld half_in

  pub hang_sum : (x : ℕ) → x < n → (w : ℕ → ℕ)
      → sum_over (orbit after N x) w ≡ sum_over (orbit next n x) w + when (eqb (lead_in next n x) (lead_in next n d)) (w n) + when (eqb (lead_in next n x) (lead_in next n d)) (w (suc n))
  hang_sum x k w =
      omega (
        arith,
        inserted_sum half after (suc n) n half_one last_below whole_in x (omega arith) w,
        inserted_sum next half n d F ld half_in x k w,
        ap (λ (y : ℕ). when (eqb y (lead_in half (suc n) n)) (w (suc n))) (inserted_old next half n d F ld half_in x k),
        ap (λ (y : ℕ). when (eqb (lead_in next n x) y) (w (suc n))) (inserted_new next half n d F ld half_in),
      )

  -- posts: 2m is put in after d's twin, 2m + 1 is a post of its own
  T : OneToOne (turn next) n
  T = turn_one_to_one next m F

  td : twin d < n
  td = twin_below m d ld

  abbrev around : ℕ → ℕ
  around = put (put (turn next) n (next d)) (twin d) n

  around_in : Inserted (turn next) around n (twin d)
  around_in =
      record {
        before = put-at (put (turn next) n (next d)) (twin d) n (twin d) refl;
        after = put_other (put (turn next) n (next d)) (twin d) n n (omega (arith, td)) ∙ put-at (turn next) n (next d) n refl ∙ ap next (sym (twin_twin d));
        other = λ x k q. put_other (put (turn next) n (next d)) (twin d) n x q ∙ put_other (turn next) n (next d) x (omega arith);
      }

  around_one : OneToOne around (suc n)
  around_one = inserted_one (turn next) around n (twin d) T td around_in

  posts_in : Loose around (turn after) (suc n)
  posts_in =
      record {
        fixed = ap after (twin_second m) ∙ H.end;
        other = λ x k.
            ⊎_elim (λ q. ap (turn after) q ∙ ap after (twin_first m) ∙ H.back ∙ sym (ap around q ∙ around_in.after ∙ ap next (twin_twin d)))
            (λ p. ⊎_elim (λ q. ap after (ap twin q ∙ twin_twin d) ∙ H.at ∙ sym (ap around q ∙ around_in.before))
            (λ q. H.other (twin x) (twin_below m x (omega arith)) (λ h. q (sym (twin_twin x) ∙ ap twin h)) ∙ sym (around_in.other x (omega arith) q)) (equal_or_not x (twin d)))
            (equal_or_not x n);
      }

  turn_after : OneToOne (turn after) N
  turn_after = turn_more after m hang_one

  pub hang_posts : orbits (turn after) N ≡ orbits (turn next) n + 1
  hang_posts = omega (arith, loose_orbits around (turn after) (suc n) around_one posts_in, inserted_orbits (turn next) around n (twin d) T td around_in)

  -- so the plane equation stays
  pub hang_plane : orbits (turn next) n + orbits next n ≡ m + 2 → orbits (turn after) N + orbits after N ≡ suc m + 2
  hang_plane e = omega (arith, hang_posts, hang_faces)

  abbrev P : ℕ → ℕ
  P = lead_in (turn next) n

  pub hang_post_lead : (x : ℕ) → x < n → lead_in (turn after) N x ≡ P x
  hang_post_lead x k = loose_old around (turn after) (suc n) around_one posts_in x (omega arith) ∙ inserted_old (turn next) around n (twin d) T td around_in x k

  post_lead_on : lead_in (turn after) N n ≡ P (twin d)
  post_lead_on = loose_old around (turn after) (suc n) around_one posts_in n last_below ∙ inserted_new (turn next) around n (twin d) T td around_in

  pub hang_post_sum : (x : ℕ) → x < n → (w : ℕ → ℕ) → sum_over (orbit (turn after) N x) w ≡ sum_over (orbit (turn next) n x) w + when (eqb (P x) (P (twin d))) (w n)
  hang_post_sum x k w = loose_sum around (turn after) (suc n) around_one posts_in x (omega arith) w ∙ inserted_sum (turn next) around n (twin d) T td around_in x k w

  pub hang_post_new : (w : ℕ → ℕ) → sum_over (orbit (turn after) N (suc n)) w ≡ w (suc n)
  hang_post_new = loose_alone around (turn after) (suc n) around_one posts_in

  pub hang_connected : Connected next n → Connected after N
  hang_connected linked = connected_more next after m d linked hang_one ld H.at keeps
    where
      keeps : (s : ℕ → Bool) → ((x : ℕ) → x < N → s (after x) ≡ s x) → ((x : ℕ) → x < N → s (twin x) ≡ s x) → (x : ℕ) → x < n → s (next x) ≡ s x
      keeps s kept over x k =
          ⊎_elim
          (λ q. ap (λ (y : ℕ). s (next y)) q ∙ ap s (sym H.back) ∙ kept (suc n) (omega arith) ∙ ap s (sym H.end) ∙ kept n (omega arith) ∙ ap s (sym H.at) ∙ kept d (omega arith) ∙ ap s (sym q))
          (λ q. ap s (sym (H.other x k q)) ∙ kept x (omega arith)) (equal_or_not x d)

  module _ (angle angles : ℕ → ℕ) (a o : ℕ) (A : HungAngles angle angles m d a) (least : 1 ≤ a) (most : a < angle d) (M : RightOn next angle m o n) where
    -- d's face has two corners more, of four quarters together
    pub hang_corners : (x : ℕ) → x < n → sum_over (orbit after N x) angles ≡ sum_over (orbit next n x) angle + when (eqb (lead_in next n x) (lead_in next n d)) 4
    hang_corners x k =
        omega (
          arith,
          hang_sum x k angles,
          sum_but next n F d ld angles angle A.other x k,
          ap (when (eqb (lead_in next n x) (lead_in next n d))) A.end,
          ap (when (eqb (lead_in next n x) (lead_in next n d))) A.at,
          ap (when (eqb (lead_in next n x) (lead_in next n d))) A.back,
          when_hung (eqb (lead_in next n x) (lead_in next n d)) (angle d) a (omega arith),
        )

    hang_twos : (x : ℕ) → x < n → sum_over (orbit after N x) (λ y. 2) ≡ sum_over (orbit next n x) (λ y. 2) + when (eqb (lead_in next n x) (lead_in next n d)) 4
    hang_twos x k = omega (arith, hang_sum x k (λ y. 2), when_hung (eqb (lead_in next n x) (lead_in next n d)) (angle d) a (omega arith))

    bounds : (x : ℕ) → x < N → (1 ≤ angles x) × (angles x ≤ 4)
    bounds x k =
        at_new m x k
        (λ h. ⊎_elim (λ q. omega (arith, ap angles q ∙ A.at, M.most d ld)) (λ q. omega (arith, A.other x h q, M.least x h, M.most x h)) (equal_or_not x d))
        (λ q. omega (arith, ap angles q ∙ A.end))
        (λ q. omega (arith, ap angles q ∙ A.back, M.most d ld))

    post : (x : ℕ) → x < n → sum_over (orbit (turn after) N x) (λ y. angles (twin y)) ≡ 4
    post x k =
        omega (
          arith,
          hang_post_sum x k (λ y. angles (twin y)),
          M.posts x k,
          sum_but (turn next) n T (twin d) td (λ y. angles (twin y)) (λ y. angle (twin y)) (λ y h i. A.other (twin y) (twin_below m y h) (λ q. i (sym (twin_twin y) ∙ ap twin q))) x k,
          ap (when (eqb (P x) (P (twin d)))) (ap angles (twin_first m) ∙ A.back),
          ap (when (eqb (P x) (P (twin d)))) (ap angles (twin_twin d) ∙ A.at),
          ap (λ (y : ℕ). when (eqb (P x) (P (twin d))) (angle y)) (twin_twin d),
          when_hung (eqb (P x) (P (twin d))) (angle d) a (omega arith),
        )

    posts : (x : ℕ) → x < N → sum_over (orbit (turn after) N x) (λ y. angles (twin y)) ≡ 4
    posts x k =
        at_new m x k (post x)
        (λ q. sum_lead (turn after) N turn_after x (twin d) k (omega (arith, td)) (ap (lead_in (turn after) N) q ∙ post_lead_on ∙ sym (hang_post_lead (twin d) td)) (λ y. angles (twin y)) ∙ post (twin d) td)
        (λ q. ap (λ (z : ℕ). sum_over (orbit (turn after) N z) (λ y. angles (twin y))) q ∙ hang_post_new (λ y. angles (twin y)) ∙ ap angles (twin_second m) ∙ A.end)

    pub hang_on : RightOn after angles (suc m) o N
    hang_on =
        record {
          one = hang_one;
          linked = hang_connected M.linked;
          plane = hang_plane M.plane;
          outside = omega (arith, M.outside);
          least = λ x k. (bounds x k).0;
          most = λ x k. (bounds x k).1;
          posts = posts;
          inner =
              at_all after m d d ld ld (hang_lead_on ∙ sym (hang_lead d ld)) (hang_lead_back ∙ sym (hang_lead d ld))
              (λ x. (lead_in after N x ≡ lead_in after N o → ⊥) → Rounded after angles N x)
              (λ x y k h e p out. omega (arith, p (λ q. out (e ∙ q)), sum_lead after N hang_one x y k h e angles, sum_lead after N hang_one x y k h e (λ z. 2)))
              (λ x k out. omega (arith, hang_corners x k, hang_twos x k, M.inner x k (λ q. out (hang_lead x k ∙ q ∙ sym (hang_lead o M.outside)))));
          outer = omega (arith, hang_corners o M.outside, hang_twos o M.outside, M.outer);
        }

-- a right-angled map stays so
pub hang_right : (next after angle angles : ℕ → ℕ) (m d a o : ℕ) → RightAngled next angle m o → d < 2 * m → Hung next after m d → HungAngles angle angles m d a → 1 ≤ a → a < angle d → RightAngled after angles (suc m) o
hang_right next after angle angles m d a o M l H A least most =
    right_of after angles (suc m) o (suc (suc (2 * m))) (sym (size m)) (hang_on next after m d M.one l H angle angles a o A least most (right_on next angle m o M))
