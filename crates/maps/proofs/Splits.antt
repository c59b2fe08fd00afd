-- An edge split by a new post: one post more, the faces as before with the new darts put in.
use mathlib.Core.Path.{◌≡◌, refl, sym, ap, ◌∙◌}
use mathlib.Core.Bool.{Bool}
use mathlib.Core.Logic.{⊎_elim}
use Prim.Native.Nat.{ℕ, suc, ◌+◌, ◌-◌, ◌*◌, ◌≤◌, ◌<◌}
use native.Mathlib.Omega.{arith}
use lib.Dec.{eqb}
use Rattle.finite.specs.Base.{when, last_of}
use Rattle.maps.specs.Maps.{twin, turn, Connected}
use Rattle.maps.specs.Surgery.{put, Split, SplitAngles}
use Rattle.finite.proofs.Sums.{sum_over}
use Rattle.finite.proofs.Tests.{equal_or_not}
use Rattle.finite.proofs.Members.{last_in}
use Rattle.finite.proofs.Orbit.{OneToOne, orbit, lead_in, orbit_start, orbit_below, orbit_closes, lead_below}
use Rattle.maps.proofs.Cycles.{orbits, lead_next, swapped, swapped_first, swapped_second, swapped_other, swapped_twice, swapped_below}
use Rattle.maps.proofs.Darts.{twin_below, twin_twin, twin_first, twin_second}
use Rattle.maps.proofs.Euler.{turn_one_to_one}
use Rattle.maps.proofs.RightAngles.{RightAngled}
use Rattle.maps.proofs.Compass.{sum_over_same}
use Rattle.maps.proofs.Insert.{on, off, Inserted, Loose, put-at, put_other, inserted_one, inserted_old, inserted_new, inserted_orbits, inserted_sum, loose_one, loose_old, loose_new, loose_orbits, loose_sum, loose_alone}
use Rattle.maps.proofs.Divide.{sum_lead, renamed_sum, renamed_orbits}
use Rattle.maps.proofs.NewEdge.{size, turn_more, at_new, at_all, sum_but, Rounded, RightOn, right_on, right_of, connected_more}

module _ (next after : ℕ → ℕ) (m t : ℕ) (F : OneToOne next (2 * m)) (l : t < 2 * m) (S : Split next after m t) where
  abbrev n : ℕ
  n = 2 * m

  abbrev N : ℕ
  N = suc (suc (2 * m))

  other_way : twin t < n
  other_way = twin_below m t l

  -- first 2m is put in after t, then 2m + 1 before t's twin
  abbrev half : ℕ → ℕ
  half = put (put next n (next t)) t n

  half_in : Inserted next half n t
  half_in =
      record {
        before = put-at (put next n (next t)) t n t refl;
        after = put_other (put next n (next t)) t n n (omega arith) ∙ put-at next n (next t) n refl;
        other = λ x k e. put_other (put next n (next t)) t n x e ∙ put_other next n (next t) x (omega arith);
      }

  half_one : OneToOne half (suc n)
  half_one = inserted_one next half n t F l half_in

  abbrev into : ℕ
  into = last_of (orbit half (suc n) (twin t))

  over_below : twin t < suc n
  over_below = omega (arith, other_way)

  into_below : into < suc n
  into_below = orbit_below half (suc n) half_one (twin t) over_below into (last_in (twin t) (orbit half (suc n) (twin t)) (orbit_start half (suc n) half_one (twin t) over_below))

  into_to : half into ≡ twin t
  into_to = orbit_closes half (suc n) half_one (twin t) over_below

  at_half : {P : Type 0} (x : ℕ) → x < suc n → (x ≡ n → P) → (x ≡ t → P) → (x < n → (x ≡ t → ⊥) → P) → P
  at_half x k u v w = ⊎_elim u (λ p. ⊎_elim v (λ q. w (omega arith) q) (equal_or_not x t)) (equal_or_not x n)

  whole_in : Inserted half after (suc n) into
  whole_in = record { before = before; after = S.back ∙ sym into_to; other = other }
    where
      before : after into ≡ suc n
      before =
          at_half into into_below
          (λ e. ap after e ∙ S.on_back (sym half_in.after ∙ ap half (sym e) ∙ into_to))
          (λ e. absurd (omega (arith, sym half_in.before ∙ ap half (sym e) ∙ into_to, other_way)))
          (λ k e. S.into into k e (sym (half_in.other into k e) ∙ into_to))

      same : (x : ℕ) → x < suc n → half x ≡ twin t → x ≡ into
      same x k e = half_one.one x into k into_below (e ∙ sym into_to)

      other : (x : ℕ) → x < suc n → (x ≡ into → ⊥) → after x ≡ half x
      other x k out =
          at_half x k
          (λ e. let to : half x ≡ next t = ap half e ∙ half_in.after in ap after e ∙ S.on (λ q. out (same x k (to ∙ q))) ∙ sym to)
          (λ e. ap after e ∙ S.at ∙ sym (ap half e ∙ half_in.before))
          (λ b e. S.other x b e (λ q. out (same x k (half_in.other x b e ∙ q))) ∙ sym (half_in.other x b e))

  pub split_one : OneToOne after N
  split_one = inserted_one half after (suc n) into half_one into_below whole_in

  pub split_faces : orbits after N ≡ orbits next n
  split_faces = inserted_orbits half after (suc n) into half_one into_below whole_in ∙ inserted_orbits next half n t F l half_in

  -- the old darts are in one face as before, 2m is in t's face and 2m + 1 in its twin's
  pub split_lead : (x : ℕ) → x < n → lead_in after N x ≡ lead_in next n x
  split_lead x k = inserted_old half after (suc n) into half_one into_below whole_in x (omega arith) ∙ inserted_old next half n t F l half_in x k

  pub split_lead_on : lead_in after N n ≡ lead_in next n t
  split_lead_on = inserted_old half after (suc n) into half_one into_below whole_in n (omega arith) ∙ inserted_new next half n t F l half_in

  into_lead : lead_in half (suc n) into ≡ lead_in next n (twin t)
  into_lead = sym (lead_next half (suc n) half_one into into_below) ∙ ap (lead_in half (suc n)) into_to ∙ inserted_old next half n t F l half_in (twin t) other_way

  pub split_lead_back : lead_in after N (suc n) ≡ lead_in next n (twin t)
  split_lead_back = inserted_new half after (suc n) into half_one into_below whole_in ∙ into_lead

  pub split_sum : (d : ℕ) → d < n → (w : ℕ → ℕ)
      → sum_over (orbit after N d) w ≡ sum_over (orbit next n d) w + when (eqb (lead_in next n d) (lead_in next n t)) (w n) + when (eqb (lead_in next n d) (lead_in next n (twin t))) (w (suc n))
  split_sum d k w =
      omega (
        arith,
        inserted_sum half after (suc n) into half_one into_below whole_in d (omega arith) w,
        inserted_sum next half n t F l half_in d k w,
        ap (λ (x : ℕ). when (eqb x (lead_in half (suc n) into)) (w (suc n))) (inserted_old next half n t F l half_in d k),
        ap (λ (x : ℕ). when (eqb (lead_in next n d) x) (w (suc n))) into_lead,
      )

  -- posts: the new one is 2m with 2m + 1, and then t's twin and 2m + 1 exchange their names
  T : OneToOne (turn next) n
  T = turn_one_to_one next m F

  abbrev apart : ℕ → ℕ
  apart = put (turn next) n n

  apart_in : Loose (turn next) apart n
  apart_in = record { fixed = put-at (turn next) n n n refl; other = λ x k. put_other (turn next) n n x (omega arith) }

  apart_one : OneToOne apart (suc n)
  apart_one = loose_one (turn next) apart n T apart_in

  abbrev paired : ℕ → ℕ
  paired = put (put apart (suc n) n) n (suc n)

  paired_in : Inserted apart paired (suc n) n
  paired_in =
      record {
        before = put-at (put apart (suc n) n) n (suc n) n refl;
        after = put_other (put apart (suc n) n) n (suc n) (suc n) (omega arith) ∙ put-at apart (suc n) n (suc n) refl ∙ sym apart_in.fixed;
        other = λ x k e. put_other (put apart (suc n) n) n (suc n) x e ∙ put_other apart (suc n) n x (omega arith);
      }

  last_below : n < suc n
  last_below = omega arith

  paired_one : OneToOne paired N
  paired_one = inserted_one apart paired (suc n) n apart_one last_below paired_in

  abbrev name : ℕ → ℕ
  name = swapped (twin t) (suc n)

  name_below : (x : ℕ) → x < N → name x < N
  name_below x k = swapped_below (twin t) (suc n) N x (omega (arith, other_way)) (omega arith) k

  name_old : (x : ℕ) → x < suc n → (x ≡ twin t → ⊥) → name x ≡ x
  name_old x k e = swapped_other (twin t) (suc n) x e (omega arith)

  paired_old : (x : ℕ) → x < n → paired x ≡ turn next x
  paired_old x k = paired_in.other x (omega arith) (omega arith) ∙ apart_in.other x k

  renames : (x : ℕ) → x < N → turn after (name x) ≡ name (paired x)
  renames x k = at_new m x k old first second
    where
      old : x < n → turn after (name x) ≡ name (paired x)
      old b = ⊎_elim here there (equal_or_not x (twin t))
        where
          here : x ≡ twin t → turn after (name x) ≡ name (paired x)
          here e = ap (turn after) (swapped_first (twin t) (suc n) x e) ∙ ap after (twin_second m) ∙ ⊎_elim ends goes_on (equal_or_not (next t) (twin t)) ∙ ap name (sym (paired_old x b ∙ ap next (ap twin e ∙ twin_twin t)))
            where
              ends : next t ≡ twin t → after n ≡ name (next t)
              ends q = S.on_back q ∙ sym (swapped_first (twin t) (suc n) (next t) q)

              goes_on : (next t ≡ twin t → ⊥) → after n ≡ name (next t)
              goes_on q = S.on q ∙ sym (name_old (next t) (omega (arith, F.below t l)) q)

          there : (x ≡ twin t → ⊥) → turn after (name x) ≡ name (paired x)
          there e = ap (turn after) (name_old x (omega arith) e) ∙ ⊎_elim enters passes (equal_or_not (next (twin x)) (twin t)) ∙ ap name (sym (paired_old x b))
            where
              tb : twin x < n
              tb = twin_below m x b

              te : twin x ≡ t → ⊥
              te q = e (sym (twin_twin x) ∙ ap twin q)

              enters : next (twin x) ≡ twin t → after (twin x) ≡ name (next (twin x))
              enters q = S.into (twin x) tb te q ∙ sym (swapped_first (twin t) (suc n) (next (twin x)) q)

              passes : (next (twin x) ≡ twin t → ⊥) → after (twin x) ≡ name (next (twin x))
              passes q = S.other (twin x) tb te q ∙ sym (name_old (next (twin x)) (omega (arith, F.below (twin x) tb)) q)

      first : x ≡ n → turn after (name x) ≡ name (paired x)
      first e =
          ap (turn after) (name_old x (omega arith) (omega (arith, other_way)) ∙ e) ∙ ap after (twin_first m) ∙ S.back
          ∙ sym (ap name (ap paired e ∙ paired_in.before) ∙ swapped_second (twin t) (suc n) (suc n) refl)

      second : x ≡ suc n → turn after (name x) ≡ name (paired x)
      second e =
          ap (turn after) (swapped_second (twin t) (suc n) x e) ∙ ap after (twin_twin t) ∙ S.at
          ∙ sym (ap name (ap paired e ∙ paired_in.after ∙ apart_in.fixed) ∙ name_old n last_below (omega (arith, other_way)))

  -- t's twin is called 2m + 1 at the post where it started
  pub split_names : (x : ℕ) → x < n → turn after (swapped (twin t) (suc n) x) ≡ swapped (twin t) (suc n) (turn next x)
  split_names x k = renames x (omega arith) ∙ ap name (paired_old x k)

  turn_after : OneToOne (turn after) N
  turn_after = turn_more after m split_one

  pub split_posts : orbits (turn after) N ≡ orbits (turn next) n + 1
  split_posts =
      omega (
        arith,
        renamed_orbits paired (turn after) name N paired_one turn_after name_below (swapped_twice (twin t) (suc n)) renames,
        inserted_orbits apart paired (suc n) n apart_one last_below paired_in,
        loose_orbits (turn next) apart n T apart_in,
      )

  -- so the plane equation stays
  pub split_plane : orbits (turn next) n + orbits next n ≡ m + 2 → orbits (turn after) N + orbits after N ≡ suc m + 2
  split_plane e = omega (arith, split_posts, split_faces)

  named_sum : (x : ℕ) → x < N → (w : ℕ → ℕ) → sum_over (orbit (turn after) N (name x)) w ≡ sum_over (orbit paired N x) (λ y. w (name y))
  named_sum = renamed_sum paired (turn after) name N paired_one turn_after name_below (swapped_twice (twin t) (suc n)) renames

  -- an old post has 2m + 1 in the place of t's twin
  pub split_post_old : (x : ℕ) → x < n → (w : ℕ → ℕ) → sum_over (orbit (turn after) N (name x)) w ≡ sum_over (orbit (turn next) n x) (λ y. w (name y))
  split_post_old x k w =
      omega (
        arith,
        named_sum x (omega arith) w,
        inserted_sum apart paired (suc n) n apart_one last_below paired_in x (omega arith) (λ y. w (name y)),
        off (lead_in apart (suc n) x) (lead_in apart (suc n) n) (w (name (suc n)))
            (λ e. omega (arith, e, loose_old (turn next) apart n T apart_in x k, loose_new (turn next) apart n T apart_in, lead_below (turn next) n T x k)),
        loose_sum (turn next) apart n T apart_in x k (λ y. w (name y)),
      )

  pub split_post_new : (w : ℕ → ℕ) → sum_over (orbit (turn after) N n) w ≡ w n + w (twin t)
  split_post_new w =
      ap (λ (x : ℕ). sum_over (orbit (turn after) N x) w) (sym (name_old n last_below (omega (arith, other_way))))
      ∙ omega (
        arith,
        named_sum n (omega arith) w,
        inserted_sum apart paired (suc n) n apart_one last_below paired_in n last_below (λ y. w (name y)),
        on (lead_in apart (suc n) n) (lead_in apart (suc n) n) (w (name (suc n))) refl,
        loose_alone (turn next) apart n T apart_in (λ y. w (name y)),
        ap w (name_old n last_below (omega (arith, other_way))),
        ap w (swapped_second (twin t) (suc n) (suc n) refl),
      )

  pub split_connected : Connected next n → Connected after N
  split_connected linked = connected_more next after m t linked split_one l S.at keeps
    where
      keeps : (s : ℕ → Bool) → ((x : ℕ) → x < N → s (after x) ≡ s x) → ((x : ℕ) → x < N → s (twin x) ≡ s x) → (x : ℕ) → x < n → s (next x) ≡ s x
      keeps s kept over x k = ⊎_elim here there (equal_or_not x t)
        where
          here : x ≡ t → s (next x) ≡ s x
          here e =
              ap (λ (y : ℕ). s (next y)) e
              ∙ ⊎_elim (λ q. ap s q ∙ over t (omega arith)) (λ q. ap s (sym (S.on q)) ∙ kept n (omega arith) ∙ ap s (sym S.at) ∙ kept t (omega arith)) (equal_or_not (next t) (twin t))
              ∙ ap s (sym e)

          there : (x ≡ t → ⊥) → s (next x) ≡ s x
          there e =
              ⊎_elim (λ q. ap s (q ∙ sym S.back) ∙ kept (suc n) (omega arith) ∙ ap s (sym (S.into x k e q)) ∙ kept x (omega arith))
              (λ q. ap s (sym (S.other x k e q)) ∙ kept x (omega arith)) (equal_or_not (next x) (twin t))

  module _ (angle angles : ℕ → ℕ) (a o : ℕ) (A : SplitAngles angle angles m t a) (least : 1 ≤ a) (most : a ≤ 3)
      (straight : (lead_in next n t ≡ lead_in next n (twin t) → ⊥) → a ≡ 2) (M : RightOn next angle m o n) where
    -- a face has the new corners more
    pub split_corners : (d : ℕ) → d < n → sum_over (orbit after N d) angles ≡ sum_over (orbit next n d) angle + when (eqb (lead_in next n d) (lead_in next n t)) a + when (eqb (lead_in next n d) (lead_in next n (twin t))) (4 - a)
    split_corners d k =
        omega (
          arith,
          split_sum d k angles,
          sum_but next n F t l angles angle A.other d k,
          ap (when (eqb (lead_in next n d) (lead_in next n t))) A.on,
          ap (when (eqb (lead_in next n d) (lead_in next n t))) A.at,
          ap (when (eqb (lead_in next n d) (lead_in next n (twin t)))) A.back,
        )

    -- the new corners are two quarters each, or in one face
    two_each : (d : ℕ) → when (eqb (lead_in next n d) (lead_in next n t)) a + when (eqb (lead_in next n d) (lead_in next n (twin t))) (4 - a)
        ≡ when (eqb (lead_in next n d) (lead_in next n t)) 2 + when (eqb (lead_in next n d) (lead_in next n (twin t))) 2
    two_each d = ⊎_elim together (λ e. let q : a ≡ 2 = straight e in ap (λ (b : ℕ). when (eqb (lead_in next n d) (lead_in next n t)) b + when (eqb (lead_in next n d) (lead_in next n (twin t))) (4 - b)) q) (equal_or_not (lead_in next n t) (lead_in next n (twin t)))
      where
        together : lead_in next n t ≡ lead_in next n (twin t) → when (eqb (lead_in next n d) (lead_in next n t)) a + when (eqb (lead_in next n d) (lead_in next n (twin t))) (4 - a)
            ≡ when (eqb (lead_in next n d) (lead_in next n t)) 2 + when (eqb (lead_in next n d) (lead_in next n (twin t))) 2
        together e =
            ⊎_elim
            (λ q. omega (arith, on (lead_in next n d) (lead_in next n t) a q, on (lead_in next n d) (lead_in next n (twin t)) (4 - a) (q ∙ e), on (lead_in next n d) (lead_in next n t) 2 q, on (lead_in next n d) (lead_in next n (twin t)) 2 (q ∙ e)))
            (λ q. omega (arith, off (lead_in next n d) (lead_in next n t) a q, off (lead_in next n d) (lead_in next n (twin t)) (4 - a) (λ h. q (h ∙ sym e)), off (lead_in next n d) (lead_in next n t) 2 q, off (lead_in next n d) (lead_in next n (twin t)) 2 (λ h. q (h ∙ sym e))))
            (equal_or_not (lead_in next n d) (lead_in next n t))

    bounds : (d : ℕ) → d < N → (1 ≤ angles d) × (angles d ≤ 4)
    bounds d k =
        at_new m d k
        (λ b. ⊎_elim (λ e. omega (arith, ap angles e ∙ A.at)) (λ e. omega (arith, A.other d b e, M.least d b, M.most d b)) (equal_or_not d t))
        (λ e. omega (arith, ap angles e ∙ A.on, M.least t l, M.most t l))
        (λ e. omega (arith, ap angles e ∙ A.back))

    post_old : (x : ℕ) → x < n → sum_over (orbit (turn after) N (name x)) (λ e. angles (twin e)) ≡ 4
    post_old x k =
        split_post_old x k (λ e. angles (twin e))
        ∙ sum_over_same (orbit (turn next) n x) (λ y. angles (twin (name y))) (λ y. angle (twin y)) (λ y h. same y (orbit_below (turn next) n T x k y h))
        ∙ M.posts x k
      where
        same : (y : ℕ) → y < n → angles (twin (name y)) ≡ angle (twin y)
        same y b =
            ⊎_elim (λ e. ap (λ (z : ℕ). angles (twin z)) (swapped_first (twin t) (suc n) y e) ∙ ap angles (twin_second m) ∙ A.on ∙ ap angle (sym (ap twin e ∙ twin_twin t)))
            (λ e. ap (λ (z : ℕ). angles (twin z)) (name_old y (omega arith) e) ∙ A.other (twin y) (twin_below m y b) (λ q. e (sym (twin_twin y) ∙ ap twin q)))
            (equal_or_not y (twin t))

    post_new : sum_over (orbit (turn after) N n) (λ e. angles (twin e)) ≡ 4
    post_new = split_post_new (λ e. angles (twin e)) ∙ omega (arith, ap angles (twin_first m) ∙ A.back, ap angles (twin_twin t) ∙ A.at)

    posts : (d : ℕ) → d < N → sum_over (orbit (turn after) N d) (λ e. angles (twin e)) ≡ 4
    posts d k =
        at_new m d k
        (λ b. ⊎_elim
        (λ e. sum_lead (turn after) N turn_after d n k (omega arith) (ap (lead_in (turn after) N) (e ∙ sym S.back ∙ ap after (sym (twin_first m))) ∙ lead_next (turn after) N turn_after n (omega arith)) (λ e. angles (twin e)) ∙ post_new)
        (λ e. ap (λ (x : ℕ). sum_over (orbit (turn after) N x) (λ e. angles (twin e))) (sym (name_old d (omega arith) e)) ∙ post_old d b)
        (equal_or_not d (twin t)))
        (λ e. ap (λ (x : ℕ). sum_over (orbit (turn after) N x) (λ e. angles (twin e))) e ∙ post_new)
        (λ e. ap (λ (x : ℕ). sum_over (orbit (turn after) N x) (λ e. angles (twin e))) (e ∙ sym (swapped_first (twin t) (suc n) (twin t) refl)) ∙ post_old (twin t) other_way)

    pub split_on : RightOn after angles (suc m) o N
    split_on =
        record {
          one = split_one;
          linked = split_connected M.linked;
          plane = split_plane M.plane;
          outside = omega (arith, M.outside);
          least = λ d k. (bounds d k).0;
          most = λ d k. (bounds d k).1;
          posts = posts;
          inner =
              at_all after m t (twin t) l other_way (split_lead_on ∙ sym (split_lead t l)) (split_lead_back ∙ sym (split_lead (twin t) other_way))
              (λ d. (lead_in after N d ≡ lead_in after N o → ⊥) → Rounded after angles N d)
              (λ x y k h e p out. omega (arith, p (λ q. out (e ∙ q)), sum_lead after N split_one x y k h e angles, sum_lead after N split_one x y k h e (λ z. 2)))
              (λ d k out. omega (arith, split_corners d k, split_sum d k (λ z. 2), two_each d, M.inner d k (λ q. out (split_lead d k ∙ q ∙ sym (split_lead o M.outside)))));
          outer = omega (arith, split_corners o M.outside, split_sum o M.outside (λ z. 2), two_each o, M.outer);
        }

-- a right-angled map stays so, if the edge is split straight, or has one face on both sides
pub split_right : (next after angle angles : ℕ → ℕ) (m t a o : ℕ) → RightAngled next angle m o → t < 2 * m → Split next after m t → SplitAngles angle angles m t a → 1 ≤ a → a ≤ 3
    → ((lead_in next (2 * m) t ≡ lead_in next (2 * m) (twin t) → ⊥) → a ≡ 2) → RightAngled after angles (suc m) o
split_right next after angle angles m t a o M l S A least most straight =
    right_of after angles (suc m) o (suc (suc (2 * m))) (sym (size m)) (split_on next after m t M.one l S angle angles a o A least most straight (right_on next angle m o M))
