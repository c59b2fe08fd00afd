-- Two corners of one face joined by a strip: the definition holds the table, and an accepted plate stays one, with that face in two.
use mathlib.Core.Path.{◌≡◌, refl, sym, ap, subst, ◌∙◌}
use mathlib.Core.Bool.{Bool, true, false}
use mathlib.Core.List.{List, [], ◌∷◌, ◌++◌, append-nil}
use mathlib.Core.Logic.{⊎_elim}
use Prim.Native.Nat.{ℕ, suc, ◌+◌, ◌≤◌, ◌<◌}
use native.Mathlib.Omega.{arith}
use borrow.Author.Tests.{eq-eqb, ne_eqb}
use lib.Dec.{eqb}
use lib.ListN.{length}
use Rattle.finite.proofs.Tests.{equal_or_not}
use Rattle.finite.proofs.Orbit.{lead_in}
use Rattle.maps.specs.Maps.{orbits}
use Rattle.embedding.specs.Plates.{pick, when, is_in, Plate, darts, twin, leaves, ends_at, degree, part_of, distinct, all_below, after, faces, connected}
use Rattle.embedding.specs.Read.{lead}
use Rattle.embedding.specs.Edits.{laid, put_before, join, taken, JoinTable}
use Rattle.embedding.proofs.Rotation.{Ordered, twin_dart, twin_one, part_leaves, part_members, part_distinct, own_part, after_one_to_one, round_before}
use Rattle.embedding.proofs.Totals.{ends_at_below}
use Rattle.embedding.proofs.Faultless.{Faultless}
use Rattle.embedding.proofs.Degrees.{faultless_of, degree_most}
use Rattle.embedding.proofs.Placing.{put_members, put_distinct, put_count, put_is_in, put_out, round_put, round_new, round_else}
use Rattle.embedding.proofs.Rows.{laid_long, part_laid, before_all, ordered_from}
use Rattle.embedding.proofs.Spread.{connected_from}
use Rattle.embedding.proofs.Surgery.{Divided, faces_orbits, lead_orbit, join_law}
use Rattle.embedding.proofs.Grown.{count_on, count_off, after_at, grown_darts, grown_even, old_leaves, first_leaves, second_leaves, twin_first, twin_second, old_ends, first_ends, second_ends, grown_degree, grown_below, grown_spread, not_in_part, put_degree}

pub taken_both : (p : Plate) (d e : ℕ) → ends_at p d ≡ ends_at p e → taken p d e ≡ 2
taken_both p d e w = ap {B = ℕ} (λ (c : Bool). pick c 2 1) (eq-eqb (ends_at p d) (ends_at p e) w)

pub taken_one : (p : Plate) (d e : ℕ) → (ends_at p d ≡ ends_at p e → ⊥) → taken p d e ≡ 1
taken_one p d e w = ap {B = ℕ} (λ (c : Bool). pick c 2 1) (ne_eqb (ends_at p d) (ends_at p e) w)

module _ (p : Plate) (o : Ordered p) (d e : ℕ) (l : d < darts p) (k : e < darts p) where
  abbrev K : ℕ
  K = darts p

  abbrev n : ℕ
  n = p.posts

  abbrev a : ℕ
  a = ends_at p d

  abbrev b : ℕ
  b = ends_at p e

  abbrev t : ℕ
  t = twin d

  abbrev s : ℕ
  s = twin e

  al : a < n
  al = ends_at_below p o d l

  bl : b < n
  bl = ends_at_below p o e k

  tl : t < K
  tl = twin_dart p o d l

  sl : s < K
  sl = twin_dart p o e k

  abbrev inner : ℕ → List ℕ
  inner v = put_before s (suc K) (part_of p v)

  abbrev row : ℕ → List ℕ
  row v = put_before t K (inner v)

  t_inner : (v : ℕ) → is_in t (inner v) ≡ is_in t (part_of p v)
  t_inner v = put_is_in s (suc K) (part_of p v) t (omega (arith, tl))

  t_there : is_in t (inner a) ≡ true
  t_there = t_inner a ∙ own_part p o t tl

  K-out : (v : ℕ) → v < n → is_in K (inner v) ≡ false
  K-out v j = put_out s (suc K) (part_of p v) K (omega arith) (not_in_part p o v j K (omega arith))

  row_degree : (v : ℕ) → v < n → length (row v) ≡ degree p v + when (eqb v a) 1 + when (eqb v b) 1
  row_degree v j =
      omega (arith, put_count t K (inner v), put_degree p o v j s (suc K) sl, ap (λ (c : Bool). when c 1) (t_inner v ∙ part_members p o v j t tl))

  -- the definition holds the table
  row_long : (v : ℕ) → v < n → length (row v) ≡ degree (join p d e) v
  row_long v j = omega (arith, row_degree v j, grown_degree p (join p d e) a b o.even refl v)

  pub join_table : JoinTable p d e (join p d e)
  join_table =
      record {
        same_posts = refl;
        strip_ends = refl;
        old_order = part_laid (join p d e) row n [] (sym (append-nil (laid n row))) row_long;
        order_long =
            omega (
              arith,
              laid_long (join p d e) row n row_long,
              before_all (join p d e) (grown_below p (join p d e) a b o.even refl n n (omega arith) o.ends_below al bl),
            );
        same_outer = refl;
      }

  -- a plate that holds the table
  module _ (apart : d ≡ e → ⊥) (together : lead p d ≡ lead p e) (q : Plate) (h : JoinTable p d e q) where
    abbrev z : q.ends ≡ p.ends ++ (a ∷ (b ∷ []))
    z = h.strip_ends

    darts_now : darts q ≡ suc (suc K)
    darts_now = grown_darts p q a b o.even z

    below : all_below q.posts q.ends ≡ true
    below = grown_below p q a b o.even z n q.posts (omega (arith, h.same_posts)) o.ends_below (omega (arith, al, h.same_posts)) (omega (arith, bl, h.same_posts))

    twins_apart : t ≡ s → ⊥
    twins_apart w = apart (twin_one d e w)

    pub join_ordered : Ordered q
    join_ordered =
        ordered_from q below (grown_even p q a b o.even z) h.order_long
        (λ v j x i. old v (omega (arith, h.same_posts)) x (subst (λ (ds : List ℕ). is_in x ds ≡ true) (h.old_order v (omega (arith, h.same_posts))) i))
        (λ v j. subst (λ (ds : List ℕ). distinct ds ≡ true) (sym (h.old_order v (omega (arith, h.same_posts)))) (once v (omega (arith, h.same_posts))))
      where
        old : (v : ℕ) → v < n → (x : ℕ) → is_in x (row v) ≡ true → (x < darts q) × (leaves q x ≡ v)
        old v j x i =
            ⊎_elim
            (λ w. (omega (arith, darts_now), ap (leaves q) w.0 ∙ first_leaves p q a b o.even z ∙ (part_leaves p o v j t (sym (t_inner v) ∙ w.1)).1))
            (λ w. ⊎_elim
            (λ y. (omega (arith, darts_now), ap (leaves q) y.0 ∙ second_leaves p q a b o.even z ∙ (part_leaves p o v j s y.1).1))
            (λ y. let at_x = part_leaves p o v j x y in (omega (arith, darts_now), old_leaves p q a b o.even z x at_x.0 ∙ at_x.1))
            (put_members s (suc K) (part_of p v) x w))
            (put_members t K (inner v) x i)

        once : (v : ℕ) → v < n → distinct (row v) ≡ true
        once v j = put_distinct t K (inner v) (put_distinct s (suc K) (part_of p v) (part_distinct p o v j) (not_in_part p o v j (suc K) (omega arith))) (K-out v j)

    -- the dart before x in the order of post v
    at_post : (v : ℕ) → v < n → (x : ℕ) → round_before (part_of q v) x ≡ round_before (row v) x
    at_post v j x = ap (λ (ds : List ℕ). round_before ds x) (h.old_order v j)

    join_from : after q d ≡ K
    join_from = after_at q d a t (old_ends p q a b o.even z d l) refl ∙ at_post a al t ∙ round_put t K (inner a) t_there (omega (arith, tl))

    join_to : after q K ≡ after p e
    join_to =
        after_at q K b (suc K) (first_ends p q a b o.even z) (twin_first p q a b o.even z) ∙ at_post b bl (suc K)
        ∙ round_else t K (inner b) (suc K) (omega (arith, tl)) (omega arith)
        ∙ round_new s (suc K) (part_of p b) (own_part p o s sl) (not_in_part p o b bl (suc K) (omega arith))

    join_back_from : after q e ≡ suc K
    join_back_from =
        after_at q e b s (old_ends p q a b o.even z e k) refl ∙ at_post b bl s
        ∙ round_else t K (inner b) s (λ w. twins_apart (sym w)) (omega (arith, sl))
        ∙ round_put s (suc K) (part_of p b) (own_part p o s sl) (omega (arith, sl))

    join_back_to : after q (suc K) ≡ after p d
    join_back_to =
        after_at q (suc K) a K (second_ends p q a b o.even z) (twin_second p q a b o.even z) ∙ at_post a al K
        ∙ round_new t K (inner a) t_there (K-out a al)
        ∙ round_else s (suc K) (part_of p a) t twins_apart (omega (arith, tl))

    join_other : (x : ℕ) → x < K → (x ≡ d → ⊥) → (x ≡ e → ⊥) → after q x ≡ after p x
    join_other x j m i =
        after_at q x (ends_at p x) (twin x) (old_ends p q a b o.even z x j) refl ∙ at_post (ends_at p x) (ends_at_below p o x j) (twin x)
        ∙ round_else t K (inner (ends_at p x)) (twin x) (λ w. m (twin_one x d w)) (omega (arith, twin_dart p o x j))
        ∙ round_else s (suc K) (part_of p (ends_at p x)) (twin x) (λ w. i (twin_one x e w)) (omega (arith, twin_dart p o x j))

    law : Divided (after p) (after q) K
    law =
        join_law (after p) (after q) d e K o.even (after_one_to_one p o) l k apart (sym (lead_orbit p d) ∙ together ∙ lead_orbit p e)
        join_from join_to join_back_from join_back_to join_other

    lead_now : (x : ℕ) → lead q x ≡ lead_in (after q) (suc (suc K)) x
    lead_now x = lead_orbit q x ∙ ap (λ (j : ℕ). lead_in (after q) j x) darts_now

    -- one face more
    pub join_faces : length (faces q) ≡ length (faces p) + 1
    join_faces = faces_orbits q ∙ ap (orbits (after q)) darts_now ∙ law.0 ∙ ap (λ (c : ℕ). c + 1) (sym (faces_orbits p))

    -- darts that are in one face now were in one
    pub join_finer : (x y : ℕ) → x < K → y < K → lead q x ≡ lead q y → lead p x ≡ lead p y
    join_finer x y i j w = lead_orbit p x ∙ law.1 x y i j (sym (lead_now x) ∙ w ∙ lead_now y) ∙ sym (lead_orbit p y)

    join_connected : connected p ≡ true → connected q ≡ true
    join_connected c =
        connected_from q below (omega (arith, al, h.same_posts))
        (λ S root closed v j. grown_spread p q a b o.even z o.ends_below c S root closed v (omega (arith, h.same_posts)))

    pub join_faultless : Faultless p → degree p a + taken p d e ≤ 4 → degree p b + taken p d e ≤ 4 → Faultless q
    join_faultless f room-a room-b =
        faultless_of q join_ordered (omega (arith, al, h.same_posts)) (omega (arith, h.same_posts, f.posts_most)) (omega (arith, darts_now)) four
        (omega (arith, darts_now, h.same_outer, f.outer_dart)) (join_connected f.is_connected) (omega (arith, h.same_posts, darts_now, join_faces, f.euler, o.even))
      where
        four : (v : ℕ) → v < q.posts → degree q v ≤ 4
        four v j =
            ⊎_elim
            (λ x. ⊎_elim
            (λ y. omega (arith, now, count_on v a x, count_on v b y, ap (degree p) x, taken_both p d e ((sym x ∙ y))))
            (λ y. omega (arith, now, count_on v a x, count_off v b y, ap (degree p) x, taken_one p d e ((λ w. y (x ∙ w)))))
            (equal_or_not v b))
            (λ x. ⊎_elim
            (λ y. omega (arith, now, count_off v a x, count_on v b y, ap (degree p) y, taken_one p d e ((λ w. x (y ∙ sym w)))))
            (λ y. omega (arith, now, count_off v a x, count_off v b y, degree_most p f v (omega (arith, h.same_posts))))
            (equal_or_not v b))
            (equal_or_not v a)
          where
            now : degree q v ≡ degree p v + when (eqb v a) 1 + when (eqb v b) 1
            now = grown_degree p q a b o.even z v
