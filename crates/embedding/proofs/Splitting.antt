-- A strip split by a new post: the definition holds the table, and an accepted plate stays one, with the faces as before.
use mathlib.Core.Path.{◌≡◌, refl, sym, ap, subst, ◌∙◌}
use mathlib.Core.Bool.{Bool, true}
use mathlib.Core.List.{List, [], ◌∷◌, ◌++◌}
use mathlib.Core.Logic.{⊎_elim}
use Prim.Native.Nat.{ℕ, zero, suc, ◌+◌, ◌*◌, ◌%◌, ◌<◌}
use native.Mathlib.Omega.{arith}
use borrow.Author.Tests.{lt-ltb}
use lib.Dec.{eqb, ltb}
use lib.ListN.{length, get_or, set, length-set, length-append}
use lib.Seq.{get_or-set_same, get_or-set_other}
use Rattle.finite.proofs.Members.{in_none, in_cases, distinct_more}
use Rattle.finite.proofs.Tests.{equal_or_not, not_true_false, each_over}
use Rattle.finite.proofs.Orbit.{lead_in}
use Rattle.maps.specs.Maps.{orbits}
use Rattle.embedding.specs.Plates.{when, is_in, Plate, plate, darts, twin, leaves, ends_at, degree_from, degree, part_of, distinct, all_below, after, faces, connected}
use Rattle.embedding.specs.Read.{lead}
use Rattle.embedding.specs.Edits.{laid, rename, renamed, split, SplitTable}
use Rattle.embedding.proofs.Rotation.{Ordered, twin_even, twin_odd, twin_twin, twin_dart, length_part, part_leaves, part_distinct, own_part, leaves_below, after_one_to_one, round_before, before_here, before_on}
use Rattle.embedding.proofs.Reach.{spreads}
use Rattle.embedding.proofs.Totals.{ends_at_below}
use Rattle.embedding.proofs.Faultless.{Faultless}
use Rattle.embedding.proofs.Degrees.{faultless_of, degree_most}
use Rattle.embedding.proofs.Placing.{rename_at, rename_other, renamed_long, renamed_members, renamed_distinct, round_renamed}
use Rattle.embedding.proofs.Rows.{laid_long, part_laid, part_rest, before_all, ordered_from}
use Rattle.embedding.proofs.Spread.{Closed, connected_from}
use Rattle.embedding.proofs.Surgery.{Kept, faces_orbits, lead_orbit, split_law}
use Rattle.embedding.proofs.Grown.{count_on, count_off, after_at, grown_darts, old_leaves, first_leaves, second_leaves, grown_degree, grown_below, degree_none, not_in_part}
use Rattle.embedding.proofs.Hanging.{at_post}

-- one end of a list of ends changed
degree_set : (v : ℕ) (es : List ℕ) (i w : ℕ) → i < length es → degree_from v (set es i w) + when (eqb v (get_or es i 0)) 1 ≡ degree_from v es + when (eqb v w) 1
degree_set v [] i w l = absurd (omega arith)
degree_set v (e ∷ es) zero w l = omega arith
degree_set v (e ∷ es) (suc i) w l = omega (arith, degree_set v es i w (omega arith))

below_set : (k : ℕ) (es : List ℕ) (i w : ℕ) → ((j : ℕ) → j < length es → get_or es j 0 < k) → w < k → (j : ℕ) → j < length es → get_or (set es i w) j 0 < k
below_set k es i w h l j m =
    ⊎_elim (λ q. subst (λ (x : ℕ). x < k) (sym (ap (λ (u : ℕ). get_or (set es i w) u 0) q ∙ get_or-set_same es i w 0 (omega arith))) l)
    (λ q. subst (λ (x : ℕ). x < k) (sym (get_or-set_other es i j w 0 q)) (h j m))
    (equal_or_not j i)

all-below : (k : ℕ) (es : List ℕ) → ((j : ℕ) → j < length es → get_or es j 0 < k) → all_below k es ≡ true
all-below k es h = each_over (all_below k) (λ x. ltb x k) refl (λ x xs. refl) es (λ j l. lt-ltb (get_or es j 0) k (h j l))

module _ (p : Plate) (o : Ordered p) (s : ℕ) (l : suc (2 * s) < darts p) where
  abbrev K : ℕ
  K = darts p

  abbrev n : ℕ
  n = p.posts

  -- the dart that now ends at the new post, its twin, and where it ended
  abbrev f : ℕ
  f = 2 * s

  abbrev back : ℕ
  back = suc (2 * s)

  abbrev b : ℕ
  b = leaves p back

  twin_f : twin f ≡ back
  twin_f = twin_even f (omega arith)

  twin_back : twin back ≡ f
  twin_back = omega (arith, twin_odd back (omega arith))

  fl : f < K
  fl = omega arith

  bl : b < n
  bl = leaves_below p o back l

  -- the first half: strip s ends at n
  abbrev p₁ : Plate
  p₁ = plate n (set p.ends back n) p.order p.outer

  K₁ : darts p₁ ≡ K
  K₁ = length-set p.ends back n

  even₁ : darts p₁ % 2 ≡ 0
  even₁ = omega (arith, K₁, o.even)

  below₁ : all_below (suc n) (set p.ends back n) ≡ true
  below₁ = all-below (suc n) (set p.ends back n) (λ j m. below_set (suc n) p.ends back n (λ i k. omega (arith, leaves_below p o i k)) (omega arith) j (omega (arith, K₁)))

  -- a plate with these ends
  module _ (q : Plate) (e : q.ends ≡ set p.ends back n ++ (n ∷ (b ∷ []))) where
    darts_now : darts q ≡ suc (suc K)
    darts_now = omega (arith, grown_darts p₁ q n b even₁ e, K₁)

    even_now : darts q % 2 ≡ 0
    even_now = omega (arith, darts_now, o.even)

    leaves_back : leaves q back ≡ n
    leaves_back = old_leaves p₁ q n b even₁ e back (omega (arith, K₁)) ∙ get_or-set_same p.ends back n 0 l

    leaves_old : (x : ℕ) → x < K → (x ≡ back → ⊥) → leaves q x ≡ leaves p x
    leaves_old x k m = old_leaves p₁ q n b even₁ e x (omega (arith, K₁)) ∙ get_or-set_other p.ends back x n 0 m

    leaves_first : leaves q K ≡ n
    leaves_first = ap (leaves q) (sym K₁) ∙ first_leaves p₁ q n b even₁ e

    leaves_second : leaves q (suc K) ≡ b
    leaves_second = ap (λ (j : ℕ). leaves q (suc j)) (sym K₁) ∙ second_leaves p₁ q n b even₁ e

    degree_old : (v : ℕ) → v < n → degree q v ≡ degree p v
    degree_old v k = omega (arith, grown_degree p₁ q n b even₁ e v, degree_set v p.ends back n l, count_off v n (omega arith))

    degree_new : degree q n ≡ 2
    degree_new =
        omega (arith, grown_degree p₁ q n b even₁ e n, degree_set n p.ends back n l, count_on n n refl, count_off n b (omega (arith, bl)), degree_none p o n (omega arith))

    below : (k : ℕ) → k ≡ suc n → all_below k q.ends ≡ true
    below k z = grown_below p₁ q n b even₁ e (suc n) k (omega arith) below₁ (omega arith) (omega (arith, bl))

  -- the definition holds the table
  abbrev row : ℕ → List ℕ
  row v = renamed back (suc K) (part_of p v)

  row_long : (v : ℕ) → v < n → length (row v) ≡ degree (split p s) v
  row_long v k = renamed_long back (suc K) (part_of p v) ∙ length_part p o v ∙ sym (degree_old (split p s) refl v k)

  pub split_table : SplitTable p s (split p s)
  split_table =
      record {
        one_post = refl;
        strip_ends = refl;
        old_order = part_laid (split p s) row n (back ∷ (K ∷ [])) refl row_long;
        new_order = part_rest (split p s) row n (back ∷ (K ∷ [])) refl row_long (sym (degree_new (split p s) refl));
        order_long =
            omega (arith, length-append (laid n row) (back ∷ (K ∷ [])), laid_long (split p s) row n row_long, degree_new (split p s) refl, before_all (split p s) (below (split p s) refl (suc n) refl));
        same_outer = refl;
      }

  -- a plate that holds the table
  module _ (q : Plate) (h : SplitTable p s q) where
    abbrev e : q.ends ≡ set p.ends back n ++ (n ∷ (b ∷ []))
    e = h.strip_ends

    now : darts q ≡ suc (suc K)
    now = darts_now q e

    K-back : back ≡ K → ⊥
    K-back z = omega arith

    pub split_ordered : Ordered q
    split_ordered =
        ordered_from q (below q e q.posts h.one_post) (even_now q e) h.order_long
        (λ v k x i. at_post n v (omega (arith, h.one_post)) (λ j. old v j x (subst (λ (ds : List ℕ). is_in x ds ≡ true) (h.old_order v j) i))
        (λ j. new v j x (subst (λ (ds : List ℕ). is_in x ds ≡ true) (ap (part_of q) j ∙ h.new_order) i)))
        (λ v k. at_post n v (omega (arith, h.one_post)) (λ j. subst (λ (ds : List ℕ). distinct ds ≡ true) (sym (h.old_order v j)) (renamed_distinct back (suc K) (part_of p v) (part_distinct p o v j) (not_in_part p o v j (suc K) (omega arith))))
        (λ j. subst (λ (ds : List ℕ). distinct ds ≡ true) (sym (ap (part_of q) j ∙ h.new_order)) two_apart))
      where
        old : (v : ℕ) → v < n → (x : ℕ) → is_in x (row v) ≡ true → (x < darts q) × (leaves q x ≡ v)
        old v j x i =
            let (y, m, z) = renamed_members back (suc K) (part_of p v) x i in
            let at_y = part_leaves p o v j y m in
            ⊎_elim
            (λ w. let there : x ≡ suc K = z ∙ rename_at back (suc K) y w in
            (omega (arith, now), ap (leaves q) there ∙ leaves_second q e ∙ ap (leaves p) w ∙ at_y.1))
            (λ w. let there : x ≡ y = z ∙ rename_other back (suc K) y w in
            (omega (arith, now, at_y.0), ap (leaves q) there ∙ leaves_old q e y at_y.0 (λ c. w (sym c)) ∙ at_y.1))
            (equal_or_not back y)

        new : (v : ℕ) → v ≡ n → (x : ℕ) → is_in x (back ∷ (K ∷ [])) ≡ true → (x < darts q) × (leaves q x ≡ v)
        new v j x i =
            ⊎_elim (λ z. (omega (arith, now), ap (leaves q) z ∙ leaves_back q e ∙ sym j))
            (λ y. ⊎_elim (λ z. (omega (arith, now), ap (leaves q) z ∙ leaves_first q e ∙ sym j)) (λ z. absurd (in_none x z)) (in_cases x K [] y))
            (in_cases x back (K ∷ []) i)

        two_apart : distinct (back ∷ (K ∷ [])) ≡ true
        two_apart =
            distinct_more back (K ∷ []) (not_true_false (is_in back (K ∷ [])) (λ i. ⊎_elim K-back (λ z. in_none back z) (in_cases back K [] i))) refl

    -- where darts end now
    ends_f : ends_at q f ≡ n
    ends_f = ap (leaves q) twin_f ∙ leaves_back q e

    twin_K : twin K ≡ suc K
    twin_K = twin_even K o.even

    twin_s_k : twin (suc K) ≡ K
    twin_s_k = omega (arith, twin_odd (suc K) (omega (arith, o.even)))

    -- the dart after each dart
    split_at : after q f ≡ K
    split_at =
        after_at q f n back ends_f twin_f ∙ ap (λ (ds : List ℕ). round_before ds back) h.new_order ∙ before_here back K back (K ∷ []) refl

    split_back : after q (suc K) ≡ twin f
    split_back =
        after_at q (suc K) n K (ap (leaves q) twin_s_k ∙ leaves_first q e) twin_s_k ∙ ap (λ (ds : List ℕ). round_before ds K) h.new_order
        ∙ before_on K K back (K ∷ []) (λ z. K-back (sym z)) ∙ before_here K back K [] refl ∙ sym twin_f

    -- where x's twin stands in its old place, the dart after x is the old one, renamed
    split_renamed : (x y v : ℕ) → y < K → leaves p y ≡ v → v < n → ends_at q x ≡ v → twin x ≡ rename back (suc K) y → after q x ≡ rename back (suc K) (round_before (part_of p v) y)
    split_renamed x y v k m j z w =
        after_at q x v (rename back (suc K) y) z w ∙ ap (λ (ds : List ℕ). round_before ds (rename back (suc K) y)) (h.old_order v j)
        ∙ round_renamed back (suc K) (part_of p v) y (subst (λ (u : ℕ). is_in y (part_of p u) ≡ true) m (own_part p o y k)) (not_in_part p o v j (suc K) (omega arith))

    after_K : after q K ≡ rename back (suc K) (after p f)
    after_K =
        split_renamed K back b l refl bl (ap (leaves q) twin_K ∙ leaves_second q e) (twin_K ∙ sym (rename_at back (suc K) back refl))
        ∙ ap (rename back (suc K)) (sym (after_at p f b back (ap (leaves p) twin_f) twin_f))

    after_else : (x : ℕ) → x < K → (x ≡ f → ⊥) → after q x ≡ rename back (suc K) (after p x)
    after_else x k m =
        let ne : twin x ≡ back → ⊥ = λ z. m (sym (twin_twin x) ∙ ap twin z ∙ twin_back) in
        split_renamed x (twin x) (ends_at p x) (twin_dart p o x k) refl (ends_at_below p o x k) (leaves_old q e (twin x) (twin_dart p o x k) ne)
        (sym (rename_other back (suc K) (twin x) (λ z. ne (sym z))))

    law : Kept (after p) (after q) K
    law =
        split_law (after p) (after q) f K o.even (after_one_to_one p o) fl split_at
        (λ m. after_K ∙ rename_other back (suc K) (after p f) (λ z. m (sym z ∙ sym twin_f)))
        (λ m. after_K ∙ rename_at back (suc K) (after p f) (sym twin_f ∙ sym m))
        split_back
        (λ x k m z. after_else x k m ∙ rename_at back (suc K) (after p x) (sym twin_f ∙ sym z))
        (λ x k m z. after_else x k m ∙ rename_other back (suc K) (after p x) (λ c. z (sym c ∙ sym twin_f)))

    -- as many faces, and each dart in the face of the same lowest dart
    pub split_faces : length (faces q) ≡ length (faces p)
    split_faces = faces_orbits q ∙ ap (orbits (after q)) now ∙ law.0 ∙ sym (faces_orbits p)

    pub split_lead : (x : ℕ) → x < K → lead q x ≡ lead p x
    split_lead x k = lead_orbit q x ∙ ap (λ (j : ℕ). lead_in (after q) j x) now ∙ law.1 x k ∙ sym (lead_orbit p x)

    split_connected : connected p ≡ true → connected q ≡ true
    split_connected c = connected_from q (below q e q.posts h.one_post) (omega (arith, h.one_post)) spread
      where
        spread : (S : ℕ → Bool) → S 0 ≡ true → Closed S q.ends → (v : ℕ) → v < q.posts → S v ≡ true
        spread S root closed v k = at_post n v (omega (arith, h.one_post)) (old v) (λ j. ap S j ∙ sym first ∙ old (leaves p f) (leaves_below p o f fl))
          where
            first : S (leaves p f) ≡ S n
            first = ap S (sym (leaves_old q e f fl (omega arith))) ∙ closed f (omega arith) (omega (arith, now)) ∙ ap S (leaves_back q e)

            second : S n ≡ S b
            second = ap S (sym (leaves_first q e)) ∙ closed K o.even (omega (arith, now)) ∙ ap S (leaves_second q e)

            same : (i : ℕ) → i % 2 ≡ 0 → suc i < K → S (leaves p i) ≡ S (leaves p (suc i))
            same i z m =
                ⊎_elim (λ w. ap (λ (j : ℕ). S (leaves p j)) w ∙ first ∙ second ∙ ap (λ (j : ℕ). S (leaves p (suc j))) (sym w))
                (λ w. ap S (sym (leaves_old q e i (omega arith) (omega arith))) ∙ closed i z (omega (arith, now)) ∙ ap S (leaves_old q e (suc i) m (omega arith)))
                (equal_or_not i f)

            old : (v : ℕ) → v < n → S v ≡ true
            old = spreads p (λ u. S u ≡ true) o.ends_below c root (λ i z m. (λ w. sym (same i z m) ∙ w, λ w. same i z m ∙ w))

    pub split_faultless : Faultless p → n < 64 → Faultless q
    split_faultless g few =
        faultless_of q split_ordered (omega (arith, h.one_post)) (omega (arith, h.one_post)) (omega (arith, now))
        (λ v k. at_post n v (omega (arith, h.one_post)) (λ j. omega (arith, degree_old q e v j, degree_most p g v j)) (λ j. omega (arith, ap (degree q) j, degree_new q e)))
        (omega (arith, now, h.same_outer, g.outer_dart)) (split_connected g.is_connected) (omega (arith, h.one_post, now, split_faces, g.euler, o.even))
