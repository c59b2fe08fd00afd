-- The dual of a connected plate is connected: what passes from each dart to the next of its face and to its twin passes round each post, and so from post to post to all darts.
use mathlib.Core.Path.{◌≡◌, refl, sym, ap, subst, ◌∙◌}
use mathlib.Core.Bool.{Bool, true}
use mathlib.Core.List.{List, [], ◌∷◌}
use mathlib.Core.Logic.{⊎_elim}
use Prim.Native.Nat.{ℕ, suc, ◌%◌, ◌<◌}
use native.Mathlib.Omega.{arith}
use Rattle.finite.proofs.Members.{in_none, in_here, in_one, in_more, in_cases, distinct_head, distinct_rest}
use Rattle.finite.proofs.Tests.{not_both, same_test}
use Rattle.embedding.specs.Plates.{is_in, Plate, darts, twin, leaves, part_of, distinct, last_of, just_before, after, connected}
use Rattle.embedding.proofs.Rotation.{Ordered, twin_twin, twin_even, twin_dart, before_here, before_on, round_before, leaves_below, own_part, part_distinct, part_leaves}
use Rattle.embedding.proofs.Reach.{spreads}

-- round a list of distinct elements a step back at a time: from one to all
module _ (P : ℕ → Type 0) where
  past_first : (q z : ℕ) (zs : List ℕ) → distinct (z ∷ zs) ≡ true → ((x : ℕ) → is_in x (z ∷ zs) ≡ true → P x → P (just_before x q (z ∷ zs))) → (x : ℕ) → is_in x zs ≡ true → P x → P (just_before x z zs)
  past_first q z zs d step x e h =
      subst P (before_on x q z zs (λ w. not_both (subst (λ (y : ℕ). is_in y zs ≡ true) w e) (distinct_head z zs d))) (step x (in_more x z zs e) h)

  to_front : (q : ℕ) (zs : List ℕ) → distinct zs ≡ true → ((x : ℕ) → is_in x zs ≡ true → P x → P (just_before x q zs)) → (x : ℕ) → is_in x zs ≡ true → P x → P q
  to_front q [] d step x e h = absurd (in_none x e)
  to_front q (z ∷ zs) d step x e h =
      first (⊎_elim (λ w. subst P w h) (λ k. to_front z zs (distinct_rest z zs d) (past_first q z zs d step) x k h) (in_cases x z zs e))
    where
      first : P z → P q
      first k = subst P (before_here z q z zs refl) (step z (in_here z zs) k)

  from_last : (q : ℕ) (zs : List ℕ) → distinct zs ≡ true → ((x : ℕ) → is_in x zs ≡ true → P x → P (just_before x q zs)) → P (last_of zs) → (x : ℕ) → is_in x zs ≡ true → P x
  from_last q [] d step h x e = absurd (in_none x e)
  from_last q (z ∷ []) d step h x e = subst P (sym (in_one x z e)) h
  from_last q (z ∷ (w ∷ ws)) d step h x e =
      let past : (y : ℕ) → is_in y (w ∷ ws) ≡ true → P y → P (just_before y z (w ∷ ws)) = past_first q z (w ∷ ws) d step in
      let later : (y : ℕ) → is_in y (w ∷ ws) ≡ true → P y = from_last z (w ∷ ws) (distinct_rest z (w ∷ ws) d) past h in
      ⊎_elim (λ r. subst P (sym r) (subst P (before_here w z w ws refl) (past w (in_here w ws) (later w (in_here w ws))))) (later x) (in_cases x z (w ∷ ws) e)

  pub round_all : (zs : List ℕ) → distinct zs ≡ true → ((x : ℕ) → is_in x zs ≡ true → P x → P (round_before zs x)) → (x : ℕ) → is_in x zs ≡ true → P x → (y : ℕ) → is_in y zs ≡ true → P y
  round_all zs d step x e h = from_last (last_of zs) zs d step (to_front (last_of zs) zs d step x e h)

-- what holds with each dart of the next dart and of the twin
module _ (p : Plate) (o : Ordered p) (P : ℕ → Type 0)
    (by_after : (d : ℕ) → d < darts p → P d → P (after p d)) (by-twin : (d : ℕ) → d < darts p → P d → P (twin d)) where
  -- `after` of the twin turns round the post
  turns : (d : ℕ) → d < darts p → P d → P (round_before (part_of p (leaves p d)) d)
  turns d l h =
      subst (λ (t : ℕ). P (round_before (part_of p (leaves p t)) t)) (twin_twin d) (by_after (twin d) (twin_dart p o d l) (by-twin d l h))

  post_all : (d e : ℕ) → d < darts p → e < darts p → leaves p d ≡ leaves p e → P d → P e
  post_all d e l k q h =
      round_all P (part_of p v) (part_distinct p o v v_below) step d (own_part p o d l) h e
      (subst (λ (u : ℕ). is_in e (part_of p u) ≡ true) (sym q) (own_part p o e k))
    where
      v : ℕ
      v = leaves p d

      v_below : v < p.posts
      v_below = leaves_below p o d l

      step : (x : ℕ) → is_in x (part_of p v) ≡ true → P x → P (round_before (part_of p v) x)
      step x i j =
          let at-v = part_leaves p o v v_below x i in
          subst (λ (u : ℕ). P (round_before (part_of p u) x)) at-v.1 (turns x at-v.0 j)

  -- every dart that leaves v has it
  AllOf : ℕ → Type 0
  AllOf v = (e : ℕ) → e < darts p → leaves p e ≡ v → P e

  -- over the strip of d, from the post that d leaves to the post where it ends
  across : (d : ℕ) → d < darts p → AllOf (leaves p d) → AllOf (leaves p (twin d))
  unfolding AllOf
  across d l a e k q = post_all (twin d) e (twin_dart p o d l) k (sym q) (by-twin d l (a d l refl))

  -- from a dart of post 0 to each dart
  pub dual_spreads : connected p ≡ true → (r : ℕ) → r < darts p → leaves p r ≡ 0 → P r → (e : ℕ) → e < darts p → P e
  unfolding AllOf
  dual_spreads c r l q h e k =
      spreads p AllOf o.ends_below c (λ x m w. post_all r x l m (q ∙ sym w) h) along (leaves p e) (leaves_below p o e k) e k refl
    where
      along : (i : ℕ) → i % 2 ≡ 0 → suc i < darts p → (AllOf (leaves p i) → AllOf (leaves p (suc i))) × (AllOf (leaves p (suc i)) → AllOf (leaves p i))
      along i z m =
          let there : twin i ≡ suc i = twin_even i z in
          let back : twin (suc i) ≡ i = sym (ap twin there) ∙ twin_twin i in
          (λ a. subst (λ (d : ℕ). AllOf (leaves p d)) there (across i (omega arith) a), λ a. subst (λ (d : ℕ). AllOf (leaves p d)) back (across (suc i) m a))

-- a set of darts
module _ (p : Plate) (o : Ordered p) (D : ℕ → Bool)
    (by_after : (d : ℕ) → d < darts p → D d ≡ true → D (after p d) ≡ true) (by-twin : (d : ℕ) → d < darts p → D d ≡ true → D (twin d) ≡ true) where
  post_same : (d e : ℕ) → d < darts p → e < darts p → leaves p d ≡ leaves p e → D d ≡ D e
  post_same d e l k q = same_test (D d) (D e) (all d e l k q) (all e d k l (sym q))
    where
      all : (d e : ℕ) → d < darts p → e < darts p → leaves p d ≡ leaves p e → D d ≡ true → D e ≡ true
      all = post_all p o (λ x. D x ≡ true) by_after by-twin

  twin_same : (d : ℕ) → d < darts p → D (twin d) ≡ D d
  twin_same d l = same_test (D (twin d)) (D d) (λ h. subst (λ (t : ℕ). D t ≡ true) (twin_twin d) (by-twin (twin d) (twin_dart p o d l) h)) (by-twin d l)

  -- whether D has the darts of the post whose darts these are
  has : List ℕ → Bool
  has [] = true
  has (d ∷ ds) = D d

  -- every dart that leaves v is in D as those of post 0 are
  Alike : ℕ → Type 0
  Alike v = (e : ℕ) → e < darts p → leaves p e ≡ v → D e ≡ has (part_of p 0)

  alike_0 : Alike 0
  unfolding Alike has
  alike_0 e l q = among (part_of p 0) refl
    where
      0-below : 0 < p.posts
      0-below = omega (arith, leaves_below p o e l)

      among : (ds : List ℕ) → part_of p 0 ≡ ds → D e ≡ has ds
      among [] w = absurd (in_none e (subst (λ (l : List ℕ). is_in e l ≡ true) w (subst (λ (u : ℕ). is_in e (part_of p u) ≡ true) q (own_part p o e l))))
      among (d ∷ ds) w =
          let at-0 = part_leaves p o 0 0-below d (subst (λ (l : List ℕ). is_in d l ≡ true) (sym w) (in_here d ds)) in
          post_same e d l at-0.0 (q ∙ sym at-0.1)

  -- d's post and e's are alike if D has both d and e or neither
  pass : (d e : ℕ) → d < darts p → e < darts p → D d ≡ D e → Alike (leaves p d) → Alike (leaves p e)
  unfolding Alike
  pass d e l k q a c m w = post_same c e m k w ∙ sym q ∙ a d l refl

  alike_all : connected p ≡ true → (v : ℕ) → v < p.posts → Alike v
  alike_all c = spreads p Alike o.ends_below c alike_0 along
    where
      along : (i : ℕ) → i % 2 ≡ 0 → suc i < darts p → (Alike (leaves p i) → Alike (leaves p (suc i))) × (Alike (leaves p (suc i)) → Alike (leaves p i))
      along i h l =
          let k : i < darts p = omega arith in
          let q : D (suc i) ≡ D i = ap D (sym (twin_even i h)) ∙ twin_same i k in
          (pass i (suc i) k l (sym q), pass (suc i) i l k q)

  pub dual_connected : connected p ≡ true → (d : ℕ) → d < darts p → D d ≡ true → (e : ℕ) → e < darts p → D e ≡ true
  unfolding Alike
  dual_connected c d l h e k =
      alike_all c (leaves p e) (leaves_below p o e k) e k refl ∙ sym (alike_all c (leaves p d) (leaves_below p o d l) d l refl) ∙ h
