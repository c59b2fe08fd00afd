-- A plate is connected if each set of posts that has post 0, and with one end of a strip the other, has every post.
use mathlib.Core.Path.{◌≡◌, refl, sym, ap, subst, ◌∙◌}
use mathlib.Core.Bool.{Bool, true, false, ◌&&◌, not}
use mathlib.Core.List.{List, [], ◌∷◌}
use mathlib.Core.Logic.{◌⊎◌, inl, inr, ⊎_elim}
use Prim.Native.Nat.{ℕ, zero, suc, ◌+◌, ◌%◌, ◌≤◌, ◌<◌}
use native.Mathlib.Omega.{arith}
use borrow.Author.Tests.{eq-eqb, lt-ltb}
use lib.Dec.{ltb}
use lib.ListN.{length, get_or}
use Rattle.finite.proofs.Members.{in_here, in_more}
use Rattle.finite.proofs.Pigeonhole.{at_most, length_members}
use Rattle.finite.proofs.Sums.{sum_cong, sum_ones}
use Rattle.finite.proofs.Tests.{equal_or_not, and_both}
use Rattle.embedding.specs.Plates.{pick, when, is_in, Plate, all_below, joins, reach, connected}
use Rattle.embedding.specs.Steps.{join_one}
use Rattle.embedding.proofs.Reach.{linked, Good, joins_good}
use Rattle.embedding.proofs.Reaching.{one_grows, joins_grow, joins_same}

-- no strip has one end seen and the other not
abbrev pub Closed : (ℕ → Bool) → List ℕ → Type 0
Closed S es = (i : ℕ) → i % 2 ≡ 0 → suc i < length es → S (get_or es i 0) ≡ S (get_or es (suc i) 0)

-- a round that changes nothing
one_same : (a b : ℕ) (seen : List ℕ) → length (join_one a b seen) ≡ length seen → is_in a seen ≡ is_in b seen
one_same a b seen = go (is_in a seen) (is_in b seen)
  where
    go : (u v : Bool) → length (pick (u && not v) (b ∷ seen) (pick (v && not u) (a ∷ seen) seen)) ≡ length seen → u ≡ v
    go true true e = refl
    go true false e = absurd (omega arith)
    go false true e = absurd (omega arith)
    go false false e = refl

one_keeps : (a b : ℕ) (seen : List ℕ) → length (join_one a b seen) ≡ length seen → join_one a b seen ≡ seen
one_keeps a b seen = go (is_in a seen && not (is_in b seen)) (is_in b seen && not (is_in a seen))
  where
    go : (u v : Bool) → length (pick u (b ∷ seen) (pick v (a ∷ seen) seen)) ≡ length seen → pick u (b ∷ seen) (pick v (a ∷ seen) seen) ≡ seen
    go true v e = absurd (omega arith)
    go false true e = absurd (omega arith)
    go false false e = refl

round_closed : (es seen : List ℕ) → length (joins es seen) ≡ length seen → Closed (λ v. is_in v seen) es
round_closed [] seen e = λ i z l. absurd (omega arith)
round_closed (a ∷ []) seen e = λ i z l. absurd (omega arith)
round_closed (a ∷ (b ∷ es)) seen e = at (round_closed es seen (ap (λ (s : List ℕ). length (joins es s)) (sym (one_keeps a b seen first)) ∙ e))
  where
    first : length (join_one a b seen) ≡ length seen
    first = omega (arith, joins_grow es (join_one a b seen), one_grows a b seen)

    at : Closed (λ v. is_in v seen) es → (i : ℕ) → i % 2 ≡ 0 → suc i < length (a ∷ (b ∷ es)) → is_in (get_or (a ∷ (b ∷ es)) i 0) seen ≡ is_in (get_or (a ∷ (b ∷ es)) (suc i) 0) seen
    at later zero z l = one_same a b seen first
    at later (suc zero) z l = absurd (omega arith)
    at later (suc (suc i)) z l = later i (omega arith) (omega arith)

-- what is seen stays seen
one_in : (a b : ℕ) (seen : List ℕ) (v : ℕ) → is_in v seen ≡ true → is_in v (join_one a b seen) ≡ true
one_in a b seen v h = go (is_in a seen && not (is_in b seen)) (is_in b seen && not (is_in a seen))
  where
    go : (u w : Bool) → is_in v (pick u (b ∷ seen) (pick w (a ∷ seen) seen)) ≡ true
    go true w = in_more v b seen h
    go false true = in_more v a seen h
    go false false = h

joins_in : (es seen : List ℕ) (v : ℕ) → is_in v seen ≡ true → is_in v (joins es seen) ≡ true
joins_in [] seen v h = h
joins_in (a ∷ []) seen v h = h
joins_in (a ∷ (b ∷ es)) seen v h = joins_in es (join_one a b seen) v (one_in a b seen v h)

module _ (p : Plate) (ends_below : all_below p.posts p.ends ≡ true) (some : 0 < p.posts) where
  -- after k rounds: the posts seen are distinct and there, post 0 is among them; a round more changes nothing, or k and more are seen
  record Seen (k : ℕ) (seen : List ℕ) : Type 0 where
    good : Good p.posts (λ v. Unit {0}) seen
    root : is_in 0 seen ≡ true
    grown : (length (joins p.ends seen) ≡ length seen) ⊎ (k < length seen)

  round_good : (seen : List ℕ) → Good p.posts (λ v. Unit {0}) seen → Good p.posts (λ v. Unit {0}) (joins p.ends seen)
  round_good seen g = joins_good p.posts (λ v. Unit {0}) p.ends seen ends_below (linked (λ v. Unit {0}) p.ends (λ i q l. (λ z. tt, λ z. tt))) g

  seen_more : (k : ℕ) (seen : List ℕ) → Seen k seen → Seen (suc k) (joins p.ends seen)
  seen_more k seen s = record { good = round_good seen s.good; root = joins_in p.ends seen 0 s.root; grown = ⊎_elim still more (equal_or_not (length (joins p.ends seen)) (length seen)) }
    where
      still : length (joins p.ends seen) ≡ length seen → (length (joins p.ends (joins p.ends seen)) ≡ length (joins p.ends seen)) ⊎ (suc k < length (joins p.ends seen))
      still e = inl (ap (λ (l : List ℕ). length (joins p.ends l)) (joins_same p.ends seen e))

      more : (length (joins p.ends seen) ≡ length seen → ⊥) → (length (joins p.ends (joins p.ends seen)) ≡ length (joins p.ends seen)) ⊎ (suc k < length (joins p.ends seen))
      more n = ⊎_elim (λ e. absurd (n e)) (λ l. inr (omega (arith, joins_grow p.ends seen))) s.grown

  seen_reach : (j k : ℕ) (seen : List ℕ) → Seen k seen → Seen (j + k) (reach j p seen)
  seen_reach zero k seen s = subst (λ (i : ℕ). Seen i seen) (omega arith) s
  seen_reach (suc j) k seen s = subst (λ (i : ℕ). Seen i (reach (suc j) p seen)) (omega arith) (seen_reach j (suc k) (joins p.ends seen) (seen_more k seen s))

  all : List ℕ
  all = reach p.posts p (0 ∷ [])

  seen_all : Seen p.posts all
  unfolding all
  seen_all =
      subst (λ (i : ℕ). Seen i (reach p.posts p (0 ∷ []))) (omega arith)
      (seen_reach p.posts 0 (0 ∷ [])
      (record {
        good = record { once = refl; below = and_both (ltb 0 p.posts) true (lt-ltb 0 p.posts some) refl; holds = λ v h. tt };
        root = in_here 0 [];
        grown = inr (omega arith);
      }))

  few : length all ≤ p.posts
  few = at_most p.posts all seen_all.good.once seen_all.good.below

  settled : length (joins p.ends all) ≡ length all
  settled = ⊎_elim (λ e. e) (λ l. absurd (omega (arith, few))) seen_all.grown

  pub connected_from : ((S : ℕ → Bool) → S 0 ≡ true → Closed S p.ends → (v : ℕ) → v < p.posts → S v ≡ true) → connected p ≡ true
  unfolding all
  connected_from spread =
      eq-eqb (length all) p.posts
      (length_members p.posts all seen_all.good.once seen_all.good.below
      ∙ sum_cong p.posts (λ i. when (is_in i all) 1) (λ i. 1) (λ i l. ap (λ (b : Bool). when b 1) (spread (λ v. is_in v all) seen_all.root (round_closed p.ends all settled) i l))
      ∙ sum_ones p.posts)
