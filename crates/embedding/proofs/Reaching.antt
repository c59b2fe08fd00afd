-- Posts reached, as marks: a strip, a round, all rounds.
use mathlib.Core.Path.{◌≡◌, refl, sym, ap, ◌∙◌}
use mathlib.Core.Bool.{Bool, true, false, ◌&&◌, ◌||◌, not}
use mathlib.Core.List.{List, [], ◌∷◌}
use mathlib.Core.Logic.{⊎_elim}
use Prim.Native.Nat.{ℕ, zero, suc, ◌+◌, ◌-◌, ◌≤◌, ◌<◌}
use native.Mathlib.Omega.{arith}
use borrow.Author.Tests.{eq-eqb, ne_eqb, lt-ltb}
use lib.Dec.{ltb}
use lib.ListN.{length, get_or, set, length-set, replicate, length-replicate, get_or-replicate}
use lib.Seq.{get_or-set_same, get_or-set_other}
use Rattle.finite.proofs.Pigeonhole.{at_most}
use Rattle.finite.proofs.Tests.{equal_or_not, and_both}
use Rattle.embedding.specs.Plates.{pick, is_in, Plate, plate, all_below, joins, reach}
use Rattle.embedding.specs.Steps.{Marks, join_one, RoundMade}
use Rattle.embedding.specs.declared.reached.Seen.{Seen}
use Rattle.embedding.proofs.Reach.{linked, Good, joins_good}

-- one more post
pub marks_more : (l : List ℕ) (s : Seen) (v : ℕ) → v < 64 → Marks l s → Marks (v ∷ l) (record { seen = set s.seen v true; count = s.count + 1 })
marks_more l s v b m =
    record {
      size = length-set s.seen v true ∙ m.size;
      at = λ u k. ⊎_elim
          (λ q. ap (λ (j : ℕ). get_or (set s.seen v true) j false) q ∙ get_or-set_same s.seen v true false (omega (arith, m.size)) ∙ ap (λ (t : Bool). t || is_in u l) (sym (eq-eqb u v q)))
          (λ q. get_or-set_other s.seen v u true false q ∙ m.at u k ∙ ap (λ (t : Bool). t || is_in u l) (sym (ne_eqb u v q)))
          (equal_or_not u v);
      count = omega (arith, m.count);
    }

-- a round that adds no post changes nothing, and neither do the rounds after it
pub one_grows : (a b : ℕ) (l : List ℕ) → length l ≤ length (join_one a b l)
one_grows a b l = go (is_in a l && not (is_in b l)) (is_in b l && not (is_in a l))
  where
    go : (u v : Bool) → length l ≤ length (pick u (b ∷ l) (pick v (a ∷ l) l))
    go true v = omega arith
    go false true = omega arith
    go false false = omega arith

pub joins_grow : (e l : List ℕ) → length l ≤ length (joins e l)
joins_grow [] l = omega arith
joins_grow (a ∷ []) l = omega arith
joins_grow (a ∷ (b ∷ e)) l = omega (arith, one_grows a b l, joins_grow e (join_one a b l))

pub joins_same : (e l : List ℕ) → length (joins e l) ≡ length l → joins e l ≡ l
joins_same [] l h = refl
joins_same (a ∷ []) l h = refl
joins_same (a ∷ (b ∷ e)) l h = go (is_in a l && not (is_in b l)) (is_in b l && not (is_in a l)) (joins_same e l) h
  where
    go : (u v : Bool) → (length (joins e l) ≡ length l → joins e l ≡ l) → length (joins e (pick u (b ∷ l) (pick v (a ∷ l) l))) ≡ length l → joins e (pick u (b ∷ l) (pick v (a ∷ l) l)) ≡ l
    go true v ih k = absurd (omega (arith, joins_grow e (b ∷ l)))
    go false true ih k = absurd (omega (arith, joins_grow e (a ∷ l)))
    go false false ih k = ih k

reach_same : (p : Plate) (k : ℕ) (l : List ℕ) → joins p.ends l ≡ l → reach k p l ≡ l
reach_same p zero l q = refl
reach_same p (suc k) l q = ap (reach k p) q ∙ reach_same p k l q

-- rounds: the posts reached so far; the rounds left give the definition's answer, and are enough to see every post
pub record Spreading (n : ℕ) (e : List ℕ) (s : Seen) : Type 0 where
  pub posts : List ℕ
  pub marks : Marks posts s
  pub good : Good n (λ v. Unit {0}) posts
  pub left : ℕ
  pub rest : (o : List ℕ) (x : ℕ) → reach (suc left) (plate n e o x) posts ≡ reach n (plate n e o x) (0 ∷ [])
  pub enough : n ≤ left + s.count

pub spreading_start : (n : ℕ) (e : List ℕ) → 0 < n → Spreading n e (record { seen = set (replicate 64 false) 0 true; count = 1 })
spreading_start n e l =
    record {
      posts = 0 ∷ [];
      marks = marks_more [] (record { seen = replicate 64 false; count = 0 }) 0 (omega arith)
          (record { size = length-replicate 64 false; at = λ v k. get_or-replicate 64 v false false k; count = refl });
      good = record { once = refl; below = and_both (ltb 0 n) true (lt-ltb 0 n l) refl; holds = λ v h. tt };
      left = n - 1;
      rest = λ o x. ap (λ (k : ℕ). reach k (plate n e o x) (0 ∷ [])) {x = suc (n - 1)} {y = n} (omega arith);
      enough = omega arith;
    }

pub spread_most : {n : ℕ} {e : List ℕ} {s : Seen} → Spreading n e s → s.count ≤ n
spread_most {n} h = omega (arith, h.marks.count, at_most n h.posts h.good.once h.good.below)

module _ {n : ℕ} {e : List ℕ} {s r : Seen} (h : Spreading n e s) (w : RoundMade e s r) (a : all_below n e ≡ true) where
  after : Marks (joins e h.posts) r
  after = w.marks h.posts h.marks

  after_good : Good n (λ v. Unit {0}) (joins e h.posts)
  after_good = joins_good n (λ v. Unit {0}) e h.posts a (linked (λ v. Unit {0}) e (λ i q l. (λ z. tt, λ z. tt))) h.good

  pub counts_most : (s.count ≤ r.count) × (r.count ≤ n)
  counts_most =
      (omega (arith, h.marks.count, after.count, joins_grow e h.posts), omega (arith, after.count, at_most n (joins e h.posts) after_good.once after_good.below))

  pub spreading_done : r.count ≡ s.count → (o : List ℕ) (x : ℕ) → s.count ≡ length (reach n (plate n e o x) (0 ∷ []))
  spreading_done q o x =
      let same : joins e h.posts ≡ h.posts = joins_same e h.posts (sym after.count ∙ q ∙ h.marks.count) in
      h.marks.count ∙ ap length (sym (reach_same (plate n e o x) (suc h.left) h.posts same) ∙ h.rest o x)

  pub spreading_more : (r.count ≡ s.count → ⊥) → Spreading n e r
  spreading_more q = go h.left h.enough h.rest
    where
      go : (k : ℕ) → n ≤ k + s.count → ((o : List ℕ) (x : ℕ) → reach (suc k) (plate n e o x) h.posts ≡ reach n (plate n e o x) (0 ∷ [])) → Spreading n e r
      go zero m t = absurd (q (omega (arith, counts_most)))
      go (suc k) m t = record { posts = joins e h.posts; marks = after; good = after_good; left = k; rest = t; enough = omega (arith, counts_most) }
