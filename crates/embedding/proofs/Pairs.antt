-- The strips of a list as pairs: a loop over them does what the definitions do over the strip ends.
use mathlib.Core.Path.{◌≡◌, refl, sym, ap, subst, ◌∙◌}
use mathlib.Core.Bool.{true, ◌&&◌}
use mathlib.Core.List.{List, [], ◌∷◌}
use Prim.Native.Nat.{ℕ, zero, suc, ◌/◌, ◌<◌, ◌≤◌}
use native.Mathlib.Omega.{arith}
use borrow.Author.Tests.{ltb-true}
use lib.Dec.{ltb}
use lib.ListN.{length, get_or, drop, drop_of_length-le}
use Rattle.std.specs.Simd.{first_chunks}
use Rattle.finite.proofs.Tests.{and_left, and_right}
use Rattle.embedding.specs.Plates.{all_below, joins}
use Rattle.embedding.specs.Pass.{add_strip, go_on}
use Rattle.embedding.specs.Steps.{Marks, join_one, RoundMade}
use Rattle.embedding.specs.declared.reached.Seen.{Seen}
use Rattle.embedding.specs.declared.strips.Strips.{Strips}

-- the pass over the strips
abbrev pub go_pairs : ℕ → Strips → List (List ℕ) → Strips
go_pairs n s [] = s
go_pairs n s (p ∷ ps) = go_pairs n (add_strip n (get_or p 0 0) (get_or p 1 0) s) ps

pub pairs_gone : (n k : ℕ) (s : Strips) (es : List ℕ) → length es / 2 ≡ k → go_pairs n s (first_chunks 2 k es) ≡ go_on n s es
pairs_gone n zero s [] e = refl
pairs_gone n zero s (a ∷ []) e = refl
pairs_gone n zero s (a ∷ (b ∷ es)) e = absurd (omega arith)
pairs_gone n (suc k) s [] e = absurd (omega arith)
pairs_gone n (suc k) s (a ∷ []) e = absurd (omega arith)
pairs_gone n (suc k) s (a ∷ (b ∷ es)) e = pairs_gone n k (add_strip n a b s) es (omega arith)

-- the same of any bytes w that are the strip ends es
pub pairs_of : (n : ℕ) (s : Strips) (es : List ℕ) {w : List ℕ} {ps : List (List ℕ)} → w ≡ es → ps ≡ first_chunks 2 (length w / 2) w → go_pairs n s ps ≡ go_on n s es
pairs_of n s es {w} own q = ap (go_pairs n s) q ∙ pairs_gone n (length w / 2) s w refl ∙ ap (go_on n s) own

-- a round over the strips
abbrev pub joins_pairs : List (List ℕ) → List ℕ → List ℕ
joins_pairs [] l = l
joins_pairs (p ∷ ps) l = joins_pairs ps (join_one (get_or p 0 0) (get_or p 1 0) l)

pub pairs_joined : (k : ℕ) (es l : List ℕ) → length es / 2 ≡ k → joins_pairs (first_chunks 2 k es) l ≡ joins es l
pairs_joined zero [] l e = refl
pairs_joined zero (a ∷ []) l e = refl
pairs_joined zero (a ∷ (b ∷ es)) l e = absurd (omega arith)
pairs_joined (suc k) [] l e = absurd (omega arith)
pairs_joined (suc k) (a ∷ []) l e = absurd (omega arith)
pairs_joined (suc k) (a ∷ (b ∷ es)) l e = pairs_joined k es (join_one a b l) (omega arith)

-- the ends of strip i are posts
pair_below : (n k i : ℕ) (es : List ℕ) → length es / 2 ≡ k → i < k → all_below n es ≡ true → (get_or (get_or (first_chunks 2 k es) i []) 0 0 < n) × (get_or (get_or (first_chunks 2 k es) i []) 1 0 < n)
pair_below n zero i es e l h = absurd (omega arith)
pair_below n (suc k) i [] e l h = absurd (omega arith)
pair_below n (suc k) i (a ∷ []) e l h = absurd (omega arith)
pair_below n (suc k) zero (a ∷ (b ∷ es)) e l h =
    let more = and_right (ltb a n) (ltb b n && all_below n es) h in
    (ltb-true a n (and_left (ltb a n) (ltb b n && all_below n es) h), ltb-true b n (and_left (ltb b n) (all_below n es) more))
pair_below n (suc k) (suc i) (a ∷ (b ∷ es)) e l h =
    pair_below n k i es (omega arith) (omega arith) (and_right (ltb b n) (all_below n es) (and_right (ltb a n) (ltb b n && all_below n es) h))

pub pair_posts : (n : ℕ) (ps : List (List ℕ)) (es : List ℕ) {i a b : ℕ} → ps ≡ first_chunks 2 (length es / 2) es → length ps ≡ length es / 2 → i < length ps → all_below n es ≡ true → a ≡ get_or (get_or ps i []) 0 0 → b ≡ get_or (get_or ps i []) 1 0 → (a < n) × (b < n)
pair_posts n ps es {i} q long l h s t =
    let (below, beside) = pair_below n (length es / 2) i es refl (omega arith) h in
    (omega (arith, below, s, ap (λ (rs : List (List ℕ)). get_or (get_or rs i []) 0 0) q), omega (arith, beside, t, ap (λ (rs : List (List ℕ)). get_or (get_or rs i []) 1 0) q))

-- in a round that began with the posts l: the posts when these strips are left
pub record Rounding (ps : List (List ℕ)) (l : List ℕ) (left : List (List ℕ)) (r : Seen) : Type 0 where
  pub posts : List ℕ
  pub marks : Marks posts r
  pub rest : joins_pairs left posts ≡ joins_pairs ps l

pub round_made : (ps : List (List ℕ)) (es : List ℕ) {i : ℕ} {s r : Seen} → ps ≡ first_chunks 2 (length es / 2) es → length ps ≤ i → ((l : List ℕ) → Marks l s → Rounding ps l (drop i ps) r) → RoundMade es s r
round_made ps es {i} {s} {r} q k h =
    record {
      marks = λ l m.
          let made = h l m in
          subst (λ (ls : List ℕ). Marks ls r)
          (ap (λ (rs : List (List ℕ)). joins_pairs rs made.posts) (sym (drop_of_length-le ps k)) ∙ made.rest ∙ ap (λ (rs : List (List ℕ)). joins_pairs rs l) q ∙ pairs_joined (length es / 2) es l refl)
          made.marks;
    }
