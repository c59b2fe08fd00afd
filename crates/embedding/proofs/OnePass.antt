-- The strips gone over once: stopped after any strip, the pass goes on to the state of the whole field.
-- The state holds what the definitions say of the field, so that its answer is theirs.
use mathlib.Core.Path.{◌≡◌, refl, sym, ap, ap₂, subst, ◌∙◌}
use mathlib.Core.Bool.{Bool, true, false, ◌&&◌, ◌||◌, not, true≢false, false≢true}
use mathlib.Core.List.{List, [], ◌∷◌, ◌++◌}
use mathlib.Core.Logic.{⊎_elim}
use Prim.Native.Nat.{ℕ, ◌+◌, ◌*◌, ◌%◌, ◌≤◌, ◌<◌, min}
use native.Mathlib.Decide.{dec_le}
use native.Mathlib.Omega.{arith}
use borrow.Author.Tests.{eq-eqb, ne_eqb, ltb-true, ltb-false, not-false}
use lib.Dec.{eqb, ltb}
use lib.ListN.{length, get_or, set, take, drop, replicate, length-take, length-replicate, get_or-replicate, take-append-drop, drop_of_length-le}
use lib.Seq.{take_all}
use Rattle.finite.specs.Tables.{Table, up_to}
use Rattle.finite.proofs.Tables.{table_cong, table_set, up_below, up_cong}
use Rattle.finite.proofs.Tests.{equal_or_not, or_right, first_none, first_assoc, when_none}
use Rattle.embedding.specs.Plates.{pick, first_of, when, Plate, darts, degree_from, degree, all_below, over_four, plate_fault}
use Rattle.embedding.specs.Pass.{no_strips, add_strip, go_on, state_of, stopped_after, nine_first, answer_of, strips_fault, early_fault, late_fault, pass_fault, GoneOn, Answered}
use Rattle.embedding.specs.Steps.{Few}
use Rattle.embedding.specs.declared.strips.Strips.{Strips}
use Rattle.embedding.proofs.Degrees.{over_most, most_over}

-- stopped after a front of whole strips, the pass goes on over the rest alone
pub go_split : (n : ℕ) (s : Strips) (front rest : List ℕ) → length front % 2 ≡ 0 → go_on n s (front ++ rest) ≡ go_on n (go_on n s front) rest
go_split n s [] rest e = refl
go_split n s (a ∷ []) rest e = absurd (omega arith)
go_split n s (a ∷ (b ∷ front)) rest e = go_split n (add_strip n a b s) front rest (omega arith)

pub goes_on : (n : ℕ) (front rest : List ℕ) → length front % 2 ≡ 0 → go_on n (state_of n front) rest ≡ state_of n (front ++ rest)
goes_on n front rest e = sym (go_split n no_strips front rest e)

-- after k strips, or after all of them where there are fewer
pub stopped-after : (k n : ℕ) (es : List ℕ) → stopped_after k n es ≡ state_of n es
stopped-after k n es = go (dec_le (2 * k) (length es))
  where
    go : Dec (2 * k ≤ length es) → stopped_after k n es ≡ state_of n es
    go (yes l) =
        goes_on n (take (2 * k) es) (drop (2 * k) es) (let q : length (take (2 * k) es) ≡ 2 * k = omega (arith, length-take (2 * k) es) in omega arith)
        ∙ ap (state_of n) (take-append-drop (2 * k) es)
    go (no m) = let all : length es ≤ 2 * k = omega arith in ap₂ (λ (a b : List ℕ). go_on n (state_of n a) b) (take_all (2 * k) es all) (drop_of_length-le es all)

pub gone_on : (n : ℕ) (s : Strips) (rest : List ℕ) (r : Strips) → r ≡ go_on n s rest → GoneOn n s rest r
gone_on n s rest r e = record { steps = e; whole = λ front even q. e ∙ ap (λ (t : Strips). go_on n t rest) q ∙ goes_on n front rest even }

-- 9
or_none : (a : Bool) → a ≡ a || false
or_none true = refl
or_none false = refl

strays : (s a b r : Bool) → (not b || (not a || s)) || not r ≡ s || not (a && (b && r))
strays s true true r = refl
strays true true false r = refl
strays false true false r = refl
strays true false true r = refl
strays false false true r = refl
strays true false false r = refl
strays false false false r = refl

go_stray : (n : ℕ) (s : Strips) (es : List ℕ) → length es % 2 ≡ 0 → (go_on n s es).stray ≡ s.stray || not (all_below n es)
go_stray n s [] e = or_none s.stray
go_stray n s (a ∷ []) e = absurd (omega arith)
go_stray n s (a ∷ (b ∷ es)) e = go_stray n (add_strip n a b s) es (omega arith) ∙ strays s.stray (ltb a n) (ltb b n) (all_below n es)

-- 11, and the counts: f strip ends at each post, held up to four, and whether some post has more
record Holds (n : ℕ) (f : ℕ → ℕ) (over : Bool) (degrees : List ℕ) : Type 0 where
  table : Table 64 (up_to n (λ v. min (f v) 4)) degrees
  fifth : over ≡ true → (v : ℕ) × (v < n) × (4 < f v)
  most : over ≡ false → (v : ℕ) → v < n → f v ≤ 4

holds_cong : {n : ℕ} {over : Bool} {degrees : List ℕ} (f g : ℕ → ℕ) → ((v : ℕ) → f v ≡ g v) → Holds n f over degrees → Holds n g over degrees
holds_cong {n} {over} {degrees} f g q h =
    record {
      table = table_cong 64 (up_to n (λ v. min (f v) 4)) (up_to n (λ v. min (g v) 4)) degrees (λ v k. ap (λ (z : ℕ). pick (ltb v n) (min z 4) 0) (q v)) h.table;
      fifth = λ e. let (v, l, m) = h.fifth e in (v, l, omega (arith, q v));
      most = λ e v l. omega (arith, q v, h.most e v l);
    }

holds_none : (n : ℕ) → Holds n (λ v. 0) false (replicate 64 0)
holds_none n =
    record {
      table = record { size = length-replicate {A = ℕ} 64 0; at = λ v l. get_or-replicate 64 v 0 0 l ∙ nothing (ltb v n) };
      fifth = λ e. absurd (false≢true e);
      most = λ e v l. omega arith;
    }
  where
    nothing : (t : Bool) → ◌≡◌ {A = ℕ} 0 (pick t 0 0)
    nothing true = refl
    nothing false = refl

module _ {n : ℕ} {f : ℕ → ℕ} {over : Bool} {degrees : List ℕ} (b : n ≤ 64) (h : Holds n f over degrees) (a : ℕ) where
  abbrev more : ℕ → ℕ
  more v = f v + when (eqb v a) 1

  here : more a ≡ f a + 1
  here = ap (λ (t : Bool). f a + when t 1) (eq-eqb a a refl)

  there : (v : ℕ) → (v ≡ a → ⊥) → more v ≡ f v
  there v d = let q : more v ≡ f v + 0 = ap (λ (t : Bool). f v + when t 1) (ne_eqb v a d) in omega arith

  held : a < n → get_or degrees a 0 ≡ min (f a) 4
  held l = h.table.at a (omega arith) ∙ up_below n (λ v. min (f v) 4) a l

  holds_end : Holds n more ((ltb a n && not (ltb (get_or degrees a 0) 4)) || over) (pick (ltb a n && ltb (get_or degrees a 0) 4) (set degrees a (get_or degrees a 0 + 1)) degrees)
  holds_end = go (ltb a n) (ltb (get_or degrees a 0) 4) refl refl
    where
      same : ((v : ℕ) → v < n → min (f v) 4 ≡ min (more v) 4) → Table 64 (up_to n (λ v. min (more v) 4)) degrees
      same q = table_cong 64 (up_to n (λ v. min (f v) 4)) (up_to n (λ v. min (more v) 4)) degrees (λ v k. up_cong n (λ v. min (f v) 4) (λ v. min (more v) 4) v (q v)) h.table

      still : over ≡ true → (v : ℕ) × (v < n) × (4 < more v)
      still e = let (v, l, m) = h.fifth e in (v, l, omega arith)

      go : (x y : Bool) → ltb a n ≡ x → ltb (get_or degrees a 0) 4 ≡ y → Holds n more ((x && not y) || over) (pick (x && y) (set degrees a (get_or degrees a 0 + 1)) degrees)
      go false y p q =
          record {
            table = same (λ v l. ap (λ (z : ℕ). min z 4) (sym (there v (λ w. omega (arith, ltb-false a n p)))));
            fifth = still;
            most = λ e v l. omega (arith, h.most e v l, there v (λ w. omega (arith, ltb-false a n p)));
          }
      go true true p q =
          let l = ltb-true a n p in let room = ltb-true (get_or degrees a 0) 4 q in
          record {
            table = table_set 64 (up_to n (λ v. min (f v) 4)) (up_to n (λ v. min (more v) 4)) degrees a (get_or degrees a 0 + 1) h.table (omega arith)
                (let k : get_or degrees a 0 + 1 ≡ min (more a) 4 = omega (arith, held l, here) in k ∙ sym (up_below n (λ v. min (more v) 4) a l))
                (λ v d. ap (λ (z : ℕ). pick (ltb v n) (min z 4) 0) (there v d));
            fifth = still;
            most = λ e v k. ⊎_elim (λ w. subst (λ (u : ℕ). more u ≤ 4) (sym w) (omega (arith, held l, here))) (λ w. omega (arith, h.most e v k, there v w)) (equal_or_not v a);
          }
      go true false p q =
          let l = ltb-true a n p in let full = ltb-false (get_or degrees a 0) 4 q in
          record {
            table = same (λ v k. ⊎_elim (λ w. subst (λ (u : ℕ). min (f u) 4 ≡ min (more u) 4) (sym w) (omega (arith, held l, here))) (λ w. ap (λ (z : ℕ). min z 4) (sym (there v w))) (equal_or_not v a));
            fifth = λ e. (a, l, omega (arith, held l, here));
            most = λ e. absurd (true≢false e);
          }

go_holds : {n : ℕ} → n ≤ 64 → (f : ℕ → ℕ) (s : Strips) (es : List ℕ) → length es % 2 ≡ 0 → Holds n f s.over s.degrees → Holds n (λ v. f v + degree_from v es) (go_on n s es).over (go_on n s es).degrees
go_holds b f s [] e h = holds_cong f (λ v. f v + 0) (λ v. omega arith) h
go_holds b f s (x ∷ []) e h = absurd (omega arith)
go_holds {n} b f s (x ∷ (y ∷ es)) e h =
    holds_cong (λ v. f v + when (eqb v x) 1 + when (eqb v y) 1 + degree_from v es) (λ v. f v + (when (eqb v x) 1 + (when (eqb v y) 1 + degree_from v es))) (λ v. omega arith)
    (go_holds b (λ v. f v + when (eqb v x) 1 + when (eqb v y) 1) (add_strip n x y s) es (omega arith) (holds_end b (holds_end b h x) y))

-- 9 and 11 not met
pub strips_none : (p : Plate) → strips_fault p ≡ 0 → (all_below p.posts p.ends ≡ true) × (over_four p.posts 0 p ≡ false)
strips_none p e =
    let r9 = first_none (when (not (all_below p.posts p.ends)) 9) (when (over_four p.posts 0 p) 11) e in
    (not-false (all_below p.posts p.ends) (when_none (not (all_below p.posts p.ends)) 8 r9.0), when_none (over_four p.posts 0 p) 10 r9.1)

-- the state of the whole field
module _ (p : Plate) (even : darts p % 2 ≡ 0) where
  abbrev state : Strips
  state = state_of p.posts p.ends

  stray_is : state.stray ≡ not (all_below p.posts p.ends)
  unfolding no_strips
  stray_is = go_stray p.posts no_strips p.ends even

  module _ (few : p.posts ≤ 64) where
    holds : Holds p.posts (degree p) state.over state.degrees
    unfolding no_strips
    holds = holds_cong (λ v. 0 + degree_from v p.ends) (degree p) (λ v. omega arith) (go_holds few (λ v. 0) no_strips p.ends even (holds_none p.posts))

    -- each post has as many strip ends as are counted, or four and more
    pub counted : Table 64 (up_to p.posts (λ v. min (degree p v) 4)) state.degrees
    counted = holds.table

    over_is : state.over ≡ over_four p.posts 0 p
    over_is = go state.over refl (over_four p.posts 0 p) refl
      where
        go : (x : Bool) → state.over ≡ x → (y : Bool) → over_four p.posts 0 p ≡ y → x ≡ y
        go true e true q = refl
        go true e false q = let (v, l, m) = holds.fifth e in absurd (omega (arith, over_most p p.posts q v l))
        go false e y q = sym (most_over p p.posts (holds.most e)) ∙ q

    -- the answer of the pass is that of the definitions
    pub answered : answer_of state ≡ strips_fault p
    answered = ap (λ (t : Bool). nine_first t state.over) stray_is ∙ ap (nine_first (not (all_below p.posts p.ends))) over_is

    -- also where it was stopped after any strip
    pub answered_after : (k : ℕ) → answer_of (stopped_after k p.posts p.ends) ≡ strips_fault p
    answered_after k = ap answer_of (stopped-after k p.posts p.ends) ∙ answered

    -- no post over four: the degrees
    pub strips_few : strips_fault p ≡ 0 → Few p.posts p.ends state.degrees
    strips_few e =
        let most = over_most p p.posts (strips_none p e).1 in
        record {
          table = table_cong 64 (up_to p.posts (λ v. min (degree p v) 4)) (up_to p.posts (degree p)) state.degrees (λ v k. up_cong p.posts (λ v. min (degree p v) 4) (degree p) v (λ l. omega (arith, most v l))) counted;
          most = most;
        }

pub answers : (s : Strips) (r : ℕ) → r ≡ answer_of s → Answered s r
answers s r e = record { number = e; whole = λ p few even q. e ∙ ap answer_of q ∙ answered p even few }

-- a plate's fault in three parts: before the strips, of the strips, after them
pub fault_parts : (p : Plate) → plate_fault p ≡ first_of (early_fault p.posts p.ends) (first_of (strips_fault p) (late_fault p))
fault_parts p =
    ap (λ (r : ℕ). first_of e7 (first_of e8 r)) (first_assoc e9 e11 (late_fault p))
    ∙ first_assoc e7 e8 (first_of (strips_fault p) (late_fault p))
  where
    e7 : ℕ
    e7 = when (eqb p.posts 0 || ltb 64 p.posts) 7

    e8 : ℕ
    e8 = when (eqb (darts p) 0) 8

    e9 : ℕ
    e9 = when (not (all_below p.posts p.ends)) 9

    e11 : ℕ
    e11 = when (over_four p.posts 0 p) 11

-- the fault of a plate is the same with the pass, wherever that was stopped; over 64 posts the pass is not asked
pub pass-fault : (k : ℕ) (p : Plate) → darts p % 2 ≡ 0 → pass_fault k p ≡ plate_fault p
pass-fault k p even = go (ltb 64 p.posts) refl ∙ sym (fault_parts p)
  where
    with_pass : ℕ → ℕ
    with_pass a = first_of (early_fault p.posts p.ends) (first_of a (late_fault p))

    seven : (x y : ℕ) → ltb 64 p.posts ≡ true → with_pass x ≡ with_pass y
    seven x y e = rw (or_right (eqb p.posts 0) (ltb 64 p.posts) e)

    go : (b : Bool) → ltb 64 p.posts ≡ b → with_pass (answer_of (stopped_after k p.posts p.ends)) ≡ with_pass (strips_fault p)
    go true e = seven (answer_of (stopped_after k p.posts p.ends)) (strips_fault p) e
    go false e = ap with_pass (answered_after p even (ltb-false 64 p.posts e) k)
