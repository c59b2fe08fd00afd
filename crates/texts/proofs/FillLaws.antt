-- One entry more of a text: whether it is the plan's next, and what is then known of each dart. Assumes nothing.
use mathlib.Core.Path.{◌≡◌, refl, sym, ap, subst, ◌∙◌}
use mathlib.Core.Bool.{Bool, true, false, ◌&&◌, ◌||◌, not, beq}
use mathlib.Core.List.{List, [], ◌∷◌, ◌++◌}
use mathlib.Core.Logic.{⊎_elim}
use Prim.Native.Nat.{ℕ, ◌<◌}
use native.Mathlib.Omega.{arith}
use lib.Dec.{eqb}
use lib.ListN.{length, set, replicate, length-replicate, get_or-replicate}
use borrow.Author.Tests.{eqb-true, eq-eqb, ne_eqb}
use Rattle.std.specs.Prelude.{Option, Some, None}
use Rattle.std.specs.Option.{option_and_then}
use Rattle.finite.specs.Tables.{Table}
use Rattle.finite.proofs.Tables.{table_set}
use Rattle.finite.proofs.Tests.{and_left, and_both, or_left_false, or_right_false, not_both, not_true_false}
use Rattle.finite.proofs.Members.{in_here, in_right, in_cases, distinct_head, distinct_rest}
use Rattle.shapes.proofs.Words.{bend_same}
use Rattle.plates.specs.Plates.{pick, is_in, distinct}
use Rattle.plates.specs.Shapes.{rights, lefts, same_b}
use Rattle.plates.specs.Text.{Entry, entry}
use Rattle.plates.specs.Lines.{is_mixed, some_mixed, same_faces, word_of, angle_of, darts_of}
use Rattle.texts.specs.Plan.{laid}
use Rattle.texts.specs.Parses.{capped, held, left_behind, Tables, ReadSoFar, IsPlan}
use Rattle.texts.specs.declared.planning.Turn.{Turn}
use Rattle.texts.specs.declared.entries.Entry.{Entry as Held}
use Rattle.texts.specs.declared.parsing.Counted.{Counted}

-- mixed words
or_assoc : (a b c : Bool) → (a || (b || c)) ≡ ((a || b) || c)
or_assoc true b c = refl
or_assoc false b c = refl

or_none : (b : Bool) → (b || false) ≡ b
or_none true = refl
or_none false = refl

pub mixed_more : (es : List Entry) (x : Entry) → some_mixed (es ++ (x ∷ [])) ≡ (some_mixed es || is_mixed x.word)
mixed_more [] x = or_none (is_mixed x.word)
mixed_more (e ∷ es) x = ap (λ (b : Bool). is_mixed e.word || b) (mixed_more es x) ∙ or_assoc (is_mixed e.word) (some_mixed es) (is_mixed x.word)

-- what is left of the plan
abbrev matches : Entry → Entry → Bool
matches x y = eqb x.dart y.dart && same_b x.ends y.ends

left_more : (es plan : List Entry) (x : Entry) → left_behind (es ++ (x ∷ [])) plan ≡ option_and_then (left_behind (x ∷ [])) (left_behind es plan)
left_more [] plan x = refl
left_more (e ∷ es) [] x = refl
left_more (e ∷ es) (y ∷ plan) x = go (matches e y) (left_behind es plan) (left_more es plan x)
  where
    go : (b : Bool) {l : Option (List Entry)} (m : Option (List Entry)) → l ≡ option_and_then (left_behind (x ∷ [])) m → pick b l None ≡ option_and_then (left_behind (x ∷ [])) (pick b m None)
    go true m ih = ih
    go false m ih = refl

-- nothing is left exactly of entries that have the plan's darts and ends of lines
abbrev pub none_left : Option (List Entry) → Bool
none_left None = false
none_left (Some []) = true
none_left (Some (x ∷ xs)) = false

pub same_left : (es plan : List Entry) → same_faces es plan ≡ none_left (left_behind es plan)
same_left [] [] = refl
same_left [] (y ∷ plan) = refl
same_left (e ∷ es) [] = refl
same_left (e ∷ es) (y ∷ plan) = go (matches e y) (left_behind es plan) (same_left es plan)
  where
    go : (b : Bool) {c : Bool} (m : Option (List Entry)) → c ≡ none_left m → (b && c) ≡ none_left (pick b m None)
    go true m e = e
    go false m e = refl

-- the darts of a plan are those of its first entries and of what is left
left_darts : (es plan : List Entry) {xs : List Entry} → left_behind es plan ≡ Some xs → darts_of plan ≡ darts_of es ++ darts_of xs
left_darts [] plan h = ap darts_of (some_same h)
  where
    some_same : {A : Type 0} {x y : A} → Some x ≡ Some y → x ≡ y
    some_same e = cc e
left_darts (e ∷ es) [] h = absurd (cc)
left_darts (e ∷ es) (y ∷ plan) {xs} h = go (matches e y) refl h (left_darts es plan)
  where
    go : (b : Bool) → matches e y ≡ b → pick b (left_behind es plan) None ≡ Some xs → (left_behind es plan ≡ Some xs → darts_of plan ≡ darts_of es ++ darts_of xs) → y.dart ∷ darts_of plan ≡ e.dart ∷ (darts_of es ++ darts_of xs)
    go true t k more = (λ i. sym (eqb-true e.dart y.dart (and_left (eqb e.dart y.dart) _ t)) i ∷ more k i)
    go false t k more = absurd (cc)

new_dart : (d : ℕ) (ds ms : List ℕ) → distinct (ds ++ (d ∷ ms)) ≡ true → is_in d ds ≡ false
new_dart d [] ms h = refl
new_dart d (e ∷ ds) ms h =
    not_true_false (is_in d (e ∷ ds))
    (λ z. ⊎_elim (λ q. not_both (subst (λ (k : ℕ). is_in k (ds ++ (d ∷ ms)) ≡ true) q (in_right d ds (d ∷ ms) (in_here d ms))) (distinct_head e (ds ++ (d ∷ ms)) h))
    (λ q. not_both q (new_dart d ds ms (distinct_rest e (ds ++ (d ∷ ms)) h))) (in_cases d e ds z))

-- words and angles by dart, one entry more
module _ (x : Entry) where
  word_last : (es : List Entry) → is_in x.dart (darts_of es) ≡ false → word_of x.dart (es ++ (x ∷ [])) ≡ x.word
  word_last [] h = ap (λ (b : Bool). pick b x.word []) (eq-eqb x.dart x.dart refl)
  word_last (e ∷ es) h =
      ap (λ (b : Bool). pick b e.word (word_of x.dart (es ++ (x ∷ [])))) (or_left_false (eqb x.dart e.dart) (is_in x.dart (darts_of es)) h)
      ∙ word_last es (or_right_false (eqb x.dart e.dart) (is_in x.dart (darts_of es)) h)

  angle_last : (es : List Entry) → is_in x.dart (darts_of es) ≡ false → angle_of x.dart (es ++ (x ∷ [])) ≡ x.angle
  angle_last [] h = ap (λ (b : Bool). pick b x.angle 0) (eq-eqb x.dart x.dart refl)
  angle_last (e ∷ es) h =
      ap (λ (b : Bool). pick b e.angle (angle_of x.dart (es ++ (x ∷ [])))) (or_left_false (eqb x.dart e.dart) (is_in x.dart (darts_of es)) h)
      ∙ angle_last es (or_right_false (eqb x.dart e.dart) (is_in x.dart (darts_of es)) h)

  word_other : (d : ℕ) (es : List Entry) → (d ≡ x.dart → ⊥) → word_of d (es ++ (x ∷ [])) ≡ word_of d es
  word_other d [] h = ap (λ (b : Bool). pick b x.word []) (ne_eqb d x.dart h)
  word_other d (e ∷ es) h = ap (pick (eqb d e.dart) e.word) (word_other d es h)

  angle_other : (d : ℕ) (es : List Entry) → (d ≡ x.dart → ⊥) → angle_of d (es ++ (x ∷ [])) ≡ angle_of d es
  angle_other d [] h = ap (λ (b : Bool). pick b x.angle 0) (ne_eqb d x.dart h)
  angle_other d (e ∷ es) h = ap (pick (eqb d e.dart) e.angle) (angle_other d es h)

  tables_more : {es : List Entry} {a r l : List ℕ} (d angle right left : ℕ) → Tables es a r l → is_in x.dart (darts_of es) ≡ false → d ≡ x.dart → d < 256 → angle ≡ x.angle → right ≡ rights x.word → left ≡ lefts x.word
      → Tables (es ++ (x ∷ [])) (set a d angle) (set r d right) (set l d left)
  tables_more {es} {a} {r} {l} d angle right left t new d-is below a-is r-is l-is =
      let word : word_of d (es ++ (x ∷ [])) ≡ x.word = ap (λ (k : ℕ). word_of k (es ++ (x ∷ []))) d-is ∙ word_last es new in
      let ang : angle_of d (es ++ (x ∷ [])) ≡ x.angle = ap (λ (k : ℕ). angle_of k (es ++ (x ∷ []))) d-is ∙ angle_last es new in
      record {
        angles = table_set 256 (λ i. angle_of i es) (λ i. angle_of i (es ++ (x ∷ []))) a d angle t.angles below (a-is ∙ sym ang) (λ i n. angle_other i es (λ z. n (z ∙ sym d-is)));
        rights = table_set 256 (λ i. rights (word_of i es)) (λ i. rights (word_of i (es ++ (x ∷ [])))) r d right t.rights below (r-is ∙ ap rights (sym word)) (λ i n. ap rights (word_other i es (λ z. n (z ∙ sym d-is))));
        lefts = table_set 256 (λ i. lefts (word_of i es)) (λ i. lefts (word_of i (es ++ (x ∷ [])))) l d left t.lefts below (l-is ∙ ap lefts (sym word)) (λ i n. ap lefts (word_other i es (λ z. n (z ∙ sym d-is))));
      }

-- the code's comparison
pub ends_same : (a b : Bool) → not (beq a b) ≡ false → a ≡ b
ends_same true true e = refl
ends_same true false e = absurd (cc)
ends_same false true e = absurd (cc)
ends_same false false e = refl

pub ends_other : (a b : Bool) → not (beq a b) ≡ true → a ≡ b → ⊥
ends_other true true e z = cc
ends_other true false e z = cc
ends_other false true e z = cc
ends_other false false e z = cc

same_ends : (a b : Bool) → a ≡ b → same_b a b ≡ true
same_ends a b e = subst (λ (c : Bool). same_b a c ≡ true) e (bend_same a)

other_ends : (a b : Bool) → (a ≡ b → ⊥) → same_b a b ≡ false
other_ends true true n = absurd (n refl)
other_ends true false n = refl
other_ends false true n = refl
other_ends false false n = absurd (n refl)

-- an entry taken
module _ {plan es : List Entry} (x : Entry) {e : Held} {left : Option (List Entry)} {c : Counted} (once : IsPlan plan) (is : e ≡ held x) (filled : ReadSoFar plan es left c) where
  then_left : left_behind (es ++ (x ∷ [])) plan ≡ option_and_then (left_behind (x ∷ [])) left
  then_left = left_more es plan x ∙ ap (option_and_then (left_behind (x ∷ []))) (sym filled.left_is)

  nothing_left : left_behind (es ++ (x ∷ [])) plan ≡ None → ReadSoFar plan (es ++ (x ∷ [])) None c
  nothing_left n = record { left_is = sym n; tables = λ xs z. absurd (cc) }

  -- not the plan's, since an entry before was not, or since nothing of it is left
  pub taken_late : left ≡ None → ReadSoFar plan (es ++ (x ∷ [])) None c
  taken_late n = nothing_left (then_left ∙ ap (option_and_then (left_behind (x ∷ []))) n)

  pub taken_behind : (ts : List Turn) → length ts ≡ 0 → left ≡ Some (laid ts) → ReadSoFar plan (es ++ (x ∷ [])) None c
  taken_behind [] z n = nothing_left (then_left ∙ ap (option_and_then (left_behind (x ∷ []))) n)
  taken_behind (t ∷ ts) z n = absurd (omega arith)

  module _ (t : Turn) (rest : List Turn) (next : left ≡ Some (laid (t ∷ rest))) {d : ℕ} (d-is : d ≡ t.dart) (below : d < 256) where
    by_test : left_behind (es ++ (x ∷ [])) plan ≡ pick (matches x (entry t.dart [] 0 t.last)) (Some (laid rest)) None
    by_test = then_left ∙ ap (option_and_then (left_behind (x ∷ []))) next

    dart_is : e.dart ≡ capped x.dart
    dart_is = ap (λ (h : Held). h.dart) is

    last_is : e.last ≡ x.ends
    last_is = ap (λ (h : Held). h.last) is

    -- not the plan's
    pub other_dart : (e.dart ≡ d → ⊥) → ReadSoFar plan (es ++ (x ∷ [])) None c
    other_dart n = nothing_left (by_test ∙ ap (λ (b : Bool). pick (b && same_b x.ends t.last) (Some (laid rest)) None) (ne_eqb x.dart t.dart (λ z. n (omega (arith, dart_is, d-is, z)))))

    pub other_end : e.dart ≡ d → (e.last ≡ t.last → ⊥) → ReadSoFar plan (es ++ (x ∷ [])) None c
    other_end q n = nothing_left (by_test ∙ (λ i. pick (eq-eqb x.dart t.dart (omega (arith, dart_is, d-is, q)) i && other_ends x.ends t.last (λ z. n (last_is ∙ z)) i) (Some (laid rest)) None))

    pub taken_planned : e.dart ≡ d → e.last ≡ t.last → ReadSoFar plan (es ++ (x ∷ [])) (Some (laid rest)) (record { angles = set c.angles d e.angle; rights = set c.rights d e.word.right; lefts = set c.lefts d e.word.left })
    taken_planned q z =
        let same : x.dart ≡ t.dart = omega (arith, dart_is, d-is, q) in
        record {
          left_is = sym (by_test ∙ ap (λ (b : Bool). pick b (Some (laid rest)) None) (and_both (eqb x.dart t.dart) (same_b x.ends t.last) (eq-eqb x.dart t.dart same) (same_ends x.ends t.last (sym last_is ∙ z))));
          tables = λ xs k. tables_more x d e.angle e.word.right e.word.left (filled.tables (laid (t ∷ rest)) next) new (d-is ∙ sym same) below (ap (λ (h : Held). h.angle) is) (ap (λ (h : Held). h.word.right) is) (ap (λ (h : Held). h.word.left) is);
        }
      where
        new : is_in x.dart (darts_of es) ≡ false
        new =
            let same : x.dart ≡ t.dart = omega (arith, dart_is, d-is, q) in
            ap (λ (k : ℕ). is_in k (darts_of es)) same ∙ new_dart t.dart (darts_of es) (darts_of (laid rest)) (sym (ap distinct (left_darts es plan (sym filled.left_is ∙ next))) ∙ once)

-- nothing read
nothing_table : Table 256 (λ d. 0) (replicate 256 0)
nothing_table = record { size = length-replicate {A = ℕ} 256 0; at = λ i l. get_or-replicate {A = ℕ} 256 i 0 0 l }

pub nothing_filled : (plan : List Entry) → ReadSoFar plan [] (Some plan) (record { angles = replicate 256 0; rights = replicate 256 0; lefts = replicate 256 0 })
nothing_filled plan = record {
  left_is = refl;
  tables = λ xs z. record { angles = nothing_table; rights = nothing_table; lefts = nothing_table };
}
