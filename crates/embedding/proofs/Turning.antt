-- A list of distinct elements read cyclically from another element on: each has the same element before it, round the list. Putting in and renaming keep lists turned.
use mathlib.Core.Path.{◌≡◌, refl, sym, ap, ap₂, subst, ◌∙◌}
use mathlib.Core.Bool.{true, false}
use mathlib.Core.List.{List, [], ◌∷◌, ◌++◌, append-nil}
use mathlib.Core.Logic.{⊎_elim}
use Prim.Native.Nat.{ℕ}
use Rattle.finite.proofs.Members.{in_none, in_past, in_cases, in_append, in_right, distinct_head, distinct_rest}
use Rattle.finite.proofs.Tests.{either, equal_or_not, not_both, not_true_false}
use Rattle.embedding.specs.Plates.{is_in, distinct, last_of, just_before}
use Rattle.embedding.specs.Edits.{put_before, renamed, Turned}
use Rattle.embedding.proofs.Rotation.{before_here, before_on, round_before}
use Rattle.embedding.proofs.Placing.{not_head, not_rest, put_none}
use Rattle.embedding.proofs.Flat.{put_left, put_right, renamed_append}

pub turned_none : (xs : List ℕ) → Turned xs xs
turned_none xs = record { front = []; back = xs; from = refl; to = sym (append-nil xs) }

pub turned_same : {xs ys us vs : List ℕ} → xs ≡ us → ys ≡ vs → Turned us vs → Turned xs ys
turned_same e f t = record { front = t.front; back = t.back; from = e ∙ t.from; to = f ∙ t.to }

-- in two lists one after the other
apart : (x : ℕ) (us vs : List ℕ) → distinct (us ++ vs) ≡ true → is_in x us ≡ true → is_in x vs ≡ false
apart x [] vs d i = absurd (in_none x i)
apart x (u ∷ us) vs d i =
    ⊎_elim (λ q. not_true_false (is_in x vs) (λ j. not_both (subst (λ (y : ℕ). is_in y (us ++ vs) ≡ true) q (in_right x us vs j)) (distinct_head u (us ++ vs) d)))
    (λ j. apart x us vs (distinct_rest u (us ++ vs) d) j)
    (in_cases x u us i)

before_left : (x q : ℕ) (us vs : List ℕ) → is_in x us ≡ true → just_before x q (us ++ vs) ≡ just_before x q us
before_left x q [] vs i = absurd (in_none x i)
before_left x q (u ∷ us) vs i =
    ⊎_elim (λ h. before_here x q u (us ++ vs) h ∙ sym (before_here x q u us h))
    (λ h. before_on x q u (us ++ vs) h ∙ before_left x u us vs (in_past x u us h i) ∙ sym (before_on x q u us h))
    (equal_or_not x u)

before_right : (x q : ℕ) (us vs : List ℕ) → is_in x us ≡ false → just_before x q (us ++ vs) ≡ just_before x (last_of (q ∷ us)) vs
before_right x q [] vs i = refl
before_right x q (u ∷ us) vs i = before_on x q u (us ++ vs) (not_head x u us i) ∙ before_right x u us vs (not_rest x u us i)

last_append : (us : List ℕ) (v : ℕ) (vs : List ℕ) → last_of (us ++ (v ∷ vs)) ≡ last_of (v ∷ vs)
last_append [] v vs = refl
last_append (u ∷ []) v vs = refl
last_append (u ∷ (w ∷ us)) v vs = last_append (w ∷ us) v vs

-- what stands before us, round both lists
last_round : (us vs : List ℕ) → last_of (last_of (vs ++ us) ∷ vs) ≡ last_of (us ++ vs)
last_round us [] = ap last_of (sym (append-nil us))
last_round us (v ∷ vs) = sym (last_append us v vs)

round_turned : (us vs : List ℕ) (x : ℕ) → is_in x us ≡ true → is_in x vs ≡ false → round_before (vs ++ us) x ≡ round_before (us ++ vs) x
round_turned us vs x i j =
    before_right x (last_of (vs ++ us)) vs us j ∙ ap (λ (q : ℕ). just_before x q us) (last_round us vs)
    ∙ sym (before_left x (last_of (us ++ vs)) us vs i)

put_first : (a b : ℕ) (us vs : List ℕ) → is_in a vs ≡ false → put_before a b (us ++ vs) ≡ put_before a b us ++ vs
put_first a b us vs e =
    ⊎_elim (put_left a b us vs)
    (λ h. put_right a b us vs h ∙ ap₂ (λ (l r : List ℕ). l ++ r) (sym (put_none a b us h)) (put_none a b vs e))
    (either (is_in a us))

module _ {xs ys : List ℕ} (t : Turned xs ys) where
  parts_distinct : distinct xs ≡ true → distinct (t.front ++ t.back) ≡ true
  parts_distinct = subst (λ (l : List ℕ). distinct l ≡ true) t.from

  -- the element before each, round the list
  pub turned_round : distinct xs ≡ true → (x : ℕ) → is_in x xs ≡ true → round_before ys x ≡ round_before xs x
  turned_round d x i =
      ap (λ (l : List ℕ). round_before l x) t.to ∙ ⊎_elim in_front in_back (either (is_in x t.front)) ∙ ap (λ (l : List ℕ). round_before l x) (sym t.from)
    where
      in_front : is_in x t.front ≡ true → round_before (t.back ++ t.front) x ≡ round_before (t.front ++ t.back) x
      in_front h = round_turned t.front t.back x h (apart x t.front t.back (parts_distinct d) h)

      in_back : is_in x t.front ≡ false → round_before (t.back ++ t.front) x ≡ round_before (t.front ++ t.back) x
      in_back h =
          sym (round_turned t.back t.front x
          (⊎_elim (λ j. absurd (not_both j h)) (λ j. j) (in_append x t.front t.back (subst (λ (l : List ℕ). is_in x l ≡ true) t.from i))) h)

  -- b put in just before a
  pub turned_put : (a b : ℕ) → distinct xs ≡ true → Turned (put_before a b xs) (put_before a b ys)
  turned_put a b d = ⊎_elim in_front not_front (either (is_in a t.front))
    where
      in_front : is_in a t.front ≡ true → Turned (put_before a b xs) (put_before a b ys)
      in_front h =
          let out : is_in a t.back ≡ false = apart a t.front t.back (parts_distinct d) h in
          record {
            front = put_before a b t.front;
            back = t.back;
            from = ap (put_before a b) t.from ∙ put_left a b t.front t.back h;
            to = ap (put_before a b) t.to ∙ put_right a b t.back t.front out;
          }

      not_front : is_in a t.front ≡ false → Turned (put_before a b xs) (put_before a b ys)
      not_front h =
          record {
            front = t.front;
            back = put_before a b t.back;
            from = ap (put_before a b) t.from ∙ put_right a b t.front t.back h;
            to = ap (put_before a b) t.to ∙ put_first a b t.back t.front h;
          }

  -- b in the place of a
  pub turned_renamed : (a b : ℕ) → Turned (renamed a b xs) (renamed a b ys)
  turned_renamed a b =
      record {
        front = renamed a b t.front;
        back = renamed a b t.back;
        from = ap (renamed a b) t.from ∙ renamed_append a b t.front t.back;
        to = ap (renamed a b) t.to ∙ renamed_append a b t.back t.front;
      }
