-- The order as one list: it is the parts laid out, each dart once; putting in and renaming can be done in it at one place.
use mathlib.Core.Path.{◌≡◌, refl, sym, ap, ap₂, subst, ◌∙◌}
use mathlib.Core.Bool.{true, false}
use mathlib.Core.List.{List, [], ◌∷◌, ◌++◌}
use mathlib.Core.Logic.{⊎_elim}
use Prim.Native.Nat.{ℕ, zero, suc, ◌+◌, ◌≤◌, ◌<◌}
use native.Mathlib.Omega.{arith}
use lib.ListN.{length, take, drop, set}
use lib.Seq.{take_all, take-add}
use Rattle.finite.proofs.Members.{in_none, in_past, in_append, in_left, in_right, distinct_head, distinct_rest, distinct_append}
use Rattle.finite.proofs.Tests.{either, equal_or_not, not_true_false}
use Rattle.embedding.specs.Plates.{is_in, Plate, degree, before, part_of, distinct}
use Rattle.embedding.specs.Read.{place_of}
use Rattle.embedding.specs.Edits.{laid, put_before, rename, renamed}
use Rattle.embedding.proofs.Rotation.{Ordered, part_leaves, part_distinct}
use Rattle.embedding.proofs.Placing.{put_here, put_on, put_none, not_head, not_rest, rename_at, rename_other}
use Rattle.embedding.proofs.Rows.{before_all}
use Rattle.embedding.proofs.Answers.{place_hit, place_miss, place-in}

-- where x stands
pub place_none : (x : ℕ) (ys : List ℕ) → is_in x ys ≡ false → place_of x ys ≡ length ys
place_none x [] e = refl
place_none x (y ∷ ys) e = place_miss x y ys (not_head x y ys e) ∙ ap suc (place_none x ys (not_rest x y ys e))

pub place_some : (x : ℕ) (ys : List ℕ) → is_in x ys ≡ true → place_of x ys < length ys
place_some x ys e = (place-in x ys e).0

-- y put in just before x, at x's place
pub put_placed : (x y : ℕ) (zs : List ℕ) → is_in x zs ≡ true → put_before x y zs ≡ take (place_of x zs) zs ++ (y ∷ drop (place_of x zs) zs)
put_placed x y [] e = absurd (in_none x e)
put_placed x y (z ∷ zs) e =
    ⊎_elim
    (λ q. put_here x y z zs q ∙ ap (λ (k : ℕ). take k (z ∷ zs) ++ (y ∷ drop k (z ∷ zs))) (sym (place_hit x z zs q)))
    (λ q. put_on x y z zs q ∙ ap (λ (l : List ℕ). z ∷ l) (put_placed x y zs (in_past x z zs q e)) ∙ ap (λ (k : ℕ). take k (z ∷ zs) ++ (y ∷ drop k (z ∷ zs))) (sym (place_miss x z zs q)))
    (equal_or_not x z)

-- y in the place of x, which stands there once
pub renamed_none : (x y : ℕ) (zs : List ℕ) → is_in x zs ≡ false → renamed x y zs ≡ zs
renamed_none x y [] e = refl
renamed_none x y (z ∷ zs) e = ap₂ (λ (u : ℕ) (l : List ℕ). u ∷ l) (rename_other x y z (not_head x z zs e)) (renamed_none x y zs (not_rest x z zs e))

pub renamed_placed : (x y : ℕ) (zs : List ℕ) → distinct zs ≡ true → is_in x zs ≡ true → renamed x y zs ≡ set zs (place_of x zs) y
renamed_placed x y [] d e = absurd (in_none x e)
renamed_placed x y (z ∷ zs) d e =
    ⊎_elim
    (λ q. ap₂ (λ (u : ℕ) (l : List ℕ). u ∷ l) (rename_at x y z q) (renamed_none x y zs (subst (λ (u : ℕ). is_in u zs ≡ false) (sym q) (distinct_head z zs d)))
    ∙ ap (λ (k : ℕ). set (z ∷ zs) k y) (sym (place_hit x z zs q)))
    (λ q. ap₂ (λ (u : ℕ) (l : List ℕ). u ∷ l) (rename_other x y z q) (renamed_placed x y zs (distinct_rest z zs d) (in_past x z zs q e))
    ∙ ap (λ (k : ℕ). set (z ∷ zs) k y) (sym (place_miss x z zs q)))
    (equal_or_not x z)

-- in two lists one after the other
pub put_left : (x y : ℕ) (xs ys : List ℕ) → is_in x xs ≡ true → put_before x y (xs ++ ys) ≡ put_before x y xs ++ ys
put_left x y [] ys e = absurd (in_none x e)
put_left x y (z ∷ zs) ys e =
    ⊎_elim (λ q. put_here x y z (zs ++ ys) q ∙ ap (λ (l : List ℕ). l ++ ys) (sym (put_here x y z zs q)))
    (λ q. put_on x y z (zs ++ ys) q ∙ ap (λ (l : List ℕ). z ∷ l) (put_left x y zs ys (in_past x z zs q e)) ∙ ap (λ (l : List ℕ). l ++ ys) (sym (put_on x y z zs q)))
    (equal_or_not x z)

pub put_right : (x y : ℕ) (xs ys : List ℕ) → is_in x xs ≡ false → put_before x y (xs ++ ys) ≡ xs ++ put_before x y ys
put_right x y [] ys e = refl
put_right x y (z ∷ zs) ys e = put_on x y z (zs ++ ys) (not_head x z zs e) ∙ ap (λ (l : List ℕ). z ∷ l) (put_right x y zs ys (not_rest x z zs e))

pub renamed_append : (x y : ℕ) (xs ys : List ℕ) → renamed x y (xs ++ ys) ≡ renamed x y xs ++ renamed x y ys
renamed_append x y [] ys = refl
renamed_append x y (z ∷ zs) ys = ap (λ (l : List ℕ). rename x y z ∷ l) (renamed_append x y zs ys)

module _ (rows : ℕ → List ℕ) where
  pub in_laid : (n x : ℕ) → is_in x (laid n rows) ≡ true → (v : ℕ) × (v < n) × (is_in x (rows v) ≡ true)
  in_laid zero x e = absurd (in_none x e)
  in_laid (suc n) x e =
      ⊎_elim (λ h. let (v, l, i) = in_laid n x h in (v, omega arith, i)) (λ h. (n, omega arith, h)) (in_append x (laid n rows) (rows n) e)

  pub laid_in_lem : (n x v : ℕ) → v < n → is_in x (rows v) ≡ true → is_in x (laid n rows) ≡ true
  laid_in_lem zero x v l i = absurd (omega arith)
  laid_in_lem (suc n) x v l i =
      ⊎_elim (λ q. in_right x (laid n rows) (rows n) (subst (λ (u : ℕ). is_in x (rows u) ≡ true) q i)) (λ q. in_left x (laid n rows) (rows n) (laid_in_lem n x v (omega arith) i)) (equal_or_not v n)

  pub laid_renamed : (x y n : ℕ) → laid n (λ v. renamed x y (rows v)) ≡ renamed x y (laid n rows)
  laid_renamed x y zero = refl
  laid_renamed x y (suc n) = ap (λ (l : List ℕ). l ++ renamed x y (rows n)) (laid_renamed x y n) ∙ sym (renamed_append x y (laid n rows) (rows n))

  -- x stands in one row at most
  pub laid_put : (x y n : ℕ) → ((u v : ℕ) → u < n → v < n → is_in x (rows u) ≡ true → is_in x (rows v) ≡ true → u ≡ v) → laid n (λ v. put_before x y (rows v)) ≡ put_before x y (laid n rows)
  laid_put x y zero h = refl
  laid_put x y (suc n) h = ap (λ (l : List ℕ). l ++ put_before x y (rows n)) (laid_put x y n (λ u v l k. h u v (omega arith) (omega arith))) ∙ ⊎_elim first last (either (is_in x (laid n rows)))
    where
      first : is_in x (laid n rows) ≡ true → put_before x y (laid n rows) ++ put_before x y (rows n) ≡ put_before x y (laid n rows ++ rows n)
      first e =
          let (v, l, i) = in_laid n x e in
          let out : is_in x (rows n) ≡ false = not_true_false (is_in x (rows n)) (λ j. omega (arith, h v n (omega arith) (omega arith) i j)) in
          ap (λ (l : List ℕ). put_before x y (laid n rows) ++ l) (put_none x y (rows n) out) ∙ sym (put_left x y (laid n rows) (rows n) e)

      last : is_in x (laid n rows) ≡ false → put_before x y (laid n rows) ++ put_before x y (rows n) ≡ put_before x y (laid n rows ++ rows n)
      last e = ap (λ (l : List ℕ). l ++ put_before x y (rows n)) (put_none x y (laid n rows) e) ∙ sym (put_right x y (laid n rows) (rows n) e)

module _ (p : Plate) (o : Ordered p) where
  order_front : (n : ℕ) → laid n (part_of p) ≡ take (before p n) p.order
  order_front zero = refl
  order_front (suc n) =
      ap (λ (l : List ℕ). l ++ part_of p n) (order_front n) ∙ sym (take-add (before p n) (degree p n) p.order)
      ∙ ap (λ (k : ℕ). take k p.order) {x = before p n + degree p n} {y = degree p n + before p n} (omega arith)

  -- the order is the parts laid out
  pub order_laid : laid p.posts (part_of p) ≡ p.order
  order_laid = order_front p.posts ∙ take_all (before p p.posts) p.order (omega (arith, before_all p o.ends_below, o.all_ordered))

  -- a dart stands in one part
  pub one_part : (x u v : ℕ) → u < p.posts → v < p.posts → is_in x (part_of p u) ≡ true → is_in x (part_of p v) ≡ true → u ≡ v
  one_part x u v l k i j = sym (part_leaves p o u l x i).1 ∙ (part_leaves p o v k x j).1

  laid_once : (n : ℕ) → n ≤ p.posts → distinct (laid n (part_of p)) ≡ true
  laid_once zero l = refl
  laid_once (suc n) l =
      distinct_append (laid n (part_of p)) (part_of p n) (laid_once n (omega arith)) (part_distinct p o n (omega arith))
      (λ x i j. let (v, k, h) = in_laid (part_of p) n x i in omega (arith, one_part x v n (omega arith) (omega arith) h j))

  pub order_once : distinct p.order ≡ true
  order_once = subst (λ (l : List ℕ). distinct l ≡ true) order_laid (laid_once p.posts (omega arith))
