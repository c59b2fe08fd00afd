-- An order laid out from rows as long as the degrees: the parts are the rows. Parts of leaving darts, each once, make a plate ordered.
use mathlib.Core.Path.{◌≡◌, refl, sym, ap, ◌∙◌}
use mathlib.Core.Bool.{Bool, true, ◌&&◌}
use mathlib.Core.List.{List, [], ◌∷◌, ◌++◌, append_assoc}
use mathlib.Core.Logic.{⊎_elim}
use Prim.Native.Nat.{ℕ, zero, suc, ◌%◌, ◌<◌}
use native.Mathlib.Omega.{arith}
use borrow.Author.Tests.{eq-eqb, lt-ltb}
use lib.Dec.{eqb, ltb}
use lib.ListN.{length, take, drop, length-append}
use lib.Seq.{take_all, take_at, drop_at}
use Rattle.finite.proofs.Members.{all_in, get_d_in, in_here, in_more}
use Rattle.finite.proofs.Sums.{sum_cong, sum_ones}
use Rattle.finite.proofs.Tests.{equal_or_not, and_both, each_from, and_assoc}
use Rattle.embedding.specs.Plates.{when, is_in, Plate, darts, leaves, degree, before, part_of, all_below, distinct, all_leave, parts_ok}
use Rattle.embedding.specs.Edits.{laid}
use Rattle.embedding.proofs.Rotation.{Ordered, before_count}

module _ (p : Plate) (rows : ℕ → List ℕ) where
  pub laid_long : (n : ℕ) → ((v : ℕ) → v < n → length (rows v) ≡ degree p v) → length (laid n rows) ≡ before p n
  laid_long zero h = refl
  laid_long (suc n) h = omega (arith, length-append (laid n rows) (rows n), h n (omega arith), laid_long n (λ v l. h v (omega arith)))

  pub part_laid : (n : ℕ) (rest : List ℕ) → p.order ≡ laid n rows ++ rest → ((v : ℕ) → v < n → length (rows v) ≡ degree p v) → (v : ℕ) → v < n → part_of p v ≡ rows v
  part_laid zero rest e h v l = absurd (omega arith)
  part_laid (suc n) rest e h v l = ⊎_elim here (λ q. part_laid n (rows n ++ rest) (e ∙ append_assoc (laid n rows) (rows n) rest) (λ u k. h u (omega arith)) v (omega arith)) (equal_or_not v n)
    where
      from_n : drop (before p n) p.order ≡ rows n ++ rest
      from_n =
          ap (drop (before p n)) (e ∙ append_assoc (laid n rows) (rows n) rest)
          ∙ drop_at (laid n rows) (rows n ++ rest) (before p n) (laid_long n (λ u k. h u (omega arith)))

      here : v ≡ n → part_of p v ≡ rows v
      here q =
          ap (part_of p) q ∙ ap (take (degree p n)) from_n ∙ take_at (rows n) rest (degree p n) (h n (omega arith)) ∙ ap rows (sym q)

  -- the last part is what stands behind the rows
  pub part_rest : (n : ℕ) (rest : List ℕ) → p.order ≡ laid n rows ++ rest → ((v : ℕ) → v < n → length (rows v) ≡ degree p v) → length rest ≡ degree p n → part_of p n ≡ rest
  part_rest n rest e h k =
      ap (λ (o : List ℕ). take (degree p n) (drop (before p n) o)) e
      ∙ ap (take (degree p n)) (drop_at (laid n rows) rest (before p n) (laid_long n h))
      ∙ take_all (degree p n) rest (omega arith)

module _ (p : Plate) (ends_below : all_below p.posts p.ends ≡ true) where
  -- the degrees of all posts make up the darts
  pub before_all : before p p.posts ≡ darts p
  before_all =
      before_count p p.posts
      ∙ sum_cong (darts p) (λ i. when (ltb (leaves p i) p.posts) 1) (λ i. 1)
      (λ i l. ap (λ (b : Bool). when b 1) (lt-ltb (leaves p i) p.posts (all_in p.posts (leaves p i) p.ends ends_below (get_d_in p.ends i l))))
      ∙ sum_ones (darts p)

  all-leave : (v : ℕ) (ds : List ℕ) → ((d : ℕ) → is_in d ds ≡ true → (d < darts p) × (leaves p d ≡ v)) → all_leave p v ds ≡ true
  all-leave v [] h = refl
  all-leave v (d ∷ ds) h =
      let at_d = h d (in_here d ds) in
      and_both (ltb d (darts p)) (eqb (leaves p d) v && all_leave p v ds) (lt-ltb d (darts p) at_d.0)
      (and_both (eqb (leaves p d) v) (all_leave p v ds) (eq-eqb (leaves p d) v at_d.1) (all-leave v ds (λ x e. h x (in_more x d ds e))))

  pub ordered_from : darts p % 2 ≡ 0 → length p.order ≡ darts p
      → ((v : ℕ) → v < p.posts → (d : ℕ) → is_in d (part_of p v) ≡ true → (d < darts p) × (leaves p d ≡ v))
      → ((v : ℕ) → v < p.posts → distinct (part_of p v) ≡ true)
      → Ordered p
  ordered_from even long leave once =
      record {
        even = even;
        ends_below = ends_below;
        all_ordered = long;
        parts-ok =
            each_from (λ n a. parts_ok n a p) (λ v. all_leave p v (part_of p v) && distinct (part_of p v)) (λ a. refl)
            (λ n a. and_assoc (all_leave p a (part_of p a)) (distinct (part_of p a)) (parts_ok n (suc a) p)) p.posts 0
            (λ v l k. and_both (all_leave p v (part_of p v)) (distinct (part_of p v)) (all-leave v (part_of p v) (leave v (omega arith))) (once v (omega arith)));
      }
