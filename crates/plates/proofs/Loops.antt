-- Strips from a post to itself, over lists. Where 10 was not given the numbers are the same, so the promises are, and they leave no choice. Assumes nothing.
use mathlib.Core.Path.{◌≡◌, refl, sym, ap, ap₂, subst, ◌∙◌}
use mathlib.Core.Bool.{Bool, true, false, ◌&&◌, not}
use mathlib.Core.List.{List, [], ◌∷◌}
use Prim.Native.Nat.{ℕ}
use native.Mathlib.Omega.{arith}
use lib.Dec.{eqb, ltb}
use lib.ListN.{length}
use Rattle.finite.proofs.Tests.{first_same, first-of, when_of, fault-of}
use Rattle.embedding.proofs.Loops as Plates
use Rattle.shapes.proofs.Accepted.{faultless, ordered}
use Rattle.shapes.proofs.Tried.{loop_best}
use Rattle.shapes.proofs.Unpriced.{best-by}
use Rattle.plates.specs.Plates.{first_of, when, darts, faces, plate_fault}
use Rattle.plates.specs.Shapes.{rights_of, angles_ok, posts_ok, faces_ok, total, pair_sums, all_within, all_free, shape_of}
use Rattle.plates.specs.Files.{walk_all, content_of, rates_fault, list_fault, plate_of, limits_of, is_priced, shape_bytes}
use Rattle.plates.specs.Claims.{BestOf}
use Rattle.plates.specs.Says.{over, word, angles_in, rights_in, sum_true, file_long, shape_fault, file_fault, check_fault, ShapeWith, CheckWith}
use Rattle.plates.specs.Listing.{ListingWith}
use Rattle.plates.specs.Answers.{Shaped, shaped}
use Rattle.plates.specs.Loops.{plate_fault_before, list_fault_before, ShapeSaysBefore, AsBefore, Kept, loop_list, OneLoop, ToItself}
use Rattle.plates.proofs.Lists.{of_plate, list_accepted, list_demands, file_number, list_number}
use Rattle.plates.proofs.OneAnswer.{shape_only, written_only, check_only, listing_only}

-- a list that is refused in its walk has that number either way
same_number : (s : List ℕ) → (list_fault_before s ≡ 10 → ⊥) → list_fault s ≡ list_fault_before s
same_number s n =
    let p = plate_of s in
    let rates = rates_fault (walk_all false s).fields in
    first_same (walk_all false s).number (first_of (plate_fault p) rates) (first_of (plate_fault_before p) rates)
    (λ q. ap (λ (k : ℕ). first_of k rates) (Plates.same_fault p (λ t. n (ap₂ (λ (k m : ℕ). first_of k (first_of m rates)) q t))))

as_before : (s : List ℕ) → (list_fault_before s ≡ 10 → ⊥) → AsBefore s
as_before s n =
    let e = same_number s n in
    record {
      number = e;
      written = λ o o₁ o₂ r q b a. shape_only s o o₁ o₂ r q (b.0, b.1, subst (λ (f : ℕ). ShapeWith (first_of f (first_of (when b.0 24) (when (ltb (length o) (file_long s)) 16))) s o o₁ r) (sym e) b.2) a;
      checked = λ t r q b a. check_only s t r q (subst (λ (f : ℕ). CheckWith (first_of f (file_fault s t)) s t r) (sym e) b) a;
      listed = λ o o₁ o₂ r q b a. listing_only s o o₁ o₂ r q (b.0, b.1, subst (λ (f : ℕ). ListingWith (first_of f (when b.0 24)) s o o₁ r) (sym e) b.2) a;
    }

-- for memory that is long enough the best shape, for other memory 16
module _ (s : List ℕ) (z : list_fault_before s ≡ 0) (a x : List ℕ) (best : BestOf s (shape_of (plate_of s) a x)) (counts : rights_of (shape_of (plate_of s) a x).words ≡ x) (o : List ℕ) where
  abbrev Answer : ℕ → Type 0
  Answer f = (o' : List ℕ) × (r : Shaped) × ShapeWith f s o o' r

  abbrev b : List ℕ
  b = shape_bytes (walk_all false s).fields (shape_of (plate_of s) a x)

  some_answer : (o' : List ℕ) × (r : Shaped) × ShapeSaysBefore s o o' r
  some_answer =
      let (o', r, h) = subst (λ (n : ℕ). Answer (first_of n (when (ltb (length o) (file_long s)) 16))) (sym z) (by (ltb (length o) (file_long s))) in
      (o', r, (false, (λ e. (shape_of (plate_of s) a x, best.meets_all, best.keeps_all)), h))
    where
      by : (short : Bool) → Answer (when short 16)
      by true = (o, shaped 16 0 0, (refl, refl, refl, refl))
      by false = (over b o, shaped 0 (length b) (total x), (refl, (a, x, best, counts, (refl, refl, refl))))

kept : (s : List ℕ) → list_fault_before s ≡ 0 → all_free (limits_of s) ≡ true → is_priced s ≡ false → Kept s
kept s z free unpriced =
    let other : list_fault_before s ≡ 10 → ⊥ = λ t. omega arith in
    let e : list_fault s ≡ 0 = same_number s other ∙ z in
    let (a, r, best, counts) = list_demands.third.some_best s e free in
    record {
      accepted = e;
      one_best = (a, r, best, counts, λ u b. list_demands.third.one_best s u (shape_of (plate_of s) a r) e ((of_plate s unpriced u free).1 b) best);
      some_answer = some_answer s z a r best counts;
      answers = as_before s other;
    }

-- ---- 10 is never given
abbrev other : ℕ → Type 0
other n = n ≡ 10 → ⊥

none : other 0
none e = omega arith

walk_never : (k : Bool) (s : List ℕ) → other (walk_all k s).number
walk_never = file_number other (λ n l e. e) (λ e. omega arith) (λ e. omega arith) (λ e. omega arith)

list_never : (s : List ℕ) → other (list_fault s)
list_never = list_number other (λ n l e. e) (λ e. omega arith) (λ e. omega arith) (λ e. omega arith)

shape_never : (n : Bool) (s o : List ℕ) → other (shape_fault n s o)
shape_never n s o = first-of other none (list_fault s) _ (list_never s) (fault-of other none n 24 (λ e. omega arith) (when_of other none (ltb (length o) (file_long s)) 16 (λ e. omega arith)))

file_never : (s t : List ℕ) → other (file_fault s t)
file_never s t =
    let p = plate_of s in
    let w = walk_all true t in
    let a = angles_in t in
    let r = rights_in t in
    let ws = (shape_of p a r).words in
    first-of other none w.number _ (walk_never true t)
    (fault-of other none (not (eqb (length a) (darts p) && eqb (length r) (darts p))) 17 (λ e. omega arith)
    (fault-of other none (not (eqb (word (content_of 1 (walk_all false s).fields)) (word (content_of 17 w.fields)))) 18 (λ e. omega arith)
    (fault-of other none (not (angles_ok a)) 19 (λ e. omega arith)
    (fault-of other none (not (posts_ok p.posts 0 p a)) 20 (λ e. omega arith)
    (fault-of other none (not (faces_ok p a ws (faces p))) 21 (λ e. omega arith)
    (fault-of other none (not (eqb (word (content_of 18 w.fields)) (total r))) 22 (λ e. omega arith)
    (fault-of other none (not (all_within (limits_of s) (pair_sums r))) 25 (λ e. omega arith)
    (when_of other none (not (sum_true (walk_all false s).fields w.fields)) 39 (λ e. omega arith)))))))))

check_never : (s t : List ℕ) → other (check_fault s t)
check_never s t = first-of other none (list_fault s) (file_fault s t) (list_never s) (file_never s t)

-- ---- one post, one strip: its plate is a row of the table
one_loop : OneLoop
one_loop = record { before = refl; accepted = refl; inner = (refl, refl); outer = (refl, refl); best = loop_best; written = λ o o' r l. written_only loop_list (1 ∷ 3 ∷ []) (3 ∷ 0 ∷ []) o o' r refl l (best-by loop_best) refl }

pub to_itself : ToItself
to_itself =
    record {
      two_places = λ s d e l q. let a = list_accepted s e in Plates.two_places (plate_of s) (ordered (plate_of s) a) d l (faultless (plate_of s) a) q;
      counted_twice = Plates.counted_twice;
      straight_back = λ s d e l q. Plates.straight_back (plate_of s) (ordered (plate_of s) (list_accepted s e)) d l q;
      one_loop = one_loop;
      never_ten = λ n s o t. (list_never s, shape_never n s o, check_never s t);
      as_before = as_before;
      kept = kept;
    }
