-- The check finds no fault exactly where the conditions hold and the limits are kept: its tests, one by one, are those of `meets`, and those of the limits and of the priced sum. Assumes nothing.
use mathlib.Core.Path.{◌≡◌, sym, ap, ◌∙◌}
use mathlib.Core.Bool.{Bool, true, false, ◌&&◌, not}
use mathlib.Core.List.{List}
use Prim.Native.Nat.{ℕ, suc}
use native.Mathlib.Omega.{arith}
use lib.Dec.{eqb}
use lib.ListN.{length}
use borrow.Author.Tests.{eqb-true, eq-eqb, not-false}
use Rattle.finite.proofs.Tests.{and_left, and_right, and_both, first_none, when_none}
use Rattle.embedding.proofs.Rotation.{Ordered}
use Rattle.shapes.proofs.Words.{words_count, words_twins, words_rights}
use Rattle.shapes.proofs.Meets.{meets_facts, facts_meets}
use Rattle.shapes.proofs.Tamassia.{two_to_a_strip}
use Rattle.shapes.proofs.Accepted.{ordered}
use Rattle.plates.specs.Plates.{Plate, first_of, when, darts, strips, faces}
use Rattle.plates.specs.Shapes.{Shape, meets, angles_ok, posts_ok, faces_ok, bends, total, rights_of, pair_sums, strip_bends, all_within, shape_of}
use Rattle.plates.specs.Files.{Field, content_of, walk_all, list_fault, plate_of, limits_of}
use Rattle.plates.specs.Claims.{SomeWithin}
use Rattle.plates.specs.Says.{word, angles_in, rights_in, sum_true, file_fault, check_fault, SoundExactly}
use Rattle.plates.proofs.Lists.{list_accepted}

-- a test that a refusal asks, passed
ok_none : (t : Bool) (n : ℕ) → t ≡ true → when (not t) n ≡ 0
ok_none t n e = rw e

none_ok : (t : Bool) (n : ℕ) → when (not t) (suc n) ≡ 0 → t ≡ true
none_ok t n e = not-false t (when_none (not t) n e)

firsts_none : (a b : ℕ) → a ≡ 0 → b ≡ 0 → first_of a b ≡ 0
firsts_none a b e h = rw e h

-- the nine tests of a file's angles and right bends, its revision, its total, the limits and the priced sum
pub record Passes (p : Plate) (ls a r : List ℕ) (own theirs said : ℕ) (sum : Bool) : Type 0 where
  pub angles_long : length a ≡ darts p
  pub rights_long : length r ≡ darts p
  pub revision : own ≡ theirs
  pub angles-ok : angles_ok a ≡ true
  pub posts-ok : posts_ok p.posts 0 p a ≡ true
  pub faces-ok : faces_ok p a (shape_of p a r).words (faces p) ≡ true
  pub total_said : said ≡ total r
  pub limits_kept : all_within ls (pair_sums r) ≡ true
  pub sum-true : sum ≡ true

module _ (p : Plate) (ls a r : List ℕ) (own theirs said : ℕ) (sum : Bool) where
  abbrev long : Bool
  long = eqb (length a) (darts p) && eqb (length r) (darts p)

  abbrev ws : List (List Bool)
  ws = (shape_of p a r).words

  abbrev from_22 : ℕ
  from_22 = first_of (when (not (eqb said (total r))) 22) (first_of (when (not (all_within ls (pair_sums r))) 25) (when (not sum) 39))

  abbrev from_21 : ℕ
  from_21 = first_of (when (not (faces_ok p a ws (faces p))) 21) from_22

  abbrev from_19 : ℕ
  from_19 = first_of (when (not (angles_ok a)) 19) (first_of (when (not (posts_ok p.posts 0 p a)) 20) from_21)

  abbrev from_17 : ℕ
  from_17 = first_of (when (not long) 17) (first_of (when (not (eqb own theirs)) 18) from_19)

  none_passes : from_17 ≡ 0 → Passes p ls a r own theirs said sum
  none_passes e =
      let (e17, f17) = first_none (when (not long) 17) _ e in
      let (e18, f18) = first_none (when (not (eqb own theirs)) 18) _ f17 in
      let (e19, f19) = first_none (when (not (angles_ok a)) 19) _ f18 in
      let (e20, f20) = first_none (when (not (posts_ok p.posts 0 p a)) 20) _ f19 in
      let (e21, f21) = first_none (when (not (faces_ok p a ws (faces p))) 21) _ f20 in
      let (e22, f22) = first_none (when (not (eqb said (total r))) 22) _ f21 in
      let (e25, e39) = first_none (when (not (all_within ls (pair_sums r))) 25) _ f22 in
      let both = none_ok long 16 e17 in
      record {
        angles_long = eqb-true (length a) (darts p) (and_left (eqb (length a) (darts p)) (eqb (length r) (darts p)) both);
        rights_long = eqb-true (length r) (darts p) (and_right (eqb (length a) (darts p)) (eqb (length r) (darts p)) both);
        revision = eqb-true own theirs (none_ok (eqb own theirs) 17 e18);
        angles-ok = none_ok (angles_ok a) 18 e19;
        posts-ok = none_ok (posts_ok p.posts 0 p a) 19 e20;
        faces-ok = none_ok (faces_ok p a ws (faces p)) 20 e21;
        total_said = eqb-true said (total r) (none_ok (eqb said (total r)) 21 e22);
        limits_kept = none_ok (all_within ls (pair_sums r)) 24 e25;
        sum-true = none_ok sum 38 e39;
      }

  passes_none : Passes p ls a r own theirs said sum → from_17 ≡ 0
  passes_none h =
      let both = and_both (eqb (length a) (darts p)) (eqb (length r) (darts p)) (eq-eqb (length a) (darts p) h.angles_long) (eq-eqb (length r) (darts p) h.rights_long) in
      firsts_none (when (not long) 17) _ (ok_none long 17 both)
      (firsts_none (when (not (eqb own theirs)) 18) _ (ok_none (eqb own theirs) 18 (eq-eqb own theirs h.revision))
      (firsts_none (when (not (angles_ok a)) 19) _ (ok_none (angles_ok a) 19 h.angles-ok)
      (firsts_none (when (not (posts_ok p.posts 0 p a)) 20) _ (ok_none (posts_ok p.posts 0 p a) 20 h.posts-ok)
      (firsts_none (when (not (faces_ok p a ws (faces p))) 21) _ (ok_none (faces_ok p a ws (faces p)) 21 h.faces-ok)
      (firsts_none (when (not (eqb said (total r))) 22) _ (ok_none (eqb said (total r)) 22 (eq-eqb said (total r) h.total_said))
      (firsts_none (when (not (all_within ls (pair_sums r))) 25) _ (ok_none (all_within ls (pair_sums r)) 25 h.limits_kept)
      (ok_none sum 39 h.sum-true)))))))

-- counts of the right length give words that are twinned and have these counts
module _ (p : Plate) (o : Ordered p) (a r : List ℕ) (long : length r ≡ darts p) where
  abbrev x : Shape
  x = shape_of p a r

  pub counted_rights : rights_of x.words ≡ r
  counted_rights = words_rights (strips p) r (long ∙ sym (two_to_a_strip p o))

  pub counted_bends : bends x ≡ total r
  counted_bends = ap total counted_rights

  counted_meets : length a ≡ darts p → angles_ok a ≡ true → posts_ok p.posts 0 p a ≡ true → faces_ok p a x.words (faces p) ≡ true → meets p x ≡ true
  counted_meets l ok posts faces =
      facts_meets p x (record {
        angles_long = l;
        words_long = words_count (strips p) r ∙ two_to_a_strip p o;
        angles-ok = ok;
        twins = λ d k. words_twins (strips p) r d (omega (arith, two_to_a_strip p o));
        posts-ok = posts;
        faces-ok = faces;
      })

module _ (s t : List ℕ) (e : list_fault s ≡ 0) (w : (walk_all true t).number ≡ 0) where
  abbrev q : Plate
  q = plate_of s

  abbrev us : List Field
  us = (walk_all true t).fields

  abbrev own : ℕ
  own = word (content_of 1 (walk_all false s).fields)

  abbrev theirs : ℕ
  theirs = word (content_of 17 us)

  abbrev said : ℕ
  said = word (content_of 18 us)

  abbrev y : Shape
  y = shape_of q (angles_in t) (rights_in t)

  abbrev sum_said : Bool
  sum_said = sum_true (walk_all false s).fields us

  o : Ordered q
  o = ordered q (list_accepted s e)

  later : check_fault s t ≡ from_17 q (limits_of s) (angles_in t) (rights_in t) own theirs said sum_said
  later = rw (e, w)

  abbrev Holds : Type 0
  Holds = (length (rights_in t) ≡ darts q) × (meets q y ≡ true) × (theirs ≡ own) × (said ≡ bends y) × (all_within (limits_of s) (strip_bends y) ≡ true) × (sum_said ≡ true)

  to : check_fault s t ≡ 0 → Holds
  to z =
      let h = none_passes q (limits_of s) (angles_in t) (rights_in t) own theirs said sum_said (sym later ∙ z) in (
        h.rights_long,
        counted_meets q o (angles_in t) (rights_in t) h.rights_long h.angles_long h.angles-ok h.posts-ok h.faces-ok,
        sym h.revision,
        h.total_said ∙ sym (counted_bends q o (angles_in t) (rights_in t) h.rights_long),
        ap (λ (z : List ℕ). all_within (limits_of s) (pair_sums z)) (counted_rights q o (angles_in t) (rights_in t) h.rights_long) ∙ h.limits_kept,
        h.sum-true,
      )

  from : Holds → check_fault s t ≡ 0
  from (long, m, rev, tot, kept, sum) =
      let f = meets_facts q y m in
      later ∙ passes_none q (limits_of s) (angles_in t) (rights_in t) own theirs said sum_said (record {
        angles_long = f.angles_long;
        rights_long = long;
        revision = sym rev;
        angles-ok = f.angles-ok;
        posts-ok = f.posts-ok;
        faces-ok = f.faces-ok;
        total_said = tot ∙ counted_bends q o (angles_in t) (rights_in t) long;
        limits_kept = ap (λ (z : List ℕ). all_within (limits_of s) (pair_sums z)) (sym (counted_rights q o (angles_in t) (rights_in t) long)) ∙ kept;
        sum-true = sum;
      })

pub sound_exactly : SoundExactly
sound_exactly s t e w = (to s t e w, from s t e w)

-- a sound file is itself a shape within the limits
pub sound_within : (s t : List ℕ) → check_fault s t ≡ 0 → SomeWithin s
sound_within s t z =
    let (e, f) = first_none (list_fault s) (file_fault s t) z in
    let h = (sound_exactly s t e (first_none (walk_all true t).number _ f).0).0 z in
    (shape_of (plate_of s) (angles_in t) (rights_in t), h.1, h.4)
