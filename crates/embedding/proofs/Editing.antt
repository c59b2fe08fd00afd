-- Every step that is not refused leaves an accepted plate that holds the table: one face more after a join, as many as before otherwise.
use mathlib.Core.Path.{◌≡◌, sym}
use mathlib.Core.Bool.{true, false, ◌||◌, not}
use Prim.Native.Nat.{ℕ, suc, ◌+◌, ◌*◌, ◌≤◌, ◌<◌}
use native.Mathlib.Omega.{arith}
use borrow.Author.Tests.{eqb-false, ltb-false, leb-false, not-false}
use lib.Dec.{eqb, leb}
use lib.ListN.{length}
use Rattle.finite.proofs.Tests.{first_none, when_none, or_left_false, or_right_false}
use Rattle.embedding.specs.Plates.{first_of, when, is_in, Plate, darts, strips, ends_at, degree, face_of, faces}
use Rattle.embedding.specs.Read.{lead, Accepted}
use Rattle.embedding.specs.Edits.{split, hang, join, no_post, no_strip, taken, full, split_fault, hang_fault, join_fault, SplitTable, HangTable, JoinTable}
use Rattle.embedding.proofs.Rotation.{Ordered}
use Rattle.embedding.proofs.Faces.{lead_of_face}
use Rattle.embedding.proofs.Faultless.{Faultless, faultless, ordered, fault_free}
use Rattle.embedding.proofs.Splitting.{split_table, split_ordered, split_faces, split_faultless}
use Rattle.embedding.proofs.Hanging.{hang_table, hang_ordered, hang_faces, hang_faultless}
use Rattle.embedding.proofs.Joining.{join_table, join_ordered, join_faces, join_faultless}

pub accepted_ordered : (p : Plate) → Accepted p → Ordered p
accepted_ordered p a = ordered p a.even_darts (faultless p a.no_fault)

pub accepted_of : (p : Plate) → Ordered p → Faultless p → Accepted p
accepted_of p o f = record { no_fault = fault_free p f; even_darts = o.even }

room_for : (p : Plate) → no_post p || no_strip p ≡ false → p.posts < 64
room_for p h = leb-false 64 p.posts (or_left_false (no_post p) (no_strip p) h)

-- what the numbers leave
pub record SplitRoom (p : Plate) (s : ℕ) : Type 0 where
  pub there : suc (2 * s) < darts p
  pub posts_few : p.posts < 64
  pub strips_few : strips p < 128

pub split_room : (p : Plate) (s : ℕ) → split_fault p s ≡ 0 → SplitRoom p s
split_room p s h =
    let past = first_none (when (leb (strips p) s) 35) (when (no_post p || no_strip p) 36) h in
    let few = when_none (no_post p || no_strip p) 35 past.1 in
    let at = leb-false (strips p) s (when_none (leb (strips p) s) 34 past.0) in
    record { there = omega arith; posts_few = room_for p few; strips_few = leb-false 128 (strips p) (or_right_false (no_post p) (no_strip p) few) }

pub record HangRoom (p : Plate) (d : ℕ) : Type 0 where
  pub there : d < darts p
  pub posts_few : p.posts < 64
  pub strips_few : strips p < 128
  pub place : degree p (ends_at p d) < 4

pub hang_room : (p : Plate) (d : ℕ) → hang_fault p d ≡ 0 → HangRoom p d
hang_room p d h =
    let past = first_none (when (leb (darts p) d) 35) (first_of (when (no_post p || no_strip p) 36) (when (full p (ends_at p d) 1) 37)) h in
    let past_36 = first_none (when (no_post p || no_strip p) 36) (when (full p (ends_at p d) 1) 37) past.1 in
    let few = when_none (no_post p || no_strip p) 35 past_36.0 in
    let fits = ltb-false 4 (degree p (ends_at p d) + 1) (when_none (full p (ends_at p d) 1) 36 past_36.1) in
    record {
      there = leb-false (darts p) d (when_none (leb (darts p) d) 34 past.0);
      posts_few = room_for p few;
      strips_few = leb-false 128 (strips p) (or_right_false (no_post p) (no_strip p) few);
      place = omega arith;
    }

pub record JoinRoom (p : Plate) (d e : ℕ) : Type 0 where
  pub there : d < darts p
  pub there_too : e < darts p
  pub apart : d ≡ e → ⊥
  pub one-face : is_in e (face_of p d) ≡ true
  pub strips_few : strips p < 128
  pub place : degree p (ends_at p d) + taken p d e ≤ 4
  pub place_too : degree p (ends_at p e) + taken p d e ≤ 4

pub join_room : (p : Plate) (d e : ℕ) → join_fault p d e ≡ 0 → JoinRoom p d e
join_room p d e h =
    let full-d = full p (ends_at p d) (taken p d e) in
    let full-e = full p (ends_at p e) (taken p d e) in
    let two = not (is_in e (face_of p d)) in
    let past = first_none (when (leb (darts p) d || (leb (darts p) e || (eqb d e || two))) 35) (first_of (when (no_strip p) 36) (when (full-d || full-e) 37)) h in
    let past_36 = first_none (when (no_strip p) 36) (when (full-d || full-e) 37) past.1 in
    let wrong = when_none (leb (darts p) d || (leb (darts p) e || (eqb d e || two))) 34 past.0 in
    let wrong-e = or_right_false (leb (darts p) d) (leb (darts p) e || (eqb d e || two)) wrong in
    let wrong-two = or_right_false (leb (darts p) e) (eqb d e || two) wrong-e in
    let fits = when_none (full-d || full-e) 36 past_36.1 in
    record {
      there = leb-false (darts p) d (or_left_false (leb (darts p) d) (leb (darts p) e || (eqb d e || two)) wrong);
      there_too = leb-false (darts p) e (or_left_false (leb (darts p) e) (eqb d e || two) wrong-e);
      apart = eqb-false d e (or_left_false (eqb d e) two wrong-two);
      one-face = not-false (is_in e (face_of p d)) (or_right_false (eqb d e) two wrong-two);
      strips_few = leb-false 128 (strips p) (when_none (no_strip p) 35 past_36.0);
      place = ltb-false 4 (degree p (ends_at p d) + taken p d e) (or_left_false full-d full-e fits);
      place_too = ltb-false 4 (degree p (ends_at p e) + taken p d e) (or_right_false full-d full-e fits);
    }

module _ (p : Plate) (a : Accepted p) where
  o : Ordered p
  o = accepted_ordered p a

  f : Faultless p
  f = faultless p a.no_fault

  -- the definitions hold the tables
  pub split_holds : (s : ℕ) → split_fault p s ≡ 0 → SplitTable p s (split p s)
  split_holds s h = split_table p o s (split_room p s h).there

  pub hang_holds : (d : ℕ) → hang_fault p d ≡ 0 → HangTable p d (hang p d)
  hang_holds d h = hang_table p o d (hang_room p d h).there

  pub join_holds : (d e : ℕ) → join_fault p d e ≡ 0 → JoinTable p d e (join p d e)
  join_holds d e h = let r = join_room p d e h in join_table p o d e r.there r.there_too

  -- the darts of a join are in one face
  pub join_together : (d e : ℕ) → join_fault p d e ≡ 0 → lead p d ≡ lead p e
  join_together d e h = let r = join_room p d e h in sym (lead_of_face p o d r.there e r.one-face)

  -- whatever holds the table is accepted
  pub split_accepted : (s : ℕ) → split_fault p s ≡ 0 → (q : Plate) → SplitTable p s q → Accepted q × (length (faces q) ≡ length (faces p))
  split_accepted s h q t =
      let r = split_room p s h in
      (accepted_of q (split_ordered p o s r.there q t) (split_faultless p o s r.there q t f r.posts_few), split_faces p o s r.there q t)

  pub hang_accepted : (d : ℕ) → hang_fault p d ≡ 0 → (q : Plate) → HangTable p d q → Accepted q × (length (faces q) ≡ length (faces p))
  hang_accepted d h q t =
      let r = hang_room p d h in
      (accepted_of q (hang_ordered p o d r.there q t) (hang_faultless p o d r.there q t f r.posts_few r.place), hang_faces p o d r.there q t)

  pub join_accepted : (d e : ℕ) → join_fault p d e ≡ 0 → (q : Plate) → JoinTable p d e q → Accepted q × (length (faces q) ≡ length (faces p) + 1)
  join_accepted d e h q t =
      let r = join_room p d e h in
      let same = join_together d e h in
      (accepted_of q (join_ordered p o d e r.there r.there_too r.apart same q t) (join_faultless p o d e r.there r.there_too r.apart same q t f r.place r.place_too), join_faces p o d e r.there r.there_too r.apart same q t)
