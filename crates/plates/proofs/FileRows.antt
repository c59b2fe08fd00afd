-- Fields written one behind the other are the shape file: each begins where the one before it ended, and all of them fit. Assumes nothing.
use mathlib.Core.Path.{◌≡◌, ap, ap₂, subst, ◌∙◌}
use mathlib.Core.Bool.{false}
use mathlib.Core.List.{List, ◌++◌}
use Prim.Native.Nat.{ℕ, ◌+◌, ◌≤◌}
use native.Mathlib.Omega.{arith}
use lib.ListN.{length}
use Rattle.fields.specs.Writing.{Written}
use Rattle.fields.proofs.Puts.{put_front, written_then}
use Rattle.shapes.specs.declared.counts.Counts.{Counts}
use Rattle.plates.specs.Shapes.{total}
use Rattle.plates.specs.Files.{Field, walk_all, two, field, count_bytes, sum_bytes, file_bytes}
use Rattle.plates.specs.Says.{file_long}
use Rattle.plates.specs.Encodes.{FileGiven, FileWritten}
use Rattle.plates.specs.declared.reading.WalkedList.{WalkedList}
use Rattle.plates.proofs.HeldLists.{walked_laid, walked_few, walked_darts}
use Rattle.plates.proofs.ShapeFile.{sum_long, bytes_long}

module _ (l : WalkedList) (k : Counts) (g : FileGiven (length l.fields.ends.now) k.angles.now k.rights.now) where
  abbrev fs : List Field
  fs = (walk_all false l.bytes.now).fields

  abbrev c : List ℕ
  c = l.fields.revision.now

  abbrev a : List ℕ
  a = k.angles.now

  abbrev r : List ℕ
  r = k.rights.now

  pub revision_two : length c ≡ 2
  revision_two = ap length l.contents.revision ∙ (walked_laid l).revision

  pub angles_few : length a ≤ 256
  angles_few = omega (arith, g.angles_many, walked_few l)

  pub rights_many : length r ≡ length a
  rights_many = k.counted.same_length

  -- there is room for the four fields and the sum
  pub room_is : 16 + (length a + length r) + length (sum_bytes fs r) ≡ file_long l.bytes.now
  room_is = omega (arith, walked_darts l, (walked_laid l).ends_even, g.angles_many, rights_many, sum_long fs r)

  long_same : length (file_bytes fs a r) ≡ file_long l.bytes.now
  long_same = omega (arith, bytes_long fs a r (walked_laid l).revision, sum_long fs r, room_is)

  abbrev rows : List ℕ → List ℕ → List ℕ
  rows v b = field 17 v ++ (field 18 b ++ (field 19 a ++ field 20 r))

  -- the whole file, of any bytes v and b that are the revision and the total
  pub file_written : {v b out o1 o2 o3 o4 o5 : List ℕ} {n1 n2 n3 n4 n5 : ℕ} → v ≡ c → b ≡ two (total r) → file_long l.bytes.now ≤ length out
      → Written 0 (field 17 v) out o1 n1 → length o1 ≡ length out
      → Written n1 (field 18 b) o1 o2 n2 → length o2 ≡ length o1
      → Written n2 (field 19 a) o2 o3 n3 → length o3 ≡ length o2
      → Written n3 (field 20 r) o3 o4 n4 → length o4 ≡ length o3
      → Written n4 (sum_bytes fs r) o4 o5 n5 → FileWritten l.bytes.now a r out o5 n5
  file_written {v} {b} {out} {o1} {o2} {o3} {o4} {o5} {n1} {n2} {n3} {n4} {n5} own sum enough w1 l1 w2 l2 w3 l3 w4 l4 w5 =
      let own_long : length v ≡ length c = ap length own in
      let two_long : length b ≡ 2 = ap length sum in
      let e1 : n1 ≡ 5 = omega (arith, own_long, revision_two, w1.behind) in
      let e2 : n2 ≡ 10 = omega (arith, w2.behind) in
      let e3 : n3 ≡ 13 + length a = omega (arith, w3.behind) in
      let room : 16 + (length a + length r) + length (sum_bytes fs r) ≤ length out = omega (arith, room_is) in
      let four : Written 0 (rows v b) out o4 n4 =
      written_then (omega arith) w1
      (written_then (omega arith) w2
      (written_then (omega arith) w3 w4)) in
      let counts : Written 0 (count_bytes fs a r) out o4 n4 = subst (λ (x : List ℕ). Written 0 x out o4 n4) (ap₂ rows (own ∙ l.contents.revision) sum) four in
      let e4 : n4 ≡ 16 + (length a + length r) = omega (arith, w4.behind) in
      let done : Written 0 (file_bytes fs a r) out o5 n5 = written_then (omega arith) counts w5 in
      record {
        bytes = done.bytes ∙ put_front (file_bytes fs a r) out;
        long = omega (arith, done.behind, long_same);
        size = omega (arith, done.behind);
      }

-- the lengths of the fields
pub ruleset lengths = (revision_two, angles_few, rights_many, room_is)
