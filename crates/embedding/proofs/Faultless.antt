-- What a plate without fault has, and that what has it is one.
use mathlib.Core.Path.{◌≡◌}
use mathlib.Core.Bool.{true, false, ◌&&◌, ◌||◌}
use Prim.Native.Nat.{◌+◌, ◌%◌, ◌≤◌, ◌<◌}
use borrow.Author.Tests.{eqb-true, eqb-false, eq-eqb, ne_eqb, ltb-false, le-ltb, leb-false, lt-leb, not-false}
use lib.Dec.{eqb, ltb, leb}
use lib.ListN.{length}
use Rattle.finite.proofs.Tests.{and_left, and_right, or_left_false, or_right_false, first_none, when_none}
use Rattle.embedding.specs.Plates.{Plate, darts, strips, all_below, over_four, parts_ok, faces, connected, is_plane, plate_fault}
use Rattle.embedding.proofs.Rotation.{Ordered}

-- none of the refusals 7 to 15 met
pub record Faultless (p : Plate) : Type 0 where
  pub some_post : (p.posts ≡ 0) → ⊥
  pub posts_most : p.posts ≤ 64
  pub some_dart : (darts p ≡ 0) → ⊥
  pub ends_below : all_below p.posts p.ends ≡ true
  pub four_most : over_four p.posts 0 p ≡ false
  pub all_ordered : length p.order ≡ darts p
  pub parts-ok : parts_ok p.posts 0 p ≡ true
  pub outer_dart : p.outer < darts p
  pub is_connected : connected p ≡ true
  pub euler : p.posts + length (faces p) ≡ strips p + 2

pub faultless : (p : Plate) → plate_fault p ≡ 0 → Faultless p
faultless p e =
    let r7 = first_none _ _ e in
    let r8 = first_none _ _ r7.1 in
    let r9 = first_none _ _ r8.1 in
    let r11 = first_none _ _ r9.1 in
    let r12 = first_none _ _ r11.1 in
    let r13 = first_none _ _ r12.1 in
    let r14 = first_none _ _ r13.1 in
    let posts-ok = when_none (eqb p.posts 0 || ltb 64 p.posts) 6 r7.0 in
    let order-ok = not-false (eqb (length p.order) (darts p) && parts_ok p.posts 0 p) (when_none _ 11 r12.0) in
    record {
      some_post = eqb-false p.posts 0 (or_left_false (eqb p.posts 0) (ltb 64 p.posts) posts-ok);
      posts_most = ltb-false 64 p.posts (or_right_false (eqb p.posts 0) (ltb 64 p.posts) posts-ok);
      some_dart = eqb-false (darts p) 0 (when_none (eqb (darts p) 0) 7 r8.0);
      ends_below = not-false (all_below p.posts p.ends) (when_none _ 8 r9.0);
      four_most = when_none (over_four p.posts 0 p) 10 r11.0;
      all_ordered = eqb-true (length p.order) (darts p) (and_left (eqb (length p.order) (darts p)) (parts_ok p.posts 0 p) order-ok);
      parts-ok = and_right (eqb (length p.order) (darts p)) (parts_ok p.posts 0 p) order-ok;
      outer_dart = leb-false (darts p) p.outer (when_none (leb (darts p) p.outer) 12 r13.0);
      is_connected = not-false (connected p) (when_none _ 13 r14.0);
      euler = eqb-true (p.posts + length (faces p)) (strips p + 2) (not-false (is_plane p) (when_none _ 14 r14.1));
    }

pub ordered : (p : Plate) → darts p % 2 ≡ 0 → Faultless p → Ordered p
ordered p e f = record { even = e; ends_below = f.ends_below; all_ordered = f.all_ordered; parts-ok = f.parts-ok }

pub fault_free : (p : Plate) → Faultless p → plate_fault p ≡ 0
fault_free p f =
    rw (ne_eqb p.posts 0 f.some_post, le-ltb 64 p.posts f.posts_most, ne_eqb (darts p) 0 f.some_dart, f.ends_below, f.four_most, eq-eqb (length p.order) (darts p) f.all_ordered, f.parts-ok, lt-leb (darts p) p.outer f.outer_dart, f.is_connected, eq-eqb (p.posts + length (faces p)) (strips p + 2) f.euler)
