-- What judging reads of a held plate: its posts, darts and faces are few, and its tables give the posts and faces of darts.
use mathlib.Core.Path.{◌≡◌, refl, ◌∙◌}
use mathlib.Core.Bool.{true}
use mathlib.Core.List.{List}
use Prim.Native.Nat.{ℕ, ◌≤◌, ◌<◌}
use native.Mathlib.Decide.{dec_lt}
use native.Mathlib.Omega.{arith}
use borrow.Author.Tests.{lt-ltb}
use lib.Dec.{ltb}
use lib.ListN.{length, get_or, get_or-eq_default}
use Rattle.finite.proofs.Tables.{up_below, up_from}
use Rattle.finite.proofs.Tests.{each_over}
use Rattle.embedding.specs.Plates.{all_below, Plate, darts, twin, ends_at}
use Rattle.embedding.specs.Read.{meant, face_number}
use Rattle.embedding.specs.declared.Plate.{Plate as Held}
use Rattle.embedding.proofs.Rotation.{Ordered, twin_dart, leaves_below}
use Rattle.embedding.proofs.Faultless.{Faultless}
use Rattle.embedding.proofs.Degrees.{darts_most, darts_few}
use Rattle.shapes.proofs.Accepted.{faultless, ordered}
use Rattle.shapes.proofs.Places.{index_below}

each_below : (n : ℕ) (xs : List ℕ) → ((i : ℕ) → i < length xs → get_or xs i 0 < n) → all_below n xs ≡ true
each_below n xs h = each_over (all_below n) (λ x. ltb x n) refl (λ x xs. refl) xs (λ i l. lt-ltb (get_or xs i 0) n (h i l))

module _ (q : Held) where
  abbrev p : Plate
  p = meant q

  f : Faultless p
  f = faultless p q.accepted

  o : Ordered p
  o = ordered p q.accepted

  pub few_posts : q.posts ≤ 64
  few_posts = omega (arith, q.stands.same_posts, f.posts_most)

  pub few_darts : q.darts ≤ 256
  few_darts = omega (arith, q.stands.dart_count, darts_few p f o)

  pub few_faces : q.faces ≤ 66
  few_faces = omega (arith, q.stands.face_count, f.euler, f.posts_most, darts_most p f o)

  pub ends_are : (d : ℕ) → d < darts (meant q) → get_or q.ends (twin d) 0 ≡ ends_at (meant q) d
  ends_are d l = q.stands.strip_ends.at (twin d) (omega (arith, twin_dart p o d l, few_darts, q.stands.dart_count))

  pub faces_are : (d : ℕ) → d < darts (meant q) → get_or q.face d 0 ≡ face_number (meant q) d
  faces_are d l = q.stands.face_numbers.at d (omega (arith, few_darts, q.stands.dart_count)) ∙ up_below (darts p) (face_number p) d l

  pub ends_below : all_below 64 q.ends ≡ true
  ends_below = each_below 64 q.ends (λ i l. at i l (dec_lt i (darts p)))
    where
      at : (i : ℕ) → i < length q.ends → Dec (i < darts p) → get_or q.ends i 0 < 64
      at i l (yes k) = omega (arith, q.stands.strip_ends.at i (omega (arith, q.stands.strip_ends.size)), leaves_below p o i k, f.posts_most)
      at i l (no k) = omega (arith, q.stands.strip_ends.at i (omega (arith, q.stands.strip_ends.size)), get_or-eq_default p.ends 0 {n = i} (omega arith))

  pub face_below : all_below 66 q.face ≡ true
  face_below = each_below 66 q.face (λ i l. at i l (dec_lt i (darts p)))
    where
      at : (i : ℕ) → i < length q.face → Dec (i < darts p) → get_or q.face i 0 < 66
      at i l (yes k) = omega (arith, faces_are i k, index_below p o i k, q.stands.face_count, few_faces)
      at i l (no k) = omega (arith, q.stands.face_numbers.at i (omega (arith, q.stands.face_numbers.size)), up_from (darts p) (face_number p) i (omega arith))

  pub outer_below : q.outer < darts (meant q)
  outer_below = omega (arith, q.stands.outer_dart, f.outer_dart)

  pub few_angles : (al : List ℕ) → length al ≡ q.darts → length al ≤ 256
  few_angles al long = omega (arith, few_darts)
