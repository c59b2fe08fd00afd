-- A written shape's bytes are bytes: contents are cut from the list's bytes, lengths and the total fit two bytes, the priced sum four, angles are at most 4 and right bends fit a byte. Assumes nothing.
use mathlib.Core.Path.{◌≡◌, refl, ap, ◌∙◌}
use mathlib.Core.Bool.{Bool, true, false, ◌&&◌}
use mathlib.Core.List.{List, [], ◌∷◌}
use Prim.Native.Nat.{ℕ, suc, ◌≤◌, ◌<◌}
use native.Mathlib.Omega.{arith}
use lib.Dec.{eqb, ltb, leb}
use lib.ListN.{length, get_or, drop}
use borrow.Author.Tests.{eqb-true, lt-ltb, leb-true}
use Rattle.finite.proofs.Tests.{and_left, and_right, and_both, each_over}
use Rattle.fields.proofs.Added.{content_other, content_own}
use Rattle.fields.proofs.Turns.{passed_by}
use Rattle.fields.proofs.Bytes.{bytes_take, bytes_drop, bytes_append, bytes_two, bytes_four, bytes_field}
use Rattle.fields.proofs.Laid.{every_field}
use Rattle.shapes.proofs.Meets.{meets_facts}
use Rattle.plates.specs.Plates.{Plate}
use Rattle.plates.specs.Shapes.{total, angles_ok, rights_of, shape_of}
use Rattle.plates.specs.Files.{Field, has_tag, content_of, add_field, head_long, field_fault, field_at, walk_all, two, four, field, sum_of, count_bytes, sum_bytes, file_bytes, shape_bytes, list_fault, plate_of, prices_of, rates_of, sum_field}
use Rattle.plates.specs.Claims.{BestOf}
use Rattle.plates.specs.Says.{all_bytes}
use Rattle.plates.proofs.Contents.{ListFields, list_fields}
use Rattle.plates.proofs.Prices.{fits}
use Rattle.plates.proofs.Lists.{list_walked, list_accepted, list_fair}
use Rattle.plates.proofs.ShapeFile.{from_18, from_19}
use Rattle.plates.proofs.ReadsBack.{angles_many, rights_many, shape-bytes}
use Rattle.shapes.proofs.BestFits.{rated_unit, rated_total}

bytes_angles : (a : List ℕ) → angles_ok a ≡ true → all_bytes a ≡ true
bytes_angles [] e = refl
bytes_angles (x ∷ xs) e =
    let e2 = and_right (leb 1 x) (leb x 4 && angles_ok xs) e in
    let l : x ≤ 4 = leb-true x 4 (and_left (leb x 4) (angles_ok xs) e2) in
    and_both _ _ (lt-ltb x 256 (omega arith)) (bytes_angles xs (and_right (leb x 4) (angles_ok xs) e2))

-- contents of the fields of a file of bytes
abbrev AllContents : List Field → Type 0
AllContents fs = (t : ℕ) → all_bytes (content_of t fs) ≡ true

more_contents : (k : Bool) (fs : List Field) (s : List ℕ) → all_bytes s ≡ true → AllContents fs → field_fault k fs s ≡ 0 → AllContents (add_field fs (field_at s))
more_contents k fs s e all ok t = go (eqb t (field_at s).tag) refl
  where
    go : (b : Bool) → eqb t (field_at s).tag ≡ b → all_bytes (content_of t (add_field fs (field_at s))) ≡ true
    go true q =
        rw (eqb-true t (field_at s).tag q, content_own (field_at s) fs (passed_by true k fs s ok).new)
        (bytes_take (head_long s) (drop 3 s) (bytes_drop 3 s e))
    go false q = rw (content_other t (field_at s) q fs) (all t)

pub contents_bytes : (k : Bool) (s : List ℕ) → all_bytes s ≡ true → AllContents (walk_all k s).fields
contents_bytes k s e = every_field true k (λ r. all_bytes r ≡ true) AllContents (λ t. refl) bytes_drop (more_contents k) (suc (length s)) [] s e (λ t. refl)

module _ (s a r : List ℕ) (e : list_fault s ≡ 0) (bytes : all_bytes s ≡ true) (best : BestOf s (shape_of (plate_of s) a r)) (counts : rights_of (shape_of (plate_of s) a r).words ≡ r) where
  abbrev p : Plate
  p = plate_of s

  abbrev fs : List Field
  fs = (walk_all false s).fields

  laid : ListFields fs
  laid = list_fields s (list_walked s e)

  angles_fit : length a < 65536
  angles_fit = omega (arith, angles_many s a r e best.meets_all counts, laid.ends_most)

  rights_fit : length r < 65536
  rights_fit = omega (arith, rights_many s a r e best.meets_all counts, laid.ends_most)

  pub total_fit : total r < 65536
  total_fit = omega (arith, rated_total p (list_accepted s e) (rates_of s) (list_fair s e) (shape_of p a r) best, ap total counts)

  pub unit_fit : (d : ℕ) → d < length r → get_or r d 0 < 256
  unit_fit d l =
      omega (arith, rated_unit p (list_accepted s e) (rates_of s) (list_fair s e) (shape_of p a r) best d (omega (arith, rights_many s a r e best.meets_all counts)), ap (λ (q : List ℕ). get_or q d 0) counts)

  bytes_rights : all_bytes r ≡ true
  bytes_rights = each_over all_bytes (λ x. ltb x 256) refl (λ x y. refl) r (λ d l. lt-ltb (get_or r d 0) 256 (unit_fit d l))

  bytes_sum : (b : Bool) → all_bytes (sum_field b (prices_of s) r) ≡ true
  bytes_sum true = bytes_field 22 (four (sum_of (prices_of s) r)) (omega arith) (omega arith) (bytes_four (sum_of (prices_of s) r) (fits s r e total_fit))
  bytes_sum false = refl

  bytes_counts : all_bytes (count_bytes fs a r) ≡ true
  bytes_counts =
      bytes_append (field 17 (content_of 1 fs)) (from_18 a r) (bytes_field 17 (content_of 1 fs) (omega arith) (omega (arith, laid.revision)) (contents_bytes false s bytes 1))
      (bytes_append (field 18 (two (total r))) (from_19 a r) (bytes_field 18 (two (total r)) (omega arith) (omega arith) (bytes_two (total r) total_fit))
      (bytes_append (field 19 a) (field 20 r) (bytes_field 19 a (omega arith) angles_fit (bytes_angles a (meets_facts p (shape_of p a r) best.meets_all).angles-ok))
      (bytes_field 20 r (omega arith) rights_fit bytes_rights)))

  written_bytes : all_bytes (file_bytes fs a r) ≡ true
  written_bytes = bytes_append (count_bytes fs a r) (sum_bytes fs r) bytes_counts (bytes_sum (has_tag 8 fs))

  pub shape_bytes_fit : all_bytes (shape_bytes fs (shape_of p a r)) ≡ true
  shape_bytes_fit = ap all_bytes (shape-bytes s a r e best.meets_all counts) ∙ written_bytes
