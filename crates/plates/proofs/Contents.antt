-- The length of each field's content in a list that passed the walk, and what fields with the same contents give. Assumes nothing.
use mathlib.Core.Path.{◌≡◌}
use mathlib.Core.Bool.{true, false, ◌&&◌}
use mathlib.Core.List.{List}
use Prim.Native.Nat.{ℕ, ◌%◌, ◌≤◌}
use lib.Dec.{eqb, leb}
use lib.ListN.{length}
use borrow.Author.Tests.{eqb-true, leb-true}
use Rattle.finite.proofs.Tests.{and_left, and_right}
use Rattle.fields.proofs.Laid.{all_laid}
use Rattle.fields.proofs.Runs.{all_there_lem}
use Rattle.plates.specs.Files.{Field, has_tag, content_of, walk_all, plate_in, file_bytes}

-- what holds of the fields of a list that passed the walk
pub record ListFields (fs : List Field) : Type 0 where
  pub revision : length (content_of 1 fs) ≡ 2
  pub ends_most : length (content_of 3 fs) ≤ 256
  pub ends_even : length (content_of 3 fs) % 2 ≡ 0
  pub order_most : length (content_of 4 fs) ≤ 256

module _ (s : List ℕ) (e : (walk_all false s).number ≡ 0) where
  abbrev fs : List Field
  fs = (walk_all false s).fields

  there : (has_tag 1 fs && (has_tag 2 fs && (has_tag 3 fs && (has_tag 4 fs && has_tag 5 fs)))) ≡ true
  there = all_there_lem true false s e

  there_2 : (has_tag 2 fs && (has_tag 3 fs && (has_tag 4 fs && has_tag 5 fs))) ≡ true
  there_2 = and_right (has_tag 1 fs) _ there

  there_3 : (has_tag 3 fs && (has_tag 4 fs && has_tag 5 fs)) ≡ true
  there_3 = and_right (has_tag 2 fs) _ there_2

  there_4 : (has_tag 4 fs && has_tag 5 fs) ≡ true
  there_4 = and_right (has_tag 3 fs) _ there_3

  ends_laid : (leb (length (content_of 3 fs)) 256 && eqb (length (content_of 3 fs) % 2) 0) ≡ true
  ends_laid = all_laid true false s 3 (and_left (has_tag 3 fs) _ there_3)

  pub list_fields : ListFields fs
  list_fields =
      record {
        revision = eqb-true (length (content_of 1 fs)) 2 (all_laid true false s 1 (and_left (has_tag 1 fs) _ there));
        ends_most = leb-true (length (content_of 3 fs)) 256 (and_left (leb (length (content_of 3 fs)) 256) _ ends_laid);
        ends_even = eqb-true (length (content_of 3 fs) % 2) 0 (and_right (leb (length (content_of 3 fs)) 256) _ ends_laid);
        order_most = leb-true (length (content_of 4 fs)) 256 (all_laid true false s 4 (and_left (has_tag 4 fs) _ there_4));
      }

-- fields with the same contents give the same plate, and shape files take the same revision and sum from them
pub plate_by : (fs gs : List Field) → content_of 2 fs ≡ content_of 2 gs → content_of 3 fs ≡ content_of 3 gs → content_of 4 fs ≡ content_of 4 gs → content_of 5 fs ≡ content_of 5 gs → plate_in fs ≡ plate_in gs
plate_by fs gs posts ends order outer = rw (posts, ends, order, outer)

pub copied_by : (fs gs : List Field) → content_of 1 fs ≡ content_of 1 gs → has_tag 8 fs ≡ has_tag 8 gs → content_of 8 fs ≡ content_of 8 gs → (a r : List ℕ) → file_bytes fs a r ≡ file_bytes gs a r
copied_by fs gs revision priced prices a r = rw (revision, priced, prices)
