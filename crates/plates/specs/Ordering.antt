-- Older files put in tag order, as the crate fields defines it, and what becomes of older lists.
use Rattle.std.specs.Prelude.{◌≡◌, true, false, List, ℕ}
use Rattle.plates.specs.Plates.{plate_fault}
use Rattle.plates.specs.Files.{content_of, walk_all, old_walk, plate_in, fault_from, list_fault, plate_of, limits_of, is_priced, file_bytes}
pub use Rattle.fields.specs.Ordering.{field_of, rising, sorted, bytes_in, is_shape_file, ordered_bytes, order_fault, OrderWith, OrderSays, SameFields, SameBesides, comes_from, comes_to, old_fault, ascends, Taken, TagOrder}

-- the refusals of a list whose fields may stand in any order
abbrev pub old_list_fault : List ℕ → ℕ
old_list_fault s = fault_from plate_fault (old_walk false s)

-- an older list put in order: its number, its plate, its limits and what shape files copy from it are as they were, and it has no prices
pub record KeptList (s : List ℕ) : Type 0 where
  pub number : list_fault (ordered_bytes s) ≡ old_list_fault s
  pub plate : plate_of (ordered_bytes s) ≡ plate_in (old_walk false s).fields
  pub limits : limits_of (ordered_bytes s) ≡ content_of 7 (old_walk false s).fields
  pub unpriced : is_priced (ordered_bytes s) ≡ false
  pub copied : (a r : List ℕ) → file_bytes (walk_all false (ordered_bytes s)).fields a r ≡ file_bytes (old_walk false s).fields a r

pub record OlderLists : Type 0 where
  pub kept : (s : List ℕ) → (old_walk false s).number ≡ 0 → KeptList s
  -- every list whose walk comes to no prices, accepted or refused, unless with 29, has the number and the fields that it had
  pub as_before : (s : List ℕ) → comes_to true false 8 s ≡ false → (list_fault s ≡ 29 → ⊥) → (list_fault s ≡ old_list_fault s) × (walk_all false s ≡ old_walk false s)
