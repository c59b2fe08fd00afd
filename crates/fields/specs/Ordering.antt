-- Older files put in tag order: the fields by rising tag, their bytes, what the call promises, and what holds of both walks.
use Rattle.std.specs.Prelude.{◌≡◌, ◌↔◌, ◌⊎◌, Bool, true, false, ◌&&◌, ◌||◌, not, List, [], ◌∷◌, ◌++◌, ℕ, zero, suc, ◌+◌, ◌≤◌, eqb, ltb, leb, length, get_or, take, drop, Result, Ok, Err}
use Rattle.finite.specs.Base.{pick, first_of, when}
use Rattle.refusals.specs.Numbers.{number_of}
use Rattle.refusals.specs.declared.Refusal.{Refusal}
use Rattle.fields.specs.Files.{Field, Walk, walk, fault_where, fields_with, price_tag, tag_ok, long_ok, has_tag, content_of, add_field, head_long, field_at, fault_by, walk_all, old_walk, field}
use Rattle.fields.specs.Rules.{first_tag}
use Rattle.fields.specs.Writing.{over, all_bytes}

-- the field of tag t, where there is one
abbrev pub field_of : ℕ → List Field → List Field
field_of t fs = pick (has_tag t fs) (record { tag = t; content = content_of t fs } ∷ []) []

-- the fields of the n tags from t on, by rising tag
abbrev pub rising : ℕ → ℕ → List Field → List Field
rising zero t fs = []
rising (suc n) t fs = field_of t fs ++ rising n (suc t) fs

-- of the eight tags from a file's first one on: all that it may have
abbrev pub sorted : Bool → List Field → List Field
sorted is_shape fs = rising 8 (first_tag is_shape) fs

-- fields as they stand in a file
abbrev pub bytes_in : List Field → List ℕ
bytes_in [] = []
bytes_in (f ∷ fs) = field f.tag f.content ++ bytes_in fs

-- a first byte of 10 hexadecimal or above means a shape file, any other, and none, a plate list
abbrev pub is_shape_file : List ℕ → Bool
is_shape_file s = leb 16 (get_or s 0 0)

-- an older file in tag order
abbrev pub ordered_bytes : List ℕ → List ℕ
ordered_bytes s = let k = is_shape_file s in bytes_in (sorted k (old_walk k s).fields)

-- refused as the old walk refuses it, then with 16
abbrev pub order_fault : List ℕ → List ℕ → ℕ
order_fault s o = first_of (old_walk (is_shape_file s) s).number (when (ltb (length o) (length (ordered_bytes s))) 16)

-- an answer's number, and the length of the file put in order; a refusal has its number alone
pub record Ordered : Type 0 where
  pub number : ℕ
  pub long : ℕ

abbrev pub ordered_of : Result ℕ Refusal → Ordered
ordered_of (Ok n) = record { number = 0; long = n }
ordered_of (Err r) = record { number = number_of r; long = 0 }

abbrev pub OrderWith : ℕ → List ℕ → List ℕ → List ℕ → Ordered → Type 0
OrderWith zero s o o' r = (r.number ≡ 0) × (r.long ≡ length (ordered_bytes s)) × (o' ≡ over (ordered_bytes s) o)
OrderWith (suc f) s o o' r = (r.number ≡ suc f) × (r.long ≡ 0) × (o' ≡ o)

abbrev pub OrderSays : List ℕ → List ℕ → List ℕ → Ordered → Type 0
OrderSays s o o' r = OrderWith (order_fault s o) s o o' r

-- the same tags with the same contents
pub record SameFields (fs gs : List Field) : Type 0 where
  pub there : (t : ℕ) → has_tag t fs ≡ has_tag t gs
  pub content : (t : ℕ) → content_of t fs ≡ content_of t gs

-- the same but for the field of one tag
pub record SameBesides (tag : ℕ) (fs gs : List Field) : Type 0 where
  pub there : (t : ℕ) → (t ≡ tag → ⊥) → has_tag t fs ≡ has_tag t gs
  pub content : (t : ℕ) → (t ≡ tag → ⊥) → content_of t fs ≡ content_of t gs

-- whether the walk of a file comes to a field of tag t, be it met or refused
abbrev pub comes_from : Bool → Bool → ℕ → ℕ → List Field → List ℕ → Bool
comes_from in_order is_shape t zero fs s = false
comes_from in_order is_shape t (suc l) fs s =
    eqb t (get_or s 0 0) || (eqb (fault_by in_order is_shape fs s) 0 && comes_from in_order is_shape t l (add_field fs (field_at s)) (drop (3 + head_long s) s))

abbrev pub comes_to : Bool → Bool → ℕ → List ℕ → Bool
comes_to in_order is_shape t s = comes_from in_order is_shape t (suc (length s)) [] s

-- a field's refusals before request E7; the prices of bends and their sum are no tags of older files
abbrev pub old_fault : Bool → List Field → List ℕ → ℕ
old_fault is_shape fs s =
    let t = get_or s 0 0 in
    let n = head_long s in
    first_of (when (ltb (length s) 3) 1)
    (first_of (when (not (not (eqb t (price_tag is_shape)) && tag_ok is_shape t)) 2)
    (first_of (when (has_tag t fs) 3)
    (first_of (when (not (long_ok is_shape t n)) 4)
    (when (ltb (length s) (3 + n)) 5))))

-- a walk in any order by all tags of today
abbrev pub any_fault : Bool → List Field → List ℕ → ℕ
any_fault is_shape fs s = fault_where true is_shape (has_tag (get_or s 0 0) fs) false s

abbrev pub any_walk : Bool → List ℕ → Walk
any_walk is_shape s = fields_with (any_fault is_shape) (suc (length s)) is_shape [] s

-- each tag is above the one before, the first above p
abbrev pub ascends : ℕ → List Field → Bool
ascends p [] = true
ascends p (f ∷ fs) = ltb p f.tag && ascends f.tag fs

-- an older file that was taken, put in order: taken by the walk, with the same fields, as long as before
pub record Taken (s : List ℕ) : Type 0 where
  pub walked : let k = is_shape_file s in walk_all k (ordered_bytes s) ≡ walk 0 (sorted k (old_walk k s).fields)
  pub same : let k = is_shape_file s in SameFields (sorted k (old_walk k s).fields) (old_walk k s).fields
  pub rises : let k = is_shape_file s in ascends 0 (sorted k (old_walk k s).fields) ≡ true
  pub long : length (ordered_bytes s) ≡ length s

-- what request E7 asks
pub record TagOrder : Type 0 where
  pub taken : (s : List ℕ) → (old_walk (is_shape_file s) s).number ≡ 0 → Taken s
  -- two older files of one kind with the same fields, in whatever order, come out as the same bytes
  pub one_out : (s t : List ℕ) → is_shape_file s ≡ is_shape_file t → SameFields (old_walk (is_shape_file s) s).fields (old_walk (is_shape_file t) t).fields → ordered_bytes s ≡ ordered_bytes t
  -- a file in order, without prices and their sum, comes back unchanged
  pub unchanged : (k : Bool) (s : List ℕ) → all_bytes s ≡ true → (walk_all k s).number ≡ 0 → has_tag (price_tag k) (walk_all k s).fields ≡ false → (is_shape_file s ≡ k) × (ordered_bytes s ≡ s)
  -- in every file that is taken, with prices and sums too, tags ascend, and it is its fields in tag order
  pub rises : (k : Bool) (s : List ℕ) → (walk_all k s).number ≡ 0 → ascends 0 (walk_all k s).fields ≡ true
  pub in_bytes : (k : Bool) (s : List ℕ) → all_bytes s ≡ true → (walk_all k s).number ≡ 0 → bytes_in (sorted k (walk_all k s).fields) ≡ s
  -- unless the walk gives 29 it answers every file, with prices too, as the walk in any order by the same tags does; one that this takes and whose tags do not ascend gets 29
  pub same : (k : Bool) (s : List ℕ) → ((walk_all k s).number ≡ 29 → ⊥) → walk_all k s ≡ any_walk k s
  pub refused : (k : Bool) (s : List ℕ) → (any_walk k s).number ≡ 0 → ascends 0 (any_walk k s).fields ≡ false → (walk_all k s).number ≡ 29
  -- two files that are taken and have the same fields are the same bytes
  pub canonical : (k : Bool) (s t : List ℕ) → all_bytes s ≡ true → all_bytes t ≡ true → (walk_all k s).number ≡ 0 → (walk_all k t).number ≡ 0
      → SameFields (walk_all k s).fields (walk_all k t).fields → s ≡ t
  -- of files without prices and sums the walk takes exactly the older ones whose tags ascend; those whose tags do not it refuses with 29
  pub exactly : (k : Bool) (s : List ℕ) → (((walk_all k s).number ≡ 0) × (has_tag (price_tag k) (walk_all k s).fields ≡ false)) ↔ (((old_walk k s).number ≡ 0) × (ascends 0 (old_walk k s).fields ≡ true))
  pub out_of_order : (k : Bool) (s : List ℕ) → (old_walk k s).number ≡ 0 → ascends 0 (old_walk k s).fields ≡ false → (walk_all k s).number ≡ 29
  -- every file in which the walk does not come to prices or a sum, taken or refused, unless with 29, is answered as by the old walk
  pub as_before : (k : Bool) (s : List ℕ) → comes_to true k (price_tag k) s ≡ false → ((walk_all k s).number ≡ 29 → ⊥) → walk_all k s ≡ old_walk k s
  -- one that is taken with prices or a sum the old walk, and so the program, refuses with 2
  pub unknown : (k : Bool) (s : List ℕ) → (walk_all k s).number ≡ 0 → has_tag (price_tag k) (walk_all k s).fields ≡ true → (is_shape_file s ≡ k) × ((old_walk k s).number ≡ 2)
  -- where the old walk comes to them, in whatever order, it gives 2, or 1 where the field has no whole head
  pub known_not : (k : Bool) (s : List ℕ) → comes_to false k (price_tag k) s ≡ true → ((old_walk k s).number ≡ 1) ⊎ ((old_walk k s).number ≡ 2)
  -- the old walk tries 1 to 5 at a field and never gives 29
  pub old-fault : (k : Bool) (fs : List Field) (s : List ℕ) → fault_by false k fs s ≡ old_fault k fs s
  pub old_number : (k : Bool) (s : List ℕ) → (old_walk k s).number ≤ 6
  -- of a longer file the first 1,024 bytes have the whole one's answer
  pub front : (s o o' : List ℕ) (r : Ordered) → OrderSays (take 1024 s) o o' r → OrderSays s o o' r
