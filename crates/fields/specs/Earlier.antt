-- Files without limits or prices of bends, walked as before they had tags: lists by the tags 01 to 06 before request E2 and 01 to 07 before E12, shape files by 11 to 15
-- hexadecimal. A file without the later fields is walked and put in order as then.
use Rattle.std.specs.Prelude.{◌≡◌, ◌↔◌, Bool, true, false, ◌&&◌, ◌||◌, not, List, [], ℕ, zero, suc, ◌+◌, ◌%◌, eqb, ltb, leb, length, get_or}
use Rattle.finite.specs.Base.{pick, first_of, when}
use Rattle.fields.specs.Files.{Field, Walk, price_tag, has_tag, head_long, last_tag, fields_with, walk_by}
use Rattle.fields.specs.Rules.{first_tag}
use Rattle.fields.specs.Ordering.{rising, bytes_in, is_shape_file, comes_to, Ordered, OrderSays}
use Rattle.fields.specs.Writing.{over}

-- the first n tags of a file, and the lengths of the seven of a list and the five of a shape
abbrev pub earlier_tag : Bool → ℕ → ℕ → Bool
earlier_tag is_shape n t = leb (first_tag is_shape) t && ltb t (first_tag is_shape + n)

abbrev pub earlier_long : Bool → ℕ → ℕ → Bool
earlier_long is_shape t m =
    pick is_shape
    (pick (eqb t 17 || eqb t 18) (eqb m 2)
    (pick (eqb t 19 || eqb t 20) (leb m 256) (leb m 80)))
    (pick (eqb t 1) (eqb m 2)
    (pick (eqb t 2 || eqb t 5) (eqb m 1)
    (pick (eqb t 3) (leb m 256 && eqb (m % 2) 0)
    (pick (eqb t 4) (leb m 256)
    (pick (eqb t 6) (leb m 80) (leb m 128))))))

-- 1, 2, 3, 29 unless in any order, 4, 5 of a field behind those met
abbrev pub earlier_fault : Bool → Bool → ℕ → List Field → List ℕ → ℕ
earlier_fault in_order is_shape n fs s =
    let t = get_or s 0 0 in
    let m = head_long s in
    first_of (when (ltb (length s) 3) 1)
    (first_of (when (not (earlier_tag is_shape n t)) 2)
    (first_of (when (has_tag t fs) 3)
    (first_of (when (in_order && ltb t (last_tag fs)) 29)
    (first_of (when (not (earlier_long is_shape t m)) 4)
    (when (ltb (length s) (3 + m)) 5)))))

-- the walk by them; 6 asks for what it asks for today
abbrev pub earlier_walk : Bool → Bool → ℕ → List ℕ → Walk
earlier_walk in_order is_shape n s = fields_with (earlier_fault in_order is_shape n) (suc (length s)) is_shape [] s

-- an older file put in order by them, and what the call promised of it
abbrev pub earlier_bytes : Bool → ℕ → List ℕ → List ℕ
earlier_bytes is_shape n s = bytes_in (rising n (first_tag is_shape) (earlier_walk false is_shape n s).fields)

abbrev pub EarlierWith : ℕ → Bool → ℕ → List ℕ → List ℕ → List ℕ → Ordered → Type 0
EarlierWith zero is_shape n s o o' r = (r.number ≡ 0) × (r.long ≡ length (earlier_bytes is_shape n s)) × (o' ≡ over (earlier_bytes is_shape n s) o)
EarlierWith (suc f) is_shape n s o o' r = (r.number ≡ suc f) × (r.long ≡ 0) × (o' ≡ o)

abbrev pub EarlierOrder : Bool → ℕ → List ℕ → List ℕ → List ℕ → Ordered → Type 0
EarlierOrder is_shape n s o o' r = EarlierWith (first_of (earlier_walk false is_shape n s).number (when (ltb (length o) (length (earlier_bytes is_shape n s))) 16)) is_shape n s o o' r

-- before request E2
pub record SixTags : Type 0 where
  -- a list without fields 07 and 08, accepted or refused, is walked as before
  pub walked : (s : List ℕ) → comes_to true false 7 s ≡ false → comes_to true false 8 s ≡ false → walk_by true false s ≡ earlier_walk true false 6 s
  -- and one without field 07 in any order, and put in order as before
  pub any_order : (s : List ℕ) → comes_to false false 7 s ≡ false → walk_by false false s ≡ earlier_walk false false 6 s
  pub ordered : (s o o' : List ℕ) (r : Ordered) → is_shape_file s ≡ false → comes_to false false 7 s ≡ false → OrderSays s o o' r ↔ EarlierOrder false 6 s o o' r
  -- of a file that a walk takes, of either kind, not to come to a tag says that it has no such field
  pub without : (in_order is_shape : Bool) (t : ℕ) → eqb t 0 ≡ false → (s : List ℕ) → (walk_by in_order is_shape s).number ≡ 0 → comes_to in_order is_shape t s ≡ has_tag t (walk_by in_order is_shape s).fields

-- the tags before request E12
abbrev pub tags_before : Bool → ℕ
tags_before is_shape = pick is_shape 5 7

pub record UnpricedTags : Type 0 where
  -- a list without field 08 and a shape file without field 16, accepted or refused, are walked as before
  pub walked : (k : Bool) (s : List ℕ) → comes_to true k (price_tag k) s ≡ false → walk_by true k s ≡ earlier_walk true k (tags_before k) s
  -- and older files all are, and put in order
  pub any_order : (k : Bool) (s : List ℕ) → walk_by false k s ≡ earlier_walk false k (tags_before k) s
  pub ordered : (s o o' : List ℕ) (r : Ordered) → OrderSays s o o' r ↔ EarlierOrder (is_shape_file s) (tags_before (is_shape_file s)) s o o' r
