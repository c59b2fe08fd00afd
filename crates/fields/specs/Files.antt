-- Fields of both files: the walk's refusals 1 to 6 and 29; a field's bytes.
use Rattle.std.specs.Prelude.{Bool, true, false, ◌&&◌, ◌||◌, not, List, [], ◌∷◌, ◌++◌, ℕ, zero, suc, ◌+◌, ◌*◌, ◌/◌, ◌%◌, eqb, ltb, leb, length, get_or, take, drop, Option, Some, None}
use Rattle.finite.specs.Base.{pick, first_of, when}

-- which tags a file has, and their lengths; the remark's is 6 in a list, 15 hexadecimal in a shape; 7 are the limits of bends and 8 their prices, a byte a strip; 16
-- hexadecimal is the sum of bends times price
abbrev pub tag_ok : Bool → ℕ → Bool
tag_ok is_shape t = pick is_shape (leb 17 t && leb t 22) (leb 1 t && leb t 8)

-- the tag of the prices in a list and of their sum in a shape; the older files of request E7 have neither
abbrev pub price_tag : Bool → ℕ
price_tag is_shape = pick is_shape 22 8

abbrev pub is_known : Bool → Bool → ℕ → Bool
is_known in_order is_shape t = in_order || not (eqb t (price_tag is_shape))

-- the tags that a walk takes, in order or in any order
abbrev pub tag_in : Bool → Bool → ℕ → Bool
tag_in in_order is_shape t = is_known in_order is_shape t && tag_ok is_shape t

abbrev pub long_ok : Bool → ℕ → ℕ → Bool
long_ok is_shape t n =
    pick is_shape
    (pick (eqb t 17 || eqb t 18) (eqb n 2)
    (pick (eqb t 19 || eqb t 20) (leb n 256)
    (pick (eqb t 21) (leb n 80) (eqb n 4))))
    (pick (eqb t 1) (eqb n 2)
    (pick (eqb t 2 || eqb t 5) (eqb n 1)
    (pick (eqb t 3) (leb n 256 && eqb (n % 2) 0)
    (pick (eqb t 4) (leb n 256)
    (pick (eqb t 6) (leb n 80) (leb n 128))))))

-- a field met: its tag and content
pub record Field : Type 0 where
  pub tag : ℕ
  pub content : List ℕ

abbrev pub has_tag : ℕ → List Field → Bool
has_tag t [] = false
has_tag t (f ∷ fs) = eqb t f.tag || has_tag t fs

abbrev pub content_of : ℕ → List Field → List ℕ
content_of t [] = []
content_of t (f ∷ fs) = elim (eqb t f.tag) [ true ↦ f.content | false ↦ content_of t fs ]

-- the content of tag t; none where it is absent
abbrev pub content_at : ℕ → List Field → Option (List ℕ)
content_at t [] = None
content_at t (f ∷ fs) = elim (eqb t f.tag) [ true ↦ Some f.content | false ↦ content_at t fs ]

abbrev pub add_field : List Field → Field → List Field
add_field [] f = f ∷ []
add_field (x ∷ xs) f = x ∷ add_field xs f

pub record Walk : Type 0 where
  pub number : ℕ
  pub fields : List Field

abbrev pub walk : ℕ → List Field → Walk
walk n f = record { number = n; fields = f }

abbrev pub all_there : Bool → List Field → Bool
all_there is_shape fs =
    pick is_shape
    (has_tag 17 fs && (has_tag 18 fs && (has_tag 19 fs && has_tag 20 fs)))
    (has_tag 1 fs && (has_tag 2 fs && (has_tag 3 fs && (has_tag 4 fs && has_tag 5 fs))))

-- the length that stands in a field's head, high byte first
abbrev pub head_long : List ℕ → ℕ
head_long s = 256 * get_or s 1 0 + get_or s 2 0

-- the tag of the last field met; 0 where there is none
abbrev pub last_tag : List Field → ℕ
last_tag [] = 0
last_tag (f ∷ []) = f.tag
last_tag (f ∷ (g ∷ fs)) = last_tag (g ∷ fs)

-- refusals 1, 2, 3, 29, 4, 5 of the field at the front of s, told whether its tag was met before and whether it is below the previous one
abbrev pub fault_where : Bool → Bool → Bool → Bool → List ℕ → ℕ
fault_where in_order is_shape met below s =
    let t = get_or s 0 0 in
    let n = head_long s in
    first_of (when (ltb (length s) 3) 1)
    (first_of (when (not (tag_in in_order is_shape t)) 2)
    (first_of (when met 3)
    (first_of (when below 29)
    (first_of (when (not (long_ok is_shape t n)) 4)
    (when (ltb (length s) (3 + n)) 5)))))

-- in order: tags ascend; else in any order, as files were before request E7, and without prices
abbrev pub fault_by : Bool → Bool → List Field → List ℕ → ℕ
fault_by in_order is_shape fs s = let t = get_or s 0 0 in fault_where in_order is_shape (has_tag t fs) (in_order && ltb t (last_tag fs)) s

abbrev pub field_fault : Bool → List Field → List ℕ → ℕ
field_fault is_shape fs s = fault_by true is_shape fs s

-- the field at the front of s
abbrev pub field_at : List ℕ → Field
field_at s = record { tag = get_or s 0 0; content = take (head_long s) (drop 3 s) }

-- the walk from fs over s by the fault of a field behind those met, by a fuel above the length of s
abbrev pub fields_with : (List Field → List ℕ → ℕ) → ℕ → Bool → List Field → List ℕ → Walk
fields_with fault zero is_shape fs s = walk 0 fs
fields_with fault (suc l) is_shape fs s =
    let e = fault fs s in
    elim (eqb (length s) 0) [
      | true ↦ walk (when (not (all_there is_shape fs)) 6) fs
      | false ↦ elim (eqb e 0) [
        | true ↦ fields_with fault l is_shape (add_field fs (field_at s)) (drop (3 + head_long s) s)
        | false ↦ walk e []
      ]
    ]

abbrev pub fields_by : Bool → ℕ → Bool → List Field → List ℕ → Walk
fields_by in_order l is_shape fs s = fields_with (fault_by in_order is_shape) l is_shape fs s

abbrev pub walk_by : Bool → Bool → List ℕ → Walk
walk_by in_order is_shape s = fields_by in_order (suc (length s)) is_shape [] s

abbrev pub fields_from : ℕ → Bool → List Field → List ℕ → Walk
fields_from l is_shape fs s = fields_by true l is_shape fs s

abbrev pub walk_all : Bool → List ℕ → Walk
walk_all is_shape s = walk_by true is_shape s

-- the walk over an older file
abbrev pub old_walk : Bool → List ℕ → Walk
old_walk is_shape s = walk_by false is_shape s

-- a number in two bytes, and a field as it stands in a file
abbrev pub two : ℕ → List ℕ
two v = v / 256 ∷ (v % 256 ∷ [])

-- and in four
abbrev pub four : ℕ → List ℕ
four v = two (v / 65536) ++ two (v % 65536)

abbrev pub field : ℕ → List ℕ → List ℕ
field t c = t ∷ (two (length c) ++ c)
