-- Plate lists and shape files: the walk's refusals 1 to 6 and 29 as the crate fields defines them; the plate of a list and its limits and prices of bends; the bytes of a shape file.
use Rattle.std.specs.Prelude.{Bool, false, ◌&&◌, ◌||◌, not, List, [], ◌++◌, ℕ, eqb, length, get_or}
use Rattle.plates.specs.Plates.{pick, first_of, when, Plate, plate, strips, plate_fault}
use Rattle.plates.specs.Shapes.{Shape, rights_of, total, Rates, rates, prices_ok, pair_sums, priced_sum}
pub use Rattle.fields.specs.Files.{tag_ok, price_tag, is_known, tag_in, long_ok, Field, has_tag, content_of, content_at, add_field, Walk, walk, all_there, head_long, last_tag, fault_where, fault_by, field_fault, field_at, fields_with, fields_by, fields_from, walk_by, walk_all, old_walk, two, four, field}

-- a plate list: its walk, then the plate, then the limits, then the prices
abbrev pub plate_in : List Field → Plate
plate_in fs = plate (get_or (content_of 2 fs) 0 0) (content_of 3 fs) (content_of 4 fs) (get_or (content_of 5 fs) 0 0)

-- the limits, where there are any, are one for each strip
abbrev pub limits_fit : List Field → Bool
limits_fit fs = not (has_tag 7 fs) || eqb (length (content_of 7 fs)) (strips (plate_in fs))

-- the prices, where there are any, are one for each strip, each 1 to 100
abbrev pub prices_fit_by : Bool → ℕ → List ℕ → Bool
prices_fit_by given many ps = not given || (eqb (length ps) many && prices_ok ps)

abbrev pub prices_fit : List Field → Bool
prices_fit fs = prices_fit_by (has_tag 8 fs) (strips (plate_in fs)) (content_of 8 fs)

abbrev pub rates_fault : List Field → ℕ
rates_fault fs = first_of (when (not (limits_fit fs)) 23) (when (not (prices_fit fs)) 38)

-- a list's numbers by its walk and by the test of a plate
abbrev pub fault_from : (Plate → ℕ) → Walk → ℕ
fault_from test w = first_of w.number (first_of (test (plate_in w.fields)) (rates_fault w.fields))

abbrev pub list_fault : List ℕ → ℕ
list_fault s = fault_from plate_fault (walk_all false s)

abbrev pub plate_of : List ℕ → Plate
plate_of s = plate_in (walk_all false s).fields

-- by strip the most bends, 255 for no limit; none where the list has no field 07
abbrev pub limits_of : List ℕ → List ℕ
limits_of s = content_of 7 (walk_all false s).fields

-- by strip the price of a bend; none where the list has no field 08, and each bend then costs 1
abbrev pub prices_of : List ℕ → List ℕ
prices_of s = content_of 8 (walk_all false s).fields

abbrev pub is_priced : List ℕ → Bool
is_priced s = has_tag 8 (walk_all false s).fields

abbrev pub rates_of : List ℕ → Rates
rates_of s = rates (limits_of s) (prices_of s)

-- the bends of each strip times its price, together, from prices and right bends
abbrev pub sum_of : List ℕ → List ℕ → ℕ
sum_of ps r = priced_sum ps (pair_sums r)

-- a shape file written: the list's revision, then total, angles and right bends
abbrev pub count_bytes : List Field → List ℕ → List ℕ → List ℕ
count_bytes fs a r = field 17 (content_of 1 fs) ++ (field 18 (two (total r)) ++ (field 19 a ++ field 20 r))

-- and, for a list with prices, the sum for these bends
abbrev pub sum_field : Bool → List ℕ → List ℕ → List ℕ
sum_field priced ps r = pick priced (field 22 (four (sum_of ps r))) []

abbrev pub sum_bytes : List Field → List ℕ → List ℕ
sum_bytes fs r = sum_field (has_tag 8 fs) (content_of 8 fs) r

abbrev pub file_bytes : List Field → List ℕ → List ℕ → List ℕ
file_bytes fs a r = count_bytes fs a r ++ sum_bytes fs r

abbrev pub shape_bytes : List Field → Shape → List ℕ
shape_bytes fs s = file_bytes fs s.angles (rights_of s.words)
