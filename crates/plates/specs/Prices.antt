-- Prices of bends by strip, over lists: the priced sum, the best shape by it, what shape files say of it, and lists without field 08, which are answered as before request E12.
use Rattle.std.specs.Prelude.{◌≡◌, Bool, true, false, ◌&&◌, ◌||◌, not, List, [], ◌∷◌, ◌↔◌, ◌⊎◌, ℕ, ◌+◌, ◌*◌, ◌≤◌, ◌<◌, ltb, length, get_or, take}
use Rattle.finite.specs.Base.{word_at}
use Rattle.finite.proofs.Sums.{sum_below}
use Rattle.plates.specs.Answers.{Shaped, Verdict, Listed}
use Rattle.plates.specs.Plates.{pick_t, first_of, when, darts, strips, plate_fault}
use Rattle.plates.specs.Shapes.{Shape, meets, bends, cornered, rights_of, total, smaller, same, pair_sums, strip_bends, all_within, all_free, price, rates, BestBy, BestWithin, shape_of}
use Rattle.plates.specs.Files.{Field, Walk, price_tag, all_there, has_tag, content_of, walk_all, four, limits_fit, list_fault, plate_in, plate_of, limits_of, prices_of, is_priced, rates_of, sum_of, count_bytes, file_bytes}
use Rattle.plates.specs.Claims.{BestOf}
use Rattle.plates.specs.Says.{file_long, angles_in, rights_in, file_fault_by, sum_true, check_fault, ShapeSays, CheckSays}
use Rattle.plates.specs.Listing.{ListingSays}
use Rattle.plates.specs.Ordering.{comes_to}
use Rattle.plates.specs.Limits.{bends_on, earlier_walk, ShapeBy, CheckBy, ListingBy, count_long}
use Rattle.plates.specs.Texts.{ReadSays}
pub use Rattle.fields.specs.Earlier.{tags_before, UnpricedTags}

-- the price of a bend on strip i
abbrev pub price_at : List ℕ → ℕ → ℕ
price_at b i = get_or (prices_of b) i 1

-- ---- what the calls promised before request E12, of a list by its walk
abbrev pub unpriced_fault : Walk → ℕ
unpriced_fault w = first_of w.number (first_of (plate_fault (plate_in w.fields)) (when (not (limits_fit w.fields)) 23))

abbrev pub best_unpriced : List Field → Shape → Type 0
best_unpriced fs u = BestWithin (plate_in fs) (content_of 7 fs) u

abbrev pub NoneUnpriced : Bool → Walk → Type 0
NoneUnpriced none w =
    let p = plate_in w.fields in
    let ls = content_of 7 w.fields in
    unpriced_fault w ≡ 0
    → pick_t none ((u : Shape) → meets p u ≡ true → all_within ls (strip_bends u) ≡ true → ⊥) ((u : Shape) × (meets p u ≡ true) × (all_within ls (strip_bends u) ≡ true))

abbrev pub ShapeUnpriced : Walk → List ℕ → List ℕ → Shaped → Type 0
ShapeUnpriced w o o' r =
    (none : Bool) × NoneUnpriced none w
    × ShapeBy best_unpriced (first_of (unpriced_fault w) (first_of (when none 24) (when (ltb (length o) (count_long w.fields)) 16))) w.fields o o' r

-- and of a shape file by its walk too
abbrev pub unpriced_check : Walk → Walk → ℕ
unpriced_check w v = first_of (unpriced_fault w) (file_fault_by w.fields v (when (not (all_within (content_of 7 w.fields) (pair_sums (content_of 20 v.fields)))) 25))

abbrev pub CheckUnpriced : Walk → Walk → Verdict → Type 0
CheckUnpriced w v r = CheckBy best_unpriced (unpriced_check w v) w.fields v r

abbrev pub ListingUnpriced : Walk → List ℕ → List ℕ → Listed → Type 0
ListingUnpriced w o o' r = (none : Bool) × NoneUnpriced none w × ListingBy best_unpriced (first_of (unpriced_fault w) (when none 24)) w.fields o o' r

-- a list answered as before, by its walk over seven tags: for any lent memory, and any shape file in which the walk comes to no sum, by its walk over five tags, the promises are the same
pub record AsUnpriced (s : List ℕ) : Type 0 where
  pub walked : walk_all false s ≡ earlier_walk true false 7 s
  pub number : list_fault s ≡ unpriced_fault (earlier_walk true false 7 s)
  pub written : (o o' : List ℕ) (r : Shaped) → ShapeSays s o o' r ↔ ShapeUnpriced (earlier_walk true false 7 s) o o' r
  -- the check's numbers, with which to text begins too
  pub judged : (t : List ℕ) → comes_to true true 22 t ≡ false → check_fault s t ≡ unpriced_check (earlier_walk true false 7 s) (earlier_walk true true 5 t)
  pub checked : (t : List ℕ) (r : Verdict) → comes_to true true 22 t ≡ false → CheckSays s t r ↔ CheckUnpriced (earlier_walk true false 7 s) (earlier_walk true true 5 t) r
  pub listed : (o o' : List ℕ) (r : Listed) → ListingSays s o o' r ↔ ListingUnpriced (earlier_walk true false 7 s) o o' r
  -- shape files written for it, from a text too, have four fields
  pub four_fields : (a r : List ℕ) → file_bytes (walk_all false s).fields a r ≡ count_bytes (walk_all false s).fields a r
  pub file-long : file_long s ≡ count_long (walk_all false s).fields

-- a file written for a list: with prices its last field is their sum for the file's own bends, and without them it has no such field
pub record SumWritten (s b : List ℕ) : Type 0 where
  pub reads : (walk_all true b).number ≡ 0
  pub there : has_tag 22 (walk_all true b).fields ≡ is_priced s
  pub sum : is_priced s ≡ true → content_of 22 (walk_all true b).fields ≡ four (sum_of (prices_of s) (rights_in b))
  pub long : length b ≡ 16 + 4 * strips (plate_of s) + when (is_priced s) 7

-- a best shape in the words of the request: every other one has a greater sum or, with the same sum, more cornered posts or, with as many, more bends or, with as many, comes later by
-- document 01's order of right bends and angles
pub record Cheapest (b : List ℕ) (s : Shape) : Type 0 where
  pub meets_all : meets (plate_of b) s ≡ true
  pub keeps_all : all_within (limits_of b) (strip_bends s) ≡ true
  pub least : (u : Shape) → meets (plate_of b) u ≡ true → all_within (limits_of b) (strip_bends u) ≡ true
      → (u ≡ s) ⊎ ((price (rates_of b) s < price (rates_of b) u) ⊎ ((price (rates_of b) s ≡ price (rates_of b) u)
      × ((cornered (plate_of b) s < cornered (plate_of b) u) ⊎ ((cornered (plate_of b) s ≡ cornered (plate_of b) u)
      × ((bends s < bends u) ⊎ ((bends s ≡ bends u)
      × (smaller (rights_of s.words) (rights_of u.words) || (same (rights_of s.words) (rights_of u.words) && smaller s.angles u.angles) ≡ true)))))))

-- what request E12 asks
pub record Prices : Type 0 where
  -- an accepted list has one price for each strip, 1 to 100, or none at all
  pub one_each : (b : List ℕ) → list_fault b ≡ 0 → is_priced b ≡ true → (length (prices_of b) ≡ strips (plate_of b)) × ((i : ℕ) → (1 ≤ price_at b i) × (price_at b i ≤ 100))
  -- the sum is taken over the strips, of all bends of each, whatever the words
  pub by_strip : (b : List ℕ) (u : Shape) → list_fault b ≡ 0 → meets (plate_of b) u ≡ true → (length (strip_bends u) ≡ strips (plate_of b)) × ((i : ℕ) → i < strips (plate_of b) → get_or (strip_bends u) i 0 ≡ bends_on u i)
  -- each bend costs the price of its strip
  pub by_price : (b : List ℕ) (u : Shape) → list_fault b ≡ 0 → meets (plate_of b) u ≡ true → price (rates_of b) u ≡ sum_below (strips (plate_of b)) (λ i. price_at b i * bends_on u i)
  -- a file's own bends cost what the shape that it stores does
  pub own : (s t : List ℕ) → list_fault s ≡ 0 → length (rights_in t) ≡ darts (plate_of s) → sum_of (prices_of s) (rights_in t) ≡ price (rates_of s) (shape_of (plate_of s) (angles_in t) (rights_in t))
  -- the best shape in parts
  pub in_parts : (b : List ℕ) → list_fault b ≡ 0 → (s : Shape) → BestOf b s ↔ Cheapest b s
  -- without prices the sum is the total of bends, and the best shape is that with fewest bends
  pub bends_sum : (b : List ℕ) → is_priced b ≡ false → (u : Shape) → price (rates_of b) u ≡ bends u
  pub as_unpriced : (b : List ℕ) (u : Shape) → is_priced b ≡ false → BestOf b u ↔ BestWithin (plate_of b) (limits_of b) u
  -- with 255 everywhere limits make no difference to it
  pub free : (b : List ℕ) (u : Shape) → all_free (limits_of b) ≡ true → BestOf b u ↔ BestBy (plate_of b) (rates [] (prices_of b)) u
  -- a list without field 08, accepted or refused, is answered as before, its walk included; E7's program answers every file as before, so 2 to 08 and 16
  pub unpriced : (s : List ℕ) → comes_to true false 8 s ≡ false → AsUnpriced s
  pub unpriced_tags : UnpricedTags
  -- number 6 asks for neither of them
  pub unasked : (k : Bool) (fs : List Field) (c : List ℕ) → all_there k (record { tag = price_tag k; content = c } ∷ fs) ≡ all_there k fs
  -- what shaping writes
  pub shaped : (s o o' : List ℕ) (r : Shaped) → ShapeSays s o o' r → r.number ≡ 0 → SumWritten s (take r.long o')
  -- and what a text gives
  pub from_text : (s t o o' : List ℕ) (r : Shaped) → ReadSays s t o o' r → r.number ≡ 0 → SumWritten s (take r.long o')
  -- the sum of right bends whose total fits two bytes, as of every file that is sound or written, fits four
  pub fits : (s r : List ℕ) → list_fault s ≡ 0 → total r < 65536 → sum_of (prices_of s) r < 4294967296
  -- without prices it is their total
  pub sum_total : (s r : List ℕ) → is_priced s ≡ false → sum_of (prices_of s) r ≡ total r
  -- what the four bytes tell
  pub told : (v : ℕ) → 65536 * word_at (four v) 0 + word_at (four v) 2 ≡ v
  -- a sound file says what its own bends cost exactly where its list has prices
  pub sum-true : (s t : List ℕ) → check_fault s t ≡ 0 → sum_true (walk_all false s).fields (walk_all true t).fields ≡ true
  pub sum_there : (fs gs : List Field) → has_tag 8 fs ≡ true → (sum_true fs gs ≡ true) ↔ (content_of 22 gs ≡ four (sum_of (content_of 8 fs) (content_of 20 gs)))
  pub sum_absent : (fs gs : List Field) → has_tag 8 fs ≡ false → (sum_true fs gs ≡ true) ↔ (has_tag 22 gs ≡ false)
  -- the verdict's fewest is the least sum of all shapes within the limits, and one has it
  pub fewest : (s t : List ℕ) (v : Verdict) → CheckSays s t v → v.number ≡ 0
      → ((u : Shape) → meets (plate_of s) u ≡ true → all_within (limits_of s) (strip_bends u) ≡ true → v.fewest ≤ price (rates_of s) u)
      × ((u : Shape) × (meets (plate_of s) u ≡ true) × (all_within (limits_of s) (strip_bends u) ≡ true) × (price (rates_of s) u ≡ v.fewest))
