-- Limits of bends by strip, over lists: what it is to keep them, when shaping refuses with 24, and lists without fields 07 and 08, which are answered as before request E2.
use Rattle.std.specs.Prelude.{◌≡◌, true, false, ◌&&◌, List, [], ◌∷◌, ◌↔◌, ◌⊎◌, ℕ, zero, suc, ◌+◌, ◌*◌, ◌≤◌, ◌<◌, ltb, length, get_or}
use Rattle.plates.specs.Plates.{first_of, when, strips, plate_fault}
use Rattle.plates.specs.Shapes.{Shape, rights, lefts, nth_w, meets, rights_of, total, same, strip_bends, all_within, all_free, shape_of}
use Rattle.plates.specs.Files.{Field, Walk, has_tag, content_of, walk_all, list_fault, plate_in, plate_of, limits_of, is_priced, count_bytes}
use Rattle.plates.specs.Claims.{Best, BestOf, SomeWithin, NoneWithin, HasBest}
use Rattle.plates.specs.Says.{over, word, file_fault_by, check_fault, ShapeSays, CheckSays}
use Rattle.plates.specs.Listing.{refused_text, listing_text, Gives, ListingSays}
use Rattle.plates.specs.Answers.{Shaped, Verdict, Listed, shaped}
use Rattle.plates.specs.Ordering.{SameBesides, comes_to}
pub use Rattle.fields.specs.Earlier.{earlier_tag, earlier_long, earlier_fault, earlier_walk, earlier_bytes, EarlierWith, EarlierOrder, SixTags}

-- the most bends of strip i, 255 for no limit
abbrev pub limit_at : List ℕ → ℕ → ℕ
limit_at b i = get_or (limits_of b) i 255

-- the right and left bends of strip i together, along its even dart, in whatever sequence
abbrev pub bends_on : Shape → ℕ → ℕ
bends_on u i = let w = nth_w u.words (i + i) in rights w + lefts w

-- ---- what the calls promised before lists had prices, given a list's fields, when a shape is best, and a number: files had four fields, and fewest were bends
abbrev pub BestFrom : (List Field → Shape → Type 0) → List Field → (List ℕ → List ℕ → List ℕ → Type 0) → Type 0
BestFrom best fs f =
    let p = plate_in fs in
    (a : List ℕ) × (r : List ℕ) × best fs (shape_of p a r) × (rights_of (shape_of p a r).words ≡ r) × f a r (count_bytes fs a (rights_of (shape_of p a r).words))

abbrev pub ShapeBy : (List Field → Shape → Type 0) → ℕ → List Field → List ℕ → List ℕ → Shaped → Type 0
ShapeBy best zero fs o o' r = (r.number ≡ 0) × BestFrom best fs (λ a x b. (r.long ≡ length b) × (r.bends ≡ total x) × (o' ≡ over b o))
ShapeBy best (suc f) fs o o' r = (r.number ≡ suc f) × (r.long ≡ 0) × (r.bends ≡ 0) × (o' ≡ o)

abbrev pub CheckBy : (List Field → Shape → Type 0) → ℕ → List Field → Walk → Verdict → Type 0
CheckBy best zero fs v r = (r.number ≡ 0) × (r.total ≡ total (content_of 20 v.fields)) × BestFrom best fs (λ a x b. (r.fewest ≡ total x) × (r.ours ≡ (same a (content_of 19 v.fields) && same x (content_of 20 v.fields))))
CheckBy best (suc f) fs v r = (r.number ≡ suc f) × (r.total ≡ 0) × (r.fewest ≡ 0) × (r.ours ≡ false)

abbrev pub ListingBy : (List Field → Shape → Type 0) → ℕ → List Field → List ℕ → List ℕ → Listed → Type 0
ListingBy best zero fs o o' r = BestFrom best fs (λ a x b. Gives (listing_text (word (content_of 1 fs)) a x) o o' r)
ListingBy best (suc f) fs o o' r = Gives (refused_text (suc f)) o o' r

-- the length of a file of four fields
abbrev pub count_long : List Field → ℕ
count_long fs = 16 + 4 * strips (plate_in fs)

-- ---- before request E2, of a list by its walk: the best shape of the plate, nothing behind 15 and behind 22
abbrev pub walk_fault : Walk → ℕ
walk_fault w = first_of w.number (plate_fault (plate_in w.fields))

abbrev pub best_free : List Field → Shape → Type 0
best_free fs u = Best (plate_in fs) u

abbrev pub ShapeFrom : Walk → List ℕ → List ℕ → Shaped → Type 0
ShapeFrom w o o' r = ShapeBy best_free (first_of (walk_fault w) (when (ltb (length o) (count_long w.fields)) 16)) w.fields o o' r

abbrev pub CheckFrom : Walk → Walk → Verdict → Type 0
CheckFrom w v r = CheckBy best_free (first_of (walk_fault w) (file_fault_by w.fields v 0)) w.fields v r

abbrev pub ListingFrom : Walk → List ℕ → List ℕ → Listed → Type 0
ListingFrom w o o' r = ListingBy best_free (walk_fault w) w.fields o o' r

-- a list answered as before, by its walk over six tags: for any lent memory, and any shape file in which the walk comes to no sum, by its walk over five tags, the promises are the same
pub record AsUnlimited (s : List ℕ) : Type 0 where
  pub walked : walk_all false s ≡ earlier_walk true false 6 s
  pub number : list_fault s ≡ walk_fault (earlier_walk true false 6 s)
  pub written : (o o' : List ℕ) (r : Shaped) → ShapeSays s o o' r ↔ ShapeFrom (earlier_walk true false 6 s) o o' r
  pub checked : (t : List ℕ) (r : Verdict) → comes_to true true 22 t ≡ false → CheckSays s t r ↔ CheckFrom (earlier_walk true false 6 s) (earlier_walk true true 5 t) r
  pub listed : (o o' : List ℕ) (r : Listed) → ListingSays s o o' r ↔ ListingFrom (earlier_walk true false 6 s) o o' r

-- one post and one strip to itself, whose shape has three bends on dart 0, with a limit of n bends; revision 7
abbrev pub limited_loop : ℕ → List ℕ
limited_loop n = 1 ∷ 0 ∷ 2 ∷ 0 ∷ 7 ∷ 2 ∷ 0 ∷ 1 ∷ 1 ∷ 3 ∷ 0 ∷ 2 ∷ 0 ∷ 0 ∷ 4 ∷ 0 ∷ 2 ∷ 0 ∷ 1 ∷ 5 ∷ 0 ∷ 1 ∷ 1 ∷ 7 ∷ 0 ∷ 1 ∷ n ∷ []

pub record OneLimit : Type 0 where
  pub accepted : (list_fault (limited_loop 2) ≡ 0) × (list_fault (limited_loop 3) ≡ 0)
  -- two bends are too few, for any memory
  pub none : NoneWithin (limited_loop 2)
  pub refused : (o o' : List ℕ) (r : Shaped) → ShapeSays (limited_loop 2) o o' r → (o' ≡ o) × (r ≡ shaped 24 0 0)
  -- three are enough
  pub best : BestOf (limited_loop 3) (shape_of (plate_of (limited_loop 3)) (1 ∷ 3 ∷ []) (3 ∷ 0 ∷ []))

-- what request E2 asks
pub record Limits : Type 0 where
  -- an accepted list has one limit for each strip, or none at all
  pub one_each : (b : List ℕ) → list_fault b ≡ 0 → has_tag 7 (walk_all false b).fields ≡ true → length (limits_of b) ≡ strips (plate_of b)
  -- the limits are kept exactly where no strip bends more often than its limit says
  pub by_strip : (b : List ℕ) (u : Shape) → list_fault b ≡ 0 → meets (plate_of b) u ≡ true
      → (all_within (limits_of b) (strip_bends u) ≡ true) ↔ ((i : ℕ) → i < strips (plate_of b) → (255 ≤ limit_at b i) ⊎ (bends_on u i ≤ limit_at b i))
  -- shaping answers 24, whatever memory is lent, exactly where no shape of an accepted list keeps the limits
  pub refused : (s o o' : List ℕ) (r : Shaped) → ShapeSays s o o' r → (r.number ≡ 24) ↔ ((list_fault s ≡ 0) × NoneWithin s)
  -- and the listing says so
  pub listed : (s o o' : List ℕ) (r : Listed) → list_fault s ≡ 0 → NoneWithin s → ListingSays s o o' r → Gives (refused_text 24) o o' r
  -- an accepted list has a best shape exactly where 24 is not given
  pub some_best : (s o o' : List ℕ) (r : Shaped) → list_fault s ≡ 0 → ShapeSays s o o' r → (r.number ≡ 24 → ⊥) ↔ HasBest s
  -- a sound file is itself a shape within the limits, so the check's fewest is taken over some
  pub own : (s t : List ℕ) → check_fault s t ≡ 0 → SomeWithin s
  -- a list without fields 07 and 08, accepted or refused, is answered as before, its walk included; so is E7's program
  pub unlimited : (s : List ℕ) → comes_to true false 7 s ≡ false → comes_to true false 8 s ≡ false → AsUnlimited s
  pub six_tags : SixTags
  -- with 255 everywhere, or without the field, the best shape of a list without prices is that of the plate
  pub no_field : (b : List ℕ) → has_tag 7 (walk_all false b).fields ≡ false → all_free (limits_of b) ≡ true
  pub as_plate : (b : List ℕ) (u : Shape) → all_free (limits_of b) ≡ true → is_priced b ≡ false → BestOf b u ↔ Best (plate_of b) u
  -- and two lists without limits, with prices or without, that differ in field 07 at most get the same answer and the same bytes, whatever memory is lent
  pub all-free : (s t o o₁ o₂ : List ℕ) (r q : Shaped) → list_fault s ≡ 0 → list_fault t ≡ 0 → SameBesides 7 (walk_all false s).fields (walk_all false t).fields → all_free (limits_of s) ≡ true → all_free (limits_of t) ≡ true
      → ShapeSays s o o₁ r → ShapeSays t o o₂ q → (o₁ ≡ o₂) × (r ≡ q)
  pub one_limit : OneLimit
