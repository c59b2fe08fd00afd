-- The editor's journal over lists: the list after a step, what the calls that take one step promise, and what a replay leaves.
use Rattle.std.specs.Prelude.{◌≡◌, false, List, [], ◌∷◌, ◌++◌, ℕ, zero, suc, ◌≤◌, ◌<◌, eqb, length, get_or}
use Rattle.plates.specs.Answers.{Listed}
use Rattle.plates.specs.Plates.{pick, first_of, Plate, strips}
use Rattle.plates.specs.Files.{Field, has_tag, content_of, walk, walk_all, list_fault, plate_in, plate_of, limits_of, prices_of, is_priced}
use Rattle.plates.specs.Listing.{Gives}
use Rattle.plates.specs.Ordering.{bytes_in}
use Rattle.plates.specs.Limits.{limit_at}
use Rattle.plates.specs.Prices.{price_at}
pub use Rattle.embedding.specs.Edits.{laid, put_before, rename, renamed, split, hang, join, SplitTable, HangTable, JoinTable, Turned, SameTable, no_post, no_strip, taken, full, no_face, split_fault, hang_fault, join_fault}
pub use Rattle.embedding.specs.Journal.{step_fault, stepped, new_faces, StepTable, OuterStays, StepHolds, replayed, Editing}
pub use Rattle.embedding.specs.declared.journal.Step.{Step}
pub use Rattle.embedding.specs.declared.journal.Step.TheVariants.{Split, Hang, Join}

-- the limit or price of the strip that a step makes, given what a strip has of which a list says nothing: a split gives that of its strip to both halves
abbrev pub new_rate : ℕ → List ℕ → Step → ℕ
new_rate unsaid rates (Split s) = get_or rates s unsaid
new_rate unsaid rates (Hang d) = unsaid
new_rate unsaid rates (Join d e) = unsaid

-- any other strip has no limit, and its bends cost 1
abbrev pub new_limit : List ℕ → Step → ℕ
new_limit = new_rate 255

abbrev pub new_price : List ℕ → Step → ℕ
new_price = new_rate 1

-- the limits or the prices with one more behind them, where the list has any
abbrev pub rate_with : ℕ → List Field → ℕ → List Field
rate_with t fs n = pick (has_tag t fs) (record { tag = t; content = content_of t fs ++ (n ∷ []) } ∷ []) []

-- the fields of a plate's list in tag order: the revision, the plate, then the rest
abbrev pub plate_fields : List ℕ → Plate → List Field → List Field
plate_fields revision p rest =
    record { tag = 1; content = revision }
    ∷ (record { tag = 2; content = p.posts ∷ [] }
    ∷ (record { tag = 3; content = p.ends }
    ∷ (record { tag = 4; content = p.order }
    ∷ (record { tag = 5; content = p.outer ∷ [] } ∷ rest))))

-- the list of a plate with one strip more than the list fs, with its revision, its limits and prices and the limit n and the price m of that strip
abbrev pub grown_fields : List Field → Plate → ℕ → ℕ → List Field
grown_fields fs p n m = plate_fields (content_of 1 fs) p (rate_with 7 fs n ++ rate_with 8 fs m)

abbrev pub fields_after : List Field → Step → List Field
fields_after fs t = grown_fields fs (stepped (plate_in fs) t) (new_limit (content_of 7 fs) t) (new_price (content_of 8 fs) t)

abbrev pub list_after : List ℕ → Step → List ℕ
list_after s t = bytes_in (fields_after (walk_all false s).fields t)

-- the calls: the list's numbers, then 35, 36, 37, then 16
abbrev pub edit_fault : List ℕ → Step → ℕ
edit_fault s t = first_of (list_fault s) (step_fault (plate_of s) t)

abbrev pub EditWith : ℕ → List ℕ → Step → List ℕ → List ℕ → Listed → Type 0
EditWith zero s t o o' r = Gives (list_after s t) o o' r
EditWith (suc f) s t o o' r = (r.number ≡ suc f) × (r.long ≡ 0) × (o' ≡ o)

abbrev pub EditSays : List ℕ → Step → List ℕ → List ℕ → Listed → Type 0
EditSays s t o o' r = EditWith (edit_fault s t) s t o o' r

-- a replay over lists, one step at a time: a refused step ends it with the list before
abbrev pub replayed_list : List ℕ → List Step → List ℕ
replayed_list s [] = s
replayed_list s (t ∷ ts) = pick (eqb (step_fault (plate_of s) t) 0) (replayed_list (list_after s t) ts) s

-- the list after a step that is not refused
pub record AfterStep (s : List ℕ) (t : Step) : Type 0 where
  pub walked : walk_all false (list_after s t) ≡ walk 0 (fields_after (walk_all false s).fields t)
  pub accepted : list_fault (list_after s t) ≡ 0
  pub plate : plate_of (list_after s t) ≡ stepped (plate_of s) t
  pub revision : content_of 1 (walk_all false (list_after s t)).fields ≡ content_of 1 (walk_all false s).fields
  pub limited : has_tag 7 (walk_all false (list_after s t)).fields ≡ has_tag 7 (walk_all false s).fields
  pub old_limits : (i : ℕ) → i < strips (plate_of s) → limit_at (list_after s t) i ≡ limit_at s i
  pub new-limit : limit_at (list_after s t) (strips (plate_of s)) ≡ new_limit (limits_of s) t
  pub priced : is_priced (list_after s t) ≡ is_priced s
  pub old_prices : (i : ℕ) → i < strips (plate_of s) → price_at (list_after s t) i ≡ price_at s i
  pub new-price : price_at (list_after s t) (strips (plate_of s)) ≡ new_price (prices_of s) t
  -- a list without prices becomes the list that it did before request E12
  pub unpriced : is_priced s ≡ false → fields_after (walk_all false s).fields t
      ≡ plate_fields (content_of 1 (walk_all false s).fields) (stepped (plate_of s) t) (rate_with 7 (walk_all false s).fields (new_limit (limits_of s) t))
  pub longest : length (list_after s t) ≤ 793

-- what request E11 asks
pub record Journal : Type 0 where
  pub editing : Editing
  pub after : (s : List ℕ) (t : Step) → list_fault s ≡ 0 → step_fault (plate_of s) t ≡ 0 → AfterStep s t
  -- a replay of an accepted list ends with an accepted one, whose plate is that of the replay
  pub replay : (s : List ℕ) (ts : List Step) → list_fault s ≡ 0 → (list_fault (replayed_list s ts) ≡ 0) × (plate_of (replayed_list s ts) ≡ replayed (plate_of s) ts)
  -- the promise leaves no choice
  pub one_answer : (s : List ℕ) (t : Step) (o o₁ o₂ : List ℕ) (r q : Listed) → EditSays s t o o₁ r → EditSays s t o o₂ q → (o₁ ≡ o₂) × (r ≡ q)
