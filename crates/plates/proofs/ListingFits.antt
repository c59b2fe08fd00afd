-- A text that is given lies within the memory lent for it. Assumes nothing.
use mathlib.Core.Path.{◌≡◌, ap}
use mathlib.Core.Bool.{Bool, true, false}
use mathlib.Core.List.{List}
use Prim.Native.Nat.{ℕ, zero, suc, ◌≤◌}
use native.Mathlib.Omega.{arith}
use lib.Dec.{ltb}
use lib.ListN.{length, drop, length-append}
use Rattle.plates.specs.Plates.{pick_t}
use Rattle.plates.specs.Files.{content_of, walk_all}
use Rattle.plates.specs.Says.{over, word}
use Rattle.plates.specs.Listing.{refused_text, listing_text, Gives, ListingWith, ListingSays, listing_fault}
use Rattle.plates.specs.Answers.{Listed, listed_of}
use Rattle.refusals.specs.declared.Refusal.{Refusal}
use Rattle.std.proofs.Common.{Result, Ok, Err, IfOk}

pub gives_fits : (t o o' : List ℕ) (r : Listed) → Gives t o o' r → r.long ≤ length o'
gives_fits t o o' r = by (ltb (length o) (length t))
  where
    by : (b : Bool) → pick_t b ((r.number ≡ 16) × (r.long ≡ 0) × (o' ≡ o)) ((r.number ≡ 0) × (r.long ≡ length t) × (o' ≡ over t o)) → r.long ≤ length o'
    by true h = omega (arith, h.1)
    by false h = omega (arith, h.1, ap (λ (l : List ℕ). length l) h.2, length-append t (drop (length t) o))

listing_with : (f : ℕ) (s o o' : List ℕ) (r : Listed) → ListingWith f s o o' r → r.long ≤ length o'
listing_with zero s o o' r (a, x, best, counts, g) = gives_fits (listing_text (word (content_of 1 (walk_all false s).fields)) a x) o o' r g
listing_with (suc f) s o o' r g = gives_fits (refused_text (suc f)) o o' r g

pub listing_fits : (s o o' : List ℕ) (r : Listed) → ListingSays s o o' r → r.long ≤ length o'
listing_fits s o o' r (none, keeps, h) = listing_with (listing_fault none s) s o o' r h

-- of the answer itself
pub listed_within : (m : ℕ) (r : Result ℕ Refusal) → (listed_of r).long ≤ m → IfOk r (λ n. n ≤ m)
listed_within m (Ok n) l = l
listed_within m (Err e) l = tt

pub listing_within : (s o o' : List ℕ) (r : Result ℕ Refusal) → ListingSays s o o' (listed_of r) → IfOk r (λ n. n ≤ length o')
listing_within s o o' r h = listed_within (length o') r (listing_fits s o o' (listed_of r) h)
