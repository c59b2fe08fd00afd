-- What the listing promises, from what its steps give: a text written into a buffer and cut to its length is that text. Assumes nothing.
use mathlib.Core.Path.{◌≡◌, refl, sym, ap, subst, ◌∙◌}
use mathlib.Core.Bool.{true, false}
use mathlib.Core.List.{List}
use Prim.Native.Nat.{ℕ, zero, suc, ◌≤◌, ◌<◌}
use lib.Dec.{ltb}
use lib.ListN.{length, get_or, take, drop}
use lib.Seq.{take_at}
use borrow.Author.Tests.{lt-ltb}
use Rattle.finite.proofs.Tests.{each_over}
use Rattle.plates.specs.Answers.{Listed}
use Rattle.plates.specs.Plates.{first_of}
use Rattle.plates.specs.Files.{content_of, walk_all, list_fault, plate_of}
use Rattle.plates.specs.Shapes.{shape_of}
use Rattle.plates.specs.Claims.{BestCounts, NoneWithin}
use Rattle.plates.specs.Says.{word, all_bytes}
use Rattle.plates.specs.Listing.{listing_text, refused_text, TextWritten, Gives, ListingWith, ListingSays}
use Rattle.plates.proofs.ListingShort.{listing_short}

pub all-bytes : (s : List ℕ) → ((i : ℕ) → get_or s i 0 < 256) → all_bytes s ≡ true
all-bytes s h = each_over all_bytes (λ x. ltb x 256) refl (λ x y. refl) s (λ i l. lt-ltb (get_or s i 0) 256 (h i))

-- a buffer that holds a text, cut to the text's length
module _ (t : List ℕ) {buf held : List ℕ} {n : ℕ} (w : TextWritten t buf held n) where
  text_cut : take n held ≡ t
  text_cut = ap (take n) w.bytes ∙ take_at t (drop (length t) buf) n (sym w.long)

  pub cut_gives : (o o' : List ℕ) (q : Listed) → Gives (take n held) o o' q → Gives t o o' q
  cut_gives o o' q g = subst (λ (x : List ℕ). Gives x o o' q) text_cut g

module _ {s a r : List ℕ} (e : list_fault s ≡ 0) (g : BestCounts s a r) (v : ℕ) (revision : v ≡ word (content_of 1 (walk_all false s).fields)) where
  pub listing_room : all_bytes s ≡ true → length (listing_text v a r) ≤ 6939
  listing_room bytes = subst (λ (x : ℕ). length (listing_text x a r) ≤ 6939) (sym revision) (listing_short s a r e bytes g.best g.counts)

  pub listing_said : (o o' : List ℕ) (q : Listed) → Gives (listing_text v a r) o o' q → ListingSays s o o' q
  listing_said o o' q h = (
    false,
    (λ z. (shape_of (plate_of s) a r, g.best.meets_all, g.best.keeps_all)),
    subst (λ (k : ℕ). ListingWith (first_of k 0) s o o' q) (sym e)
        (a, r, g.best, g.counts, subst (λ (x : ℕ). Gives (listing_text x a r) o o' q) revision h),
  )

pub refused_said : (e : ℕ) (s o o' : List ℕ) (q : Listed) → e ≡ list_fault s → (e ≡ 0 → ⊥) → Gives (refused_text e) o o' q → ListingSays s o o' q
refused_said zero s o o' q z n g = absurd (n refl)
refused_said (suc e) s o o' q z n g = (false, (λ y. absurd (n (z ∙ y))), subst (λ (k : ℕ). ListingWith (first_of k 0) s o o' q) z g)

pub none_said : (s o o' : List ℕ) (q : Listed) → list_fault s ≡ 0 → NoneWithin s → Gives (refused_text 24) o o' q → ListingSays s o o' q
none_said s o o' q e none g = (true, (λ z. none), subst (λ (k : ℕ). ListingWith (first_of k 24) s o o' q) (sym e) g)
