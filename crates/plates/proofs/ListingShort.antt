-- A listing has at most 6939 bytes: two lines of at most 27 together, and at most 27 for each of at most 256 darts. Assumes nothing.
use mathlib.Core.Path.{◌≡◌, refl}
use mathlib.Core.Bool.{Bool, true, false}
use mathlib.Core.List.{List, [], ◌∷◌}
use Prim.Native.Nat.{ℕ, zero, suc, ◌*◌, ◌/◌, ◌≤◌, ◌<◌}
use native.Mathlib.Omega.{arith}
use lib.Dec.{ltb}
use lib.ListN.{length, get_or}
use borrow.Author.Tests.{ltb-true, ltb-false}
use Rattle.finite.proofs.Tests.{and_left, and_right}
use Rattle.shapes.proofs.FlowFacts.{is_flow_facts}
use Rattle.shapes.proofs.Accepted.{shape_is_flow}
use Rattle.plates.specs.Shapes.{total, rights_of, shape_of}
use Rattle.plates.specs.Files.{content_of, walk_all, plate_of}
use Rattle.plates.specs.Says.{word, all_bytes}
use Rattle.plates.specs.Listing.{decimal, revision_word, bends_word, refused_word, refused_text, dart_lines, listing_text, ListingShort}
use Rattle.plates.proofs.Contents.{list_fields}
use Rattle.plates.proofs.Lists.{list_walked, list_accepted}
use Rattle.plates.proofs.ReadsBack.{rights_many}
use Rattle.plates.proofs.FileBytes.{contents_bytes, total_fit, unit_fit}
use Rattle.plates.proofs.ListingText.{decimal_one_long, decimal_more_long}
use Rattle.plates.proofs.ListingRows.{line_long, dart_long, lines_long, listing_long}

-- numbers below b have at most k digits, so those below 10 b have at most one more
abbrev Digits : ℕ → ℕ → Type 0
Digits b k = (n : ℕ) → n < b → length (decimal n) ≤ k

longer : (b k : ℕ) → 1 ≤ k → Digits b k → Digits (10 * b) (suc k)
longer b k some h n l = go (ltb n 10) refl
  where
    go : (t : Bool) → ltb n 10 ≡ t → length (decimal n) ≤ suc k
    go true e = omega (arith, decimal_one_long n (ltb-true n 10 e))
    go false e = omega (arith, decimal_more_long n (ltb-false n 10 e), h (n / 10) (omega arith))

pub one_digit : Digits 10 1
one_digit n l = omega (arith, decimal_one_long n l)

pub two_digits : Digits 100 2
two_digits = longer 10 1 (omega arith) one_digit

pub three_digits : Digits 1000 3
three_digits = longer 100 2 (omega arith) two_digits

pub five_digits : Digits 100000 5
five_digits = longer 10000 4 (omega arith) (longer 1000 3 (omega arith) three_digits)

pub refused_short : (n : ℕ) → n < 1000 → length (refused_text n) ≤ 12
refused_short n l = omega (arith, line_long refused_word n, three_digits n l)

lines_short : (n : ℕ) (a r : List ℕ) → n ≤ 1000 → ((d : ℕ) → d < n → (get_or r d 0 < 1000) × (get_or a d 0 < 10)) → length (dart_lines n a r) ≤ 27 * n
lines_short zero a r m h = omega arith
lines_short (suc n) a r m h =
    let (x, y) = h n (omega arith) in
    omega (
      arith,
      lines_long n a r,
      lines_short n a r (omega arith) (λ d l. h d (omega arith)),
      dart_long n (get_or r n 0) (get_or a n 0),
      three_digits n (omega arith),
      three_digits (get_or r n 0) x,
      one_digit (get_or a n 0) y,
    )

pub counts_short : (v : ℕ) (a r : List ℕ) → v < 100000 → total r < 100000 → length r ≤ 256 → ((d : ℕ) → d < length r → (get_or r d 0 < 1000) × (get_or a d 0 < 10)) → length (listing_text v a r) ≤ 6939
counts_short v a r lv lt lr h =
    omega (
      arith,
      listing_long v a r,
      line_long revision_word v,
      five_digits v lv,
      line_long bends_word (total r),
      five_digits (total r) lt,
      lines_short (length r) a r (omega arith) h,
    )

pub byte_at : (c : List ℕ) (i : ℕ) → all_bytes c ≡ true → get_or c i 0 < 256
byte_at [] i e = omega arith
byte_at (x ∷ xs) zero e = ltb-true x 256 (and_left (ltb x 256) (all_bytes xs) e)
byte_at (x ∷ xs) (suc i) e = byte_at xs i (and_right (ltb x 256) (all_bytes xs) e)

pub listing_short : ListingShort
listing_short s a r e bytes best counts =
    let p = plate_of s in
    let c = content_of 1 (walk_all false s).fields in
    let many = rights_many s a r e best.meets_all counts in
    let flow = is_flow_facts p a (rights_of (shape_of p a r).words) (shape_is_flow p (list_accepted s e) (shape_of p a r) best.meets_all) in
    counts_short (word c) a r
    (omega (arith, byte_at c 0 (contents_bytes false s bytes 1), byte_at c 1 (contents_bytes false s bytes 1)))
    (omega (arith, total_fit s a r e bytes best counts))
    (omega (arith, many, (list_fields s (list_walked s e)).ends_most))
    (λ d l. (omega (arith, unit_fit s a r e bytes best counts d l), omega (arith, flow.corner_range d (omega (arith, many)))))
