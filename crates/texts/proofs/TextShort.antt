-- No text has more than 66962 bytes: at most 262 for each of 256 darts, less two for each of the ten numbers of one digit
-- and one for each of the ninety of two. Assumes nothing.
use mathlib.Core.Path.{◌≡◌, refl, ap, ◌∙◌}
use mathlib.Core.Bool.{Bool, true, false}
use mathlib.Core.List.{List}
use Prim.Native.Nat.{ℕ, zero, suc, ◌+◌, ◌*◌, ◌%◌, ◌≤◌, ◌<◌, min}
use native.Mathlib.Omega.{arith}
use lib.Dec.{ltb}
use lib.ListN.{length, get_or}
use borrow.Author.Tests.{ltb-true, ltb-false}
use Rattle.embedding.proofs.Degrees.{darts_few}
use Rattle.embedding.proofs.Rotation.{twin_below}
use Rattle.shapes.specs.Claims.{Accepted}
use Rattle.shapes.proofs.Accepted.{faultless, ordered}
use Rattle.plates.specs.Plates.{Plate, darts, twin}
use Rattle.plates.specs.Shapes.{shape_of}
use Rattle.plates.specs.Listing.{decimal}
use Rattle.plates.specs.Lines.{face_text, both_ways}
use Rattle.plates.proofs.ListingShort.{one_digit, two_digits, three_digits}
use Rattle.texts.specs.Prints.{long_up_to}
use Rattle.texts.proofs.OneWay.{one_way}
use Rattle.texts.proofs.PrintLaws.{word_most}
use Rattle.texts.proofs.CountText.{counted_long}

-- how many digits fewer than three the numbers below n have
abbrev fewer : ℕ → ℕ
fewer n = min n 10 + min n 100

number_most : (n : ℕ) → n < 1000 → length (decimal n) + fewer (suc n) ≤ 3 + fewer n
number_most n l = go (ltb n 10) refl (ltb n 100) refl
  where
    go : (a : Bool) → ltb n 10 ≡ a → (b : Bool) → ltb n 100 ≡ b → length (decimal n) + fewer (suc n) ≤ 3 + fewer n
    go true e b f = let k : n < 10 = ltb-true n 10 e in omega (arith, one_digit n k)
    go false e true f = let k : n < 100 = ltb-true n 100 f in omega (arith, ltb-false n 10 e, two_digits n k)
    go false e false f = omega (arith, ltb-false n 10 e, ltb-false n 100 f, three_digits n l)

-- words of at most 255 digits
long_most : (n : ℕ) (r : List ℕ) → n ≤ 256 → ((d : ℕ) → d < n → get_or r d 0 + get_or r (twin d) 0 ≤ 255) → long_up_to n r + fewer n ≤ 262 * n
long_most zero r l h = omega arith
long_most (suc n) r l h =
    omega (
      arith,
      long_most n r (omega arith) (λ d k. h d (omega arith)),
      number_most n (omega arith),
      word_most (get_or r n 0) (get_or r (twin n) 0) (h n (omega arith)),
    )

-- right bends that each fit a byte
pub text_most : (p : Plate) → Accepted p → (a r : List ℕ) → length r ≡ darts p → both_ways r ≡ false → ((d : ℕ) → d < length r → get_or r d 0 ≤ 255) → length (face_text p a (shape_of p a r).words) ≤ 66962
text_most p acc a r many one few =
    let o = ordered p acc in
    let even : length r % 2 ≡ 0 = ap (λ (n : ℕ). n % 2) many ∙ o.even in
    let most : length r ≤ 256 = omega (arith, many, darts_few p (faultless p acc) o) in
    omega (
      arith,
      counted_long p acc a r many one,
      most,
      longest (length r) most (long_most (length r) r most (λ d l. omega (arith, one_way r even one d l, few d l, few (twin d) (twin_below (length r) d even l)))),
    )
  where
    longest : (n : ℕ) → n ≤ 256 → long_up_to n r + fewer n ≤ 262 * n → long_up_to n r ≤ 66962
    longest n l h = omega arith
