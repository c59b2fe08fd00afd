-- Laws of the listing's text: decimal numbers by their last digit, their lengths, and how long a listing is at most. Assumes nothing.
use mathlib.Core.Path.{◌≡◌, refl, sym, ap, subst, ◌∙◌}
use mathlib.Core.Bool.{Bool, true, false}
use mathlib.Core.List.{List, [], ◌∷◌, ◌++◌}
use Prim.Native.Nat.{ℕ, zero, suc, ◌+◌, ◌/◌, ◌≤◌, ◌<◌}
use native.Mathlib.Omega.{arith}
use lib.Dec.{ltb}
use lib.ListN.{length, set, length-append}
use borrow.Author.Tests.{lt-ltb, le-ltb, ltb-false}
use Rattle.fields.specs.Writing.{put_at, Written}
use Rattle.fields.proofs.Puts.{put_one, written_then}
use Rattle.plates.specs.Listing.{digit, digits_by, decimal, listing_text}

-- any two bounds above n give the same digits
digits_same : (j k n : ℕ) → n < j → n < k → digits_by j n ≡ digits_by k n
digits_same zero k n h l = absurd (omega arith)
digits_same (suc j) zero n h l = absurd (omega arith)
digits_same (suc j) (suc k) n h l = go (ltb n 10) refl (digits_same j k (n / 10))
  where
    go : (b : Bool) → ltb n 10 ≡ b → (n / 10 < j → n / 10 < k → digits_by j (n / 10) ≡ digits_by k (n / 10)) → digits_by (suc j) n ≡ digits_by (suc k) n
    go true e ih = rw e
    go false e ih =
        let m : 10 ≤ n = ltb-false n 10 e in
        rw e (ap (λ (l : List ℕ). l ++ (digit n ∷ [])) (ih (omega arith) (omega arith)))

pub decimal_one : (n : ℕ) → n < 10 → decimal n ≡ digit n ∷ []
unfolding decimal
decimal_one n h = rw (lt-ltb n 10 h)

pub decimal_more : (n : ℕ) → 10 ≤ n → decimal n ≡ decimal (n / 10) ++ (digit n ∷ [])
unfolding decimal
decimal_more n h = rw (le-ltb n 10 h) (ap (λ (l : List ℕ). l ++ (digit n ∷ [])) (digits_same n (suc (n / 10)) (n / 10) (omega arith) (omega arith)))

pub decimal_one_long : (n : ℕ) → n < 10 → length (decimal n) ≡ 1
decimal_one_long n h = ap length (decimal_one n h)

pub decimal_more_long : (n : ℕ) → 10 ≤ n → length (decimal n) ≡ length (decimal (n / 10)) + 1
decimal_more_long n h = ap length (decimal_more n h) ∙ length-append (decimal (n / 10)) (digit n ∷ [])

-- a digit stored, and the digits before it
pub one_written : (n at : ℕ) (out : List ℕ) → n < 10 → at < length out → Written at (decimal n) out (set out at (digit n)) (at + 1)
one_written n at out h l =
    record {
      bytes = put_one at (digit n) out l ∙ ap (λ (d : List ℕ). put_at at d out) (sym (decimal_one n h));
      behind = omega (arith, decimal_one_long n h);
    }

pub byte_written : (v at : ℕ) (out : List ℕ) → at < length out → Written at (v ∷ []) out (set out at v) (at + 1)
byte_written v at out l = record { bytes = put_one at v out l; behind = omega arith }

pub more_written : {n at m : ℕ} {out mid : List ℕ} → 10 ≤ n → at ≤ length out → m < length mid → Written at (decimal (n / 10)) out mid m → Written at (decimal n) out (set mid m (digit n)) (m + 1)
more_written {n} {at} {m} {out} {mid} h l k w =
    subst (λ (d : List ℕ). Written at d out (set mid m (digit n)) (m + 1)) (sym (decimal_more n h))
    (written_then l w (byte_written (digit n) m mid k))

-- P1 of the paper
pub p1_text : listing_text 7 (1 ∷ 3 ∷ 3 ∷ 1 ∷ []) (0 ∷ 0 ∷ 0 ∷ 2 ∷ []) ≡ 114 ∷ 101 ∷ 118 ∷ 105 ∷ 115 ∷ 105 ∷ 111 ∷ 110 ∷ 32 ∷ 55 ∷ 10 ∷ 98 ∷ 101 ∷ 110 ∷ 100 ∷ 115 ∷ 32 ∷ 50 ∷ 10 ∷ 100 ∷ 97 ∷ 114 ∷ 116 ∷ 32 ∷ 48 ∷ 32 ∷ 114 ∷ 105 ∷ 103 ∷ 104 ∷ 116 ∷ 32 ∷ 48 ∷ 32 ∷ 97 ∷ 110 ∷ 103 ∷ 108 ∷ 101 ∷ 32 ∷ 49 ∷ 10 ∷ 100 ∷ 97 ∷ 114 ∷ 116 ∷ 32 ∷ 49 ∷ 32 ∷ 114 ∷ 105 ∷ 103 ∷ 104 ∷ 116 ∷ 32 ∷ 48 ∷ 32 ∷ 97 ∷ 110 ∷ 103 ∷ 108 ∷ 101 ∷ 32 ∷ 51 ∷ 10 ∷ 100 ∷ 97 ∷ 114 ∷ 116 ∷ 32 ∷ 50 ∷ 32 ∷ 114 ∷ 105 ∷ 103 ∷ 104 ∷ 116 ∷ 32 ∷ 48 ∷ 32 ∷ 97 ∷ 110 ∷ 103 ∷ 108 ∷ 101 ∷ 32 ∷ 51 ∷ 10 ∷ 100 ∷ 97 ∷ 114 ∷ 116 ∷ 32 ∷ 51 ∷ 32 ∷ 114 ∷ 105 ∷ 103 ∷ 104 ∷ 116 ∷ 32 ∷ 50 ∷ 32 ∷ 97 ∷ 110 ∷ 103 ∷ 108 ∷ 101 ∷ 32 ∷ 49 ∷ 10 ∷ []
unfolding decimal
p1_text = refl
