-- The bends of strips from those of darts: priced sums and limits, dart by dart.
use mathlib.Core.Path.{◌≡◌, refl, sym, ap, subst, ◌∙◌}
use mathlib.Core.Bool.{true, ◌||◌}
use mathlib.Core.List.{List, [], ◌∷◌}
use mathlib.Core.Logic.{◌⊎◌, inl, inr, ⊎_elim}
use Prim.Native.Nat.{ℕ, zero, suc, ◌+◌, ◌-◌, ◌*◌, ◌/◌, ◌%◌, ◌≤◌, ◌<◌}
use native.Mathlib.Nat.{mul-add, le_of_suc-le-suc}
use native.Mathlib.Omega.{arith}
use borrow.Author.Tests.{leb-true, le-leb}
use lib.Dec.{leb}
use lib.ListN.{length, get_or, drop}
use lib.Seq.{get_or-drop}
use Rattle.finite.proofs.Sums.{sum_below, sum_cong}
use Rattle.finite.proofs.Tests.{or_cases, or_left, or_right, and_left, and_right, and_both}
use Rattle.embedding.specs.Plates.{twin}
use Rattle.embedding.proofs.Rotation.{twin_cases}
use Rattle.shapes.specs.Shapes.{total}
use Rattle.shapes.specs.Rates.{pair_sums, all_within, all_free, priced_sum}
use Rattle.shapes.proofs.Pairs.{sums_at, sums_long}

-- the price of a bend on dart d
abbrev pub price_at : List ℕ → ℕ → ℕ
price_at ps d = get_or ps (d / 2) 1

past : (ps : List ℕ) (d : ℕ) → get_or (drop 1 ps) (d / 2) 1 ≡ get_or ps (suc (suc d) / 2) 1
past ps d =
    let q : 1 + d / 2 ≡ suc (suc d) / 2 = omega arith in
    get_or-drop 1 ps (d / 2) 1 ∙ ap (λ (k : ℕ). get_or ps k 1) q

pub priced_by_dart : (ps xs : List ℕ) → length xs % 2 ≡ 0 → priced_sum ps (pair_sums xs) ≡ sum_below (length xs) (λ d. price_at ps d * get_or xs d 0)
priced_by_dart ps [] e = refl
priced_by_dart ps (a ∷ []) e = absurd (omega arith)
priced_by_dart ps (a ∷ (b ∷ xs)) e =
    omega (
      arith,
      priced_by_dart (drop 1 ps) xs (omega arith),
      mul-add (get_or ps 0 1) a b,
      sum_cong (length xs) (λ d. price_at (drop 1 ps) d * get_or xs d 0) (λ d. price_at ps (suc (suc d)) * get_or xs d 0) (λ d l. ap (λ (k : ℕ). k * get_or xs d 0) (past ps d)),
    )

-- with no prices the sum is the total
pub unpriced : (bs : List ℕ) → priced_sum [] bs ≡ total bs
unpriced [] = refl
unpriced (b ∷ bs) = omega (arith, unpriced bs)

-- where limits are none all is within
pub free_within : (ls bs : List ℕ) → all_free ls ≡ true → all_within ls bs ≡ true
free_within ls [] e = refl
free_within [] (b ∷ bs) e = free_within [] bs refl
free_within (l ∷ ls) (b ∷ bs) e =
    and_both _ _ (or_left (leb 255 l) (leb b l) (and_left (leb 255 l) (all_free ls) e)) (free_within ls bs (and_right (leb 255 l) (all_free ls) e))

-- a limit that is none or is kept
abbrev pub Within : ℕ → ℕ → Type 0
Within l b = (255 ≤ l) ⊎ (b ≤ l)

within_test : (l b : ℕ) → leb 255 l || leb b l ≡ true → Within l b
within_test l b e = ⊎_elim (λ h. inl (leb-true 255 l h)) (λ h. inr (leb-true b l h)) (or_cases (leb 255 l) (leb b l) e)

test_within : (l b : ℕ) → Within l b → leb 255 l || leb b l ≡ true
test_within l b (inl h) = or_left (leb 255 l) (leb b l) (le-leb 255 l h)
test_within l b (inr h) = or_right (leb 255 l) (leb b l) (le-leb b l h)

next_limit : (ls : List ℕ) (i : ℕ) → get_or (drop 1 ls) i 255 ≡ get_or ls (suc i) 255
next_limit ls i = let q : 1 + i ≡ suc i = omega arith in get_or-drop 1 ls i 255 ∙ ap (λ (k : ℕ). get_or ls k 255) q

pub all_each : (ls bs : List ℕ) → all_within ls bs ≡ true → (i : ℕ) → i < length bs → Within (get_or ls i 255) (get_or bs i 0)
all_each ls [] e i l = absurd (omega arith)
all_each ls (b ∷ bs) e zero l = within_test (get_or ls 0 255) b (and_left (leb 255 (get_or ls 0 255) || leb b (get_or ls 0 255)) (all_within (drop 1 ls) bs) e)
all_each ls (b ∷ bs) e (suc i) l =
    subst (λ (k : ℕ). Within k (get_or bs i 0)) (next_limit ls i) (all_each (drop 1 ls) bs (and_right (leb 255 (get_or ls 0 255) || leb b (get_or ls 0 255)) (all_within (drop 1 ls) bs) e) i (le_of_suc-le-suc l))

pub each_all : (ls bs : List ℕ) → ((i : ℕ) → i < length bs → Within (get_or ls i 255) (get_or bs i 0)) → all_within ls bs ≡ true
each_all ls [] h = refl
each_all ls (b ∷ bs) h =
    and_both (leb 255 (get_or ls 0 255) || leb b (get_or ls 0 255)) (all_within (drop 1 ls) bs) (test_within (get_or ls 0 255) b (h 0 (omega arith)))
    (each_all (drop 1 ls) bs (λ i l. subst (λ (k : ℕ). Within k (get_or bs i 0)) (sym (next_limit ls i)) (h (suc i) (omega arith))))

-- a dart's strip
strip_at : (xs : List ℕ) (d : ℕ) → get_or (pair_sums xs) (d / 2) 0 ≡ get_or xs d 0 + get_or xs (twin d) 0
strip_at xs d = sums_at xs (d / 2) ∙ go (twin_cases d)
  where
    go : ((d % 2 ≡ 0) × (twin d ≡ suc d)) ⊎ ((d % 2 ≡ 1) × (twin d ≡ d - 1)) → get_or xs (d / 2 + d / 2) 0 + get_or xs (suc (d / 2 + d / 2)) 0 ≡ get_or xs d 0 + get_or xs (twin d) 0
    go (inl (e, t)) =
        let q : d / 2 + d / 2 ≡ d = omega arith in
        omega (arith, ap (λ (k : ℕ). get_or xs k 0) q, ap (λ (k : ℕ). get_or xs (suc k) 0) q, ap (λ (k : ℕ). get_or xs k 0) t)
    go (inr (e, t)) =
        let q : suc (d / 2 + d / 2) ≡ d = omega arith in
        let w : d / 2 + d / 2 ≡ d - 1 = omega arith in
        omega (arith, ap (λ (k : ℕ). get_or xs k 0) q, ap (λ (k : ℕ). get_or xs k 0) w, ap (λ (k : ℕ). get_or xs k 0) t)

-- the bends of d's strip within its limit
abbrev pub StripWithin : List ℕ → List ℕ → ℕ → Type 0
StripWithin ls xs d = Within (get_or ls (d / 2) 255) (get_or xs d 0 + get_or xs (twin d) 0)

module _ (ls xs : List ℕ) (n : ℕ) (long : length xs ≡ n + n) where
  pub within_darts : all_within ls (pair_sums xs) ≡ true → (d : ℕ) → d < n + n → StripWithin ls xs d
  within_darts e d l =
      subst (λ (b : ℕ). Within (get_or ls (d / 2) 255) b) (strip_at xs d) (all_each ls (pair_sums xs) e (d / 2) (omega (arith, sums_long n xs long)))

  pub darts_within : ((d : ℕ) → d < n + n → StripWithin ls xs d) → all_within ls (pair_sums xs) ≡ true
  darts_within h = each_all ls (pair_sums xs) (λ i l. at i (omega (arith, sums_long n xs long)))
    where
      at : (i : ℕ) → i < n → Within (get_or ls i 255) (get_or (pair_sums xs) i 0)
      at i l =
          let q : (i + i) / 2 ≡ i = omega arith in
          subst (λ (k : ℕ). Within (get_or ls k 255) (get_or (pair_sums xs) k 0)) q
          (subst (λ (b : ℕ). Within (get_or ls ((i + i) / 2) 255) b) (sym (strip_at xs (i + i))) (h (i + i) (omega arith)))
