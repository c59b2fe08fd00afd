-- Corners on two arcs: what the first carries of it and what the second; the order of corners is that of their parts.
use mathlib.Core.Path.{◌≡◌, refl, sym, ap, ◌∙◌}
use mathlib.Core.Bool.{Bool, true, false, ◌&&◌, ◌||◌}
use mathlib.Core.List.{List}
use Prim.Native.Nat.{ℕ, zero, suc, ◌+◌, ◌-◌, ◌≤◌, ◌<◌, min}
use native.Mathlib.Omega.{arith}
use borrow.Author.Tests.{lt-ltb, le-ltb, eq-eqb, ne_eqb}
use lib.Dec.{eqb, ltb}
use lib.ListN.{length, get_or}
use lib.Seq.{ext_get_or}
use Rattle.finite.proofs.Order.{Order, less, same, more, order}
use Rattle.finite.proofs.Sums.{sum_below, sum_le, sum_tight}
use Rattle.embedding.specs.Plates.{pick}
use Rattle.shapes.specs.Shapes.{smaller}
use Rattle.shapes.specs.NetworkOf.{table, pairs}
use Rattle.shapes.proofs.Tables.{length_table, table_at}
use Rattle.shapes.proofs.Pairs.{by_pairs, length_pairs, pairs_low, pairs_high, sums_at, sums_long}
use Rattle.shapes.specs.Rates.{pair_sums}

-- where a test tells, up to two on the first arc and the rest on the second
abbrev pub low : Bool → ℕ → ℕ
low t c = pick t (min c 2) c

abbrev pub high : Bool → ℕ → ℕ
high t c = pick t (c - 2) 0

pub parts_whole : (t : Bool) (c : ℕ) → low t c + high t c ≡ c
parts_whole true c = omega arith
parts_whole false c = omega arith

-- of two numbers that are not the same, their parts differ at the first place or only at the second
step_order : (t : Bool) (c e : ℕ) (b : Bool)
    → ltb (low t c) (low t e) || (eqb (low t c) (low t e) && (ltb (high t c) (high t e) || (eqb (high t c) (high t e) && b))) ≡ ltb c e || (eqb c e && b)
step_order t c e b = go t (order c e) (order (low t c) (low t e))
  where
    go : (t : Bool) → Order c e → Order (low t c) (low t e)
        → ltb (low t c) (low t e) || (eqb (low t c) (low t e) && (ltb (high t c) (high t e) || (eqb (high t c) (high t e) && b))) ≡ ltb c e || (eqb c e && b)
    go false (less l) q = rw (lt-ltb c e l)
    go false (same l) q = rw (le-ltb c e (omega arith), eq-eqb c e l)
    go false (more l) q = rw (le-ltb c e (omega arith), ne_eqb c e (λ (k : c ≡ e). omega arith))
    go true (less l) (less q) = rw (lt-ltb c e l, lt-ltb (min c 2) (min e 2) q)
    go true (less l) (same q) = rw (lt-ltb c e l, le-ltb (min c 2) (min e 2) (omega arith), eq-eqb (min c 2) (min e 2) q, lt-ltb (c - 2) (e - 2) (omega arith))
    go true (less l) (more q) = absurd (omega arith)
    go true (same l) q =
        rw (le-ltb c e (omega arith), eq-eqb c e l, le-ltb (min c 2) (min e 2) (omega arith), eq-eqb (min c 2) (min e 2) (omega arith), le-ltb (c - 2) (e - 2) (omega arith), eq-eqb (c - 2) (e - 2) (omega arith))
    go true (more l) (less q) = absurd (omega arith)
    go true (more l) (same q) =
        rw (le-ltb c e (omega arith), ne_eqb c e (λ (k : c ≡ e). omega arith), le-ltb (min c 2) (min e 2) (omega arith), eq-eqb (min c 2) (min e 2) q, le-ltb (c - 2) (e - 2) (omega arith), ne_eqb (c - 2) (e - 2) (λ (k : c - 2 ≡ e - 2). omega arith))
    go true (more l) (more q) =
        rw (le-ltb c e (omega arith), ne_eqb c e (λ (k : c ≡ e). omega arith), le-ltb (min c 2) (min e 2) (omega arith), ne_eqb (min c 2) (min e 2) (λ (k : min c 2 ≡ min e 2). omega arith))

abbrev split : (ℕ → Bool) → (ℕ → ℕ) → ℕ → List ℕ
split t c n = pairs n (λ d. low (t d) (c d)) (λ d. high (t d) (c d))

split_order : (n : ℕ) (t : ℕ → Bool) (c e : ℕ → ℕ) → smaller (split t c n) (split t e n) ≡ smaller (table n c) (table n e)
split_order zero t c e = refl
split_order (suc n) t c e =
    ap (λ (b : Bool). ltb (low (t 0) (c 0)) (low (t 0) (e 0)) || (eqb (low (t 0) (c 0)) (low (t 0) (e 0)) && (ltb (high (t 0) (c 0)) (high (t 0) (e 0)) || (eqb (high (t 0) (c 0)) (high (t 0) (e 0)) && b))))
    (split_order n (λ i. t (suc i)) (λ i. c (suc i)) (λ i. e (suc i)))
    ∙ step_order (t 0) (c 0) (e 0) (smaller (table n (λ i. c (suc i))) (table n (λ i. e (suc i))))

pub table_of : (xs : List ℕ) → table (length xs) (λ d. get_or xs d 0) ≡ xs
table_of xs = ext_get_or 0 (table (length xs) (λ d. get_or xs d 0)) xs (length_table (length xs) (λ d. get_or xs d 0)) (λ i l. table_at (length xs) (λ d. get_or xs d 0) i (omega (arith, length_table (length xs) (λ d. get_or xs d 0))))

-- n corners apart
module _ (t : ℕ → Bool) (n : ℕ) where
  abbrev pub apart : List ℕ → List ℕ
  apart cs = split t (λ d. get_or cs d 0) n

  pub apart_long : (cs : List ℕ) → length (apart cs) ≡ n + n
  apart_long cs = length_pairs n (λ d. low (t d) (get_or cs d 0)) (λ d. high (t d) (get_or cs d 0))

  pub apart_low : (cs : List ℕ) (d : ℕ) → d < n → get_or (apart cs) (d + d) 0 ≡ low (t d) (get_or cs d 0)
  apart_low cs = pairs_low n (λ d. low (t d) (get_or cs d 0)) (λ d. high (t d) (get_or cs d 0))

  pub apart_high : (cs : List ℕ) (d : ℕ) → d < n → get_or (apart cs) (suc (d + d)) 0 ≡ high (t d) (get_or cs d 0)
  apart_high cs = pairs_high n (λ d. low (t d) (get_or cs d 0)) (λ d. high (t d) (get_or cs d 0))

  pub apart_whole : (cs : List ℕ) → length cs ≡ n → pair_sums (apart cs) ≡ cs
  apart_whole cs e =
      ext_get_or 0 (pair_sums (apart cs)) cs (sums_long n (apart cs) (apart_long cs) ∙ sym e)
      (λ i l.
      let k : i < n = omega (arith, sums_long n (apart cs) (apart_long cs)) in
      omega (arith, sums_at (apart cs) i, apart_low cs i k, apart_high cs i k, parts_whole (t i) (get_or cs i 0)))

  pub apart_order : (cs es : List ℕ) → length cs ≡ n → length es ≡ n → smaller (apart cs) (apart es) ≡ smaller cs es
  apart_order cs es p q =
      split_order n t (λ d. get_or cs d 0) (λ d. get_or es d 0)
      ∙ ap (λ (k : ℕ). smaller (table k (λ d. get_or cs d 0)) (table n (λ d. get_or es d 0))) (sym p)
      ∙ ap (λ (k : ℕ). smaller (table (length cs) (λ d. get_or cs d 0)) (table k (λ d. get_or es d 0))) (sym q)
      ∙ ap (λ (xs : List ℕ). smaller xs (table (length es) (λ d. get_or es d 0))) (table_of cs)
      ∙ ap (λ (xs : List ℕ). smaller cs xs) (table_of es)

  -- other units on the two arcs of each corner, where a first arc has at most two or a second has none
  module _ (zs : List ℕ) (long : length zs ≡ n + n) (fits : (d : ℕ) → d < n → high (t d) (get_or zs (d + d) 0 + get_or zs (suc (d + d)) 0) ≤ get_or zs (suc (d + d)) 0) where
    abbrev seconds : List ℕ → ℕ
    seconds ys = sum_below n (λ d. get_or ys (suc (d + d)) 0)

    least_at : (d : ℕ) → d < n → get_or (apart (pair_sums zs)) (suc (d + d)) 0 ≤ get_or zs (suc (d + d)) 0
    least_at d l = omega (arith, apart_high (pair_sums zs) d l, ap (high (t d)) (sums_at zs d), fits d l)

    -- carry no less on the second arcs, and just as much only if they are these
    pub apart_least : seconds (apart (pair_sums zs)) ≤ seconds zs
    apart_least = sum_le n (λ d. get_or (apart (pair_sums zs)) (suc (d + d)) 0) (λ d. get_or zs (suc (d + d)) 0) least_at

    pub apart_only : seconds (apart (pair_sums zs)) ≡ seconds zs → zs ≡ apart (pair_sums zs)
    apart_only e =
        ext_get_or 0 zs (apart (pair_sums zs)) (long ∙ sym (apart_long (pair_sums zs)))
        (λ i l. by_pairs (λ a. get_or zs a 0 ≡ get_or (apart (pair_sums zs)) a 0) n firsts seconds_are i (omega arith))
      where
        seconds_are : (d : ℕ) → d < n → get_or zs (suc (d + d)) 0 ≡ get_or (apart (pair_sums zs)) (suc (d + d)) 0
        seconds_are d l = sym (sum_tight n (λ d. get_or (apart (pair_sums zs)) (suc (d + d)) 0) (λ d. get_or zs (suc (d + d)) 0) least_at e d l)

        firsts : (d : ℕ) → d < n → get_or zs (d + d) 0 ≡ get_or (apart (pair_sums zs)) (d + d) 0
        firsts d l = omega (arith, seconds_are d l, apart_low (pair_sums zs) d l, apart_high (pair_sums zs) d l, sums_at zs d, parts_whole (t d) (get_or (pair_sums zs) d 0))
