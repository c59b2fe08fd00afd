-- Where the faces together get as much as they give, units across strips make it even at each.
use mathlib.Core.Path.{◌≡◌, ap}
use mathlib.Core.Bool.{Bool}
use Prim.Native.Nat.{ℕ, zero, suc, ◌+◌, ◌≤◌, ◌<◌}
use native.Mathlib.Decide.{ℕ_discrete, dec_lt}
use native.Mathlib.Omega.{arith}
use borrow.Author.Tests.{eq-eqb, ne_eqb, lt-ltb, le-ltb}
use lib.Dec.{eqb, ltb}
use lib.ListN.{length, get_or}
use Rattle.finite.proofs.Sums.{sum_below, sum_last, when_add}
use Rattle.embedding.specs.Plates.{when, Plate, twin, face_of, faces}
use Rattle.shapes.proofs.Moves.{goes, comes, Moves, over_add, turned}

when_below : (g : ℕ → ℕ) (i k : ℕ) → when (ltb i (suc k)) (g i) ≡ when (ltb i k) (g i) + when (eqb i k) (g k)
when_below g i k = go (dec_lt i k) (ℕ_discrete i k)
  where
    go : Dec (i < k) → Dec (i ≡ k) → when (ltb i (suc k)) (g i) ≡ when (ltb i k) (g i) + when (eqb i k) (g k)
    go (yes h) e = rw (lt-ltb i (suc k) (omega arith), lt-ltb i k h, ne_eqb i k (λ (q : i ≡ k). omega arith)) (omega arith)
    go (no h) (yes e) = rw (lt-ltb i (suc k) (omega arith), le-ltb i k (omega arith), eq-eqb i k e) (omega (arith, ap g e))
    go (no h) (no n) = rw (le-ltb i (suc k) (omega arith), le-ltb i k (omega arith), ne_eqb i k n) (omega arith)

module _ (p : Plate) (A B : ℕ → ℕ) (R : ℕ) (from-root : (n i : ℕ) → i < length (faces p) → Moves p R i n) where
  abbrev F : ℕ
  F = length (faces p)

  -- the faces below k have A and give B, all by way of R
  record Part (k : ℕ) : Type 0 where
    by : ℕ → ℕ
    kept : (i : ℕ) → i < F → goes p by i + (when (ltb i k) (B i) + when (eqb i R) (sum_below k A)) ≡ comes p by i + (when (ltb i k) (A i) + when (eqb i R) (sum_below k B))

  part_none : Part 0
  part_none = record {
    by = λ d. 0;
    kept = λ i l. omega (arith, ap (λ (b : Bool). when b (B i)) (le-ltb i 0 (omega arith)), ap (λ (b : Bool). when b (A i)) (le-ltb i 0 (omega arith)));
  }

  part_more : (k : ℕ) → k < F → Part k → Part (suc k)
  part_more k l a =
      let out = turned p R k (A k) (from-root (A k) k l) in
      let back = from-root (B k) k l in
      record {
        by = λ d. a.by d + (out.by d + back.by d);
        kept = λ i h.
            let ds = face_of p (get_or (faces p) i 0) in
            omega (
              arith,
              a.kept i h,
              out.kept i h,
              back.kept i h,
              when_below A i k,
              when_below B i k,
              ap (when (eqb i R)) (sum_last k A),
              ap (when (eqb i R)) (sum_last k B),
              when_add (eqb i R) (sum_below k A) (A k),
              when_add (eqb i R) (sum_below k B) (B k),
              over_add ds a.by (λ d. out.by d + back.by d),
              over_add ds out.by back.by,
              over_add ds (λ d. a.by (twin d)) (λ d. out.by (twin d) + back.by (twin d)),
              over_add ds (λ d. out.by (twin d)) (λ d. back.by (twin d)),
            );
      }

  parts : (k : ℕ) → k ≤ F → Part k
  parts zero l = part_none
  parts (suc k) l = part_more k l (parts k (omega arith))

  pub settled : sum_below F A ≡ sum_below F B → (z : ℕ → ℕ) × ((i : ℕ) → i < F → goes p z i + B i ≡ comes p z i + A i)
  settled e =
      let a = parts F (omega arith) in (
        a.by,
        λ i l. omega (
          arith,
          a.kept i l,
          ap (λ (b : Bool). when b (A i)) (lt-ltb i F l),
          ap (λ (b : Bool). when b (B i)) (lt-ltb i F l),
          ap (when (eqb i R)) e,
        ),
      )
