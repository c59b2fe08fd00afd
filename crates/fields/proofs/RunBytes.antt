-- The bytes of a run of fields are the file that they were met in: as long, and the same where the file is bytes. Assumes nothing.
use mathlib.Core.Path.{◌≡◌, refl, sym, ap, ap₂, ◌∙◌}
use mathlib.Core.Bool.{Bool, true}
use mathlib.Core.List.{List, [], ◌∷◌, ◌++◌}
use Prim.Native.Nat.{ℕ, ◌+◌, ◌*◌, ◌/◌, ◌%◌, ◌≤◌, ◌<◌}
use native.Mathlib.Omega.{arith}
use lib.Dec.{ltb}
use lib.ListN.{length, get_or, take, drop, length-drop, take-append-drop}
use lib.Seq.{length-take-le, drop-drop}
use borrow.Author.Tests.{ltb-true}
use Rattle.finite.proofs.Tests.{and_left, and_right}
use Rattle.fields.specs.Files.{Field, add_field, head_long, field_at, field}
use Rattle.fields.specs.Writing.{all_bytes}
use Rattle.fields.specs.Ordering.{bytes_in}
use Rattle.fields.proofs.Bytes.{bytes_drop}
use Rattle.fields.proofs.Turns.{passed_by, content_size}
use Rattle.fields.proofs.Runs.{Run, ended, met}
use Rattle.fields.proofs.Rising.{bytes_cons_long}

module _ {o k : Bool} where
  pub run_long : (fs : List Field) (s : List ℕ) (more : List Field) → Run o k fs s more → length (bytes_in more) ≡ length s
  run_long fs s [] (ended z) = sym z
  run_long fs s (f ∷ more) (met e r) =
      omega (
        arith,
        bytes_cons_long (field_at s) more,
        content_size s (passed_by o k fs s e).size,
        (passed_by o k fs s e).size,
        length-drop (3 + head_long s) s,
        run_long (add_field fs (field_at s)) (drop (3 + head_long s) s) more r,
      )

-- a field's bytes and what is behind it
front_bytes : (s : List ℕ) → 3 + head_long s ≤ length s → all_bytes s ≡ true → field (get_or s 0 0) (field_at s).content ++ drop (3 + head_long s) s ≡ s
front_bytes [] h b = absurd (omega arith)
front_bytes (x ∷ []) h b = absurd (omega arith)
front_bytes (x ∷ (y ∷ [])) h b = absurd (omega arith)
front_bytes (x ∷ (y ∷ (z ∷ s))) h b =
    let b1 = and_right (ltb x 256) _ b in
    let b2 = and_right (ltb y 256) _ b1 in
    let low : z < 256 = ltb-true z 256 (and_left (ltb z 256) _ b2) in
    let n = 256 * y + z in
    let long : length (take n s) ≡ n = length-take-le n s (omega arith) in
    let high : length (take n s) / 256 ≡ y = omega arith in
    let rest : length (take n s) % 256 ≡ z = omega arith in
    let behind : drop (3 + n) (x ∷ (y ∷ (z ∷ s))) ≡ drop n s = sym (drop-drop n 3 (x ∷ (y ∷ (z ∷ s)))) in
    ap₂ (λ (u v : ℕ). x ∷ (u ∷ (v ∷ (take n s ++ drop (3 + n) (x ∷ (y ∷ (z ∷ s))))))) high rest
    ∙ ap (λ (l : List ℕ). x ∷ (y ∷ (z ∷ (take n s ++ l)))) behind
    ∙ ap (λ (l : List ℕ). x ∷ (y ∷ (z ∷ l))) (take-append-drop n s)

module _ {o k : Bool} where
  pub run_bytes : (fs : List Field) (s : List ℕ) (more : List Field) → Run o k fs s more → all_bytes s ≡ true → bytes_in more ≡ s
  run_bytes fs [] [] (ended z) b = refl
  run_bytes fs (x ∷ s) [] (ended z) b = absurd (omega arith)
  run_bytes fs s (f ∷ more) (met e r) b =
      ap (λ (l : List ℕ). field (get_or s 0 0) (field_at s).content ++ l) (run_bytes (add_field fs (field_at s)) (drop (3 + head_long s) s) more r (bytes_drop (3 + head_long s) s b))
      ∙ front_bytes s (passed_by o k fs s e).size b
