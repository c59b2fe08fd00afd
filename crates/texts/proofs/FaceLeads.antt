-- A held plate's arrays: where a face's number stands first is its lowest dart, and the next darts go round the face. Assumes nothing.
use mathlib.Core.Path.{◌≡◌, refl, sym, ap, subst, ◌∙◌}
use mathlib.Core.Bool.{Bool, true, false, cond, not}
use mathlib.Core.List.{List, [], ◌∷◌}
use Prim.Native.Nat.{ℕ, zero, suc, ◌+◌, ◌%◌, ◌≤◌, ◌<◌}
use native.Mathlib.Omega.{arith}
use lib.Dec.{eqb, ltb}
use lib.ListN.{length, get_or}
use borrow.Author.Tests.{ltb-false}
use Rattle.std.specs.Prelude.{Option, Some, None, unwrap_or}
use Rattle.std.specs.List.{position_or_len}
use Rattle.finite.proofs.Tests.{eqb_turned}
use Rattle.finite.specs.Walks.{orbit, OneToOne}
use Rattle.finite.proofs.Tables.{up_below}
use Rattle.embedding.specs.Steps.{next_of}
use Rattle.embedding.specs.Read.{meant, lead, place_of}
use Rattle.embedding.specs.declared.Plate.{Plate as Held}
use Rattle.embedding.proofs.Rotation.{Ordered, after_one_to_one}
use Rattle.embedding.proofs.Faces.{face_start, lead_least}
use Rattle.embedding.proofs.Degrees.{darts_few}
use Rattle.embedding.proofs.Numbering.{follows_face}
use Rattle.embedding.proofs.Answers.{number_lead, place_hit, place_miss}
use Rattle.shapes.specs.Counted.{Counted}
use Rattle.shapes.proofs.Accepted.{faultless, ordered}
use Rattle.shapes.proofs.HeldPlate.{faces_are}
use Rattle.shapes.proofs.Places.{face_below_darts, index_of_lead}
use Rattle.plates.specs.Plates.{Plate, darts, after, face_of, faces}

-- where a number stands first
place_first : (xs : List ℕ) (k i : ℕ) → i < length xs → get_or xs i 0 ≡ k → ((j : ℕ) → j < i → get_or xs j 0 ≡ k → ⊥) → place_of k xs ≡ i
place_first [] k i l e n = absurd (omega arith)
place_first (x ∷ xs) k zero l e n = place_hit k x xs (sym e)
place_first (x ∷ xs) k (suc i) l e n =
    place_miss k x xs (λ z. n 0 (omega arith) (sym z))
    ∙ ap suc (place_first xs k i (omega arith) e (λ j m z. n (suc j) (omega arith) z))

-- what `position` finds
place_least : (k : ℕ) (xs : List ℕ) → (position_or_len (λ y. eqb y k) xs ≡ place_of k xs) × (place_of k xs ≤ length xs)
place_least k [] = (refl, omega arith)
place_least k (x ∷ xs) =
    let (same, most) = place_least k xs in
    (ap (λ (b : Bool). cond (not b) (1 + position_or_len (λ y. eqb y k) xs) 0) (eqb_turned x k) ∙ go (eqb k x) same, most_is (eqb k x) most)
  where
    go : (b : Bool) {m n : ℕ} → m ≡ n → cond (not b) (1 + m) 0 ≡ elim b as (λ b. ℕ) [ true ↦ 0 | false ↦ suc n ]
    go true e = refl
    go false e = omega (arith, e)

    most_is : (b : Bool) {n : ℕ} → n ≤ length xs → elim b as (λ b. ℕ) [ true ↦ 0 | false ↦ suc n ] ≤ suc (length xs)
    most_is true l = omega arith
    most_is false l = omega arith

pub place_found : (k : ℕ) (xs : List ℕ) {r : Option ℕ} {n : ℕ} → r ≡ cond (ltb (position_or_len (λ y. eqb y k) xs) (length xs)) (Some (position_or_len (λ y. eqb y k) xs)) None → n ≡ unwrap_or r (length xs) → n ≡ place_of k xs
place_found k xs {r} {n} e h =
    let (same, most) = place_least k xs in
    h ∙ ap (λ (o : Option ℕ). unwrap_or o (length xs)) e ∙ go (ltb (position_or_len (λ y. eqb y k) xs) (length xs)) refl ∙ same
  where
    go : (b : Bool) → ltb (position_or_len (λ y. eqb y k) xs) (length xs) ≡ b → unwrap_or (cond b (Some (position_or_len (λ y. eqb y k) xs)) None) (length xs) ≡ position_or_len (λ y. eqb y k) xs
    go true q = refl
    go false q = omega (arith, ltb-false (position_or_len (λ y. eqb y k) xs) (length xs) q, place_least k xs)

module _ (q : Held) where
  abbrev p : Plate
  p = meant q

  o : Ordered p
  o = ordered p q.accepted

  pub few : darts (meant q) ≤ 256
  few = darts_few p (faultless p q.accepted) o

  pub dart_bounds : (q.darts % 2 ≡ 0) × (q.darts ≤ 256)
  dart_bounds = (ap (λ (n : ℕ). n % 2) q.stands.dart_count ∙ o.even, omega (arith, q.stands.dart_count, few))

  -- the counts of a shape of the plate
  pub rights_many : {a r : List ℕ} → Counted a r → length a ≡ q.darts → length r ≡ darts (meant q)
  rights_many counted long = counted.same_length ∙ long ∙ q.stands.dart_count

  agree : (x : ℕ) → x < darts p → next_of q.next x ≡ after p x
  agree x l = q.stands.next-darts.at x (omega (arith, few)) ∙ up_below (darts p) (after p) x l

  one_below : OneToOne (next_of q.next) (darts p)
  one_below =
      let F = after_one_to_one p o in
      record {
        below = λ x l. subst (λ (y : ℕ). y < darts p) (sym (agree x l)) (F.below x l);
        one = λ x y l k e. F.one x y l k (sym (agree x l) ∙ e ∙ agree y k);
      }

  pub held_one : OneToOne (next_of q.next) q.darts
  held_one = subst (λ (n : ℕ). OneToOne (next_of q.next) n) (sym q.stands.dart_count) one_below

  pub held_face : (d : ℕ) → d < darts (meant q) → orbit (next_of q.next) q.darts d ≡ face_of (meant q) d
  held_face d l =
      follows_face {p = p} (record { many = q.stands.dart_count; table = q.stands.next-darts }) (omega (arith, q.stands.dart_count, few)) held_one d (omega (arith, q.stands.dart_count))

  pub number_start : (k : ℕ) → k < length (faces (meant q)) → place_of k q.face ≡ get_or (faces (meant q)) k 0
  number_start k l =
      let d = get_or (faces p) k 0 in
      let m = face_below_darts p o k l in
      place_first q.face k d (omega (arith, q.stands.face_numbers.size, few)) (faces_are q d m ∙ index_of_lead p o k l)
      (λ j i z.
      let n : j < darts p = omega arith in
      let e : lead p j ≡ d = sym (number_lead p o j n) ∙ ap (λ (x : ℕ). get_or (faces p) x 0) (sym (faces_are q j n) ∙ z) in
      omega (arith, lead_least p o j n j (face_start p o j n)))
