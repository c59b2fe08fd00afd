-- The round trips over the calls: what one call wrote stands at the front of its memory, and the other reads it from there. Assumes nothing.
use mathlib.Core.Path.{◌≡◌, refl, sym, ap, subst, ◌∙◌}
use mathlib.Core.Bool.{true, false}
use mathlib.Core.List.{List}
use Prim.Native.Nat.{ℕ, zero, suc, ◌≤◌}
use native.Mathlib.Omega.{arith}
use lib.Dec.{ltb}
use lib.ListN.{length, take, drop}
use lib.Seq.{take_at}
use borrow.Author.Tests.{le-ltb}
use Rattle.finite.proofs.Tests.{first_none, when_none}
use Rattle.plates.specs.Answers.{Shaped}
use Rattle.plates.specs.Answers.{Listed}
use Rattle.plates.specs.Plates.{first_of, when}
use Rattle.plates.specs.Shapes.{rights_of, shape_of}
use Rattle.plates.specs.Files.{walk_all, list_fault, plate_of, shape_bytes}
use Rattle.plates.specs.Claims.{BestOf}
use Rattle.plates.specs.Says.{over, all_bytes, file_long, angles_in, rights_in, check_fault, shape_fault, ShapeWith, ShapeSays}
use Rattle.plates.specs.Lines.{both_ways}
use Rattle.plates.specs.Texts.{ButRemark, file_text, write_fault, WriteWith, WriteSays, text_fault, bytes_read, read_fault, ReadWith, ReadSays, CameBack, Called}
use Rattle.plates.proofs.FileBytes.{shape_bytes_fit}
use Rattle.texts.proofs.RoundTrips.{round_trips, text_short}

not_zero : {n k : ℕ} → k ≡ suc n → k ≡ 0 → ⊥
not_zero e z = omega (arith, e, z)

front_of_lem : (n : ℕ) (b o o' : List ℕ) → n ≡ length b → o' ≡ over b o → take n o' ≡ b
front_of_lem n b o o' e h = ap (take n) h ∙ take_at b (drop (length b) o) n (sym e)

-- to text
module _ (s t o o' : List ℕ) (w : Listed) (says : WriteSays s t o o' w) where
  write_passed : w.number ≡ 0 → write_fault s t o ≡ 0
  write_passed z = go (write_fault s t o) says
    where
      go : (n : ℕ) → WriteWith n s t o o' w → n ≡ 0
      go zero h = refl
      go (suc n) h = absurd (not_zero h.0 z)

  text_given : write_fault s t o ≡ 0 → (w.number ≡ 0) × (take w.long o' ≡ file_text s t)
  text_given z =
      let (a, b, c) = subst (λ (n : ℕ). WriteWith n s t o o' w) z says in
      (a, front_of_lem w.long (file_text s t) o o' b c)

-- back
module _ (s t o o' : List ℕ) (r : Shaped) (says : ReadSays s t o o' r) where
  pub read_passed : r.number ≡ 0 → read_fault s t o ≡ 0
  read_passed z = go (read_fault s t o) says
    where
      go : (n : ℕ) → ReadWith n s t o o' r → n ≡ 0
      go zero h = refl
      go (suc n) h = absurd (not_zero h.0 z)

  pub file_given : read_fault s t o ≡ 0 → (r.number ≡ 0) × (take r.long o' ≡ bytes_read s t)
  file_given z =
      let (a, b, c, d) = subst (λ (n : ℕ). ReadWith n s t o o' r) z says in
      (a, front_of_lem r.long (bytes_read s t) o o' b d)

-- no refusal where there is none of the input and the memory is long enough
no_write_fault : (s t o : List ℕ) → check_fault s t ≡ 0 → both_ways (rights_in t) ≡ false → length (file_text s t) ≤ length o → write_fault s t o ≡ 0
no_write_fault s t o e one l =
    ap (λ (n : ℕ). first_of n (first_of (when (both_ways (rights_in t)) 31) (when (ltb (length o) (length (file_text s t))) 16))) e
    ∙ (λ i. first_of (when (one i) 31) (when (le-ltb (length o) (length (file_text s t)) l i) 16))

no_read_fault : (s t o : List ℕ) → text_fault s t ≡ 0 → file_long s ≤ length o → read_fault s t o ≡ 0
no_read_fault s t o e l = (λ i. first_of (e i) (when (le-ltb (length o) (file_long s) l i) 16))

-- to text and back
module _ (s t o o' m m' : List ℕ) (w : Listed) (r : Shaped) (bytes : all_bytes t ≡ true) (says : WriteSays s t o o' w) (z : w.number ≡ 0) (enough : file_long s ≤ length m) (reads : ReadSays s (take w.long o') m m' r) where
  passed : write_fault s t o ≡ 0
  passed = write_passed s t o o' w says z

  sound : check_fault s t ≡ 0
  sound = (first_none (check_fault s t) _ passed).0

  one : both_ways (rights_in t) ≡ false
  one = when_none (both_ways (rights_in t)) 30 (first_none (when (both_ways (rights_in t)) 31) _ (first_none (check_fault s t) _ passed).1).0

  came : CameBack s t
  came = round_trips.to_and_back s t bytes sound one

  written : (r.number ≡ 0) × (take r.long m' ≡ bytes_read s (file_text s t))
  written =
      let x = file_text s t in
      file_given s x m m' r (subst (λ (y : List ℕ). ReadSays s y m m' r) (text_given s t o o' w says passed).1 reads) (no_read_fault s x m came.no_fault enough)

  to_and_back : let b = take r.long m' in (r.number ≡ 0) × (check_fault s b ≡ 0) × (angles_in b ≡ angles_in t) × (rights_in b ≡ rights_in t)
  to_and_back =
      let (number, front) = written in
      let went = round_trips.back_and_to s (file_text s t) came.no_fault in (
        number,
        ap (check_fault s) front ∙ went.no_fault,
        ap angles_in front ∙ went.angles ∙ came.angles,
        ap rights_in front ∙ went.rights ∙ came.rights,
      )

  byte_for_byte : all_bytes s ≡ true → ButRemark (take r.long m') t
  byte_for_byte b = subst (λ (l : List ℕ). ButRemark l t) (sym written.1) (round_trips.byte_for_byte s t b bytes sound one)

back_and_to : (s t o o' m m' : List ℕ) (r : Shaped) (w : Listed) → ReadSays s t o o' r → r.number ≡ 0 → length t ≤ length m → WriteSays s (take r.long o') m m' w → (w.number ≡ 0) × (take w.long m' ≡ t)
back_and_to s t o o' m m' r w says z enough writes =
    let passed = read_passed s t o o' r says z in
    let accepted = (first_none (text_fault s t) _ passed).0 in
    let b = bytes_read s t in
    let went = round_trips.back_and_to s t accepted in
    let given : WriteSays s b m m' w = subst (λ (y : List ℕ). WriteSays s y m m' w) (file_given s t o o' r says passed).1 writes in
    let (number, front) = text_given s b m m' w given (no_write_fault s b m went.no_fault went.one_way (omega (arith, ap length went.text))) in
    (number, front ∙ went.text)

-- a shape that was written
abbrev Trip : (s x m m' n n' : List ℕ) (w : Listed) (r : Shaped) → Type 0
Trip s x m m' n n' w r = 66962 ≤ length m → WriteSays s x m m' w → file_long s ≤ length n → ReadSays s (take w.long m') n n' r → (w.number ≡ 0) × (r.number ≡ 0) × (take r.long n' ≡ x)

module _ (s a x : List ℕ) (bytes : all_bytes s ≡ true) (none : list_fault s ≡ 0) (best : BestOf s (shape_of (plate_of s) a x)) (counts : rights_of (shape_of (plate_of s) a x).words ≡ x) where
  best_trip : (m m' n n' : List ℕ) (w : Listed) (r : Shaped) → Trip s (shape_bytes (walk_all false s).fields (shape_of (plate_of s) a x)) m m' n n' w r
  best_trip m m' n n' w r enough writes room reads =
      let b = shape_bytes (walk_all false s).fields (shape_of (plate_of s) a x) in
      let (sound, one, accepted, same) = round_trips.ours s a x none bytes best counts in
      let short = text_short.written s b (shape_bytes_fit s a x none bytes best counts) sound one in
      let (w-number, w-front) = text_given s b m m' w writes (no_write_fault s b m sound one (omega (arith, short))) in
      let given : ReadSays s (file_text s b) n n' r = subst (λ (y : List ℕ). ReadSays s y n n' r) w-front reads in
      let (r-number, r-front) = file_given s (file_text s b) n n' r given (no_read_fault s (file_text s b) n accepted room) in
      (w-number, r-number, r-front ∙ same)

-- the file of the best shape stands at the front of the memory that shaping was lent
pub record ShapeGiven (s b : List ℕ) : Type 0 where
  pub no_fault : list_fault s ≡ 0
  pub angles : List ℕ
  pub rights : List ℕ
  pub best : BestOf s (shape_of (plate_of s) angles rights)
  pub counts : rights_of (shape_of (plate_of s) angles rights).words ≡ rights
  pub bytes : b ≡ shape_bytes (walk_all false s).fields (shape_of (plate_of s) angles rights)

pub shape_given : (s o o' : List ℕ) (v : Shaped) → ShapeSays s o o' v → v.number ≡ 0 → ShapeGiven s (take v.long o')
shape_given s o o' v (none, keeps, says) z = go (shape_fault none s o) refl says
  where
    go : (k : ℕ) → shape_fault none s o ≡ k → ShapeWith k s o o' v → ShapeGiven s (take v.long o')
    go zero e (number, (a, x, best, counts, (long, bends, out))) = record {
      no_fault = (first_none (list_fault s) _ e).0;
      angles = a;
      rights = x;
      best = best;
      counts = counts;
      bytes = front_of_lem v.long (shape_bytes (walk_all false s).fields (shape_of (plate_of s) a x)) o o' long out;
    }
    go (suc k) e h = absurd (not_zero h.0 z)

ours : (s o o' m m' n n' : List ℕ) (v : Shaped) (w : Listed) (r : Shaped) → all_bytes s ≡ true → ShapeSays s o o' v → v.number ≡ 0 → Trip s (take v.long o') m m' n n' w r
ours s o o' m m' n n' v w r bytes says z =
    let g = shape_given s o o' v says z in
    subst (λ (y : List ℕ). Trip s y m m' n n' w r) (sym g.bytes) (best_trip s g.angles g.rights bytes g.no_fault g.best g.counts m m' n n' w r)

pub called : Called
called = record {
  to_and_back = to_and_back;
  byte_for_byte = λ s t o o' m m' w r b c says z enough reads. byte_for_byte s t o o' m m' w r c says z enough reads b;
  back_and_to = back_and_to;
  ours = ours;
}
