-- The listing's lines written one behind the other are its text; what each line needs is left of the room for all. Assumes nothing.
use mathlib.Core.Path.{◌≡◌, refl, sym, ap, subst, ◌∙◌}
use mathlib.Core.Bool.{Bool}
use mathlib.Core.List.{List, [], ◌∷◌, ◌++◌}
use Prim.Native.Nat.{ℕ, zero, suc, ◌+◌, ◌-◌, ◌≤◌, ◌<◌}
use native.Mathlib.Numerals.{add-one}
use native.Mathlib.Omega.{arith}
use lib.ListN.{length, get_or, set, length-append}
use borrow.Author.Tests.{lt-ltb, le-ltb}
use Rattle.fields.specs.Writing.{put_at, Written}
use Rattle.fields.proofs.Puts.{put_front, written_then}
use Rattle.plates.specs.Answers.{Listed}
use Rattle.plates.specs.Plates.{pick_t}
use Rattle.plates.specs.Shapes.{total}
use Rattle.plates.specs.Says.{over}
use Rattle.plates.specs.Listing.{decimal, numbered, line, revision_word, bends_word, dart_word, right_word, angle_word, dart_line, dart_lines, listing_text, TextWritten, Gives}
use Rattle.plates.proofs.ListingText.{byte_written}

-- lengths
pub numbered_long : (w : List ℕ) (n : ℕ) → length (numbered w n) ≡ length w + length (decimal n)
numbered_long w n = length-append w (decimal n)

pub line_long : (w : List ℕ) (n : ℕ) → length (line w n) ≡ length w + length (decimal n) + 1
line_long w n = omega (arith, numbered_long w n, length-append (numbered w n) (10 ∷ []))

pub dart_long : (d x y : ℕ) → length (dart_line d x y) ≡ 20 + (length (decimal d) + length (decimal x) + length (decimal y))
dart_long d x y =
    omega (
      arith,
      length-append (numbered dart_word d) (numbered right_word x ++ line angle_word y),
      length-append (numbered right_word x) (line angle_word y),
      numbered_long dart_word d,
      numbered_long right_word x,
      line_long angle_word y,
    )

pub lines_long : (n : ℕ) (a r : List ℕ) → length (dart_lines (suc n) a r) ≡ length (dart_lines n a r) + length (dart_line n (get_or r n 0) (get_or a n 0))
lines_long n a r = length-append (dart_lines n a r) (dart_line n (get_or r n 0) (get_or a n 0))

lines_part : (n m : ℕ) (a r : List ℕ) → length (dart_lines n a r) ≤ length (dart_lines (n + m) a r)
lines_part n zero a r = let e : n + 0 ≡ n = omega arith in omega (arith, ap (λ (k : ℕ). length (dart_lines k a r)) e)
lines_part n (suc m) a r =
    let e : n + suc m ≡ suc (n + m) = omega arith in
    omega (arith, ap (λ (k : ℕ). length (dart_lines k a r)) e, lines_long (n + m) a r, lines_part n m a r)

-- a line's end
pub line_written : (w : List ℕ) (n : ℕ) {out mid : List ℕ} {at m : ℕ} → at ≤ length out → m < length mid → Written at (numbered w n) out mid m → Written at (line w n) out (set mid m 10) (m + 1)
line_written w n {out} {mid} {at} {m} l k h = written_then l h (byte_written 10 m mid k)

-- the lines of the first d darts are written
pub record LinesDone (a r out₀ : List ℕ) (at : ℕ) (out : List ℕ) (next d : ℕ) : Type 0 where
  pub written : Written at (dart_lines d a r) out₀ out next
  pub below : d ≤ length r
  pub same_long : length out ≡ length out₀

module _ {a r out₀ out : List ℕ} {at next d : ℕ} (enough : at + length (dart_lines (length r) a r) ≤ length out₀) (done : LinesDone a r out₀ at out next d) where
  at_within : at ≤ length out₀
  at_within = omega (arith, enough)

  pub line_room : d < length r → next + length (dart_line d (get_or r d 0) (get_or a d 0)) ≤ length out
  line_room l =
      let m = length r - suc d in
      let e : suc d + m ≡ length r = omega arith in
      omega (
        arith,
        enough,
        done.written.behind,
        done.same_long,
        lines_long d a r,
        lines_part (suc d) m a r,
        ap (λ (k : ℕ). length (dart_lines k a r)) e,
      )

  pub lines_more : {out' : List ℕ} {next' : ℕ} → d < length r → Written next (dart_line d (get_or r d 0) (get_or a d 0)) out out' next' → length out' ≡ length out → LinesDone a r out₀ at out' next' (d + 1)
  lines_more {out'} {next'} l w k =
      record {
        written = subst (λ (n : ℕ). Written at (dart_lines n a r) out₀ out' next') (sym (add-one d)) (written_then at_within done.written w);
        below = omega arith;
        same_long = k ∙ done.same_long;
      }

-- a text at the front
pub text_written : {t out out' : List ℕ} {n : ℕ} → Written 0 t out out' n → TextWritten t out out' n
text_written {t} {out} {out'} {n} w = record { bytes = w.bytes ∙ put_front t out; long = omega (arith, w.behind) }

pub listing_long : (v : ℕ) (a r : List ℕ) → length (listing_text v a r) ≡ length (line revision_word v) + (length (line bends_word (total r)) + length (dart_lines (length r) a r))
listing_long v a r =
    omega (
      arith,
      length-append (line revision_word v) (line bends_word (total r) ++ dart_lines (length r) a r),
      length-append (line bends_word (total r)) (dart_lines (length r) a r),
    )

pub listing_written : (v : ℕ) (a r : List ℕ) {n m k end : ℕ} {out o1 o2 o3 : List ℕ} → length (listing_text v a r) ≤ length out → n ≡ total r
    → Written 0 (line revision_word v) out o1 m → length o1 ≡ length out → Written m (line bends_word n) o1 o2 k → Written k (dart_lines (length r) a r) o2 o3 end
    → TextWritten (listing_text v a r) out o3 end
listing_written v a r {n} {m} {k} {end} {out} {o1} {o2} {o3} h sum w1 l1 w2 w3 =
    let w2' : Written m (line bends_word (total r)) o1 o2 k = subst (λ (t : ℕ). Written m (line bends_word t) o1 o2 k) sum w2 in
    text_written (
    written_then (omega arith) w1
    (written_then (omega (arith, w1.behind, h, listing_long v a r)) w2' w3)
    )

-- a text given, or 16
pub gives_short : (t o : List ℕ) → length o < length t → Gives t o o (record { number = 16; long = 0 })
gives_short t o h =
    let r : Listed = record { number = 16; long = 0 } in
    subst (λ (b : Bool). pick_t b ((r.number ≡ 16) × (r.long ≡ 0) × (o ≡ o)) ((r.number ≡ 0) × (r.long ≡ length t) × (o ≡ over t o))) (sym (lt-ltb (length o) (length t) h)) (refl, refl, refl)

pub gives_whole : (t o : List ℕ) {o' : List ℕ} → length t ≤ length o → o' ≡ put_at 0 t o → Gives t o o' (record { number = 0; long = length t })
gives_whole t o {o'} h e =
    let r : Listed = record { number = 0; long = length t } in
    subst (λ (b : Bool). pick_t b ((r.number ≡ 16) × (r.long ≡ 0) × (o' ≡ o)) ((r.number ≡ 0) × (r.long ≡ length t) × (o' ≡ over t o))) (sym (le-ltb (length o) (length t) h)) (refl, refl, e ∙ put_front t o)
