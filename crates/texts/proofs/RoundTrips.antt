-- Both round trips over lists, shape files and texts. Assumes nothing.
use mathlib.Core.Path.{◌≡◌, sym, ap, subst, ◌∙◌}
use mathlib.Core.Bool.{true, false}
use mathlib.Core.List.{List}
use Prim.Native.Nat.{ℕ, suc, ◌%◌, ◌≤◌, ◌<◌, min}
use native.Mathlib.Omega.{arith}
use lib.ListN.{length, get_or}
use Rattle.finite.proofs.Tests.{and_left, first_none}
use Rattle.embedding.proofs.Rotation.{Ordered, twin_even}
use Rattle.shapes.specs.Claims.{Accepted}
use Rattle.shapes.proofs.Accepted.{ordered}
use Rattle.shapes.proofs.BestFits.{rated_one_way}
use Rattle.shapes.proofs.Tamassia.{two_to_a_strip}
use Rattle.shapes.proofs.Words.{words_rights, rights_at, rights_long}
use Rattle.plates.specs.Plates.{Plate, first_of, darts, strips, twin}
use Rattle.plates.specs.Shapes.{Shape, shape, meets, rights, rights_of, pair_sums, strip_bends, all_within, shape_of}
use Rattle.plates.specs.Files.{walk_all, list_fault, plate_of, limits_of, rates_of, file_bytes, shape_bytes}
use Rattle.plates.specs.Claims.{BestOf}
use Rattle.plates.specs.Says.{all_bytes, file_long, angles_in, rights_in, check_fault}
use Rattle.plates.proofs.Lists.{list_accepted, list_fair}
use Rattle.plates.proofs.Sound.{sound_exactly}
use Rattle.plates.proofs.ReadsBack.{written_reads_back, shape-bytes, rights_many, no_remark, sum_written}
use Rattle.plates.proofs.SoundBytes.{sound_bytes}
use Rattle.plates.proofs.ListingShort.{byte_at}
use Rattle.plates.proofs.FileBytes.{contents_bytes, shape_bytes_fit}
use Rattle.plates.specs.Text.{all_formed}
use Rattle.plates.specs.Grammar.{entries_in}
use Rattle.plates.specs.Lines.{face_text, word_of, both_ways}
use Rattle.plates.specs.Prices.{SumWritten}
use Rattle.plates.specs.Remarks.{NoRemark}
use Rattle.plates.specs.Texts.{file_text, angles_read, words_read, placed_fault, text_fault, bytes_read, CameBack, WentBack, ButRemark, RoundTrips, TextShort}
use Rattle.texts.proofs.OneWay.{one_way, ways_none, word-long}
use Rattle.texts.proofs.Grammar.{exact}
use Rattle.texts.proofs.Refill.{word_fits, word_at_lem, words_long}
use Rattle.texts.proofs.TextShort.{text_most}
use Rattle.texts.proofs.Placed.{Placed, fault_placed, placed-fault}
use Rattle.texts.proofs.TextBack.{text_placed, angles_come, words_come}
use Rattle.texts.proofs.BackText.{text_again, read_meets, read_one_way, words_counted}

-- a sound file
module _ (s t : List ℕ) (bytes : all_bytes t ≡ true) (none : check_fault s t ≡ 0) (one : both_ways (rights_in t) ≡ false) where
  abbrev p : Plate
  p = plate_of s

  abbrev a : List ℕ
  a = angles_in t

  abbrev r : List ℕ
  r = rights_in t

  abbrev x : Shape
  x = shape_of p a r

  list_ok : list_fault s ≡ 0
  list_ok = (first_none (list_fault s) _ none).0

  walk_ok : (walk_all true t).number ≡ 0
  walk_ok = (first_none (walk_all true t).number _ (first_none (list_fault s) _ none).1).0

  acc : Accepted p
  acc = list_accepted s list_ok

  o : Ordered p
  o = ordered p acc

  abbrev Sound : Type 0
  Sound = (length r ≡ darts p) × (meets p x ≡ true) × (all_within (limits_of s) (strip_bends x) ≡ true)

  sound : Sound
  sound = let (long, m, revision, bends, kept, true-sum) = (sound_exactly s t list_ok walk_ok).0 none in (long, m, kept)

  counts : rights_of x.words ≡ r
  counts = words_rights (strips p) r (sound.0 ∙ sym (two_to_a_strip p o))

  straight : (d : ℕ) → d < darts p → min (get_or (rights_of x.words) d 0) (get_or (rights_of x.words) (twin d) 0) ≡ 0
  straight d l =
      subst (λ (q : List ℕ). min (get_or q d 0) (get_or q (twin d) 0) ≡ 0) (sym counts)
      (one_way r (ap (λ (n : ℕ). n % 2) sound.0 ∙ o.even) one d (omega (arith, sound.0)))

  few : (d : ℕ) → d < darts p → get_or (rights_of x.words) d 0 ≤ 255
  few d l = omega (arith, ap (λ (q : List ℕ). get_or q d 0) counts, byte_at r d (contents_bytes true t bytes 20))

  came_back : CameBack s t
  came_back = record {
    no_fault = ap (λ (n : ℕ). first_of n (placed_fault p (limits_of s) (file_text s t))) list_ok ∙ placed-fault p (limits_of s) (file_text s t) (text_placed p acc a x.words sound.1 straight few (limits_of s) sound.2);
    angles = angles_come p acc a x.words sound.1 straight few;
    rights = ap rights_of (words_come p acc a x.words sound.1 straight few) ∙ counts;
  }

  byte_for_byte : all_bytes s ≡ true → ButRemark (bytes_read s (file_text s t)) t
  byte_for_byte b = subst (λ (x : List ℕ). ButRemark x t) (sym (λ i. file_bytes (walk_all false s).fields (came_back.angles i) (came_back.rights i))) (sound_bytes s t b bytes none)

  text_short_here : length (file_text s t) ≤ 66962
  text_short_here = text_most p acc a r sound.0 one (λ d l. omega (arith, byte_at r d (contents_bytes true t bytes 20)))

-- an accepted text
module _ (s t : List ℕ) (none : text_fault s t ≡ 0) where
  abbrev p₂ : Plate
  p₂ = plate_of s

  abbrev b : List ℕ
  b = bytes_read s t

  abbrev a₂ : List ℕ
  a₂ = angles_read s t

  abbrev r₂ : List ℕ
  r₂ = rights_of (words_read s t)

  good : list_fault s ≡ 0
  good = (first_none (list_fault s) _ none).0

  acc₂ : Accepted p₂
  acc₂ = list_accepted s good

  placed : Placed p₂ (limits_of s) t
  placed = fault_placed p₂ (limits_of s) t (first_none (list_fault s) _ none).1

  counted : shape_of p₂ a₂ r₂ ≡ shape a₂ (words_read s t)
  counted = words_counted p₂ acc₂ t placed.told placed.twins-ok

  shape_meets : meets p₂ (shape_of p₂ a₂ r₂) ≡ true
  shape_meets = ap (meets p₂) counted ∙ read_meets p₂ acc₂ t placed.told placed.twins-ok placed.posts-ok placed.faces-ok

  counts_are : rights_of (shape_of p₂ a₂ r₂).words ≡ r₂
  counts_are = ap (λ (y : Shape). rights_of y.words) counted

  limits_kept : all_within (limits_of s) (strip_bends (shape_of p₂ a₂ r₂)) ≡ true
  limits_kept = ap (λ (z : List ℕ). all_within (limits_of s) (pair_sums z)) counts_are ∙ placed.limits_kept

  abbrev Back : List ℕ → Type 0
  Back c = (check_fault s c ≡ 0) × (angles_in c ≡ a₂) × (rights_in c ≡ r₂) × (length c ≡ file_long s)

  back : Back b
  back = subst Back (shape-bytes s a₂ r₂ good shape_meets counts_are) (written_reads_back s a₂ r₂ good shape_meets counts_are limits_kept)

  went_back : WentBack s t b
  went_back = record {
    no_fault = back.0;
    one_way = ap both_ways back.2 ∙ read_one_way p₂ acc₂ t placed.told placed.twins-ok;
    angles = back.1;
    rights = back.2;
    text = (λ i. face_text p₂ (back.1 i) (shape_of p₂ (back.1 i) (back.2 i)).words) ∙ ap (λ (y : Shape). face_text p₂ a₂ y.words) counted ∙ text_again p₂ acc₂ t placed.told;
  }

  pub read_unremarked : NoRemark s (bytes_read s t)
  read_unremarked = no_remark s a₂ r₂ good shape_meets counts_are

  pub read_summed : SumWritten s (bytes_read s t)
  read_summed = sum_written s a₂ r₂ good shape_meets counts_are

  accepted_short : length t ≤ 66962
  accepted_short =
      let es = entries_in t in
      let all = (exact.read t placed.told.form).1 in
      let many : length r₂ ≡ darts p₂ = rights_long (words_read s t) ∙ words_long (darts p₂) 0 es in
      omega (
        arith,
        ap length (ap (λ (y : Shape). face_text p₂ a₂ y.words) counted ∙ text_again p₂ acc₂ t placed.told),
        text_most p₂ acc₂ a₂ r₂ many (read_one_way p₂ acc₂ t placed.told placed.twins-ok)
            (λ d l.
            omega (
              arith,
              rights_at (words_read s t) d,
              ap rights (word_at_lem (darts p₂) d es (omega (arith, many))),
              word-long (word_of d es),
              word_fits d es (and_left (all_formed es) _ all),
            )),
      )

-- our own files: a best shape bends no strip both ways
module _ (s a r : List ℕ) (e : list_fault s ≡ 0) (bytes : all_bytes s ≡ true) (best : BestOf s (shape_of (plate_of s) a r)) (counts : rights_of (shape_of (plate_of s) a r).words ≡ r) where
  abbrev p₃ : Plate
  p₃ = plate_of s

  abbrev x₃ : Shape
  x₃ = shape_of p₃ a r

  abbrev b₃ : List ℕ
  b₃ = shape_bytes (walk_all false s).fields x₃

  acc₃ : Accepted p₃
  acc₃ = list_accepted s e

  abbrev ys : List ℕ
  ys = rights_of x₃.words

  never : (d : ℕ) → d < darts p₃ → min (get_or ys d 0) (get_or ys (twin d) 0) ≡ 0
  never = rated_one_way p₃ acc₃ (rates_of s) (list_fair s e) x₃ best

  ours_one_way : both_ways r ≡ false
  ours_one_way = ways_none r (λ d q l.
      omega (arith, never d (omega (arith, rights_many s a r e best.meets_all counts)), ap (λ (c : List ℕ). get_or c d 0) counts, ap (λ (c : List ℕ). get_or c (suc d) 0) counts, ap (λ (k : ℕ). get_or ys k 0) (twin_even d q)))

  abbrev Ours : Type 0
  Ours = (check_fault s b₃ ≡ 0) × (both_ways (rights_in b₃) ≡ false) × (text_fault s (file_text s b₃) ≡ 0) × (bytes_read s (file_text s b₃) ≡ b₃)

  ours : Ours
  ours =
      let (ok, an, ri, long) = written_reads_back s a r e best.meets_all counts best.keeps_all in
      let one : both_ways (rights_in b₃) ≡ false = ap both_ways ri ∙ ours_one_way in
      let c = came_back s b₃ (shape_bytes_fit s a r e bytes best counts) ok one in (
        ok,
        one,
        c.no_fault,
        (λ i. file_bytes (walk_all false s).fields ((c.angles ∙ an) i) ((c.rights ∙ ri) i)) ∙ sym (shape-bytes s a r e best.meets_all counts),
      )

pub round_trips : RoundTrips
round_trips = record {
  to_and_back = came_back;
  back_and_to = went_back;
  bytes_long = λ s t n. (back s t n).3;
  byte_for_byte = λ s t b c none one. byte_for_byte s t c none one b;
  ours = ours;
}

pub text_short : TextShort
text_short = record {
  written = text_short_here;
  accepted = accepted_short;
}
