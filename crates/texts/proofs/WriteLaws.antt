-- What writing a text promises, from what its steps give: the list's refusal, the file's, the counts', 31, 16, or the text. Assumes nothing.
use mathlib.Core.Path.{◌≡◌, refl, sym, ap, subst, ◌∙◌}
use mathlib.Core.Bool.{Bool, true, false, not}
use mathlib.Core.List.{List}
use Prim.Native.Nat.{ℕ, zero, suc}
use lib.Dec.{ltb}
use lib.ListN.{length}
use borrow.Author.Tests.{not-false}
use Rattle.std.specs.Prelude.{Result, Err}
use Rattle.finite.proofs.Tests.{first_none, when_none, first_some}
use Rattle.refusals.specs.Numbers.{number_of}
use Rattle.refusals.specs.declared.Refusal.{Refusal}
use Rattle.refusals.specs.declared.Refusal.TheVariants.{MixedWord}
use Rattle.refusals.proofs.Numbered.{some_number}
use Rattle.shapes.specs.Judge.{judgement}
use Rattle.plates.specs.Plates.{pick_t, first_of, when}
use Rattle.plates.specs.Shapes.{angles_ok, shape_of}
use Rattle.plates.specs.Files.{list_fault, plate_of}
use Rattle.plates.specs.Says.{over, angles_in, rights_in, check_fault}
use Rattle.plates.specs.Read.{shape_file_fault}
use Rattle.plates.specs.Listing.{Gives}
use Rattle.plates.specs.Answers.{Listed, listed, listed_of}
use Rattle.plates.proofs.CheckSound.{places, judged_then, later}
use Rattle.plates.specs.Lines.{face_text, both_ways}
use Rattle.plates.specs.declared.reading.ShapeFile.{ShapeFile}
use Rattle.embedding.specs.Read.{meant}
use Rattle.texts.specs.Prints.{Straight}
use Rattle.plates.specs.Texts.{file_text, write_fault, WriteWith, WriteSays}

module _ (s t o : List ℕ) where
  refused_with : (e : ℕ) → (e ≡ 0 → ⊥) → WriteWith e s t o o (listed e 0)
  refused_with zero n = absurd (n refl)
  refused_with (suc e) n = (refl, refl, refl)

  module _ {v : Result ℕ Refusal} {r : Refusal} (is : v ≡ Err r) where
    refused_write : number_of r ≡ write_fault s t o → WriteSays s t o o (listed_of v)
    refused_write q =
        subst (λ (w : Result ℕ Refusal). WriteSays s t o o (listed_of w)) (sym is)
        (subst (λ (k : ℕ). WriteWith k s t o o (listed (number_of r) 0)) q (refused_with (number_of r) (some_number r)))

    -- the check's number, the list's or the shape file's own
    pub check_refused : number_of r ≡ check_fault s t → WriteSays s t o o (listed_of v)
    check_refused q = refused_write (q ∙ sym (first_some (check_fault s t) _ (λ z. some_number r (q ∙ z))))

    pub list_refused_write : number_of r ≡ list_fault s → WriteSays s t o o (listed_of v)
    list_refused_write q = check_refused (q ∙ sym (places s t ∙ first_some (list_fault s) _ (λ z. some_number r (q ∙ z))))

    pub file_refused_write : 0 ≡ list_fault s → number_of r ≡ shape_file_fault s t → WriteSays s t o o (listed_of v)
    file_refused_write none q =
        check_refused (q ∙ sym (places s t ∙ ap (λ (k : ℕ). first_of k (first_of (shape_file_fault s t) (judged_then s t))) (sym none) ∙ first_some (shape_file_fault s t) (judged_then s t) (λ z. some_number r (q ∙ z))))

  -- a sound file: 31, then 16
  module _ (sound : check_fault s t ≡ 0) where
    abbrev short : ℕ
    short = when (ltb (length o) (length (file_text s t))) 16

    past_check : write_fault s t o ≡ first_of (when (both_ways (rights_in t)) 31) short
    past_check = ap (λ (k : ℕ). first_of k (first_of (when (both_ways (rights_in t)) 31) short)) sound

    mixed_refused : both_ways (rights_in t) ≡ true → WriteSays s t o o (listed_of (Err MixedWord))
    mixed_refused e = refused_write {r = MixedWord} refl (sym (past_check ∙ ap (λ (b : Bool). first_of (when b 31) short) e))

    text_written : (o' : List ℕ) (r : Listed) → both_ways (rights_in t) ≡ false → Gives (file_text s t) o o' r → WriteSays s t o o' r
    text_written o' r one g = go (ltb (length o) (length (file_text s t))) refl g
      where
        fault_is : write_fault s t o ≡ short
        fault_is = past_check ∙ ap (λ (b : Bool). first_of (when b 31) short) one

        go : (b : Bool) → ltb (length o) (length (file_text s t)) ≡ b
            → pick_t b ((r.number ≡ 16) × (r.long ≡ 0) × (o' ≡ o)) ((r.number ≡ 0) × (r.long ≡ length (file_text s t)) × (o' ≡ over (file_text s t) o))
            → WriteSays s t o o' r
        go true e h = subst (λ (k : ℕ). WriteWith k s t o o' r) (sym (fault_is ∙ ap (λ (b : Bool). when b 16) e)) h
        go false e h = subst (λ (k : ℕ). WriteWith k s t o o' r) (sym (fault_is ∙ ap (λ (b : Bool). when b 16) e)) h

-- a shape file of bytes t, read for the list of bytes s, past the check
module _ (f : ShapeFile) {s t : List ℕ} (list : f.list.bytes.now ≡ s) (bytes : f.bytes.now ≡ t) (fault : 0 ≡ check_fault f.list.bytes.now f.bytes.now) where
  sound : check_fault s t ≡ 0
  sound = (λ i. check_fault (sym list i) (sym bytes i)) ∙ sym fault

  angles_are : f.counts.angles.now ≡ angles_in t
  angles_are = f.angles ∙ ap angles_in bytes

  rights_are : f.counts.rights.now ≡ rights_in t
  rights_are = f.rights ∙ ap rights_in bytes

  table : meant f.list.plate ≡ plate_of s
  table = f.list.table ∙ ap plate_of list

  angles_sound : angles_ok (angles_in t) ≡ true
  angles_sound =
      let none : list_fault s ≡ 0 = ap list_fault (sym list) ∙ f.list.accepted in
      let no_file : shape_file_fault s t ≡ 0 = (λ i. shape_file_fault (sym list i) (sym bytes i)) ∙ f.accepted in
      let judged = (first_none (judgement (plate_of s) (angles_in t) (rights_in t)) _ (sym (later s t none no_file) ∙ sound)).0 in
      not-false (angles_ok (angles_in t)) (when_none (not (angles_ok (angles_in t))) 18 (first_none (when (not (angles_ok (angles_in t))) 19) _ judged).0)

  module _ {both : Bool} (both-is : both ≡ both_ways f.counts.rights.now) where
    ways : both_ways (rights_in t) ≡ both
    ways = sym (both-is ∙ ap both_ways rights_are)

    pub both_refused : (o : List ℕ) → both ≡ true → WriteSays s t o o (listed_of (Err MixedWord))
    both_refused o e = mixed_refused s t o sound (ways ∙ e)

    module _ (one : both ≡ false) where
      pub counts_straight : Straight f.counts.angles.now f.counts.rights.now
      counts_straight = record { one_way = sym both-is ∙ one; angles-ok = ap angles_ok angles_are ∙ angles_sound }

      pub text_said : (o o' : List ℕ) (v : Listed) → Gives (face_text (meant f.list.plate) f.counts.angles.now (shape_of (meant f.list.plate) f.counts.angles.now f.counts.rights.now).words) o o' v → WriteSays s t o o' v
      text_said o o' v give =
          text_written s t o sound o' v (ways ∙ one)
          (subst (λ (x : List ℕ). Gives x o o' v) (λ i. face_text (table i) (angles_are i) (shape_of (table i) (angles_are i) (rights_are i)).words) give)

-- what the call's steps give
pub ruleset steps = (list_refused_write, both_refused, counts_straight, text_said)
