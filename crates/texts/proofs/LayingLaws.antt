-- The faces laid one after the other, the outer one first, are the plan of the text. Assumes nothing.
use mathlib.Core.Path.{◌≡◌, refl, sym, ap, ◌∙◌}
use mathlib.Core.List.{List, [], ◌∷◌, ◌++◌, append_assoc, append-nil}
use Prim.Native.Nat.{ℕ, ◌+◌, ◌≤◌, ◌<◌}
use native.Mathlib.Numerals.{add-one}
use native.Mathlib.Omega.{arith}
use lib.ListN.{length, get_or, take, drop, length-append, take-append-drop}
use lib.Seq.{take-suc}
use Rattle.finite.specs.Walks.{orbit}
use Rattle.embedding.specs.Steps.{next_of}
use Rattle.embedding.specs.Read.{meant, lead, place_of, face_number}
use Rattle.embedding.specs.declared.Plate.{Plate as Held}
use Rattle.embedding.proofs.Rotation.{Ordered}
use Rattle.embedding.proofs.Answers.{number_below, number_lead}
use Rattle.shapes.specs.Claims.{Accepted}
use Rattle.embedding.proofs.Degrees.{darts_few}
use Rattle.shapes.proofs.Accepted.{faultless, ordered}
use Rattle.shapes.proofs.Places.{face_below_darts, index_of_lead}
use Rattle.shapes.proofs.HeldPlate.{faces_are}
use Rattle.plates.specs.Plates.{Plate, darts, face_of, faces}
use Rattle.plates.specs.Text.{Entry}
use Rattle.plates.specs.Lines.{without, sequence, line, lines}
use Rattle.texts.specs.Plan.{laid, FaceRoom, FaceLaid, NumberFits, NumberLaid, OuterIs, Laying}
use Rattle.texts.specs.declared.planning.Turn.{Turn}
use Rattle.texts.proofs.Without.{without_append, without_same, without_other}
use Rattle.texts.proofs.Around.{plan_many}
use Rattle.texts.proofs.LaidLaws.{laid_long, line_long}
use Rattle.texts.proofs.FaceLeads.{few, held_one, held_face, number_start}
use Rattle.texts.proofs.TextBack.{outer_below}

lines_append : (p : Plate) (ds es : List ℕ) → lines p [] [] (ds ++ es) ≡ lines p [] [] ds ++ lines p [] [] es
lines_append p [] es = refl
lines_append p (d ∷ ds) es = ap (λ (l : List Entry). line [] [] (face_of p d) ++ l) (lines_append p ds es) ∙ sym (append_assoc (line [] [] (face_of p d)) (lines p [] [] ds) (lines p [] [] es))

-- what a held plate gives for the face of a number
module _ (h : Held) {number start : ℕ} {q : List Turn} (fits : NumberFits (meant h) number q) (start_is : start ≡ place_of number h.face) where
  abbrev d : ℕ
  d = get_or (faces (meant h)) number 0

  start_lead : start ≡ d
  start_lead = start_is ∙ number_start h number fits.there

  d_below : d < darts (meant h)
  d_below = face_below_darts (meant h) (ordered (meant h) h.accepted) number fits.there

  walk_is : orbit (next_of h.next) h.darts start ≡ face_of (meant h) d
  walk_is = ap (orbit (next_of h.next) h.darts) start_lead ∙ held_face h d d_below

  pub number_room : FaceRoom h.next h.darts start q
  number_room = record {
    few = omega (arith, h.stands.dart_count, few h);
    below = omega (arith, start_lead, d_below, h.stands.dart_count);
    one = held_one h;
    enough = omega (arith, fits.enough, ap length walk_is);
  }

  pub number_laid : (r : List Turn) → FaceLaid h.next h.darts start q r → NumberLaid (meant h) number q r
  number_laid r f = f ∙ ap (λ (l : List ℕ). laid q ++ line [] [] l) walk_is

module _ (p : Plate) (a : Accepted p) where
  abbrev first : ℕ
  first = lead p p.outer

  abbrev so_far : ℕ → List ℕ
  so_far k = first ∷ without first (take k (faces p))

  -- no more entries than darts
  so_far_most : (k : ℕ) → length (lines p [] [] (so_far k)) ≤ darts p
  so_far_most k =
      let rest = without first (drop k (faces p)) in
      let whole : sequence p ≡ so_far k ++ rest = ap (λ (l : List ℕ). first ∷ without first l) (sym (take-append-drop k (faces p))) ∙ ap (λ (l : List ℕ). first ∷ l) (without_append first (take k (faces p)) (drop k (faces p))) in
      omega (
        arith,
        plan_many p (ordered p a) (outer_below p a),
        ap (λ (l : List ℕ). length (lines p [] [] l)) whole,
        ap length (lines_append p (so_far k) rest),
        length-append (lines p [] [] (so_far k)) (lines p [] [] rest),
      )

  module _ (outer k : ℕ) (outer_is : OuterIs p outer) (l : k < length (faces p)) where
    abbrev next_lead : ℕ
    next_lead = get_or (faces p) k 0

    one_more : take (k + 1) (faces p) ≡ take k (faces p) ++ (next_lead ∷ [])
    one_more = ap (λ (j : ℕ). take j (faces p)) (add-one k) ∙ take-suc (faces p) k 0 l

    parted : so_far (k + 1) ≡ so_far k ++ without first (next_lead ∷ [])
    parted = ap (λ (x : List ℕ). first ∷ without first x) one_more ∙ ap (λ (x : List ℕ). first ∷ x) (without_append first (take k (faces p)) (next_lead ∷ []))

    outer_lead : get_or (faces p) outer 0 ≡ first
    outer_lead = ap (λ (j : ℕ). get_or (faces p) j 0) outer_is ∙ number_lead p (ordered p a) p.outer (outer_below p a)

    -- the outer face is laid already
    laying_same : (q : List Turn) → k ≡ outer → Laying p k q → Laying p (k + 1) q
    laying_same q e y =
        let same : first ≡ next_lead = sym outer_lead ∙ ap (λ (j : ℕ). get_or (faces p) j 0) (sym e) in
        y ∙ ap (lines p [] []) (sym (parted ∙ ap (λ (x : List ℕ). so_far k ++ x) (without_same first next_lead same) ∙ append-nil (so_far k)))

    module _ (n : k ≡ outer → ⊥) where
      differs : first ≡ next_lead → ⊥
      differs z = n (sym (index_of_lead p (ordered p a) k l) ∙ ap (face_number p) (sym z ∙ sym outer_lead) ∙ index_of_lead p (ordered p a) outer (omega (arith, number_below p (ordered p a) p.outer (outer_below p a))))

      more : lines p [] [] (so_far (k + 1)) ≡ lines p [] [] (so_far k) ++ line [] [] (face_of p next_lead)
      more =
          ap (lines p [] []) (parted ∙ ap (λ (x : List ℕ). so_far k ++ x) (without_other first next_lead differs))
          ∙ lines_append p (so_far k) (next_lead ∷ [])
          ∙ ap (λ (x : List Entry). lines p [] [] (so_far k) ++ x) (append-nil (line [] [] (face_of p next_lead)))

      laying_fits : (q : List Turn) → Laying p k q → NumberFits p k q
      laying_fits q y = record {
        there = l;
        enough = omega (
          arith,
          laid_long q,
          ap length y,
          so_far_most (k + 1),
          ap length more,
          length-append (lines p [] [] (so_far k)) (line [] [] (face_of p next_lead)),
          line_long (face_of p next_lead),
          darts_few p (faultless p a) (ordered p a),
        );
      }

      laying_more : (q r : List Turn) → Laying p k q → NumberLaid p k q r → Laying p (k + 1) r
      laying_more q r y z = z ∙ ap (λ (x : List Entry). x ++ line [] [] (face_of p next_lead)) y ∙ sym more

-- nothing laid, the outer face laid, all laid
module _ (h : Held) {outer d : ℕ} (outer_is : outer ≡ get_or h.face d 0) (d-is : d ≡ h.outer) where
  abbrev p : Plate
  p = meant h

  o : Ordered p
  o = ordered p h.accepted

  out : p.outer < darts p
  out = outer_below p h.accepted

  pub outer_number : OuterIs (meant h) outer
  outer_number = outer_is ∙ ap (λ (x : ℕ). get_or h.face x 0) (d-is ∙ h.stands.outer_dart) ∙ faces_are h p.outer out

  outer_first : get_or (faces p) outer 0 ≡ lead p p.outer
  outer_first = ap (λ (j : ℕ). get_or (faces p) j 0) outer_number ∙ number_lead p o p.outer out

  first_most : length (face_of p (get_or (faces p) outer 0)) ≤ darts p
  first_most = omega (arith, so_far_most p h.accepted 0, ap (λ (x : ℕ). length (face_of p x)) outer_first, ap length (append-nil (line [] [] (face_of p (lead p p.outer)))), line_long (face_of p (lead p p.outer)))

  pub outer_fits : (q : List Turn) → q ≡ [] → NumberFits (meant h) outer q
  outer_fits q e = record {
    there = omega (arith, outer_number, number_below p o p.outer out);
    enough = omega (arith, first_most, few h, ap length e);
  }

  pub outer_laid : (q r : List Turn) → q ≡ [] → NumberLaid (meant h) outer q r → Laying (meant h) 0 r
  outer_laid q r e z = z ∙ ap (λ (x : List Turn). laid x ++ line [] [] (face_of p (get_or (faces p) outer 0))) e ∙ ap (λ (x : ℕ). line [] [] (face_of p x)) outer_first ∙ sym (append-nil (line [] [] (face_of p (lead p p.outer))))

  there : {k : ℕ} → k < h.faces → k < length (faces p)
  there l = omega (arith, h.stands.face_count)

  -- one number more
  module _ {k : ℕ} (l : k < h.faces) (q : List Turn) (y : Laying (meant h) k q) where
    pub face_same : k ≡ outer → Laying (meant h) (k + 1) q
    face_same e = laying_same p h.accepted outer k outer_number (there l) q e y

    pub face_fits : (k ≡ outer → ⊥) → NumberFits (meant h) k q
    face_fits n = laying_fits p h.accepted outer k outer_number (there l) n q y

    pub face_more : (k ≡ outer → ⊥) → (r : List Turn) → NumberLaid (meant h) k q r → Laying (meant h) (k + 1) r
    face_more n r z = laying_more p h.accepted outer k outer_number (there l) n q r y z
