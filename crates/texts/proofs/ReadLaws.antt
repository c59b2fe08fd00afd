-- What reading a text promises, from what its steps give: the list's refusal, the text's, the counts', 16, or the file. Assumes nothing.
use mathlib.Core.Path.{◌≡◌, refl, sym, ap, subst, subst₂, ◌∙◌}
use mathlib.Core.Bool.{Bool, true, false, ◌&&◌, not}
use mathlib.Core.List.{List, [], ◌∷◌}
use Prim.Native.Nat.{ℕ, zero, suc, ◌*◌, ◌≤◌, ◌<◌}
use native.Mathlib.Omega.{arith}
use lib.Dec.{ltb}
use lib.ListN.{length, get_or, take}
use lib.Seq.{ext_get_or, get_or-take, length-take-le}
use borrow.Author.Tests.{not-false}
use Rattle.finite.proofs.Tests.{and_left, first_none, when_none, first_some, first_assoc}
use Rattle.embedding.proofs.Degrees.{darts_few}
use Rattle.shapes.specs.Claims.{Accepted}
use Rattle.shapes.specs.Judge.{judgement}
use Rattle.shapes.proofs.Accepted.{faultless, ordered}
use Rattle.shapes.proofs.Words.{rights_at, rights_long}
use Rattle.plates.specs.Answers.{Shaped, shaped, shaped_of}
use Rattle.plates.specs.Plates.{Plate, pick_t, first_of, when, distinct, darts, faces}
use Rattle.plates.specs.Shapes.{Shape, rights, rights_of, total, posts_ok, faces_ok, twins_ok_from, pair_sums, all_within, shape_of}
use Rattle.plates.specs.Files.{list_fault, plate_of, limits_of}
use Rattle.plates.specs.Says.{over, file_long}
use Rattle.plates.specs.Encodes.{FileGiven, FileSays}
use Rattle.plates.specs.Text.{Entry, all_formed}
use Rattle.plates.specs.Grammar.{form_ok, entries_in}
use Rattle.plates.specs.Lines.{face_entries, same_faces, some_mixed, word_of, words_by, angles_by, darts_of}
use Rattle.plates.specs.Texts.{words_read, placed_fault, text_fault, bytes_read, read_fault, ReadWith, ReadSays}
use Rattle.texts.specs.Plan.{laid, PlanHeld}
use Rattle.std.specs.Prelude.{Result, Err}
use Rattle.embedding.specs.Read.{meant}
use Rattle.embedding.specs.declared.Plate.{Plate as Held}
use Rattle.plates.specs.declared.reading.PlateList.{PlateList}
use Rattle.plates.specs.declared.encoding.Written.{Written}
use Rattle.refusals.specs.Numbers.{number_of}
use Rattle.refusals.proofs.Numbered.{some_number}
use Rattle.refusals.specs.declared.Refusal.{Refusal}
use Rattle.texts.specs.Parses.{Tables, TablesOf, IsPlan, entries_fault, twin_counts}
use Rattle.texts.specs.Reads.{counted_fault}
use Rattle.texts.specs.declared.planning.Turn.{Turn}
use Rattle.texts.specs.declared.parsing.Counted.{Counted}
use Rattle.texts.proofs.Grammar.{exact}
use Rattle.texts.proofs.FaceLeads.{dart_bounds}
use Rattle.texts.proofs.Refill.{word_fits, angles_long, words_long, angle_at, word_at_lem}
use Rattle.texts.proofs.Around.{plan_darts, all-distinct}
use Rattle.texts.proofs.OneWay.{word-long}
use Rattle.texts.proofs.Placed.{Told}
use Rattle.texts.proofs.TextBack.{outer_below}
use Rattle.texts.proofs.BackText.{angles_fine, words_counted}
use Rattle.texts.proofs.TwinLaws.{twins_by_counts}

-- the refusals of entries, then the rest
module _ (p : Plate) (ls t : List ℕ) where
  abbrev es : List Entry
  es = entries_in t

  abbrev plan : List Entry
  plan = face_entries p [] []

  abbrev a : List ℕ
  a = angles_by (darts p) 0 es

  abbrev ws : List (List Bool)
  ws = words_by (darts p) 0 es

  abbrev twins : Bool
  twins = twins_ok_from (darts p) 0 ws

  abbrev at_posts : ℕ
  at_posts = when (not (posts_ok p.posts 0 p a)) 20

  abbrev around_faces : List (List Bool) → ℕ
  around_faces vs = when (not (faces_ok p a vs (faces p))) 21

  abbrev past_limits : ℕ
  past_limits = when (not (all_within ls (pair_sums (rights_of ws)))) 25

  abbrev verdict : ℕ
  verdict = first_of at_posts (first_of (around_faces ws) past_limits)

  in_turn : placed_fault p ls t ≡ first_of (entries_fault plan t) (first_of (when (not twins) 32) verdict)
  in_turn = go (form_ok t) (some_mixed es) (same_faces es plan) twins
    where
      go : (f m s w : Bool)
          → first_of (when (not f) 30) (first_of (when m 31) (first_of (when (not (s && w)) 32) verdict))
          ≡ first_of (first_of (when (not f) 30) (first_of (when m 31) (when (not s) 32))) (first_of (when (not w) 32) verdict)
      go false m s w = refl
      go true true s w = refl
      go true false false w = refl
      go true false true w = refl

  entries_refused : (e : ℕ) → e ≡ entries_fault plan t → (e ≡ 0 → ⊥) → placed_fault p ls t ≡ e
  entries_refused e q n = in_turn ∙ first_some (entries_fault plan t) _ (λ z. n (q ∙ z)) ∙ sym q

  module _ (acc : Accepted p) (none : entries_fault plan t ≡ 0) where
    form : form_ok t ≡ true
    form = not-false (form_ok t) (when_none (not (form_ok t)) 29 (first_none (when (not (form_ok t)) 30) _ none).0)

    unmixed : some_mixed es ≡ false
    unmixed = when_none (some_mixed es) 30 (first_none (when (some_mixed es) 31) _ (first_none (when (not (form_ok t)) 30) _ none).1).0

    same : same_faces es plan ≡ true
    same = not-false (same_faces es plan) (when_none (not (same_faces es plan)) 31 (first_none (when (some_mixed es) 31) _ (first_none (when (not (form_ok t)) 30) _ none).1).1)

    told : Told p t
    told = record { form = form; unmixed = unmixed; same-faces = same }

    after_entries : placed_fault p ls t ≡ first_of (when (not twins) 32) verdict
    after_entries = in_turn ∙ ap (λ (k : ℕ). first_of k (first_of (when (not twins) 32) verdict)) none

    -- what the code judges
    module _ {n : ℕ} (n-is : n ≡ darts p) {ca cr cl : List ℕ} (tables : Tables es ca cr cl) where
      few : darts p ≤ 256
      few = darts_few p (faultless p acc) (ordered p acc)

      angles_taken : take n ca ≡ a
      angles_taken =
          let long : length (take n ca) ≡ n = length-take-le n ca (omega (arith, tables.angles.size, few)) in
          ext_get_or 0 (take n ca) a (long ∙ n-is ∙ sym (angles_long (darts p) 0 es))
          (λ i l. get_or-take n ca i 0 (omega (arith, long)) ∙ tables.angles.at i (omega (arith, long, few)) ∙ sym (angle_at (darts p) i es (omega (arith, long))))

      rights_taken : take n cr ≡ rights_of ws
      rights_taken =
          let long : length (take n cr) ≡ n = length-take-le n cr (omega (arith, tables.rights.size, few)) in
          ext_get_or 0 (take n cr) (rights_of ws) (long ∙ n-is ∙ sym (rights_long ws ∙ words_long (darts p) 0 es))
          (λ i l. get_or-take n cr i 0 (omega (arith, long)) ∙ tables.rights.at i (omega (arith, long, few)) ∙ ap rights (sym (word_at_lem (darts p) i es (omega (arith, long)))) ∙ sym (rights_at ws i))

      twins_are : twin_counts n 0 cr cl ≡ twins
      twins_are =
          ap (λ (k : ℕ). twin_counts k 0 cr cl) n-is
          ∙ twins_by_counts (darts p) (ordered p acc).even few es unmixed tables

      -- where the twins agree, the counts are judged as the words
      judged : twins ≡ true → first_of (judgement p a (rights_of ws)) past_limits ≡ verdict
      judged w =
          let words = words_counted p acc t told w in
          ap (λ (b : Bool). first_of (first_of (when (not b) 19) (first_of at_posts (around_faces (shape_of p a (rights_of ws)).words))) past_limits) (angles_fine p acc t told)
          ∙ ap (λ (x : Shape). first_of (first_of at_posts (around_faces x.words)) past_limits) words
          ∙ sym (first_assoc at_posts (around_faces ws) past_limits)

      counted_is : counted_fault p ls n ca cr cl ≡ placed_fault p ls t
      counted_is =
          (λ i. first_of (when (not (twins_are i)) 32) (first_of (judgement p (angles_taken i) (rights_taken i)) (when (not (all_within ls (pair_sums (rights_taken i)))) 25)))
          ∙ go twins refl ∙ sym after_entries
        where
          go : (b : Bool) → twins ≡ b → first_of (when (not b) 32) (first_of (judgement p a (rights_of ws)) past_limits) ≡ first_of (when (not b) 32) verdict
          go true e = judged e
          go false e = refl

-- a plan that is held
pub plan_once : (h : Held) {turns plan : List Turn} → turns ≡ plan → PlanHeld (meant h) plan → IsPlan (laid turns)
plan_once h same held =
    let p = meant h in
    let o = ordered p h.accepted in
    ap (λ (x : List Entry). distinct (darts_of x)) (ap laid same ∙ held) ∙ ap distinct (plan_darts p) ∙ all-distinct p o (outer_below p h.accepted)

-- right bends that each fit a byte
total_most : (xs : List ℕ) → ((i : ℕ) → i < length xs → get_or xs i 0 ≤ 255) → total xs ≤ 255 * length xs
total_most [] h = omega arith
total_most (x ∷ xs) h = omega (arith, h 0 (omega arith), total_most xs (λ i l. h (suc i) (omega arith)))

-- the refusals of a call
module _ (s t o : List ℕ) where
  abbrev short : ℕ
  short = when (ltb (length o) (file_long s)) 16

  refused_with : (e : ℕ) → (e ≡ 0 → ⊥) → ReadWith e s t o o (shaped e 0 0)
  refused_with zero n = absurd (n refl)
  refused_with (suc e) n = (refl, refl, refl, refl)

  module _ {v : Result Written Refusal} {r : Refusal} (is : v ≡ Err r) where
    refused_read : number_of r ≡ text_fault s t → ReadSays s t o o (shaped_of v)
    refused_read q =
        subst (λ (w : Result Written Refusal). ReadSays s t o o (shaped_of w)) (sym is)
        (subst (λ (k : ℕ). ReadWith k s t o o (shaped (number_of r) 0 0)) (q ∙ sym (first_some (text_fault s t) short (λ z. some_number r (q ∙ z)))) (refused_with (number_of r) (some_number r)))

    pub list_refused_read : number_of r ≡ list_fault s → ReadSays s t o o (shaped_of v)
    list_refused_read q = refused_read (q ∙ sym (first_some (list_fault s) _ (λ z. some_number r (q ∙ z))))

-- of an accepted list of bytes s, and a plan that is held
module _ (l : PlateList) {s : List ℕ} (bytes : l.bytes.now ≡ s) (t o : List ℕ) {turns plan : List Turn} (same : turns ≡ plan) (held : PlanHeld (meant l.plate) plan) where
  abbrev p₂ : Plate
  p₂ = plate_of s

  table : meant l.plate ≡ p₂
  table = l.table ∙ ap plate_of bytes

  list_ok : list_fault s ≡ 0
  list_ok = ap list_fault (sym bytes) ∙ l.accepted

  acc : Accepted p₂
  acc = subst Accepted table l.plate.accepted

  past_list : text_fault s t ≡ placed_fault p₂ (limits_of s) t
  past_list = ap (λ (k : ℕ). first_of k (placed_fault p₂ (limits_of s) t)) list_ok

  entries_are : entries_fault (laid turns) t ≡ entries_fault (face_entries p₂ [] []) t
  entries_are = ap (λ (x : List Entry). entries_fault x t) (ap laid same ∙ held) ∙ ap (λ (p : Plate). entries_fault (face_entries p [] []) t) table

  pub text_refused : {v : Result Written Refusal} {r : Refusal} → v ≡ Err r → number_of r ≡ entries_fault (laid turns) t → ReadSays s t o o (shaped_of v)
  text_refused {v} {r} is q = refused_read s t o is (q ∙ entries_are ∙ sym (past_list ∙ entries_refused p₂ (limits_of s) t (number_of r) (q ∙ entries_are) (some_number r) ∙ q ∙ entries_are))

  module _ (got : 0 ≡ entries_fault (laid turns) t) {c : Counted} (tables : TablesOf (entries_in t) c) where
    abbrev counted : ℕ
    counted = counted_fault (plate_of l.bytes.now) (limits_of l.bytes.now) l.plate.darts c.angles c.rights c.lefts

    none : entries_fault (face_entries p₂ [] []) t ≡ 0
    none = sym (got ∙ entries_are)

    n-is : l.plate.darts ≡ darts p₂
    n-is = l.plate.stands.dart_count ∙ ap darts table

    by_counts : text_fault s t ≡ counted
    by_counts = past_list ∙ sym (counted_is p₂ (limits_of s) t acc none n-is tables) ∙ ap (λ (b : List ℕ). counted_fault (plate_of b) (limits_of b) l.plate.darts c.angles c.rights c.lefts) (sym bytes)

    pub counts_refused : {v : Result Written Refusal} {r : Refusal} → v ≡ Err r → number_of r ≡ counted_fault (plate_of l.bytes.now) (limits_of l.bytes.now) l.plate.darts c.angles c.rights c.lefts → ReadSays s t o o (shaped_of v)
    counts_refused is q = refused_read s t o is (q ∙ sym by_counts)

    pub file_given : {a r : List ℕ} → a ≡ take l.plate.darts c.angles → r ≡ take l.plate.darts c.rights → FileGiven l.plate.darts a r
    file_given {a} {r} a-is r-is =
        let n = l.plate.darts in
        let most = (dart_bounds l.plate).1 in
        let long : length r ≡ n = ap length r-is ∙ length-take-le n c.rights (omega (arith, tables.rights.size)) in
        let all = (exact.read t (form p₂ (limits_of s) t acc none)).1 in
        record {
          angles_many = ap length a-is ∙ length-take-le n c.angles (omega (arith, tables.angles.size));
          few = omega (
            arith,
            most,
            long,
            total_most r (λ i k.
                let w = word_of i (entries_in t) in
                let at : get_or r i 0 ≡ get_or (take n c.rights) i 0 = ap (λ (x : List ℕ). get_or x i 0) r-is in
                omega (arith, at, get_or-take n c.rights i 0 (omega (arith, long)), tables.rights.at i (omega arith), word-long w, word_fits i (entries_in t) (and_left (all_formed (entries_in t)) _ all))),
          );
        }

    pub file_read : {a r : List ℕ} (o' : List ℕ) (v : Shaped) → 0 ≡ counted_fault (plate_of l.bytes.now) (limits_of l.bytes.now) l.plate.darts c.angles c.rights c.lefts
        → a ≡ take l.plate.darts c.angles → r ≡ take l.plate.darts c.rights → FileSays l.bytes.now a r o o' v → ReadSays s t o o' v
    file_read {a} {r} o' v z a-is r-is said =
        go (ltb (length o) (file_long s)) refl
        (subst₂ (λ (x y : List ℕ). FileSays s x y o o' v) (a-is ∙ angles_taken p₂ (limits_of s) t acc none n-is tables) (r-is ∙ rights_taken p₂ (limits_of s) t acc none n-is tables)
        (subst (λ (b : List ℕ). FileSays b a r o o' v) bytes said))
      where
        fault_is : read_fault s t o ≡ short s t o
        fault_is = ap (λ (k : ℕ). first_of k (short s t o)) (by_counts ∙ sym z)

        go : (b : Bool) → ltb (length o) (file_long s) ≡ b
            → pick_t b ((v.number ≡ 16) × (v.long ≡ 0) × (v.bends ≡ 0) × (o' ≡ o))
            ((v.number ≡ 0) × (v.long ≡ length (bytes_read s t)) × (v.bends ≡ total (rights_of (words_read s t))) × (o' ≡ over (bytes_read s t) o))
            → ReadSays s t o o' v
        go true e h = subst (λ (k : ℕ). ReadWith k s t o o' v) (sym (fault_is ∙ ap (λ (b : Bool). when b 16) e)) h
        go false e h = subst (λ (k : ℕ). ReadWith k s t o o' v) (sym (fault_is ∙ ap (λ (b : Bool). when b 16) e)) h

-- what the call's steps give
pub ruleset steps = (list_refused_read, plan_once, file_read)
