-- The promises take of a list its number, its plate, its limits, its prices and its revision, and of a shape file its number, revision, total, angles, right bends and priced sum,
-- so a remark makes no difference to them. Assumes nothing.
use mathlib.Core.Path.{◌≡◌, sym, ap, ap₂, subst, subst₂, ◌∙◌}
use mathlib.Core.Bool.{Bool, true, false, ◌&&◌, ◌||◌, not}
use mathlib.Core.List.{List, [], ◌∷◌, ◌++◌}
use Prim.Native.Nat.{ℕ, zero, suc, ◌+◌, ◌*◌}
use native.Mathlib.Omega.{arith}
use lib.Dec.{eqb, ltb}
use lib.ListN.{length}
use Rattle.fields.proofs.FrontField.{met_field}
use Rattle.plates.specs.Answers.{Shaped, Verdict, Listed}
use Rattle.plates.specs.Plates.{pick, pick_t, first_of, when, darts, strips, plate_fault}
use Rattle.plates.specs.Shapes.{Shape, meets, rights_of, total, same, rates, prices_ok, pair_sums, strip_bends, all_within, BestBy, shape_of}
use Rattle.plates.specs.Files.{Field, Walk, walk, has_tag, content_of, walk_all, four, plate_in, list_fault, plate_of, limits_of, prices_of, sum_of, count_bytes, sum_field}
use Rattle.plates.specs.Says.{over, word, file_fault_by, check_fault, shape_fault, NoneKeeps, BestBytes, ShapeWith, ShapeSays, CheckWith, CheckSays, angles_in, rights_in}
use Rattle.plates.specs.Listing.{listing_text, Gives, listing_fault, ListingWith, ListingSays}
use Rattle.plates.specs.Grammar.{entries_in}
use Rattle.plates.specs.Lines.{face_text, words_by, angles_by, both_ways}
use Rattle.plates.specs.Texts.{file_text, write_fault, WriteWith, WriteSays, words_read, placed_fault, bytes_read, read_fault, ReadWith, ReadSays}
use Rattle.plates.specs.Ordering.{bytes_in}
use Rattle.plates.specs.Journal.{Step, step_fault, stepped, new_limit, new_price, plate_fields, list_after, edit_fault, EditWith, EditSays}
use Rattle.plates.specs.Remarks.{OnlyRemark, SameAnswers, SameVerdicts}

turned : {k : Bool} {s t : List ℕ} → OnlyRemark k s t → OnlyRemark k t s
turned h = record { number = sym h.number; besides = record { there = λ u n. sym (h.besides.there u n); content = λ u n. sym (h.besides.content u n) } }

-- ---- lists
-- the fields whose contents the promises take: what they say of these they say of all, by computation
abbrev core : List Field → List Field
core fs = met_field 1 (content_of 1 fs) ∷ (met_field 2 (content_of 2 fs) ∷ (met_field 3 (content_of 3 fs) ∷ (met_field 4 (content_of 4 fs) ∷ (met_field 5 (content_of 5 fs) ∷ (met_field 7 (content_of 7 fs) ∷ (met_field 8 (content_of 8 fs) ∷ []))))))

module _ (s t : List ℕ) (h : OnlyRemark false s t) where
  abbrev fs : List Field
  fs = (walk_all false s).fields

  abbrev gs : List Field
  gs = (walk_all false t).fields

  content : (u : ℕ) → (u ≡ 6 → ⊥) → content_of u fs ≡ content_of u gs
  content = h.besides.content

  same_core : core fs ≡ core gs
  same_core =
      let c1 = content 1 (λ z. omega arith) in
      let c2 = content 2 (λ z. omega arith) in
      let c3 = content 3 (λ z. omega arith) in
      let c4 = content 4 (λ z. omega arith) in
      let c5 = content 5 (λ z. omega arith) in
      let c7 = content 7 (λ z. omega arith) in
      let c8 = content 8 (λ z. omega arith) in
      λ i. met_field 1 (c1 i) ∷ (met_field 2 (c2 i) ∷ (met_field 3 (c3 i) ∷ (met_field 4 (c4 i) ∷ (met_field 5 (c5 i) ∷ (met_field 7 (c7 i) ∷ (met_field 8 (c8 i) ∷ []))))))

  -- whether there are limits and prices
  limited : has_tag 7 fs ≡ has_tag 7 gs
  limited = h.besides.there 7 (λ z. omega arith)

  priced : has_tag 8 fs ≡ has_tag 8 gs
  priced = h.besides.there 8 (λ z. omega arith)

  number_same : list_fault s ≡ list_fault t
  number_same =
      λ i. first_of (h.number i) (first_of (plate_fault (plate_in (same_core i)))
      (first_of (when (not (not (limited i) || eqb (length (content_of 7 (same_core i))) (strips (plate_in (same_core i))))) 23)
      (when (not (not (priced i) || (eqb (length (content_of 8 (same_core i))) (strips (plate_in (same_core i))) && prices_ok (content_of 8 (same_core i))))) 38)))

  -- whether no shape keeps the limits
  abbrev Keeps : Bool → List Field → Type 0
  Keeps none fs =
      pick_t none ((u : Shape) → meets (plate_in fs) u ≡ true → all_within (content_of 7 fs) (strip_bends u) ≡ true → ⊥) ((u : Shape) × (meets (plate_in fs) u ≡ true) × (all_within (content_of 7 fs) (strip_bends u) ≡ true))

  keeps_to : (none : Bool) → NoneKeeps none s → NoneKeeps none t
  keeps_to none k z = subst (Keeps none) same_core (k (number_same ∙ z))

  -- the best shape and its file
  abbrev bytes_with : Bool → List Field → List ℕ → List ℕ → List ℕ
  bytes_with b fs a r = count_bytes fs a r ++ sum_field b (content_of 8 fs) r

  abbrev BestIn : (List ℕ → List ℕ → List ℕ → Type 0) → Bool → List Field → Type 0
  BestIn f b fs =
      (a : List ℕ) × (r : List ℕ) × BestBy (plate_in fs) (rates (content_of 7 fs) (content_of 8 fs)) (shape_of (plate_in fs) a r) × (rights_of (shape_of (plate_in fs) a r).words ≡ r)
      × f a r (bytes_with b fs a (rights_of (shape_of (plate_in fs) a r).words))

  best_to : (f : List ℕ → List ℕ → List ℕ → Type 0) → BestBytes s f → BestBytes t f
  best_to f = subst₂ (BestIn f) priced same_core

  module _ (o o' : List ℕ) where
    shape_with : (n : ℕ) (r : Shaped) → ShapeWith n s o o' r → ShapeWith n t o o' r
    shape_with zero r (e, x) = (e, best_to (λ a x b. (r.long ≡ length b) × (r.bends ≡ total x) × (o' ≡ over b o)) x)
    shape_with (suc n) r x = x

    shape_to : (r : Shaped) → ShapeSays s o o' r → ShapeSays t o o' r
    shape_to r (none, k, x) = (
      none,
      keeps_to none k,
      shape_with (shape_fault none t o) r (subst (λ (n : ℕ). ShapeWith n s o o' r) (λ i. first_of (number_same i) (first_of (when none 24) (when (ltb (length o) (16 + 4 * strips (plate_in (same_core i)) + when (priced i) 7)) 16))) x),
    )

    listing_with : (n : ℕ) (w : Listed) → ListingWith n s o o' w → ListingWith n t o o' w
    listing_with zero w x = subst₂ (λ (b : Bool) (hs : List Field). BestIn (λ a x b. Gives (listing_text (word (content_of 1 hs)) a x) o o' w) b hs) priced same_core x
    listing_with (suc n) w x = x

    listing_to : (w : Listed) → ListingSays s o o' w → ListingSays t o o' w
    listing_to w (none, k, x) = (none, keeps_to none k, listing_with (listing_fault none t) w (subst (λ (n : ℕ). ListingWith n s o o' w) (ap (λ (n : ℕ). first_of n (when none 24)) number_same) x))

  -- against a shape file
  module _ (u : List ℕ) where
    check_same : check_fault s u ≡ check_fault t u
    check_same =
        let us = (walk_all true u).fields in
        λ i. first_of (number_same i) (file_fault_by (same_core i) (walk_all true u)
        (first_of (when (not (all_within (content_of 7 (same_core i)) (pair_sums (rights_in u)))) 25)
        (when (not (pick (priced i) (same (content_of 22 us) (four (sum_of (content_of 8 (same_core i)) (rights_in u)))) (not (has_tag 22 us)))) 39)))

    check_with : (n : ℕ) (v : Verdict) → CheckWith n s u v → CheckWith n t u v
    check_with zero v (e, k, x) = (e, k, subst₂ (λ (b : Bool) (hs : List Field). BestIn (λ a x b. (v.fewest ≡ sum_of (content_of 8 hs) x) × (v.ours ≡ (same a (angles_in u) && same x (rights_in u)))) b hs) priced same_core x)
    check_with (suc n) v x = x

    check_to : (v : Verdict) → CheckSays s u v → CheckSays t u v
    check_to v x = check_with (check_fault t u) v (subst (λ (n : ℕ). CheckWith n s u v) check_same x)

    text_same : file_text s u ≡ file_text t u
    text_same = ap (λ (hs : List Field). face_text (plate_in hs) (angles_in u) (shape_of (plate_in hs) (angles_in u) (rights_in u)).words) same_core

    write_with : (n : ℕ) (o o' : List ℕ) (w : Listed) → WriteWith n s u o o' w → WriteWith n t u o o' w
    write_with zero o o' w (e, long, out) = (e, long ∙ ap length text_same, out ∙ ap (λ (b : List ℕ). over b o) text_same)
    write_with (suc n) o o' w x = x

    write_to : (o o' : List ℕ) (w : Listed) → WriteSays s u o o' w → WriteSays t u o o' w
    write_to o o' w x =
        write_with (write_fault t u o) o o' w
        (subst (λ (n : ℕ). WriteWith n s u o o' w) (λ i. first_of (check_same i) (first_of (when (both_ways (rights_in u)) 31) (when (ltb (length o) (length (text_same i))) 16))) x)

    -- against a text
    bytes_same : bytes_read s u ≡ bytes_read t u
    bytes_same = ap₂ (λ (b : Bool) (hs : List Field). bytes_with b hs (angles_by (darts (plate_in hs)) 0 (entries_in u)) (rights_of (words_by (darts (plate_in hs)) 0 (entries_in u)))) priced same_core

    words_same : words_read s u ≡ words_read t u
    words_same = ap (λ (hs : List Field). words_by (darts (plate_in hs)) 0 (entries_in u)) same_core

    read_with : (n : ℕ) (o o' : List ℕ) (r : Shaped) → ReadWith n s u o o' r → ReadWith n t u o o' r
    read_with zero o o' r (e, long, bends, out) = (e, long ∙ ap length bytes_same, bends ∙ ap (λ (ws : List (List Bool)). total (rights_of ws)) words_same, out ∙ ap (λ (b : List ℕ). over b o) bytes_same)
    read_with (suc n) o o' r x = x

    read_to : (o o' : List ℕ) (r : Shaped) → ReadSays s u o o' r → ReadSays t u o o' r
    read_to o o' r x =
        read_with (read_fault t u o) o o' r
        (subst (λ (n : ℕ). ReadWith n s u o o' r) (λ i. first_of (first_of (number_same i) (placed_fault (plate_in (same_core i)) (content_of 7 (same_core i)) u)) (when (ltb (length o) (16 + 4 * strips (plate_in (same_core i)) + when (priced i) 7)) 16)) x)

  -- a step
  module _ (u : Step) where
    after_same : list_after s u ≡ list_after t u
    after_same =
        λ i. bytes_in (plate_fields (content_of 1 (same_core i)) (stepped (plate_in (same_core i)) u)
        (pick (limited i) (met_field 7 (content_of 7 (same_core i) ++ (new_limit (content_of 7 (same_core i)) u ∷ [])) ∷ []) []
        ++ pick (priced i) (met_field 8 (content_of 8 (same_core i) ++ (new_price (content_of 8 (same_core i)) u ∷ [])) ∷ []) []))

    edit_with : (n : ℕ) (o o' : List ℕ) (w : Listed) → EditWith n s u o o' w → EditWith n t u o o' w
    edit_with zero o o' w x = subst (λ (b : List ℕ). Gives b o o' w) after_same x
    edit_with (suc n) o o' w x = x

    edit_to : (o o' : List ℕ) (w : Listed) → EditSays s u o o' w → EditSays t u o o' w
    edit_to o o' w x = edit_with (edit_fault t u) o o' w (subst (λ (n : ℕ). EditWith n s u o o' w) (λ i. first_of (number_same i) (step_fault (plate_in (same_core i)) u)) x)

pub lists : (s t : List ℕ) → OnlyRemark false s t → SameAnswers s t
lists s t h = record {
  number = number_same s t h;
  shaped = λ o o' r. (shape_to s t h o o' r, shape_to t s (turned h) o o' r);
  checked = λ u v. (check_to s t h u v, check_to t s (turned h) u v);
  listed = λ o o' w. (listing_to s t h o o' w, listing_to t s (turned h) o o' w);
  to_text = λ u o o' w. (write_to s t h u o o' w, write_to t s (turned h) u o o' w);
  from_text = λ u o o' r. (read_to s t h u o o' r, read_to t s (turned h) u o o' r);
  edited = λ u o o' w. (edit_to s t h u o o' w, edit_to t s (turned h) u o o' w);
}

-- ---- shape files
-- the fields whose contents the promises take, as above
abbrev shape_core : Walk → Walk
shape_core w =
    let fs = w.fields in
    walk w.number (met_field 17 (content_of 17 fs) ∷ (met_field 18 (content_of 18 fs) ∷ (met_field 19 (content_of 19 fs) ∷ (met_field 20 (content_of 20 fs) ∷ (met_field 22 (content_of 22 fs) ∷ [])))))

module _ (t u : List ℕ) (h : OnlyRemark true t u) (s : List ℕ) where
  abbrev ls : List Field
  ls = (walk_all false s).fields

  same_walk : shape_core (walk_all true t) ≡ shape_core (walk_all true u)
  same_walk =
      let c = h.besides.content in
      let c17 = c 17 (λ z. omega arith) in
      let c18 = c 18 (λ z. omega arith) in
      let c19 = c 19 (λ z. omega arith) in
      let c20 = c 20 (λ z. omega arith) in
      let c22 = c 22 (λ z. omega arith) in
      λ i. walk (h.number i) (met_field 17 (c17 i) ∷ (met_field 18 (c18 i) ∷ (met_field 19 (c19 i) ∷ (met_field 20 (c20 i) ∷ (met_field 22 (c22 i) ∷ [])))))

  abbrev angles : Walk → List ℕ
  angles w = content_of 19 w.fields

  abbrev rights : Walk → List ℕ
  rights w = content_of 20 w.fields

  verdict_same : check_fault s t ≡ check_fault s u
  verdict_same =
      ap₂ (λ (b : Bool) (w : Walk). first_of (list_fault s) (file_fault_by ls w
      (first_of (when (not (all_within (limits_of s) (pair_sums (rights w)))) 25) (when (not (pick (has_tag 8 ls) (same (content_of 22 w.fields) (four (sum_of (prices_of s) (rights w)))) (not b))) 39))))
      (h.besides.there 22 (λ z. omega arith)) same_walk

  verdict_with : (n : ℕ) (v : Verdict) → CheckWith n s t v → CheckWith n s u v
  verdict_with zero v x = subst (λ (w : Walk). (v.number ≡ 0) × (v.total ≡ total (rights w)) × BestBytes s (λ a x b. (v.fewest ≡ sum_of (prices_of s) x) × (v.ours ≡ (same a (angles w) && same x (rights w))))) same_walk x
  verdict_with (suc n) v x = x

  verdict_to : (v : Verdict) → CheckSays s t v → CheckSays s u v
  verdict_to v x = verdict_with (check_fault s u) v (subst (λ (n : ℕ). CheckWith n s t v) verdict_same x)

  file_text_same : file_text s t ≡ file_text s u
  file_text_same = ap (λ (w : Walk). face_text (plate_of s) (angles w) (shape_of (plate_of s) (angles w) (rights w)).words) same_walk

  ways_same : both_ways (rights_in t) ≡ both_ways (rights_in u)
  ways_same = ap (λ (w : Walk). both_ways (rights w)) same_walk

  text_with : (n : ℕ) (o o' : List ℕ) (w : Listed) → WriteWith n s t o o' w → WriteWith n s u o o' w
  text_with zero o o' w (e, long, out) = (e, long ∙ ap length file_text_same, out ∙ ap (λ (b : List ℕ). over b o) file_text_same)
  text_with (suc n) o o' w x = x

  text_to : (o o' : List ℕ) (w : Listed) → WriteSays s t o o' w → WriteSays s u o o' w
  text_to o o' w x =
      text_with (write_fault s u o) o o' w
      (subst (λ (n : ℕ). WriteWith n s t o o' w) (λ i. first_of (verdict_same i) (first_of (when (ways_same i) 31) (when (ltb (length o) (length (file_text_same i))) 16))) x)

pub files : (t u : List ℕ) → OnlyRemark true t u → SameVerdicts t u
files t u h = record {
  number = verdict_same t u h;
  text = file_text_same t u h;
  checked = λ s v. (verdict_to t u h s v, verdict_to u t (turned h) s v);
  to_text = λ s o o' w. (text_to t u h s o o' w, text_to u t (turned h) s o o' w);
}
