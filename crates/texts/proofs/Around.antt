-- The lines of a plate's text hold every dart once: each dart lies in one face, and each face stands once in the sequence. Assumes nothing.
use mathlib.Core.Path.{◌≡◌, refl, sym, ap, subst, ◌∙◌}
use mathlib.Core.Bool.{Bool, true, false}
use mathlib.Core.List.{List, [], ◌∷◌, ◌++◌}
use mathlib.Core.Logic.{⊎_elim}
use Prim.Native.Nat.{ℕ, zero, suc, ◌≤◌, ◌<◌}
use native.Mathlib.Omega.{arith}
use lib.ListN.{length, get_or}
use Rattle.finite.proofs.Tests.{and_both, not_both, not_true_false, equal_or_not}
use Rattle.finite.proofs.Members.{in_none, in_here, in_more, in_cases, in_append, in_left, in_right, all_of, distinct_head, distinct_rest, distinct_more}
use Rattle.finite.proofs.Pigeonhole.{length_members, sum_over_members}
use Rattle.finite.proofs.Sums.{sum_below, sum_over, sum_cong, sum_ones}
use Rattle.embedding.proofs.Rotation.{Ordered}
use Rattle.embedding.proofs.Faces.{from_in, faces_distinct, faces_below, lead_least, face_start, face_distinct, face_below, lead_in_faces, lead_face, face_lead}
use Rattle.embedding.specs.Read.{lead}
use Rattle.plates.specs.Plates.{Plate, pick, when, is_in, is_lowest, distinct, darts, walk_from, face_of, faces_from, faces}
use Rattle.plates.specs.Text.{Entry, closed}
use Rattle.plates.specs.Lines.{without, sequence, line, lines, face_entries, darts_of, all_above, ascending, ByFaces}
use Rattle.finite.proofs.Members.{distinct_append}
use Rattle.texts.proofs.Without.{out_in, in_out, not_out, out_distinct, out_ascending, in_above}

-- the darts of faces one behind the other
abbrev pub around : Plate → List ℕ → List ℕ
around p [] = []
around p (d ∷ ds) = face_of p d ++ around p ds

line_darts : (a : List ℕ) (ws : List (List Bool)) (ds : List ℕ) → darts_of (line a ws ds) ≡ ds
line_darts a ws [] = refl
line_darts a ws (d ∷ []) = refl
line_darts a ws (d ∷ (e ∷ ds)) = ap (λ (l : List ℕ). d ∷ l) (line_darts a ws (e ∷ ds))

pub darts_append : (xs ys : List Entry) → darts_of (xs ++ ys) ≡ darts_of xs ++ darts_of ys
darts_append [] ys = refl
darts_append (x ∷ xs) ys = ap (λ (l : List ℕ). x.dart ∷ l) (darts_append xs ys)

lines_darts : (p : Plate) (a : List ℕ) (ws : List (List Bool)) (ds : List ℕ) → darts_of (lines p a ws ds) ≡ around p ds
lines_darts p a ws [] = refl
lines_darts p a ws (d ∷ ds) = darts_append (line a ws (face_of p d)) (lines p a ws ds) ∙ (λ i. line_darts a ws (face_of p d) i ++ lines_darts p a ws ds i)

darts_long : (es : List Entry) → length (darts_of es) ≡ length es
darts_long [] = refl
darts_long (e ∷ es) = ap suc (darts_long es)

entries_darts : (p : Plate) (a : List ℕ) (ws : List (List Bool)) → darts_of (face_entries p a ws) ≡ around p (sequence p)
entries_darts p a ws = lines_darts p a ws (sequence p)

pub plan_darts : (p : Plate) → darts_of (face_entries p [] []) ≡ around p (sequence p)
plan_darts p = entries_darts p [] []

module _ (p : Plate) (o : Ordered p) where
  abbrev Leads : List ℕ → Type 0
  Leads ds = (d : ℕ) → is_in d ds ≡ true → is_in d (faces p) ≡ true

  around_lead : (ds : List ℕ) → Leads ds → (x : ℕ) → is_in x (around p ds) ≡ true → (x < darts p) × (is_in (lead p x) ds ≡ true)
  around_lead [] h x k = absurd (in_none x k)
  around_lead (d ∷ ds) h x k = ⊎_elim here (λ q. later (around_lead ds (λ e j. h e (in_more e d ds j)) x q)) (in_append x (face_of p d) (around p ds) k)
    where
      d_in : is_in d (faces p) ≡ true
      d_in = h d (in_here d ds)

      here : is_in x (face_of p d) ≡ true → (x < darts p) × (is_in (lead p x) (d ∷ ds) ≡ true)
      here q =
          let l : x < darts p = face_below p o d (faces_below p d d_in) x q in
          (l, subst (λ (e : ℕ). is_in e (d ∷ ds) ≡ true) (face_lead p o d x l d_in q) (in_here d ds))

      later : (x < darts p) × (is_in (lead p x) ds ≡ true) → (x < darts p) × (is_in (lead p x) (d ∷ ds) ≡ true)
      later (l, q) = (l, in_more (lead p x) d ds q)

  around_distinct : (ds : List ℕ) → Leads ds → distinct ds ≡ true → distinct (around p ds) ≡ true
  around_distinct [] h k = refl
  around_distinct (d ∷ ds) h k =
      distinct_append (face_of p d) (around p ds) (face_distinct p o d (faces_below p d d_in))
      (around_distinct ds (λ e j. h e (in_more e d ds j)) (distinct_rest d ds k))
      (λ x a b.
      let (l, q) = around_lead ds (λ e j. h e (in_more e d ds j)) x b in
      not_both (subst (λ (e : ℕ). is_in e ds ≡ true) (sym (face_lead p o d x l d_in a)) q) (distinct_head d ds k))
    where
      d_in : is_in d (faces p) ≡ true
      d_in = h d (in_here d ds)

  around_in : (ds : List ℕ) (d x : ℕ) → is_in d ds ≡ true → is_in x (face_of p d) ≡ true → is_in x (around p ds) ≡ true
  around_in [] d x h k = absurd (in_none d h)
  around_in (e ∷ ds) d x h k =
      ⊎_elim (λ q. in_left x (face_of p e) (around p ds) (subst (λ (f : ℕ). is_in x (face_of p f) ≡ true) q k))
      (λ q. in_right x (face_of p e) (around p ds) (around_in ds d x q k)) (in_cases d e ds h)

  module _ (l : p.outer < darts p) where
    abbrev first : ℕ
    first = lead p p.outer

    sequence_leads : Leads (sequence p)
    sequence_leads d h = ⊎_elim (λ q. subst (λ (e : ℕ). is_in e (faces p) ≡ true) (sym q) (lead_in_faces p o p.outer l)) (λ q. out_in first d (faces p) q) (in_cases d first (without first (faces p)) h)

    sequence_distinct : distinct (sequence p) ≡ true
    sequence_distinct = distinct_more first (without first (faces p)) (not_true_false (is_in first (without first (faces p))) (not_out first (faces p))) (out_distinct first (faces p) (faces_distinct p))

    pub all-distinct : distinct (around p (sequence p)) ≡ true
    all-distinct = around_distinct (sequence p) sequence_leads sequence_distinct

    pub all-below : (x : ℕ) → is_in x (around p (sequence p)) ≡ true → x < darts p
    all-below x h = (around_lead (sequence p) sequence_leads x h).0

    lead_there : (x : ℕ) → x < darts p → is_in (lead p x) (sequence p) ≡ true
    lead_there x k =
        ⊎_elim (λ q. subst (λ (e : ℕ). is_in e (sequence p) ≡ true) q (in_here first (without first (faces p))))
        (λ q. in_more (lead p x) first (without first (faces p)) (in_out first (lead p x) (faces p) q (lead_in_faces p o x k)))
        (equal_or_not first (lead p x))

    pub all_there_lem : (x : ℕ) → x < darts p → is_in x (around p (sequence p)) ≡ true
    all_there_lem x k = around_in (sequence p) (lead p x) x (lead_there x k) (lead_face p o x k)

    all_many : length (around p (sequence p)) ≡ darts p
    all_many =
        length_members (darts p) (around p (sequence p)) all-distinct (all_of (darts p) (around p (sequence p)) all-below)
        ∙ sum_cong (darts p) (λ i. when (is_in i (around p (sequence p))) 1) (λ i. 1) (λ i k. ap (λ (b : Bool). when b 1) (all_there_lem i k))
        ∙ sum_ones (darts p)

    pub all_sum : (g : ℕ → ℕ) → sum_over (around p (sequence p)) g ≡ sum_below (darts p) g
    all_sum g =
        sum_over_members (darts p) (around p (sequence p)) all-distinct (all_of (darts p) (around p (sequence p)) all-below) g
        ∙ sum_cong (darts p) (λ i. when (is_in i (around p (sequence p))) (g i)) g (λ i k. ap (λ (b : Bool). when b (g i)) (all_there_lem i k))

-- every line is ended
line_closed : (b : Bool) (d : ℕ) (ds : List ℕ) (es : List Entry) → closed b (line [] [] (d ∷ ds) ++ es) ≡ closed true es
line_closed b d [] es = refl
line_closed b d (e ∷ ds) es = line_closed false e ds es

some_closed : (b : Bool) (x : ℕ) (ds : List ℕ) (es : List Entry) → is_in x ds ≡ true → closed b (line [] [] ds ++ es) ≡ closed true es
some_closed b x [] es h = absurd (in_none x h)
some_closed b x (d ∷ ds) es h = line_closed b d ds es

lines_closed : (p : Plate) (o : Ordered p) (ds : List ℕ) → ((d : ℕ) → is_in d ds ≡ true → d < darts p) → closed true (lines p [] [] ds) ≡ true
lines_closed p o [] h = refl
lines_closed p o (d ∷ ds) h =
    some_closed true d (face_of p d) (lines p [] [] ds) (face_start p o d (h d (in_here d ds)))
    ∙ lines_closed p o ds (λ e k. h e (in_more e d ds k))

pub plan_closed : (p : Plate) → Ordered p → p.outer < darts p → closed true (face_entries p [] []) ≡ true
plan_closed p o l = lines_closed p o (sequence p) (λ d h. faces_below p d (sequence_leads p o l d h))

pub plan_many : (p : Plate) → Ordered p → p.outer < darts p → length (face_entries p [] []) ≡ darts p
plan_many p o l = sym (darts_long (face_entries p [] [])) ∙ ap length (plan_darts p) ∙ all_many p o l

-- the lines in the request's words
faces_ascend : (p : Plate) (n a : ℕ) → ascending (faces_from n a p) ≡ true
faces_ascend p zero a = refl
faces_ascend p (suc n) a = go (is_lowest a (face_of p a)) (faces_ascend p n (suc a))
  where
    go : (b : Bool) → ascending (faces_from n (suc a) p) ≡ true → ascending (pick b (a ∷ []) [] ++ faces_from n (suc a) p) ≡ true
    go true ih = and_both (all_above a (faces_from n (suc a) p)) _ (in_above a (faces_from n (suc a) p) (λ y k. omega (arith, (from_in p n (suc a) y k).0))) ih
    go false ih = ih

first_dart : (p : Plate) (n d : ℕ) → 0 < n → get_or (walk_from n p d d) 0 0 ≡ d
first_dart p zero d l = absurd (omega arith)
first_dart p (suc n) d l = refl

pub by_faces : (p : Plate) → Ordered p → p.outer < darts p → ByFaces p
by_faces p o l =
    let lead-least-at : (x : ℕ) → x < darts p → lead p x ≤ x = λ x k. lead_least p o x k x (face_start p o x k) in
    record {
      outer_first = lead_face p o p.outer l;
      others_ascend = out_ascending (lead p p.outer) (faces p) (faces_ascend p (darts p) 0);
      starts = λ d k. first_dart p (darts p) d (omega (arith, faces_below p d (sequence_leads p o l d k)));
      smallest = λ d x k j.
          let d_in = sequence_leads p o l d k in
          let x_below : x < darts p = face_below p o d (faces_below p d d_in) x j in
          omega (arith, face_lead p o d x x_below d_in j, lead-least-at x x_below);
      once = λ a ws. ap distinct (entries_darts p a ws) ∙ all-distinct p o l;
      every = λ a ws d. (λ h. all-below p o l d (sym (ap (is_in d) (entries_darts p a ws)) ∙ h), λ k. ap (is_in d) (entries_darts p a ws) ∙ all_there_lem p o l d k);
    }
