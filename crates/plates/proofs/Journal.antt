-- The list after a step: its fields stand in tag order with lengths as laid out, so the walk takes them; its plate is the step's, which is accepted; limits and prices are one field each, and one law serves both.
use mathlib.Core.Path.{◌≡◌, refl, sym, ap, ap₂, ◌∙◌}
use mathlib.Core.Bool.{Bool, true, false, ◌&&◌, ◌||◌, not}
use mathlib.Core.List.{List, [], ◌∷◌, ◌++◌, append-nil}
use Prim.Native.Nat.{ℕ, zero, suc, ◌+◌, ◌*◌, ◌%◌, ◌≤◌, ◌<◌}
use native.Mathlib.Omega.{arith}
use borrow.Author.Tests.{eqb-true, eq-eqb, le-leb}
use lib.Dec.{eqb, ltb, leb}
use lib.ListN.{length, get_or, set, length-append, length-set, get_or-append}
use lib.Seq.{get_or_at}
use Rattle.finite.proofs.Tests.{and_left, and_right, and_both}
use Rattle.fields.proofs.Laid.{absent_none}
use Rattle.fields.proofs.Rising.{bytes_row, bytes_cons_long}
use Rattle.fields.proofs.Runs.{Run, ended, run_answer}
use Rattle.fields.proofs.Sorted.{run_front}
use Rattle.embedding.specs.Read.{Accepted}
use Rattle.embedding.proofs.Degrees.{darts_few}
use Rattle.embedding.proofs.Editing.{accepted_ordered}
use Rattle.embedding.proofs.Faultless.{faultless}
use Rattle.embedding.proofs.Replays.{editing}
use Rattle.plates.specs.Answers.{Listed}
use Rattle.plates.specs.Plates.{pick, first_of, when, Plate, darts, strips, ends_at, plate_fault}
use Rattle.plates.specs.Shapes.{prices_ok}
use Rattle.plates.specs.Files.{Field, Walk, walk, tag_ok, long_ok, has_tag, content_of, add_field, last_tag, walk_all, fault_from, limits_fit, prices_fit, list_fault, plate_in, plate_of, limits_of, prices_of, is_priced}
use Rattle.plates.specs.Ordering.{bytes_in}
use Rattle.plates.specs.Journal.{Step, Split, Hang, Join, step_fault, stepped, replayed, new_rate, new_limit, new_price, rate_with, plate_fields, fields_after, list_after, edit_fault, EditWith, EditSays, replayed_list, AfterStep, Journal}
use Rattle.plates.proofs.Contents.{list_fields}
use Rattle.plates.proofs.Lists.{list_walked, list_accepted, priced_fit, list_fair, limits_each, prices_each}
use Rattle.plates.proofs.OneAnswer.{gives_only}

-- a step makes one strip
pub step_darts : (p : Plate) (t : Step) → darts (stepped p t) ≡ suc (suc (darts p))
step_darts p (Split s) =
    omega (arith, length-append (set p.ends (suc (2 * s)) p.posts) (p.posts ∷ (get_or p.ends (suc (2 * s)) 0 ∷ [])), length-set p.ends (suc (2 * s)) p.posts)
step_darts p (Hang d) = omega (arith, length-append p.ends (ends_at p d ∷ (p.posts ∷ [])))
step_darts p (Join d e) = omega (arith, length-append p.ends (ends_at p d ∷ (ends_at p e ∷ [])))

-- ---- one field of limits or prices, or nothing
abbrev rate_if : ℕ → Bool → List ℕ → List Field
rate_if t b c = pick b (record { tag = t; content = c } ∷ []) []

rate_long : (t : ℕ) (fs : List Field) (n : ℕ) → length (bytes_in (rate_with t fs n)) ≡ when (has_tag t fs) (4 + length (content_of t fs))
rate_long t fs n = by (has_tag t fs)
  where
    by : (b : Bool) → length (bytes_in (rate_if t b (content_of t fs ++ (n ∷ [])))) ≡ when b (4 + length (content_of t fs))
    by true = omega (arith, bytes_cons_long (record { tag = t; content = content_of t fs ++ (n ∷ []) }) [], length-append (content_of t fs) (n ∷ []))
    by false = refl

-- the bytes of both fields
rates_long : (fs : List Field) (n m : ℕ) → length (bytes_in (rate_with 7 fs n ++ rate_with 8 fs m)) ≡ when (has_tag 7 fs) (4 + length (content_of 7 fs)) + when (has_tag 8 fs) (4 + length (content_of 8 fs))
rates_long fs n m =
    omega (arith, ap (length {A = ℕ}) (bytes_row (rate_with 7 fs n) (rate_with 8 fs m)), length-append (bytes_in (rate_with 7 fs n)) (bytes_in (rate_with 8 fs m)), rate_long 7 fs n, rate_long 8 fs m)

-- behind fields with lower tags
rate_run : (met : List Field) (t : ℕ) (c : List ℕ) (rest : List Field) (b : Bool) → tag_ok false t ≡ true → has_tag t met ≡ false → ltb t (last_tag met) ≡ false → (b ≡ true → long_ok false t (length c) ≡ true)
    → Run true false (pick b (add_field met (record { tag = t; content = c })) met) (bytes_in rest) rest → Run true false met (bytes_in (rate_if t b c ++ rest)) (rate_if t b c ++ rest)
rate_run met t c rest true tag new above long r = run_front met t c (bytes_in rest) rest refl tag new above (long refl) r
rate_run met t c rest false tag new above long r = r

-- what a test of the content says of the field
rate_fits : (test : List ℕ → Bool) (b : Bool) (c : List ℕ) {h : Bool} {x : List ℕ} → h ≡ b → x ≡ pick b c [] → (b ≡ true → test c ≡ true) → (not h || test x) ≡ true
rate_fits test b c there is passes = ap₂ (λ (h : Bool) (x : List ℕ). not h || test x) there is ∙ by b passes
  where
    by : (b : Bool) → (b ≡ true → test c ≡ true) → (not b || test (pick b c [])) ≡ true
    by true k = k refl
    by false k = refl

-- one more behind xs, by a step, where e is what a strip has with none given
module _ (e : ℕ) (xs : List ℕ) (t : Step) where
  abbrev with_one : List ℕ
  with_one = xs ++ (new_rate e xs t ∷ [])

  one_longer : (p : Plate) → length xs ≡ strips p → length with_one ≡ strips (stepped p t)
  one_longer p h = omega (arith, length-append xs (new_rate e xs t ∷ []), h, step_darts p t)

  rate_stays : (n : ℕ) (b : Bool) → (b ≡ true → length xs ≡ n) → (b ≡ false → xs ≡ []) → (i : ℕ) → i < n → get_or (pick b with_one []) i e ≡ get_or xs i e
  rate_stays n true h k i l = get_or-append xs (new_rate e xs t ∷ []) e i (omega (arith, h refl))
  rate_stays n false h k i l = ap (λ (c : List ℕ). get_or c i e) (sym (k refl))

  rate_comes : (n : ℕ) (b : Bool) → (b ≡ true → length xs ≡ n) → (b ≡ false → xs ≡ []) → get_or (pick b with_one []) n e ≡ new_rate e xs t
  rate_comes n true h k = get_or_at xs (new_rate e xs t) [] e n (h refl)
  rate_comes n false h k = sym (of_none t) ∙ ap (λ (c : List ℕ). new_rate e c t) (sym (k refl))
    where
      of_none : (t : Step) → new_rate e [] t ≡ e
      of_none (Split i) = refl
      of_none (Hang d) = refl
      of_none (Join d f) = refl

-- prices and one more, 1 to 100
prices_more : (ps : List ℕ) (x : ℕ) → prices_ok ps ≡ true → 1 ≤ x → x ≤ 100 → prices_ok (ps ++ (x ∷ [])) ≡ true
prices_more [] x e l h = and_both (leb 1 x) (leb x 100 && true) (le-leb 1 x l) (and_both (leb x 100) true (le-leb x 100 h) refl)
prices_more (q ∷ qs) x e l h =
    let rest = and_right (leb 1 q) (leb q 100 && prices_ok qs) e in
    and_both (leb 1 q) (leb q 100 && prices_ok (qs ++ (x ∷ []))) (and_left (leb 1 q) (leb q 100 && prices_ok qs) e)
    (and_both (leb q 100) (prices_ok (qs ++ (x ∷ []))) (and_left (leb q 100) (prices_ok qs) rest) (prices_more qs x (and_right (leb q 100) (prices_ok qs) rest) l h))

-- ---- a plate's fields in tag order
module _ (revision : List ℕ) (p : Plate) (rest : List Field) where
  abbrev from_5 : List Field
  from_5 = record { tag = 5; content = p.outer ∷ [] } ∷ rest

  abbrev from_4 : List Field
  from_4 = record { tag = 4; content = p.order } ∷ from_5

  abbrev from_3 : List Field
  from_3 = record { tag = 3; content = p.ends } ∷ from_4

  abbrev from_2 : List Field
  from_2 = record { tag = 2; content = p.posts ∷ [] } ∷ from_3

  pub plate_fields_long : length (bytes_in (plate_fields revision p rest)) ≡ 17 + length revision + length p.ends + length p.order + length (bytes_in rest)
  plate_fields_long =
      omega (
        arith,
        bytes_cons_long (record { tag = 1; content = revision }) from_2,
        bytes_cons_long (record { tag = 2; content = p.posts ∷ [] }) from_3,
        bytes_cons_long (record { tag = 3; content = p.ends }) from_4,
        bytes_cons_long (record { tag = 4; content = p.order }) from_5,
        bytes_cons_long (record { tag = 5; content = p.outer ∷ [] }) rest,
      )

-- both fields behind a plate
module _ (revision : List ℕ) (p : Plate) where
  abbrev rated : Bool → Bool → List ℕ → List ℕ → List Field
  rated b d c e = plate_fields revision p (rate_if 7 b c ++ rate_if 8 d e)

  has_limits : (b d : Bool) (c e : List ℕ) → (has_tag 7 (rated b d c e) ≡ b) × (content_of 7 (rated b d c e) ≡ pick b c [])
  has_limits true d c e = (refl, refl)
  has_limits false true c e = (refl, refl)
  has_limits false false c e = (refl, refl)

  has_prices : (b d : Bool) (c e : List ℕ) → (has_tag 8 (rated b d c e) ≡ d) × (content_of 8 (rated b d c e) ≡ pick d e [])
  has_prices true true c e = (refl, refl)
  has_prices true false c e = (refl, refl)
  has_prices false true c e = (refl, refl)
  has_prices false false c e = (refl, refl)

  -- the fields met before the prices
  abbrev unpriced : Bool → List ℕ → List Field
  unpriced b c = pick b (add_field (plate_fields revision p []) (record { tag = 7; content = c })) (plate_fields revision p [])

  no_prices : (b : Bool) (c : List ℕ) → (has_tag 8 (unpriced b c) ≡ false) × (ltb 8 (last_tag (unpriced b c)) ≡ false)
  no_prices true c = (refl, refl)
  no_prices false c = (refl, refl)

-- a plate in order with its limits and prices, one for each strip
record Rated (revision : List ℕ) (p : Plate) (b d : Bool) (c e : List ℕ) : Type 0 where
  two_long : length revision ≡ 2
  accepted : Accepted p
  limits-fit : b ≡ true → length c ≡ strips p
  prices-fit : d ≡ true → length e ≡ strips p
  prices-ok : d ≡ true → prices_ok e ≡ true

module _ {revision : List ℕ} {p : Plate} {b d : Bool} {c e : List ℕ} (r : Rated revision p b d c e) where
  abbrev fields : List Field
  fields = rated revision p b d c e

  darts_most : darts p ≤ 256
  darts_most = darts_few p (faultless p r.accepted.no_fault) (accepted_ordered p r.accepted)

  order_long : length p.order ≡ darts p
  order_long = (faultless p r.accepted.no_fault).all_ordered

  few : (xs : List ℕ) → length xs ≡ strips p → leb (length xs) 128 ≡ true
  few xs h = le-leb (length xs) 128 (omega (arith, h, darts_most))

  rates_run : Run true false (plate_fields revision p []) (bytes_in (rate_if 7 b c ++ rate_if 8 d e)) (rate_if 7 b c ++ rate_if 8 d e)
  rates_run =
      let none = no_prices revision p b c in
      rate_run (plate_fields revision p []) 7 c (rate_if 8 d e) b refl refl refl (λ h. few c (r.limits-fit h))
      (prices_run d (rate_run (unpriced revision p b c) 8 e [] d refl none.0 none.1 (λ h. few e (r.prices-fit h)) (ended refl)))
    where
      prices_run : (d : Bool) → Run true false (unpriced revision p b c) (bytes_in (rate_if 8 d e ++ [])) (rate_if 8 d e ++ []) → Run true false (unpriced revision p b c) (bytes_in (rate_if 8 d e)) (rate_if 8 d e)
      prices_run true w = w
      prices_run false w = w

  run : Run true false [] (bytes_in fields) fields
  run =
      let rest = rate_if 7 b c ++ rate_if 8 d e in
      let f1 : Field = record { tag = 1; content = revision } in
      let f2 : Field = record { tag = 2; content = p.posts ∷ [] } in
      let f3 : Field = record { tag = 3; content = p.ends } in
      let f4 : Field = record { tag = 4; content = p.order } in
      run_front [] 1 revision (bytes_in (from_2 revision p rest)) (from_2 revision p rest) refl refl refl refl (eq-eqb (length revision) 2 r.two_long)
      (run_front (f1 ∷ []) 2 (p.posts ∷ []) (bytes_in (from_3 revision p rest)) (from_3 revision p rest) refl refl refl refl refl
      (run_front (f1 ∷ (f2 ∷ [])) 3 p.ends (bytes_in (from_4 revision p rest)) (from_4 revision p rest) refl refl refl refl
      (and_both (leb (darts p) 256) (eqb (darts p % 2) 0) (le-leb (darts p) 256 darts_most) (eq-eqb (darts p % 2) 0 r.accepted.even_darts))
      (run_front (f1 ∷ (f2 ∷ (f3 ∷ []))) 4 p.order (bytes_in (from_5 revision p rest)) (from_5 revision p rest) refl refl refl refl
      (le-leb (length p.order) 256 (omega (arith, order_long, darts_most)))
      (run_front (f1 ∷ (f2 ∷ (f3 ∷ (f4 ∷ [])))) 5 (p.outer ∷ []) (bytes_in rest) rest refl refl refl refl refl
      rates_run))))

  plate_walked : walk_all false (bytes_in fields) ≡ walk 0 fields
  plate_walked = run_answer true false (bytes_in fields) fields run refl

  all_limits : limits_fit fields ≡ true
  all_limits =
      let (there, is) = has_limits revision p b d c e in
      rate_fits (λ (l : List ℕ). eqb (length l) (strips p)) b c there is (λ h. eq-eqb (length c) (strips p) (r.limits-fit h))

  all_prices : prices_fit fields ≡ true
  all_prices =
      let (there, is) = has_prices revision p b d c e in
      rate_fits (λ (l : List ℕ). eqb (length l) (strips p) && prices_ok l) d e there is (λ h. and_both (eqb (length e) (strips p)) (prices_ok e) (eq-eqb (length e) (strips p) (r.prices-fit h)) (r.prices-ok h))

  plate_accepted : list_fault (bytes_in fields) ≡ 0
  plate_accepted =
      ap (fault_from plate_fault) plate_walked
      ∙ ap₂ (λ (x y : ℕ). first_of x y) r.accepted.no_fault (ap₂ (λ (x y : Bool). first_of (when (not x) 23) (when (not y) 38)) all_limits all_prices)

-- ---- the list after a step
module _ (s : List ℕ) (t : Step) (none : list_fault s ≡ 0) (go : step_fault (plate_of s) t ≡ 0) where
  abbrev fs : List Field
  fs = (walk_all false s).fields

  abbrev p : Plate
  p = plate_of s

  abbrev q : Plate
  q = stepped p t

  abbrev more_limits : List ℕ
  more_limits = with_one 255 (limits_of s) t

  abbrev more_prices : List ℕ
  more_prices = with_one 1 (prices_of s) t

  price_fair : (t : Step) → (1 ≤ new_price (prices_of s) t) × (new_price (prices_of s) t ≤ 100)
  price_fair (Split i) = ((list_fair s none).some_price i, (list_fair s none).price_most i)
  price_fair (Hang d) = (omega arith, omega arith)
  price_fair (Join d e) = (omega arith, omega arith)

  old_ok : is_priced s ≡ true → prices_ok (prices_of s) ≡ true
  old_ok h = and_right (eqb (length (prices_of s)) (strips p)) _ (priced_fit s none h)

  grown : Rated (content_of 1 fs) q (has_tag 7 fs) (has_tag 8 fs) more_limits more_prices
  grown =
      record {
        two_long = (list_fields s (list_walked s none)).revision;
        accepted = (editing.step p (list_accepted s none) t go).accepted;
        limits-fit = λ h. one_longer 255 (limits_of s) t p (limits_each s none h);
        prices-fit = λ h. one_longer 1 (prices_of s) t p (prices_each s none h);
        prices-ok = λ h. prices_more (prices_of s) (new_price (prices_of s) t) (old_ok h) (price_fair t).0 (price_fair t).1;
      }

  walked : walk_all false (list_after s t) ≡ walk 0 (fields_after fs t)
  walked = plate_walked grown

  limits_now : limits_of (list_after s t) ≡ pick (has_tag 7 fs) more_limits []
  limits_now = ap (λ (w : Walk). content_of 7 w.fields) walked ∙ (has_limits (content_of 1 fs) q (has_tag 7 fs) (has_tag 8 fs) more_limits more_prices).1

  prices_now : prices_of (list_after s t) ≡ pick (has_tag 8 fs) more_prices []
  prices_now = ap (λ (w : Walk). content_of 8 w.fields) walked ∙ (has_prices (content_of 1 fs) q (has_tag 7 fs) (has_tag 8 fs) more_limits more_prices).1

  longest : length (list_after s t) ≤ 793
  longest =
      omega (
        arith,
        plate_fields_long (content_of 1 fs) q (rate_with 7 fs (new_limit (limits_of s) t) ++ rate_with 8 fs (new_price (prices_of s) t)),
        grown.two_long,
        order_long grown,
        darts_most grown,
        rates_long fs (new_limit (limits_of s) t) (new_price (prices_of s) t),
        by (limits_of s) (has_tag 7 fs) (limits_each s none),
        by (prices_of s) (has_tag 8 fs) (prices_each s none),
      )
    where
      by : (xs : List ℕ) (b : Bool) → (b ≡ true → length xs ≡ strips p) → when b (4 + length xs) ≤ 131
      by xs true h = omega (arith, h refl, step_darts p t, darts_most grown)
      by xs false h = omega arith

  same_without : is_priced s ≡ false → fields_after fs t ≡ plate_fields (content_of 1 fs) q (rate_with 7 fs (new_limit (limits_of s) t))
  same_without h =
      let limits = rate_with 7 fs (new_limit (limits_of s) t) in
      let price : Field = record { tag = 8; content = prices_of s ++ (new_price (prices_of s) t ∷ []) } in
      ap (λ (b : Bool). plate_fields (content_of 1 fs) q (limits ++ pick b (price ∷ []) [])) h ∙ ap (plate_fields (content_of 1 fs) q) (append-nil limits)

  after_step : AfterStep s t
  after_step =
      let no_limits = absent_none 7 fs in
      let no_prices = absent_none 8 fs in
      record {
        walked = walked;
        accepted = plate_accepted grown;
        plate = ap (λ (w : Walk). plate_in w.fields) walked;
        revision = ap (λ (w : Walk). content_of 1 w.fields) walked;
        limited = ap (λ (w : Walk). has_tag 7 w.fields) walked ∙ (has_limits (content_of 1 fs) q (has_tag 7 fs) (has_tag 8 fs) more_limits more_prices).0;
        old_limits = λ i l. ap (λ (c : List ℕ). get_or c i 255) limits_now ∙ rate_stays 255 (limits_of s) t (strips p) (has_tag 7 fs) (limits_each s none) no_limits i l;
        new-limit = ap (λ (c : List ℕ). get_or c (strips p) 255) limits_now ∙ rate_comes 255 (limits_of s) t (strips p) (has_tag 7 fs) (limits_each s none) no_limits;
        priced = ap (λ (w : Walk). has_tag 8 w.fields) walked ∙ (has_prices (content_of 1 fs) q (has_tag 7 fs) (has_tag 8 fs) more_limits more_prices).0;
        old_prices = λ i l. ap (λ (c : List ℕ). get_or c i 1) prices_now ∙ rate_stays 1 (prices_of s) t (strips p) (has_tag 8 fs) (prices_each s none) no_prices i l;
        new-price = ap (λ (c : List ℕ). get_or c (strips p) 1) prices_now ∙ rate_comes 1 (prices_of s) t (strips p) (has_tag 8 fs) (prices_each s none) no_prices;
        unpriced = same_without;
        longest = longest;
      }

replay : (s : List ℕ) (ts : List Step) → list_fault s ≡ 0 → (list_fault (replayed_list s ts) ≡ 0) × (plate_of (replayed_list s ts) ≡ replayed (plate_of s) ts)
replay s [] none = (none, refl)
replay s (t ∷ ts) none = by (eqb (step_fault (plate_of s) t) 0) (eqb-true (step_fault (plate_of s) t) 0) (replay (list_after s t) ts)
  where
    by : (b : Bool) → (b ≡ true → step_fault (plate_of s) t ≡ 0)
        → (list_fault (list_after s t) ≡ 0 → (list_fault (replayed_list (list_after s t) ts) ≡ 0) × (plate_of (replayed_list (list_after s t) ts) ≡ replayed (plate_of (list_after s t)) ts))
        → (list_fault (pick b (replayed_list (list_after s t) ts) s) ≡ 0) × (plate_of (pick b (replayed_list (list_after s t) ts) s) ≡ pick b (replayed (stepped (plate_of s) t) ts) (plate_of s))
    by true h more =
        let after = after_step s t none (h refl) in
        let rest = more after.accepted in
        (rest.0, rest.1 ∙ ap (λ (p : Plate). replayed p ts) after.plate)
    by false h more = (none, refl)

edit_only : (s : List ℕ) (t : Step) (o o₁ o₂ : List ℕ) (r q : Listed) → EditSays s t o o₁ r → EditSays s t o o₂ q → (o₁ ≡ o₂) × (r ≡ q)
edit_only s t o o₁ o₂ r q = with_number (edit_fault s t)
  where
    with_number : (n : ℕ) → EditWith n s t o o₁ r → EditWith n s t o o₂ q → (o₁ ≡ o₂) × (r ≡ q)
    with_number zero g h = gives_only (list_after s t) (list_after s t) o o₁ o₂ r q refl g h
    with_number (suc n) (x, l, e) (y, k, f) =
        let number : r.number ≡ q.number = x ∙ sym y in
        let long : r.long ≡ q.long = l ∙ sym k in
        (e ∙ sym f, λ i. record { number = number i; long = long i })

pub journal : Journal
journal = record { editing = editing; after = after_step; replay = replay; one_answer = edit_only }
