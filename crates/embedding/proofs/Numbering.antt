-- All faces labelled, a dart at a time: faces are numbered by their lowest darts.
use mathlib.Core.Path.{◌≡◌, refl, sym, ap, ap₂, subst, ◌∙◌}
use mathlib.Core.Bool.{Bool, true, false, ◌&&◌, ◌||◌}
use mathlib.Core.List.{List, [], ◌∷◌, ◌++◌, append_assoc}
use Prim.Native.Nat.{ℕ, zero, suc, ◌+◌, ◌-◌, ◌≤◌, ◌<◌}
use native.Mathlib.Decide.{dec_lt}
use native.Mathlib.Omega.{arith}
use borrow.Author.Tests.{eqb-true, eqb-false, eq-eqb, ltb-true, ltb-false, lt-ltb, le-ltb}
use lib.Dec.{eqb, ltb}
use lib.ListN.{length, get_or, set, length-append, replicate, length-replicate, get_or-replicate, get_or-append, get_or-eq_default}
use lib.Seq.{get_or-append_seam}
use Rattle.finite.specs.Tables.{Table, up_to}
use Rattle.finite.specs.Walks.{walk, orbit, OneToOne, lowest}
use Rattle.finite.proofs.Orbit.{lead_lowest, leads, orbit_start, orbit_below, lead_le}
use Rattle.finite.proofs.Tables.{table_cong, table_set, up_below, up_from}
use Rattle.finite.proofs.Tests.{not_true_false, and_both, or_left_false, or_right_false}
use Rattle.embedding.specs.Plates.{pick, is_in, Plate, darts, after, face_of, is_lowest, faces_from}
use Rattle.embedding.specs.Steps.{next_of, FaceLabelled}
use Rattle.embedding.specs.Read.{lead, place_of, face_number, face_size, Follows, Numbered, FacesLabelled}
use Rattle.embedding.specs.declared.labels.Labelled.{Labelled}
use Rattle.embedding.proofs.Faces.{face_is, from_in}

append_none : (xs : List ℕ) → xs ++ [] ≡ xs
append_none [] = refl
append_none (x ∷ xs) = ap (λ (r : List ℕ). x ∷ r) (append_none xs)

-- walks of functions that agree below n
module _ (f g : ℕ → ℕ) (n : ℕ) (agree : (x : ℕ) → x < n → f x ≡ g x) (below : (x : ℕ) → x < n → g x < n) where
  pub walk_cong : (k s d : ℕ) → d < n → walk f k s d ≡ walk g k s d
  walk_cong zero s d l = refl
  walk_cong (suc k) s d l =
      ap (λ (y : ℕ). d ∷ elim (eqb y s) as (λ b. List ℕ) [ true ↦ [] | false ↦ walk f k s y ]) (agree d l)
      ∙ ap (λ (r : List ℕ). d ∷ elim (eqb (g d) s) as (λ b. List ℕ) [ true ↦ [] | false ↦ r ]) (walk_cong k s (g d) (below d l))

-- where an element that was not before it stands
place_append : (u : ℕ) (xs ys : List ℕ) → is_in u xs ≡ false → place_of u (xs ++ (u ∷ ys)) ≡ length xs
place_append u [] ys e = ap (λ (b : Bool). elim b as (λ b. ℕ) [ true ↦ 0 | false ↦ suc (place_of u ys) ]) (eq-eqb u u refl)
place_append u (x ∷ xs) ys e =
    ap (λ (b : Bool). elim b as (λ b. ℕ) [ true ↦ 0 | false ↦ suc (place_of u (xs ++ (u ∷ ys))) ]) (or_left_false (eqb u x) (is_in u xs) e)
    ∙ ap suc (place_append u xs ys (or_right_false (eqb u x) (is_in u xs) e))

ltb_next : (a d : ℕ) → ltb a (d + 1) ≡ eqb d a || ltb a d
ltb_next a d = go (ltb a (d + 1)) (eqb d a) (ltb a d) refl refl refl
  where
    go : (x y z : Bool) → ltb a (d + 1) ≡ x → eqb d a ≡ y → ltb a d ≡ z → x ≡ y || z
    go true true z p q r = refl
    go true false true p q r = refl
    go true false false p q r = absurd (eqb-false d a q (omega (arith, ltb-true, ltb-false)))
    go false true z p q r = absurd (omega (arith, ltb-false, eqb-true))
    go false false true p q r = absurd (omega (arith, ltb-true, ltb-false))
    go false false false p q r = refl

module _ (p : Plate) where
  faces_split : (m k a t : ℕ) → t ≡ m + k → faces_from t a p ≡ faces_from m a p ++ faces_from k (a + m) p
  faces_split zero k a t q = ap (λ (i : ℕ). faces_from i a p) {x = t} {y = k} (omega arith) ∙ ap (λ (j : ℕ). faces_from k j p) {x = a} {y = a + 0} (omega arith)
  faces_split (suc m) k a zero q = absurd (omega arith)
  faces_split (suc m) k a (suc t) q =
      ap (λ (r : List ℕ). pick (is_lowest a (face_of p a)) (a ∷ []) [] ++ r)
      (faces_split m k (suc a) t (omega arith) ∙ ap (λ (j : ℕ). faces_from m (suc a) p ++ faces_from k j p) {x = suc a + m} {y = a + suc m} (omega arith))
      ∙ sym (append_assoc (pick (is_lowest a (face_of p a)) (a ∷ []) []) (faces_from m (suc a) p) (faces_from k (a + suc m) p))

  -- one dart more
  faces_next : (d : ℕ) (b : Bool) → is_lowest d (face_of p d) ≡ b → faces_from (d + 1) 0 p ≡ faces_from d 0 p ++ pick b (d ∷ []) []
  faces_next d b e =
      faces_split d 1 0 (d + 1) refl
      ∙ ap (λ (j : ℕ). faces_from d 0 p ++ faces_from 1 j p) {x = 0 + d} {y = d} (omega arith)
      ∙ ap (λ (r : List ℕ). faces_from d 0 p ++ r) (append_none (pick (is_lowest d (face_of p d)) (d ∷ []) []) ∙ ap (λ (t : Bool). pick t (d ∷ []) []) e)

  place_is : (u n : ℕ) → u < n → is_lowest u (face_of p u) ≡ true → place_of u (faces_from n 0 p) ≡ length (faces_from u 0 p)
  place_is u n l e =
      ap (place_of u)
      (faces_split u (suc (n - suc u)) 0 n (omega arith)
      ∙ ap (λ (j : ℕ). faces_from u 0 p ++ faces_from (suc (n - suc u)) j p) {x = 0 + u} {y = u} (omega arith)
      ∙ ap (λ (t : Bool). faces_from u 0 p ++ (pick t (u ∷ []) [] ++ faces_from (n - suc u) (suc u) p)) e)
      ∙ place_append u (faces_from u 0 p) (faces_from (n - suc u) (suc u) p) (not_true_false (is_in u (faces_from u 0 p)) (λ h. let w = from_in p u 0 u h in omega arith))

  module _ (F : OneToOne (after p) (darts p)) where
    by_orbit : (P : (ℕ → List ℕ) → Type 0) → P (orbit (after p) (darts p)) → P (face_of p)
    by_orbit P h = subst P (sym (face_is p)) h

    leads_is : (d x : ℕ) → d < darts p → x < darts p → is_lowest d (face_of p d) && is_in x (face_of p d) ≡ eqb d (lead p x)
    leads_is d x l k = by_orbit (λ G. is_lowest d (G d) && is_in x (G d) ≡ eqb d (lowest x (G x))) (leads (after p) (darts p) F d x l k)

    own : (x : ℕ) → x < darts p → is_in x (face_of p x) ≡ true
    own x l = by_orbit (λ G. is_in x (G x) ≡ true) (orbit_start (after p) (darts p) F x l)

    lead_most : (x : ℕ) → x < darts p → lead p x ≤ x
    lead_most x l = by_orbit (λ G. lowest x (G x) ≤ x) (lead_le (after p) (darts p) F x l x (orbit_start (after p) (darts p) F x l))

    lead_is_lowest : (x : ℕ) → x < darts p → is_lowest (lead p x) (face_of p (lead p x)) ≡ true
    lead_is_lowest x l = by_orbit (λ G. is_lowest (lowest x (G x)) (G (lowest x (G x))) ≡ true) (lead_lowest (after p) (darts p) F x l)

    outside : (d x : ℕ) → d < darts p → darts p ≤ x → is_in x (face_of p d) ≡ false
    outside d x l k = not_true_false (is_in x (face_of p d)) (λ h. omega (arith, by_orbit (λ G. is_in x (G d) ≡ true → x < darts p) (orbit_below (after p) (darts p) F d l x) h))

    -- d led by a lower dart, or by itself
    led_low : (d : ℕ) → d < darts p → ltb (lead p d) d ≡ true → is_lowest d (face_of p d) ≡ false
    led_low d l e =
        not_true_false (is_lowest d (face_of p d))
        (λ h. omega (arith, eqb-true d (lead p d) (sym (leads_is d d l l) ∙ and_both (is_lowest d (face_of p d)) (is_in d (face_of p d)) h (own d l)), ltb-true (lead p d) d e))

    led_self : (d : ℕ) → d < darts p → ltb (lead p d) d ≡ false → is_lowest d (face_of p d) ≡ true
    led_self d l e =
        subst (λ (u : ℕ). is_lowest u (face_of p u) ≡ true) {x = lead p d} {y = d} (omega (arith, lead_most d l, ltb-false (lead p d) d e)) (lead_is_lowest d l)

    module _ (d : ℕ) (l : d < darts p) {face : List ℕ} {met : List Bool} {sizes : List ℕ} {count : ℕ} (h : Numbered p d face met sizes count) where
      -- d's face was labelled before
      pub numbered_same : get_or met d false ≡ true → Numbered p (d + 1) face met sizes count
      numbered_same e =
          record {
            counted = h.counted ∙ ap length (sym same);
            met_at = λ x k. h.met_at x k ∙ sym (still x k);
            face_table = table_cong 256 (up_to (darts p) (λ x. pick (ltb (lead p x) d) (length (faces_from (lead p x) 0 p)) 0)) (up_to (darts p) (λ x. pick (ltb (lead p x) (d + 1)) (length (faces_from (lead p x) 0 p)) 0)) face
                (λ x m. by x (dec_lt x (darts p))) h.face_table;
            size_table = subst (λ (fs : List ℕ). Table 256 (up_to count (λ k. length (face_of p (get_or fs k 0)))) sizes) (sym same) h.size_table;
          }
        where
          low : is_lowest d (face_of p d) ≡ false
          low = led_low d l (sym (h.met_at d l) ∙ e)

          same : faces_from (d + 1) 0 p ≡ faces_from d 0 p
          same = faces_next d false low ∙ append_none (faces_from d 0 p)

          still : (x : ℕ) → x < darts p → ltb (lead p x) (d + 1) ≡ ltb (lead p x) d
          still x k = ltb_next (lead p x) d ∙ ap (λ (t : Bool). t || ltb (lead p x) d) (sym (leads_is d x l k) ∙ ap (λ (t : Bool). t && is_in x (face_of p d)) low)

          by : (x : ℕ) → Dec (x < darts p) → up_to (darts p) (λ x. pick (ltb (lead p x) d) (length (faces_from (lead p x) 0 p)) 0) x ≡ up_to (darts p) (λ x. pick (ltb (lead p x) (d + 1)) (length (faces_from (lead p x) 0 p)) 0) x
          by x (yes k) = ap (λ (t : Bool). pick (ltb x (darts p)) (pick t (length (faces_from (lead p x) 0 p)) 0) 0) (sym (still x k))
          by x (no k) =
              up_from (darts p) (λ x. pick (ltb (lead p x) d) (length (faces_from (lead p x) 0 p)) 0) x (omega arith)
              ∙ sym (up_from (darts p) (λ x. pick (ltb (lead p x) (d + 1)) (length (faces_from (lead p x) 0 p)) 0) x (omega arith))

      -- d's face is new
      pub numbered_new : get_or met d false ≡ false → count < 256 → {face' : List ℕ} {met' : List Bool} {size : ℕ}
          → length face' ≡ 256 → ((x : ℕ) → get_or face' x 0 ≡ pick (is_in x (face_of p d)) count (get_or face x 0))
          → ((x : ℕ) → get_or met' x false ≡ is_in x (face_of p d) || get_or met x false) → size ≡ length (face_of p d)
          → Numbered p (d + 1) face' met' (set sizes count size) (count + 1)
      numbered_new e few {size = size} long gx mx sz =
          record {
            counted = omega (arith, h.counted, ap length next, length-append (faces_from d 0 p) (d ∷ []));
            met_at = λ x k. mx x ∙ ap₂ (λ (t u : Bool). t || u) (in_is x k) (h.met_at x k) ∙ sym (ltb_next (lead p x) d);
            face_table = record { size = long; at = λ x k. gx x ∙ by x k (dec_lt x (darts p)) };
            size_table = table_set 256 (up_to count (λ k. length (face_of p (get_or (faces_from d 0 p) k 0)))) (up_to (count + 1) (λ k. length (face_of p (get_or (faces_from (d + 1) 0 p) k 0)))) sizes count size h.size_table few
                (sz ∙ ap (λ (u : ℕ). length (face_of p u)) (sym last) ∙ sym (up_below (count + 1) (λ k. length (face_of p (get_or (faces_from (d + 1) 0 p) k 0))) count (omega arith)))
                (λ k q. earlier k q (dec_lt k count));
          }
        where
          low : is_lowest d (face_of p d) ≡ true
          low = led_self d l (sym (h.met_at d l) ∙ e)

          next : faces_from (d + 1) 0 p ≡ faces_from d 0 p ++ (d ∷ [])
          next = faces_next d true low

          in_is : (x : ℕ) → x < darts p → is_in x (face_of p d) ≡ eqb d (lead p x)
          in_is x k = ap (λ (t : Bool). t && is_in x (face_of p d)) (sym low) ∙ leads_is d x l k

          last : get_or (faces_from (d + 1) 0 p) count 0 ≡ d
          last = ap₂ (λ (fs : List ℕ) (k : ℕ). get_or fs k 0) next h.counted ∙ get_or-append_seam (faces_from d 0 p) d [] 0

          earlier : (k : ℕ) → (k ≡ count → ⊥) → Dec (k < count) → up_to (count + 1) (λ k. length (face_of p (get_or (faces_from (d + 1) 0 p) k 0))) k ≡ up_to count (λ k. length (face_of p (get_or (faces_from d 0 p) k 0))) k
          earlier k q (yes c) =
              up_below (count + 1) (λ k. length (face_of p (get_or (faces_from (d + 1) 0 p) k 0))) k (omega arith)
              ∙ ap (λ (u : ℕ). length (face_of p u)) (ap (λ (fs : List ℕ). get_or fs k 0) next ∙ get_or-append (faces_from d 0 p) (d ∷ []) 0 k (omega (arith, h.counted)))
              ∙ sym (up_below count (λ k. length (face_of p (get_or (faces_from d 0 p) k 0))) k c)
          earlier k q (no c) =
              up_from (count + 1) (λ k. length (face_of p (get_or (faces_from (d + 1) 0 p) k 0))) k (omega (arith, q))
              ∙ sym (up_from count (λ k. length (face_of p (get_or (faces_from d 0 p) k 0))) k (omega arith))

          -- the label of x, new or old
          label : (x : ℕ) (t u : Bool) → eqb d (lead p x) ≡ t → pick t count (pick u (length (faces_from (lead p x) 0 p)) 0) ≡ pick (t || u) (length (faces_from (lead p x) 0 p)) 0
          label x true u q = h.counted ∙ ap (λ (j : ℕ). length (faces_from j 0 p)) (eqb-true d (lead p x) q)
          label x false u q = refl

          by : (x : ℕ) → x < 256 → Dec (x < darts p) → pick (is_in x (face_of p d)) count (get_or face x 0) ≡ up_to (darts p) (λ x. pick (ltb (lead p x) (d + 1)) (length (faces_from (lead p x) 0 p)) 0) x
          by x b (yes k) =
              ap₂ (λ (t : Bool) (y : ℕ). pick t count y) (in_is x k) (h.face_table.at x b ∙ up_below (darts p) (λ x. pick (ltb (lead p x) d) (length (faces_from (lead p x) 0 p)) 0) x k)
              ∙ label x (eqb d (lead p x)) (ltb (lead p x) d) refl
              ∙ ap (λ (t : Bool). pick t (length (faces_from (lead p x) 0 p)) 0) (sym (ltb_next (lead p x) d))
              ∙ sym (up_below (darts p) (λ x. pick (ltb (lead p x) (d + 1)) (length (faces_from (lead p x) 0 p)) 0) x k)
          by x b (no k) =
              ap₂ (λ (t : Bool) (y : ℕ). pick t count y) (outside d x l (omega arith)) (h.face_table.at x b ∙ up_from (darts p) (λ x. pick (ltb (lead p x) d) (length (faces_from (lead p x) 0 p)) 0) x (omega arith))
              ∙ sym (up_from (darts p) (λ x. pick (ltb (lead p x) (d + 1)) (length (faces_from (lead p x) 0 p)) 0) x (omega arith))

    pub numbered_done : (d : ℕ) → d ≡ darts p → (s : Labelled) → Numbered p d s.face s.met s.sizes s.faces → FacesLabelled p s
    numbered_done d q s h =
        record {
          count = h.counted ∙ ap (λ (k : ℕ). length (faces_from k 0 p)) q;
          face = table_cong 256 (up_to (darts p) (λ x. pick (ltb (lead p x) d) (length (faces_from (lead p x) 0 p)) 0)) (up_to (darts p) (face_number p)) s.face (λ x m. by x (dec_lt x (darts p))) h.face_table;
          sizes = subst (λ (k : ℕ). Table 256 (up_to k (face_size p)) s.sizes) (h.counted ∙ ap (λ (k : ℕ). length (faces_from k 0 p)) q)
              (subst (λ (k : ℕ). Table 256 (up_to s.faces (λ i. length (face_of p (get_or (faces_from k 0 p) i 0)))) s.sizes) q h.size_table);
        }
      where
        by : (x : ℕ) → Dec (x < darts p) → up_to (darts p) (λ x. pick (ltb (lead p x) d) (length (faces_from (lead p x) 0 p)) 0) x ≡ up_to (darts p) (face_number p) x
        by x (yes k) =
            ap (λ (y : ℕ). pick (ltb x (darts p)) y 0)
            (ap (λ (t : Bool). pick t (length (faces_from (lead p x) 0 p)) 0) (lt-ltb (lead p x) d (omega (arith, lead_most x k)))
            ∙ sym (place_is (lead p x) (darts p) (omega (arith, lead_most x k)) (lead_is_lowest x k)))
        by x (no k) = up_from (darts p) (λ x. pick (ltb (lead p x) d) (length (faces_from (lead p x) 0 p)) 0) x (omega arith) ∙ sym (up_from (darts p) (face_number p) x (omega arith))

-- the code's next darts against p
module _ {p : Plate} {n : ℕ} {next : List ℕ} (w : Follows p n next) (b : n ≤ 256) (o : OneToOne (next_of next) n) where
  agree : (x : ℕ) → x < darts p → next_of next x ≡ after p x
  agree x l = w.table.at x (omega (arith, w.many)) ∙ up_below (darts p) (after p) x l

  pub follows_one : OneToOne (after p) (darts p)
  follows_one =
      record {
        below = λ x l. subst (λ (y : ℕ). y < darts p) (agree x l) (omega (arith, w.many, o.below x (omega (arith, w.many))));
        one = λ x y l k q. o.one x y (omega (arith, w.many)) (omega (arith, w.many)) (agree x l ∙ q ∙ sym (agree y k));
      }

  pub follows_face : (d : ℕ) → d < n → orbit (next_of next) n d ≡ face_of p d
  follows_face d l =
      ap (λ (k : ℕ). walk (next_of next) k d d) w.many ∙ walk_cong (next_of next) (after p) (darts p) agree follows_one.below (darts p) d d (omega (arith, w.many))
      ∙ ap (λ (G : ℕ → List ℕ). G d) (sym (face_is p))

  module _ (d : ℕ) (l : d < n) {face : List ℕ} {met : List Bool} {sizes : List ℕ} {count : ℕ} where
    -- what labelling d's face gives
    pub numbered_more : {face' : List ℕ} {met' : List Bool} {size : ℕ} → count ≤ d → get_or met d false ≡ false → length face' ≡ 256 → FaceLabelled next n d count face met face' met' size
        → Numbered p d face met sizes count → Numbered p (d + 1) face' met' (set sizes count size) (count + 1)
    numbered_more few e long a h =
        numbered_new p follows_one d (omega (arith, w.many)) h e (omega arith) long
        (λ x. a.face_at x ∙ ap (λ (ds : List ℕ). pick (is_in x ds) count (get_or face x 0)) (follows_face d l))
        (λ x. a.met_at x ∙ ap (λ (ds : List ℕ). is_in x ds || get_or met x false) (follows_face d l))
        (a.sized ∙ ap length (follows_face d l))

    pub numbered_kept : get_or met d false ≡ true → Numbered p d face met sizes count → Numbered p (d + 1) face met sizes count
    numbered_kept e h = numbered_same p follows_one d (omega (arith, w.many)) h e

  pub numbered_all : (d : ℕ) → n ≤ d → d ≤ n → (s : Labelled) → Numbered p d s.face s.met s.sizes s.faces → FacesLabelled p s
  numbered_all d l k s h = numbered_done p follows_one d (omega (arith, w.many)) s h

pub numbered_none : (p : Plate) → Numbered p 0 (replicate 256 0) (replicate 256 false) (replicate 256 0) 0
numbered_none p =
    record {
      counted = refl;
      met_at = λ x l. none x (dec_lt x 256) ∙ sym (le-ltb (lead p x) 0 (omega arith));
      face_table = record { size = length-replicate {A = ℕ} 256 0; at = λ x l. get_or-replicate {A = ℕ} 256 x 0 0 l ∙ sym (by x (ltb x (darts p))) };
      size_table = record { size = length-replicate {A = ℕ} 256 0; at = λ k l. get_or-replicate {A = ℕ} 256 k 0 0 l ∙ sym (up_from 0 (λ k. length (face_of p (get_or [] k 0))) k (omega arith)) };
    }
  where
    none : (x : ℕ) → Dec (x < 256) → get_or (replicate 256 false) x false ≡ false
    none x (yes l) = get_or-replicate 256 x false false l
    none x (no l) = get_or-eq_default (replicate 256 false) false {n = x} (omega (arith, length-replicate 256 false))

    by : (x : ℕ) (t : Bool) → pick t (pick (ltb (lead p x) 0) (length (faces_from (lead p x) 0 p)) 0) 0 ≡ 0
    by x true = ap (λ (u : Bool). pick u (length (faces_from (lead p x) 0 p)) 0) (le-ltb (lead p x) 0 (omega arith))
    by x false = refl
