-- Post by post: the degrees as counted, and the parts of the order.
use mathlib.Core.Path.{◌≡◌, refl, sym, ap, ap₂, subst, ◌∙◌}
use mathlib.Core.Bool.{Bool, true, false, ◌&&◌}
use Rattle.std.proofs.Common.{Option, Some, None, is_some}
use mathlib.Core.List.{List, [], ◌++◌}
use mathlib.Core.Logic.{⊎_elim}
use Prim.Native.Nat.{ℕ, suc, ◌+◌, ◌-◌, ◌*◌, ◌/◌, ◌%◌, ◌≤◌, ◌<◌}
use native.Mathlib.Decide.{dec_lt}
use native.Mathlib.Numerals.{add-one}
use native.Mathlib.Omega.{arith}
use lib.ListN.{length, get_or, take, drop, set, length-set, length-append, length-drop, replicate, length-replicate, get_or-append, get_or-replicate, get_or-eq_default}
use lib.Seq.{get_or-set_same, get_or-set_other, get_or-take, get_or-drop, get_or-append_right, length-take-le}
use borrow.Rule.Slice.PartMut.{put_mid, post_of}
use Rattle.finite.specs.Tables.{Table, up_to}
use Rattle.finite.proofs.Tables.{table_cong, up_below, up_from, up_more}
use Rattle.finite.proofs.Tests.{equal_or_not, and_assoc}
use Rattle.embedding.specs.Plates.{Plate, plate, degree_from, degree, before, part_of, distinct, all_leave, parts_ok}
use Rattle.embedding.specs.Steps.{Few, PostRead, OrderRead}
use Rattle.embedding.specs.Meant.{place_in}
use Rattle.embedding.proofs.Rotation.{before_most}

-- a test of all posts that goes from post to post, n - v of them left at v
module _ (F : ℕ → ℕ → Bool) (n v : ℕ) (so_far : F (n - v) v ≡ F n 0) where
  pub this : v < n → F (suc (n - (v + 1))) v ≡ F n 0
  this l = ap (λ (k : ℕ). F k v) {x = suc (n - (v + 1))} {y = n - v} (omega arith) ∙ so_far

  pub no_more : n ≤ v → F 0 v ≡ F n 0
  no_more l = ap (λ (k : ℕ). F k v) {x = 0} {y = n - v} (omega arith) ∙ so_far

-- the degree of a post, as counted
module _ {n : ℕ} {e degrees : List ℕ} (b : n ≤ 64) (f : Few n e degrees) where
  pub few_at : (v : ℕ) → v < n → get_or degrees v 0 ≡ degree_from v e
  few_at v l = f.table.at v (omega arith) ∙ up_below n (λ u. degree_from u e) v l

  pub few_most : (v : ℕ) → get_or degrees v 0 ≤ 4
  few_most v = go (dec_lt v n) (dec_lt v 64)
    where
      go : Dec (v < n) → Dec (v < 64) → get_or degrees v 0 ≤ 4
      go (yes l) k = omega (arith, few_at v l, f.most v l)
      go (no l) (yes k) = omega (arith, f.table.at v k, up_from n (λ u. degree_from u e) v (omega arith))
      go (no l) (no k) = omega (arith, get_or-eq_default degrees 0 {n = v} (omega (arith, f.table.size)))

-- the order
pub record Gathering (n : ℕ) (e o : List ℕ) (v at : ℕ) (rows : List (List ℕ)) : Type 0 where
  pub parts : (x : ℕ) → parts_ok (n - v) v (plate n e o x) ≡ parts_ok n 0 (plate n e o x)
  pub place : (x : ℕ) → at ≡ before (plate n e o x) v
  pub size : length rows ≡ 64
  pub rows_at : (x u : ℕ) → u < 64 → Table 4 (λ j. up_to v (λ w. get_or (part_of (plate n e o x) w) j 0) u) (get_or rows u [])
  pub within : v ≤ n

pub gathering_start : (n : ℕ) (e o : List ℕ) → Gathering n e o 0 0 (replicate 64 (replicate 4 0))
gathering_start n e o =
    record {
      parts = λ x. ap (λ (k : ℕ). parts_ok k 0 (plate n e o x)) {x = n - 0} {y = n} (omega arith);
      place = λ x. refl;
      size = length-replicate 64 (replicate {A = ℕ} 4 0);
      rows_at = λ x u l. subst (λ (r : List ℕ). Table 4 (λ j. up_to 0 (λ w. get_or (part_of (plate n e o x) w) j 0) u) r) (sym (get_or-replicate 64 u (replicate 4 0) [] l))
          (record { size = refl; at = λ j k. get_or-replicate 4 j 0 0 k ∙ sym (up_from 0 (λ w. get_or (part_of (plate n e o x) w) j 0) u (omega arith)) });
      within = omega arith;
    }

module _ {n : ℕ} {e o : List ℕ} {v at : ℕ} {rows : List (List ℕ)} (h : Gathering n e o v at rows) (l : v < n) (b : n ≤ 64) (end : ℕ) (q : end ≡ at + degree_from v e) where
  part_is : (x : ℕ) → take (end - at) (drop at o) ≡ part_of (plate n e o x) v
  part_is x = ap₂ (λ (i j : ℕ). take i (drop j o)) {x = end - at} {y = degree_from v e} (omega arith) (h.place x)

  -- the part ends within the order
  pub part_ends : length o ≡ length e → end ≤ length o
  part_ends w = omega (arith, h.place 0, before_most (plate n e o 0) (suc v))

  module _ {got : Option (List ℕ)} (r : PostRead e v (take (end - at) (drop at o)) got) where
    abbrev ok : Bool
    ok = is_some got

    ok_part : (x : ℕ) → ok ≡ all_leave (plate n e o x) v (part_of (plate n e o x) v) && distinct (part_of (plate n e o x) v)
    ok_part x = subst (λ (ds : List ℕ). ok ≡ all_leave (plate n e o x) v ds && distinct ds) (part_is x) (r.ok n o x)

    on : (p : Plate) → ok ≡ all_leave p v (part_of p v) && distinct (part_of p v) → parts_ok (n - v) v p ≡ parts_ok n 0 p → ok && parts_ok (n - (v + 1)) (suc v) p ≡ parts_ok n 0 p
    on p w s = ap (λ (t : Bool). t && parts_ok (n - (v + 1)) (suc v) p) w ∙ sym (and_assoc (all_leave p v (part_of p v)) (distinct (part_of p v)) (parts_ok (n - (v + 1)) (suc v) p)) ∙ this (λ k u. parts_ok k u p) n v s l

    pub gathering_not : ok ≡ false → OrderRead n e o None
    gathering_not w =
        record {
          ok = λ x. ap (λ (t : Bool). t && parts_ok (n - (v + 1)) (suc v) (plate n e o x)) (sym w) ∙ on (plate n e o x) (ok_part x) (h.parts x);
          places = tt;
        }

    pub gathering_more : (row : List ℕ) → ok ≡ true → Table 4 (λ i. get_or (take (end - at) (drop at o)) i 0) row → Gathering n e o (v + 1) end (set rows v row)
    gathering_more row w t =
        record {
          parts = λ x. ap (λ (u : ℕ). parts_ok (n - (v + 1)) u (plate n e o x)) (add-one v) ∙ ap (λ (t : Bool). t && parts_ok (n - (v + 1)) (suc v) (plate n e o x)) (sym w) ∙ on (plate n e o x) (ok_part x) (h.parts x);
          place = λ x. next x (plate n e o x) refl (h.place x);
          size = length-set rows v row ∙ h.size;
          rows_at = λ x u k. ⊎_elim (new x u) (old x u k) (equal_or_not u v);
          within = omega arith;
        }
      where
        next : (x : ℕ) (p : Plate) → degree p v ≡ degree_from v e → at ≡ before p v → end ≡ before p (v + 1)
        next x p d s = let t : end ≡ before p (suc v) = omega arith in t ∙ ap (before p) (sym (add-one v))

        new : (x u : ℕ) → u ≡ v → Table 4 (λ j. up_to (v + 1) (λ w. get_or (part_of (plate n e o x) w) j 0) u) (get_or (set rows v row) u [])
        new x u s =
            subst (λ (k : ℕ). Table 4 (λ j. up_to (v + 1) (λ w. get_or (part_of (plate n e o x) w) j 0) k) (get_or (set rows v row) k [])) (sym s)
            (subst (λ (t : List ℕ). Table 4 (λ j. up_to (v + 1) (λ w. get_or (part_of (plate n e o x) w) j 0) v) t) (sym (get_or-set_same rows v row [] (omega (arith, h.size))))
            (table_cong 4 (λ j. get_or (take (end - at) (drop at o)) j 0) (λ j. up_to (v + 1) (λ w. get_or (part_of (plate n e o x) w) j 0) v) row
            (λ j k. ap (λ (ds : List ℕ). get_or ds j 0) (part_is x) ∙ sym (up_below (v + 1) (λ w. get_or (part_of (plate n e o x) w) j 0) v (omega arith))) t))

        old : (x u : ℕ) → u < 64 → (u ≡ v → ⊥) → Table 4 (λ j. up_to (v + 1) (λ w. get_or (part_of (plate n e o x) w) j 0) u) (get_or (set rows v row) u [])
        old x u k s =
            subst (λ (t : List ℕ). Table 4 (λ j. up_to (v + 1) (λ w. get_or (part_of (plate n e o x) w) j 0) u) t) (sym (get_or-set_other rows v u row [] s))
            (table_cong 4 (λ j. up_to v (λ w. get_or (part_of (plate n e o x) w) j 0) u) (λ j. up_to (v + 1) (λ w. get_or (part_of (plate n e o x) w) j 0) u) (get_or rows u [])
            (λ j m. sym (up_more (λ w. get_or (part_of (plate n e o x) w) j 0) v u s)) (h.rows_at x u k))

pub gathering_done : {n : ℕ} {e o : List ℕ} {v at : ℕ} {rows : List (List ℕ)} {xs : List ℕ} → Gathering n e o v at rows → n ≤ v → Table 256 (λ i. get_or (get_or rows (i / 4) []) (i % 4) 0) xs → OrderRead n e o (Some xs)
gathering_done {n} {e} {o} {v} {at} {rows} {xs} h l t =
    record {
      ok = λ x. no_more (λ k u. parts_ok k u (plate n e o x)) n v (h.parts x) l;
      places = λ x. table_cong 256 (λ i. get_or (get_or rows (i / 4) []) (i % 4) 0) (place_in (plate n e o x)) xs
          (λ i k. (h.rows_at x (i / 4) (omega arith)).at (i % 4) (omega arith) ∙ ap (λ (m : ℕ). up_to m (λ w. get_or (part_of (plate n e o x) w) (i % 4) 0) (i / 4)) {x = v} {y = n} (omega (arith, h.within))) t;
    }

-- a row of four laid from 4 v on: k is 4
pub row_laid : (f : ℕ → ℕ) (all row : List ℕ) (v k : ℕ) → k ≡ 4 → v < 64 → length row ≡ 4 → Table 256 (up_to (4 * v) f) all
    → ((j : ℕ) → j < 4 → get_or row j 0 ≡ f (4 * v + j)) → Table 256 (up_to (4 * (v + 1)) f) (put_mid (4 * v) k all row)
row_laid f all row v k e l long t h = record { size = omega (arith, length-append front (row ++ rest), length-append row rest, front_long, rest_long); at = at }
  where
    front : List ℕ
    front = take (4 * v) all

    rest : List ℕ
    rest = post_of (4 * v) k all

    front_long : length front ≡ 4 * v
    front_long = length-take-le (4 * v) all (omega (arith, t.size))

    rest_long : length rest ≡ 256 - (4 * v + 4)
    rest_long = omega (arith, length-drop k (drop (4 * v) all), length-drop (4 * v) all, t.size)

    at : (i : ℕ) → i < 256 → get_or (front ++ (row ++ rest)) i 0 ≡ up_to (4 * (v + 1)) f i
    at i m = go (dec_lt i (4 * v)) (dec_lt i (4 * (v + 1)))
      where
        go : Dec (i < 4 * v) → Dec (i < 4 * (v + 1)) → get_or (front ++ (row ++ rest)) i 0 ≡ up_to (4 * (v + 1)) f i
        go (yes a) b =
            get_or-append front (row ++ rest) 0 i (omega (arith, front_long)) ∙ get_or-take (4 * v) all i 0 a ∙ t.at i m ∙ up_below (4 * v) f i a
            ∙ sym (up_below (4 * (v + 1)) f i (omega arith))
        go (no a) (yes b) =
            get_or-append_right front (row ++ rest) i 0 (omega (arith, front_long)) ∙ get_or-append row rest 0 (i - length front) (omega (arith, front_long))
            ∙ h (i - length front) (omega (arith, front_long)) ∙ ap f {x = 4 * v + (i - length front)} {y = i} (omega (arith, front_long)) ∙ sym (up_below (4 * (v + 1)) f i b)
        go (no a) (no b) =
            get_or-append_right front (row ++ rest) i 0 (omega (arith, front_long)) ∙ get_or-append_right row rest (i - length front) 0 (omega (arith, front_long))
            ∙ get_or-drop k (drop (4 * v) all) (i - length front - length row) 0 ∙ get_or-drop (4 * v) all (k + (i - length front - length row)) 0
            ∙ ap (λ (j : ℕ). get_or all j 0) {x = 4 * v + (k + (i - length front - length row))} {y = i} (omega (arith, front_long))
            ∙ t.at i m ∙ up_from (4 * v) f i (omega arith) ∙ sym (up_from (4 * (v + 1)) f i (omega arith))
