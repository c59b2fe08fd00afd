-- The list after a step: how long it is, and that its fields written one behind the other are it. Assumes nothing.
use mathlib.Core.Path.{◌≡◌, refl, sym, ap, ap₂, subst, ◌∙◌}
use mathlib.Core.Bool.{Bool, true, false}
use mathlib.Core.List.{List, [], ◌∷◌, ◌++◌, append-nil}
use Prim.Native.Nat.{ℕ, suc, ◌+◌, ◌*◌, ◌≤◌, ◌<◌}
use native.Mathlib.Omega.{arith}
use lib.ListN.{length, take, length-append}
use Rattle.std.proofs.Common.{Option, Some, None}
use Rattle.std.specs.Prelude.{is_some, unwrap_or}
use Rattle.fields.specs.Writing.{Written}
use Rattle.fields.proofs.Added.{there_by, content_by}
use Rattle.fields.proofs.Puts.{written_then}
use Rattle.fields.proofs.Rising.{bytes_row}
use Rattle.embedding.specs.Read.{meant}
use Rattle.embedding.specs.Arrays.{Front, Appended}
use Rattle.embedding.specs.declared.Plate.{Plate as Held}
use Rattle.embedding.proofs.Faultless.{faultless}
use Rattle.embedding.proofs.Fronted.{front_none, front_take}
use Rattle.embedding.proofs.Holding.{held_ends}
use Rattle.plates.specs.Plates.{pick, strips}
use Rattle.plates.specs.Files.{Field, has_tag, content_of, content_at, walk_all, plate_of, field}
use Rattle.plates.specs.Ordering.{bytes_in}
use Rattle.plates.specs.Journal.{rate_with}
use Rattle.plates.proofs.Contents.{list_fields}
use Rattle.plates.proofs.Journal.{plate_fields_long}
use Rattle.plates.proofs.Lists.{list_walked, limits_each, prices_each}
use Rattle.edits.specs.Writes.{held, with_more, more_long, few, grown_bytes}
use Rattle.edits.specs.declared.Grown.{Grown}

-- the limits or the prices of a list, where it has any, and one more
module _ (t : ℕ) (fs : List Field) (o : Option (List ℕ)) (h : o ≡ content_at t fs) where
  abbrev more_by : Bool → List ℕ → ℕ → List ℕ
  more_by b c n = bytes_in (pick b (record { tag = t; content = c ++ (n ∷ []) } ∷ []) [])

  more_is : (n : ℕ) → with_more t o n ≡ bytes_in (rate_with t fs n)
  more_is n = by o ∙ ap₂ (λ (b : Bool) (c : List ℕ). more_by b c n) (there_by t fs h) (content_by t fs h)
    where
      by : (o : Option (List ℕ)) → with_more t o n ≡ more_by (is_some o) (unwrap_or o []) n
      by None = refl
      by (Some c) = sym (append-nil (field t (c ++ (n ∷ []))))

  few_is : (has_tag t fs ≡ true → length (content_of t fs) < 128) → few o
  few_is l = by o refl
    where
      by : (q : Option (List ℕ)) → o ≡ q → few q
      by None e = tt
      by (Some c) e =
          let given : true ≡ has_tag t fs = there_by t fs (sym e ∙ h) in
          let whole : c ≡ content_of t fs = content_by t fs (sym e ∙ h) in
          omega (arith, l (sym given), ap (λ (l : List ℕ). length l) whole)

-- its length
pub with_more_long : (t n : ℕ) (o : Option (List ℕ)) → length (with_more t o n) ≡ more_long o
with_more_long t n None = refl
with_more_long t n (Some c) = omega (arith, length-append c (n ∷ []))

-- one more behind them at the front of an array, as it is lent
pub more_front : {more : ℕ} {c zeros before all : List ℕ} → length zeros ≡ 256 → Appended 0 c zeros before → Appended (length c) (more ∷ []) before all → Front (c ++ (more ∷ [])) all
more_front {c = c} {zeros = zeros} size first last = last c (first [] (front_none zeros size) refl) refl

pub more_written : (t more : ℕ) (c : List ℕ) {all : List ℕ} {at n : ℕ} {out out' : List ℕ} → Front (c ++ (more ∷ [])) all → Written at (field t (take (length c + 1) all)) out out' n → Written at (field t (c ++ (more ∷ []))) out out' n
more_written t more c {all} {at} {n} {out} {out'} front w = subst (λ (l : List ℕ). Written at l out out' n) (ap (field t) (front_take front (length-append c (more ∷ [])))) w

-- the list of a plate with one strip more
module _ (g : Grown) where
  abbrev s : List ℕ
  s = g.list.bytes.now

  abbrev q : Held
  q = g.plate

  ends_long : length (meant q).ends ≡ q.darts
  ends_long = sym q.stands.dart_count

  order_long : length (meant q).order ≡ q.darts
  order_long = (faultless (meant q) q.accepted.no_fault).all_ordered ∙ sym q.stands.dart_count

  pub revision_long : length g.list.fields.revision.now ≡ 2
  revision_long = ap (λ (l : List ℕ). length l) g.list.contents.revision ∙ (list_fields s (list_walked s g.list.accepted)).revision

  -- fewer limits and prices than strips
  strips_few : suc (strips (plate_of s)) ≤ 128
  strips_few = omega (arith, ap strips g.list.table, g.list.plate.stands.dart_count, g.one_more, g.few)

  pub limits_few : few (held g.list.fields.limits)
  limits_few = few_is 7 (walk_all false s).fields (held g.list.fields.limits) g.list.contents.limits (λ e. omega (arith, strips_few, limits_each s g.list.accepted e))

  pub prices_few : few (held g.list.fields.prices)
  prices_few = few_is 8 (walk_all false s).fields (held g.list.fields.prices) g.list.contents.prices (λ e. omega (arith, strips_few, prices_each s g.list.accepted e))

  -- the strips and the order as they are lent
  pub ends_lent : length (take q.darts q.ends) ≡ q.darts
  ends_lent = ap (λ (l : List ℕ). length l) (front_take (held_ends q.stands q.accepted) ends_long) ∙ ends_long

  pub order_lent : {order : List ℕ} → Front (meant q).order order → length (take q.darts order) ≡ q.darts
  order_lent front = ap (λ (l : List ℕ). length l) (front_take front order_long) ∙ order_long

  abbrev tail : List ℕ
  tail = with_more 7 (held g.list.fields.limits) g.limit ++ with_more 8 (held g.list.fields.prices) g.price

  tail_is : bytes_in (rate_with 7 (walk_all false s).fields g.limit ++ rate_with 8 (walk_all false s).fields g.price) ≡ tail
  tail_is =
      let fs = (walk_all false s).fields in
      bytes_row (rate_with 7 fs g.limit) (rate_with 8 fs g.price)
      ∙ sym (ap₂ (λ (x y : List ℕ). x ++ y) (more_is 7 fs (held g.list.fields.limits) g.list.contents.limits g.limit) (more_is 8 fs (held g.list.fields.prices) g.list.contents.prices g.price))

  tail_long : length tail ≡ more_long (held g.list.fields.limits) + more_long (held g.list.fields.prices)
  tail_long =
      omega (
        arith,
        length-append (with_more 7 (held g.list.fields.limits) g.limit) (with_more 8 (held g.list.fields.prices) g.price),
        with_more_long 7 g.limit (held g.list.fields.limits),
        with_more_long 8 g.price (held g.list.fields.prices),
      )

  pub grown_long : length (grown_bytes s (meant q) g.limit g.price) ≡ 19 + 2 * q.darts + more_long (held g.list.fields.limits) + more_long (held g.list.fields.prices)
  unfolding grown_bytes
  grown_long =
      omega (
        arith,
        plate_fields_long (content_of 1 (walk_all false s).fields) (meant q) (rate_with 7 (walk_all false s).fields g.limit ++ rate_with 8 (walk_all false s).fields g.price),
        (list_fields s (list_walked s g.list.accepted)).revision,
        ends_long,
        order_long,
        ap (λ (l : List ℕ). length l) tail_is,
        tail_long,
      )

  -- the fields written in a row
  pub fields_written : {n1 n2 n3 n4 n5 n6 n7 : ℕ} {order out o1 o2 o3 o4 o5 o6 o7 : List ℕ} → Front (meant q).order order
      → length (grown_bytes s (meant q) g.limit g.price) ≤ length out
      → Written 0 (field 1 g.list.fields.revision.now) out o1 n1 → length o1 ≡ length out
      → Written n1 (field 2 (q.posts ∷ [])) o1 o2 n2 → length o2 ≡ length o1
      → Written n2 (field 3 (take q.darts q.ends)) o2 o3 n3 → length o3 ≡ length o2
      → Written n3 (field 4 (take q.darts order)) o3 o4 n4 → length o4 ≡ length o3
      → Written n4 (field 5 (q.outer ∷ [])) o4 o5 n5 → length o5 ≡ length o4
      → Written n5 (with_more 7 (held g.list.fields.limits) g.limit) o5 o6 n6 → length o6 ≡ length o5
      → Written n6 (with_more 8 (held g.list.fields.prices) g.price) o6 o7 n7
      → Written 0 (grown_bytes s (meant q) g.limit g.price) out o7 n7
  unfolding grown_bytes
  fields_written {n1} {n2} {n3} {n4} {n5} {n6} {n7} {order} {out} {o1} {o2} {o3} {o4} {o5} {o6} {o7} front room w1 l1 w2 l2 w3 l3 w4 l4 w5 l5 w6 l6 w7 =
      let v1 : Written 0 (field 1 (content_of 1 (walk_all false s).fields)) out o1 n1 = subst (λ (l : List ℕ). Written 0 (field 1 l) out o1 n1) g.list.contents.revision w1 in
      let v2 : Written n1 (field 2 ((meant q).posts ∷ [])) o1 o2 n2 = subst (λ (x : ℕ). Written n1 (field 2 (x ∷ [])) o1 o2 n2) q.stands.same_posts w2 in
      let v3 : Written n2 (field 3 (meant q).ends) o2 o3 n3 = subst (λ (l : List ℕ). Written n2 (field 3 l) o2 o3 n3) (front_take (held_ends q.stands q.accepted) ends_long) w3 in
      let v4 : Written n3 (field 4 (meant q).order) o3 o4 n4 = subst (λ (l : List ℕ). Written n3 (field 4 l) o3 o4 n4) (front_take front order_long) w4 in
      let v5 : Written n4 (field 5 ((meant q).outer ∷ [])) o4 o5 n5 = subst (λ (x : ℕ). Written n4 (field 5 (x ∷ [])) o4 o5 n5) q.stands.outer_dart w5 in
      let e1 : n1 ≡ 5 = omega (arith, w1.behind, revision_long) in
      let e2 : n2 ≡ 9 = omega (arith, v2.behind) in
      let e3 : n3 ≡ 12 + q.darts = omega (arith, v3.behind, ends_long) in
      let e4 : n4 ≡ 15 + 2 * q.darts = omega (arith, v4.behind, order_long) in
      let e5 : n5 ≡ 19 + 2 * q.darts = omega (arith, v5.behind) in
      let most : 19 + 2 * q.darts + more_long (held g.list.fields.limits) + more_long (held g.list.fields.prices) ≤ length out = omega (arith, grown_long) in
      let six : length (with_more 7 (held g.list.fields.limits) g.limit) ≡ more_long (held g.list.fields.limits) = with_more_long 7 g.limit (held g.list.fields.limits) in
      let v6 : Written n5 (bytes_in (rate_with 7 (walk_all false s).fields g.limit ++ rate_with 8 (walk_all false s).fields g.price)) o5 o7 n7 =
      subst (λ (l : List ℕ). Written n5 l o5 o7 n7) (sym tail_is) (written_then (omega arith) w6 w7) in
      written_then (omega arith) v1 (written_then (omega arith) v2 (written_then (omega arith) v3 (written_then (omega arith) v4 (written_then (omega arith) v5 v6))))

-- what the lengths of its fields are
pub ruleset lengths = (limits_few, prices_few, revision_long, ends_lent, order_lent, grown_long)
