-- No accepted file is longer than its fields may be together: each field takes from the room of the tags that are still to come.
-- Assumes nothing.
use mathlib.Core.Path.{◌≡◌, refl, sym, subst, ap, ◌∙◌}
use mathlib.Core.Bool.{Bool, true, false}
use mathlib.Core.List.{List, []}
use Prim.Native.Nat.{ℕ, zero, suc, ◌+◌, ◌≤◌, ◌<◌}
use Rattle.std.specs.Prelude.{Option, Some, None}
use native.Mathlib.Omega.{arith}
use lib.Dec.{T, eqb, leb}
use lib.ListN.{length, get_or, drop, length-drop}
use borrow.Author.Tests.{eqb-true, eqb-false, leb-true, ne_eqb, not-true}
use Rattle.finite.specs.Base.{pick}
use Rattle.finite.proofs.Tests.{and_parts}
use Rattle.fields.specs.Files.{Field, Walk, tag_ok, is_known, long_ok, has_tag, add_field, head_long, fault_by, field_at, fields_by, walk_all, old_walk}
use Rattle.fields.specs.Rules.{allowed, rule_of, first_tag, slot_of, tag_at}
use Rattle.fields.specs.declared.Rule.{Rule}
use Rattle.fields.specs.declared.Rule.TheVariants.{Exactly, EvenUpTo, UpTo}
use Rattle.fields.proofs.Agree.{agrees, tag_from}
use Rattle.fields.proofs.Added.{has_other, has_own}
use Rattle.fields.proofs.Turns.{from_fault, from_met, passed_by}

-- the most bytes of a field by its rule, its head counted in
abbrev room_of : Option Rule → ℕ
room_of (Some (Exactly m)) = 3 + m
room_of (Some (EvenUpTo m)) = 3 + m
room_of (Some (UpTo m)) = 3 + m
room_of None = 0

kept_room : (r : Option Rule) (n : ℕ) → allowed r n ≡ true → 3 + n ≤ room_of r
kept_room (Some (Exactly m)) n e = let p = eqb-true n m e in omega arith
kept_room (Some (EvenUpTo m)) n e =
    let (a, b) = and_parts (leb n m) _ e in
    let l : n ≤ m = leb-true n m a in
    omega arith
kept_room (Some (UpTo m)) n e = let l : n ≤ m = leb-true n m e in omega arith
kept_room None n e = absurd (subst T (sym e) tt)

-- what slot i may still take, and the first j slots together
abbrev part : Bool → List Field → ℕ → ℕ
part k fs i = pick (has_tag (tag_at k i) fs) 0 (room_of (rule_of k (tag_at k i)))

abbrev pub room : ℕ → Bool → List Field → ℕ
room zero k fs = 0
room (suc j) k fs = room j k fs + part k fs j

-- a new field takes its slot's room
module _ (k : Bool) (fs : List Field) (f : Field) (new : has_tag f.tag fs ≡ false) (i : ℕ) (own : tag_at k i ≡ f.tag) where
  abbrev taken : ℕ
  taken = room_of (rule_of k f.tag)

  part_before : part k fs i ≡ taken
  part_before = rw (own, new)

  part_after : part k (add_field fs f) i ≡ 0
  part_after = rw (own, has_own f fs)

  part_other : (j : ℕ) → (j ≡ i → ⊥) → part k (add_field fs f) j ≡ part k fs j
  part_other j differ =
      ap (λ (b : Bool). pick b 0 (room_of (rule_of k (tag_at k j)))) (has_other (tag_at k j) f (ne_eqb (tag_at k j) f.tag (omega (arith, differ, own))) fs)

  room_same : (j : ℕ) → j ≤ i → room j k (add_field fs f) ≡ room j k fs
  room_same zero h = refl
  room_same (suc j) h = omega (arith, room_same j (omega arith), part_other j (omega arith))

  room_less : (j : ℕ) → i < j → room j k (add_field fs f) + taken ≡ room j k fs
  room_less zero h = absurd (omega arith)
  room_less (suc j) h = go (eqb j i) refl (room_less j)
    where
      go : (b : Bool) → eqb j i ≡ b → (i < j → room j k (add_field fs f) + taken ≡ room j k fs) → room (suc j) k (add_field fs f) + taken ≡ room (suc j) k fs
      go true e ih =
          let s : j ≡ i = eqb-true j i e in
          let a : part k (add_field fs f) j ≡ 0 = rw s part_after in
          let b : part k fs j ≡ taken = rw s part_before in
          omega (arith, room_same j (omega arith), a, b)
      go false e ih = omega (arith, ih (omega (arith, eqb-false j i e)), part_other j (eqb-false j i e))

-- the field at the front of s takes its bytes from the room
module _ (k : Bool) (fs : List Field) (s : List ℕ) where
  abbrev t : ℕ
  t = get_or s 0 0

  pub front_takes : (n : ℕ) → t < first_tag k + n → tag_ok k t ≡ true → has_tag t fs ≡ false → long_ok k t (head_long s) ≡ true → room n k (add_field fs (field_at s)) + (3 + head_long s) ≤ room n k fs
  front_takes n below tag new long =
      let b = tag_from k t tag in
      let i = slot_of k t in
      let own : tag_at k i ≡ t = omega arith in
      let low : i < n = omega arith in
      omega (
        arith,
        room_less k fs (field_at s) new i own n low,
        kept_room (rule_of k t) (head_long s) ((agrees k t).long (head_long s) tag ∙ long),
      )

-- how many tags a walk may take, from the first one on: in any order not the last of a list
abbrev tags_of : Bool → ℕ
tags_of o = pick o 8 7

tag_below : (o k : Bool) (t : ℕ) → is_known o k t ≡ true → tag_ok k t ≡ true → t < first_tag k + tags_of o
tag_below true k t known tag = (tag_from k t tag).1
tag_below false true t known tag =
    let (a, b) = and_parts (leb 17 t) (leb t 22) tag in
    let h : t ≤ 22 = leb-true t 22 b in
    omega arith
tag_below false false t known tag =
    let other : t ≡ 8 → ⊥ = eqb-false t 8 (not-true (eqb t 8) known) in
    let (a, b) = and_parts (leb 1 t) (leb t 8) tag in
    let h : t ≤ 8 = leb-true t 8 b in
    omega arith

longest_from : (o : Bool) (l : ℕ) (k : Bool) (fs : List Field) (s : List ℕ) → length s < l → (fields_by o l k fs s).number ≡ 0 → length s ≤ room (tags_of o) k fs
longest_from o zero k fs s h e = absurd (omega arith)
longest_from o (suc l) k fs s h e = go (eqb (length s) 0) refl (eqb (fault_by o k fs s) 0) refl (longest_from o l k (add_field fs (field_at s)) (drop (3 + head_long s) s))
  where
    go : (a : Bool) → eqb (length s) 0 ≡ a → (b : Bool) → eqb (fault_by o k fs s) 0 ≡ b
        → (length (drop (3 + head_long s) s) < l → (fields_by o l k (add_field fs (field_at s)) (drop (3 + head_long s) s)).number ≡ 0 → length (drop (3 + head_long s) s) ≤ room (tags_of o) k (add_field fs (field_at s)))
        → length s ≤ room (tags_of o) k fs
    go true p b q ih = let z : length s ≡ 0 = eqb-true (length s) 0 p in omega arith
    go false p false q ih =
        let n : fault_by o k fs s ≡ 0 = sym (ap (λ (w : Walk). w.number) (from_fault o l k fs s p q)) ∙ e in
        absurd (eqb-false (fault_by o k fs s) 0 q n)
    go false p true q ih =
        let ok : fault_by o k fs s ≡ 0 = eqb-true (fault_by o k fs s) 0 q in
        let rest = length-drop (3 + head_long s) s in
        let f = passed_by o k fs s ok in
        let fits = f.size in
        let less = ih (omega arith) (sym (ap (λ (w : Walk). w.number) (from_met o l k fs s p q)) ∙ e) in
        omega (arith, front_takes k fs s (tags_of o) (tag_below o k (get_or s 0 0) f.known f.tag) f.tag f.new f.long)

pub list_longest : (s : List ℕ) → (walk_all false s).number ≡ 0 → length s ≤ 876
list_longest s e = longest_from true (suc (length s)) false [] s (omega arith) e

pub shape_longest : (s : List ℕ) → (walk_all true s).number ≡ 0 → length s ≤ 618
shape_longest s e = longest_from true (suc (length s)) true [] s (omega arith) e

-- in any order, where lists have no prices
pub older_longest : (k : Bool) (s : List ℕ) → (old_walk k s).number ≡ 0 → length s ≤ 745
older_longest true s e = let l : length s ≤ 618 = longest_from false (suc (length s)) true [] s (omega arith) e in omega arith
older_longest false s e = longest_from false (suc (length s)) false [] s (omega arith) e
