-- One step of a walk, in order or in any order, what a field that passed all its refusals tells, and the numbers that a walk gives. Assumes nothing.
use mathlib.Core.Path.{◌≡◌, refl, sym, subst, ◌∙◌}
use mathlib.Core.Bool.{Bool, true, false, ◌&&◌, not}
use mathlib.Core.List.{List, []}
use Prim.Native.Nat.{ℕ, zero, suc, ◌+◌, ◌≤◌, ◌<◌}
use native.Mathlib.Omega.{arith}
use lib.Dec.{eqb, ltb}
use lib.ListN.{length, get_or, drop, length-drop}
use lib.Seq.{length-take-le}
use borrow.Author.Tests.{ltb-false, le-ltb, lt-ltb, not-false}
use Rattle.finite.specs.Base.{pick, when}
use Rattle.finite.proofs.Tests.{and_parts, and_both, first_none, when_none, first-of, when_of, fault-of}
use Rattle.std.specs.Prelude.{Option, Some}
use Rattle.fields.specs.declared.Rule.{Rule}
use Rattle.fields.specs.Rules.{keeps, RuleBy}
use Rattle.fields.specs.Files.{Field, Walk, walk, has_tag, tag_ok, is_known, tag_in, long_ok, add_field, last_tag, all_there, head_long, fault_where, fault_by, field_at, fields_with, fields_by, walk_by, old_walk}

-- by any fault of a field
module _ (fault : List Field → List ℕ → ℕ) (l : ℕ) (k : Bool) (fs : List Field) (r : List ℕ) where
  pub with_end : eqb (length r) 0 ≡ true → fields_with fault (suc l) k fs r ≡ walk (when (not (all_there k fs)) 6) fs
  with_end e = rw (e, fields_with)

  pub with_fault : eqb (length r) 0 ≡ false → eqb (fault fs r) 0 ≡ false → fields_with fault (suc l) k fs r ≡ walk (fault fs r) []
  with_fault e f = rw (e, f, fields_with)

  pub with_met : eqb (length r) 0 ≡ false → eqb (fault fs r) 0 ≡ true → fields_with fault (suc l) k fs r ≡ fields_with fault l k (add_field fs (field_at r)) (drop (3 + head_long r) r)
  with_met e f = rw (e, f, fields_with)

module _ (o : Bool) (l : ℕ) (k : Bool) (fs : List Field) (r : List ℕ) where
  pub from_end : eqb (length r) 0 ≡ true → fields_by o (suc l) k fs r ≡ walk (when (not (all_there k fs)) 6) fs
  from_end = with_end (fault_by o k) l k fs r

  pub from_fault : eqb (length r) 0 ≡ false → eqb (fault_by o k fs r) 0 ≡ false → fields_by o (suc l) k fs r ≡ walk (fault_by o k fs r) []
  from_fault = with_fault (fault_by o k) l k fs r

  pub from_met : eqb (length r) 0 ≡ false → eqb (fault_by o k fs r) 0 ≡ true → fields_by o (suc l) k fs r ≡ fields_by o l k (add_field fs (field_at r)) (drop (3 + head_long r) r)
  from_met = with_met (fault_by o k) l k fs r

-- ---- the flag that a slot gives in place of `has_tag`
pub fault_same : (o k : Bool) (a b c : Bool) (r : List ℕ) → (tag_ok k (get_or r 0 0) ≡ true → a ≡ b) → fault_where o k a c r ≡ fault_where o k b c r
fault_same o k a b c r h = go (tag_in o k (get_or r 0 0)) refl
  where
    go : (x : Bool) → tag_in o k (get_or r 0 0) ≡ x → fault_where o k a c r ≡ fault_where o k b c r
    go true e = rw (h (and_parts (is_known o k (get_or r 0 0)) (tag_ok k (get_or r 0 0)) e).1)
    go false e = simp e

-- ---- the tag that the next may not be below: none in a walk in any order
pub below_is : (o : Bool) (t x : ℕ) → ltb t (pick o x 0) ≡ (o && ltb t x)
below_is true t x = refl
below_is false t x = le-ltb t 0 (omega arith)

-- ---- what a field that passed all six tells
pub record Passed (o k met below : Bool) (r : List ℕ) : Type 0 where
  pub known : is_known o k (get_or r 0 0) ≡ true
  pub tag : tag_ok k (get_or r 0 0) ≡ true
  pub new : met ≡ false
  pub above : below ≡ false
  pub long : long_ok k (get_or r 0 0) (head_long r) ≡ true
  pub size : 3 + head_long r ≤ length r

pub passed : (o k met below : Bool) (r : List ℕ) → fault_where o k met below r ≡ 0 → Passed o k met below r
passed o k met below r e =
    let (e1, f1) = first_none (when (ltb (length r) 3) 1) _ e in
    let (e2, f2) = first_none (when (not (tag_in o k (get_or r 0 0))) 2) _ f1 in
    let (e3, f3) = first_none (when met 3) _ f2 in
    let (e29, f29) = first_none (when below 29) _ f3 in
    let (e4, e5) = first_none (when (not (long_ok k (get_or r 0 0) (head_long r))) 4) _ f29 in
    let (known, tag) = and_parts (is_known o k (get_or r 0 0)) (tag_ok k (get_or r 0 0)) (not-false (tag_in o k (get_or r 0 0)) (when_none (not (tag_in o k (get_or r 0 0))) 1 e2)) in
    record {
      known = known;
      tag = tag;
      new = when_none met 2 e3;
      above = when_none below 28 e29;
      long = not-false (long_ok k (get_or r 0 0) (head_long r)) (when_none (not (long_ok k (get_or r 0 0) (head_long r))) 3 e4);
      size = ltb-false (length r) (3 + head_long r) (when_none (ltb (length r) (3 + head_long r)) 4 e5);
    }

-- and one of which this holds has no fault
pub no_fault : (o k met below : Bool) (r : List ℕ) → Passed o k met below r → fault_where o k met below r ≡ 0
no_fault o k met below r p =
    simp (le-ltb (length r) 3 (omega (arith, p.size)), and_both (is_known o k (get_or r 0 0)) (tag_ok k (get_or r 0 0)) p.known p.tag, p.new, p.above, p.long, le-ltb (length r) (3 + head_long r) p.size)

-- a field of which all before the length holds has 4 where that is not as laid out, else 5 where its content passes the end
pub wrong_length : (o k met below : Bool) (r : List ℕ) → 3 ≤ length r → tag_in o k (get_or r 0 0) ≡ true → met ≡ false → below ≡ false → long_ok k (get_or r 0 0) (head_long r) ≡ false → 4 ≡ fault_where o k met below r
wrong_length o k met below r l t m b w = sym (simp (le-ltb (length r) 3 l, t, m, b, w))

pub past_end : (o k met below : Bool) (r : List ℕ) → 3 ≤ length r → tag_in o k (get_or r 0 0) ≡ true → met ≡ false → below ≡ false → long_ok k (get_or r 0 0) (head_long r) ≡ true → length r < 3 + head_long r
    → 5 ≡ fault_where o k met below r
past_end o k met below r l t m b w s = sym (simp (le-ltb (length r) 3 l, t, m, b, w, lt-ltb (length r) (3 + head_long r) s))

-- whether the rule that the walk has for a tag allows a length
pub long_told : (o k : Bool) (t : ℕ) (q : Option Rule) (r : Rule) (n : ℕ) (b : Bool) → RuleBy o k t q → q ≡ Some r → b ≡ keeps r n → long_ok k t n ≡ b
long_told o k t q r n b h e f =
    let g : RuleBy o k t (Some r) = subst (RuleBy o k t) e h in
    sym (g.long n (not-false (tag_in o k t) (when_none (not (tag_in o k t)) 1 (sym g.number)))) ∙ sym f

-- its content is as long as its head says
pub content_size : (s : List ℕ) → 3 + head_long s ≤ length s → length (field_at s).content ≡ head_long s
content_size s h = length-take-le (head_long s) (drop 3 s) (omega (arith, length-drop 3 s))

pub passed_by : (o k : Bool) (fs : List Field) (s : List ℕ) → fault_by o k fs s ≡ 0 → Passed o k (has_tag (get_or s 0 0) fs) (o && ltb (get_or s 0 0) (last_tag fs)) s
passed_by o k fs s e = passed o k (has_tag (get_or s 0 0) fs) (o && ltb (get_or s 0 0) (last_tag fs)) s e

-- ---- a field is refused with 1 to 5 or, in order, with 29, a walk with 6 too: what holds of these numbers and of 0 holds of a walk's
module _ (P : ℕ → Type 0) (o : Bool) (few : (n : ℕ) → n ≤ 6 → P n) (below : (b : Bool) → P (when (o && b) 29)) where
  none : P 0
  none = few 0 (omega arith)

  field_number : (k : Bool) (fs : List Field) (r : List ℕ) → P (fault_by o k fs r)
  field_number k fs r =
      fault-of P none (ltb (length r) 3) 1 (few 1 (omega arith))
      (fault-of P none (not (tag_in o k (get_or r 0 0))) 2 (few 2 (omega arith))
      (fault-of P none (has_tag (get_or r 0 0) fs) 3 (few 3 (omega arith))
      (first-of P none (when (o && ltb (get_or r 0 0) (last_tag fs)) 29) _ (below (ltb (get_or r 0 0) (last_tag fs)))
      (fault-of P none (not (long_ok k (get_or r 0 0) (head_long r))) 4 (few 4 (omega arith))
      (when_of P none (ltb (length r) (3 + head_long r)) 5 (few 5 (omega arith)))))))

  abbrev numbered : Walk → Type 0
  numbered w = P w.number

  from_number : (l : ℕ) (k : Bool) (fs : List Field) (r : List ℕ) → numbered (fields_by o l k fs r)
  from_number zero k fs r = none
  from_number (suc l) k fs r = go (eqb (length r) 0) (eqb (fault_by o k fs r) 0) refl refl (from_number l k (add_field fs (field_at r)) (drop (3 + head_long r) r))
    where
      go : (a b : Bool) → eqb (length r) 0 ≡ a → eqb (fault_by o k fs r) 0 ≡ b → numbered (fields_by o l k (add_field fs (field_at r)) (drop (3 + head_long r) r)) → numbered (fields_by o (suc l) k fs r)
      go true b e f rest = subst numbered (sym (from_end o l k fs r e)) (when_of P none (not (all_there k fs)) 6 (few 6 (omega arith)))
      go false true e f rest = subst numbered (sym (from_met o l k fs r e f)) rest
      go false false e f rest = subst numbered (sym (from_fault o l k fs r e f)) (field_number k fs r)

  pub walk_number : (k : Bool) (s : List ℕ) → P (walk_by o k s).number
  walk_number k s = from_number (suc (length s)) k [] s

-- the old walk never gives 29
pub older_few : (k : Bool) (s : List ℕ) → (old_walk k s).number ≤ 6
older_few = walk_number (λ n. n ≤ 6) false (λ n l. l) (λ b. omega arith)
