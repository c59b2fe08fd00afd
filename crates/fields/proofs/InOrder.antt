-- Older files as code holds them: what a slot holds, what writing it puts, and the answers. Assumes nothing.
use mathlib.Core.Path.{◌≡◌, refl, sym, ap, subst, ◌∙◌}
use mathlib.Core.Bool.{Bool, true, false}
use mathlib.Core.List.{List, [], ◌++◌, append-nil}
use Prim.Native.Nat.{ℕ, zero, suc, ◌+◌, ◌≤◌, ◌<◌}
use native.Mathlib.Nat.{le_dest}
use native.Mathlib.Numerals.{add-one}
use native.Mathlib.Omega.{arith}
use Rattle.std.specs.Prelude.{Result, Some, None, Ok, Err, IfOk, option_map}
use denote.Bor.{Bor}
use lib.ListN.{length, get_or, drop, length-append}
use borrow.Author.Tests.{lt-ltb, le-ltb}
use Rattle.refusals.specs.declared.Refusal.{Refusal}
use Rattle.refusals.specs.declared.Refusal.TheVariants.{MemoryShort}
use Rattle.fields.specs.Files.{Field, has_tag, content_of, content_at, old_walk, field}
use Rattle.fields.specs.Rules.{first_tag, tag_at}
use Rattle.fields.specs.Says.{HoldsBy}
use Rattle.fields.specs.Writing.{Written}
use Rattle.fields.specs.Ordering.{field_of, rising, sorted, bytes_in, is_shape_file, ordered_bytes, order_fault, Ordered, ordered_of, OrderWith, OrderSays}
use Rattle.fields.specs.declared.Slots.{Slots}
use Rattle.fields.proofs.Added.{there_by, content_by}
use Rattle.fields.proofs.Longest.{older_longest}
use Rattle.fields.proofs.Puts.{put_front, field_long, written_none, written_then}
use Rattle.fields.proofs.Rising.{rising_more, bytes_row, more_long, rising_most}
use Rattle.fields.proofs.Sorted.{sorted_size}

-- the bytes of the field of a tag, by its content
module _ (t : ℕ) (fs : List Field) where
  abbrev bytes : List ℕ
  bytes = bytes_in (field_of t fs)

  bytes_there : (c : List ℕ) → content_at t fs ≡ Some c → bytes ≡ field t c
  bytes_there c e =
      let h : has_tag t fs ≡ true = sym (there_by t fs (sym e)) in
      let d : content_of t fs ≡ c = sym (content_by t fs (sym e)) in
      rw (h, d) (append-nil (field t c))

  bytes_absent : content_at t fs ≡ None → bytes ≡ []
  bytes_absent e = let h : has_tag t fs ≡ false = sym (there_by t fs (sym e)) in rw h

module _ {k : Bool} {s : List ℕ} {f : Slots} (w : HoldsBy false k s (Ok f)) where
  abbrev fs : List Field
  fs = (old_walk k s).fields

  -- room for the fields of the first slots
  slot_room : (i : ℕ) → i < 8 → length (bytes_in (rising i (first_tag k) fs)) + length (bytes (tag_at k i) fs) ≤ length s
  slot_room i h =
      let (d, p) = le_dest h in
      let e : suc i + d ≡ 8 = p in
      let m : length (bytes_in (rising (suc i + d) (first_tag k) fs)) ≡ length (bytes_in (sorted k fs)) = ap (λ (n : ℕ). length (bytes_in (rising n (first_tag k) fs))) e in
      omega (arith, more_long i (first_tag k) fs, rising_most (suc i) d (first_tag k) fs, m, sorted_size k s (sym w.number))

  module _ (i : ℕ) (h : i < 8) {out mid : List ℕ} {m : ℕ} (a : Written 0 (bytes_in (rising i (first_tag k) fs)) out mid m) where
    -- one slot more written
    slot_written : {last : List ℕ} {n : ℕ} → Written m (bytes (tag_at k i) fs) mid last n → Written 0 (bytes_in (rising (i + 1) (first_tag k) fs)) out last n
    slot_written {last} {n} b =
        let e : bytes_in (rising i (first_tag k) fs) ++ bytes (tag_at k i) fs ≡ bytes_in (rising (i + 1) (first_tag k) fs) =
        sym (bytes_row (rising i (first_tag k) fs) (field_of (tag_at k i) fs)) ∙ ap bytes_in (sym (rising_more i (first_tag k) fs)) ∙ ap (λ (j : ℕ). bytes_in (rising j (first_tag k) fs)) (sym (add-one i)) in
        subst (λ (x : List ℕ). Written 0 x out last n) e (written_then (omega arith) a b)

    -- a slot without a content
    pub slot_passed : get_or f.slots i None ≡ None → Written 0 (bytes_in (rising (i + 1) (first_tag k) fs)) out mid m
    slot_passed e =
        let n : bytes (tag_at k i) fs ≡ [] = bytes_absent (tag_at k i) fs (sym (w.slots.slot i h) ∙ ap (option_map (λ c. c.now)) e) in
        slot_written (subst (λ (x : List ℕ). Written m x mid mid m) (sym n) (written_none m mid))

    -- and one with a content
    module _ (c : Bor (List ℕ)) (e : get_or f.slots i None ≡ Some c) where
      there : bytes (tag_at k i) fs ≡ field (tag_at k i) c.now
      there = bytes_there (tag_at k i) fs c.now (sym (w.slots.slot i h) ∙ ap (option_map (λ c. c.now)) e)

      there_room : length (bytes_in (rising i (first_tag k) fs)) + (3 + length c.now) ≤ length s
      there_room = omega (arith, slot_room i h, ap length there, field_long (tag_at k i) c.now)

      pub slot_fits : length s ≤ length out → length mid ≡ length out → (m + (3 + length c.now) ≤ length mid) × (length c.now < 65536)
      slot_fits l q = let z = older_longest k s (sym w.number) in (omega (arith, there_room, a.behind), omega (arith, there_room, z))

      pub slot_put : (u : ℕ) {last : List ℕ} {n : ℕ} → u ≡ tag_at k i → Written m (field u c.now) mid last n → Written 0 (bytes_in (rising (i + 1) (first_tag k) fs)) out last n
      slot_put u {last} {n} q b = slot_written (subst (λ (x : List ℕ). Written m x mid last n) (ap (λ (v : ℕ). field v c.now) q ∙ sym there) b)

-- the answers
with_some : (n : ℕ) (s o o' : List ℕ) (r : Ordered) → (n ≡ 0 → ⊥) → (r.number ≡ n) → (r.long ≡ 0) → (o' ≡ o) → OrderWith n s o o' r
with_some zero s o o' r h a b c = absurd (h refl)
with_some (suc n) s o o' r h a b c = (a, b, c)

module _ {k : Bool} {s : List ℕ} (kind : k ≡ is_shape_file s) where
  module _ {f : Slots} (w : HoldsBy false k s (Ok f)) where
    passed_is : (old_walk (is_shape_file s) s).number ≡ 0
    passed_is = ap (λ (j : Bool). (old_walk j s).number) (sym kind) ∙ sym w.number

    size_is : length (ordered_bytes s) ≡ length s
    size_is = sorted_size (is_shape_file s) s passed_is

    pub order_short : (o : List ℕ) → length o < length s → OrderSays s o o (ordered_of (Err MemoryShort))
    order_short o l =
        let e : order_fault s o ≡ 16 = rw (passed_is, size_is, lt-ltb (length o) (length s) l) in
        with_some (order_fault s o) s o o _ (λ z. omega (arith, z, e)) (sym e) refl refl

    pub order_given : (o o' : List ℕ) (n : ℕ) → length s ≤ length o → Written 0 (bytes_in (sorted k (old_walk k s).fields)) o o' n → OrderSays s o o' (ordered_of (Ok n))
    order_given o o' n l h =
        let e : order_fault s o ≡ 0 = rw (passed_is, size_is, le-ltb (length o) (length s) l) in
        let g : Written 0 (ordered_bytes s) o o' n = subst (λ (j : Bool). Written 0 (bytes_in (sorted j (old_walk j s).fields)) o o' n) kind h in
        subst (λ (x : ℕ). OrderWith x s o o' (ordered_of (Ok n))) (sym e) (refl, g.behind ∙ zero_plus (length (ordered_bytes s)), g.bytes ∙ put_front (ordered_bytes s) o)
      where
        zero_plus : (n : ℕ) → 0 + n ≡ n
        zero_plus n = omega arith

-- what was written, or nothing, is within the lent memory
pub order_within : (s o o' : List ℕ) (r : Result ℕ Refusal) → OrderSays s o o' (ordered_of r) → IfOk r (λ n. n ≤ length o')
order_within s o o' (Err e) h = tt
order_within s o o' (Ok k) h = go (order_fault s o) h
  where
    go : (n : ℕ) → OrderWith n s o o' (ordered_of (Ok k)) → k ≤ length o'
    go zero (a, b, c) = omega (arith, b, ap length c, length-append (ordered_bytes s) (drop (length (ordered_bytes s)) o))
    go (suc n) (a, b, c) = omega (arith, b)
