-- The sum of bends times price as the code holds it: the length and the last field of a file with it, and whether a file's own is true. Assumes nothing.
use mathlib.Core.Path.{◌≡◌, sym, ap, subst, ◌∙◌}
use mathlib.Core.Bool.{Bool, true, false, not}
use mathlib.Core.List.{List, []}
use Prim.Native.Nat.{ℕ, ◌+◌, ◌*◌, ◌≤◌}
use native.Mathlib.Omega.{arith}
use denote.Bor.{Bor}
use lib.ListN.{length}
use Rattle.std.specs.Prelude.{Option, Some, None, is_some, option_map}
use Rattle.plates.specs.Plates.{when}
use Rattle.plates.specs.Shapes.{same}
use Rattle.plates.specs.Files.{Field, has_tag, content_of, walk_all, four, field, prices_of, sum_of, sum_bytes, sum_field}
use Rattle.plates.specs.Says.{file_long, rights_in, sum_true, sum_true_by}
use Rattle.plates.specs.declared.reading.WalkedList.{WalkedList}
use Rattle.plates.specs.declared.reading.PlateList.{PlateList}
use Rattle.plates.specs.declared.reading.ShapeFile.{ShapeFile}
use Rattle.fields.specs.Writing.{Written}
use Rattle.fields.proofs.Puts.{written_none}
use Rattle.shapes.specs.Rates.{rates, Fair}
use Rattle.plates.proofs.Lists.{list_fair}
use Rattle.plates.proofs.Demands.{walked_longest}
use Rattle.plates.proofs.ShapeFile.{sum_long}
use Rattle.plates.proofs.HeldLists.{there_is, content_is, no_content, walked_darts, walked_laid}

module _ (l : WalkedList) where
  abbrev fs : List Field
  fs = (walk_all false l.bytes.now).fields

  is_priced : {o : Option (Bor (List ℕ))} → l.fields.prices ≡ o → is_some (option_map (λ c. c.now) o) ≡ has_tag 8 fs
  is_priced e = there_is fs 8 _ l.contents.prices e

  long_by : (b : Bool) → b ≡ has_tag 8 fs → 16 + 2 * length l.fields.ends.now + when b 7 ≡ file_long l.bytes.now
  long_by b e = omega (arith, walked_darts l, (walked_laid l).ends_even, ap (λ (b : Bool). when b 7) e)

  -- the length of a file
  pub long_priced : {c : Bor (List ℕ)} → l.fields.prices ≡ Some c → 16 + 2 * length l.fields.ends.now + 7 ≡ file_long l.bytes.now
  long_priced e = long_by true (is_priced e)

  pub long_plain : l.fields.prices ≡ None → 16 + 2 * length l.fields.ends.now ≡ file_long l.bytes.now
  long_plain e = omega (arith, long_by false (is_priced e))

  -- its last field
  pub sum_put : {c : Bor (List ℕ)} → l.fields.prices ≡ Some c → (r b : List ℕ) (v : ℕ) → v ≡ sum_of c.now r → b ≡ four v → {at n : ℕ} {out last : List ℕ} → Written at (field 22 b) out last n
      → Written at (sum_bytes (walk_all false l.bytes.now).fields r) out last n
  sum_put {c} e r b v v-is b-is {at} {n} {out} {last} =
      let bytes : b ≡ four (sum_of (content_of 8 fs) r) = b-is ∙ ap four (v-is ∙ ap (λ (ps : List ℕ). sum_of ps r) (content_is fs 8 _ l.contents.prices e)) in
      subst (λ (x : List ℕ). Written at x out last n) (ap (field 22) bytes ∙ ap (λ (b : Bool). sum_field b (content_of 8 fs) r) (is_priced e))

  pub sum_left : l.fields.prices ≡ None → (r : List ℕ) (at : ℕ) (out : List ℕ) → Written at (sum_bytes (walk_all false l.bytes.now).fields r) out out at
  sum_left e r at out = subst (λ (x : List ℕ). Written at x out out at) (ap (λ (b : Bool). sum_field b (content_of 8 fs) r) (is_priced e)) (written_none at out)

  pub sum_room : {c : Bor (List ℕ)} → l.fields.prices ≡ Some c → (r : List ℕ) → length (sum_bytes (walk_all false l.bytes.now).fields r) ≡ 7
  sum_room e r = sum_long fs r ∙ ap (λ (b : Bool). when b 7) (sym (is_priced e))

  -- a file is short
  pub long_most : file_long l.bytes.now ≤ 535
  long_most = walked_longest l.bytes.now l.walked

-- limits and prices as they are searched by
module _ (l : PlateList) where
  pub held_fair : {ls ps : List ℕ} → ps ≡ prices_of l.bytes.now → Fair (rates ls ps)
  held_fair {ls} e = subst (λ (ps : List ℕ). Fair (rates ls ps)) (sym e) (record { some_price = (list_fair l.bytes.now l.accepted).some_price; price_most = (list_fair l.bytes.now l.accepted).price_most })

-- whether a shape file's own sum is true
module _ (f : ShapeFile) where
  abbrev gs : List Field
  gs = (walk_all false f.list.bytes.now).fields

  abbrev us : List Field
  us = (walk_all true f.bytes.now).fields

  -- of a list with prices
  module _ {p : Bor (List ℕ)} (e : f.list.fields.prices ≡ Some p) where
    by_content : (said : List ℕ) → said ≡ content_of 22 us → same said (four (sum_of p.now f.counts.rights.now)) ≡ sum_true gs us
    by_content said q =
        let ps : p.now ≡ content_of 8 gs = content_is gs 8 _ f.list.contents.prices e in
        let given : true ≡ has_tag 8 gs = there_is gs 8 _ f.list.contents.prices e in
        λ i. sum_true_by (given i) (has_tag 22 us) (ps i) (f.rights i) (q i)

    pub sum_said : {c : Bor (List ℕ)} → f.sum ≡ Some c → {b : Bool} → b ≡ same c.now (four (sum_of p.now f.counts.rights.now)) → b ≡ sum_true (walk_all false f.list.bytes.now).fields (walk_all true f.bytes.now).fields
    sum_said {c} q e = e ∙ by_content c.now (content_is us 22 _ f.sum_said q)

    pub sum_missing : f.sum ≡ None → false ≡ sum_true (walk_all false f.list.bytes.now).fields (walk_all true f.bytes.now).fields
    sum_missing q = by_content [] (no_content us 22 _ f.sum_said q)

  -- of one without
  module _ (e : f.list.fields.prices ≡ None) where
    by_presence : (b : Bool) → b ≡ has_tag 22 us → not b ≡ sum_true gs us
    by_presence b q =
        let given : false ≡ has_tag 8 gs = there_is gs 8 _ f.list.contents.prices e in
        λ i. sum_true_by (given i) (q i) (content_of 8 gs) (rights_in f.bytes.now) (content_of 22 us)

    pub sum_unasked : {c : Bor (List ℕ)} → f.sum ≡ Some c → false ≡ sum_true (walk_all false f.list.bytes.now).fields (walk_all true f.bytes.now).fields
    sum_unasked q = by_presence true (there_is us 22 _ f.sum_said q)

    pub no_sum_asked : f.sum ≡ None → true ≡ sum_true (walk_all false f.list.bytes.now).fields (walk_all true f.bytes.now).fields
    no_sum_asked q = by_presence false (there_is us 22 _ f.sum_said q)
