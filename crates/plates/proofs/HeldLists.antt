-- What a list and a shape file that were read hold: the contents of their fields by tag, the list's plate, an angle and right bends for each of its darts. Assumes nothing.
use mathlib.Core.Path.{◌≡◌, refl, sym, ap, ap₂, ◌∙◌}
use mathlib.Core.Bool.{Bool, true, false, ◌&&◌, ◌||◌, not}
use mathlib.Core.List.{List, []}
use Prim.Native.Nat.{ℕ, ◌/◌, ◌%◌, ◌≤◌}
use native.Mathlib.Omega.{arith}
use denote.Bor.{Bor}
use lib.Dec.{eqb}
use lib.ListN.{length}
use borrow.Author.Tests.{eq-eqb, ne_eqb}
use Rattle.std.specs.Prelude.{Option, Some, None, is_some, unwrap_or, option_map, Ok}
use Rattle.fields.specs.Says.{ListFieldsOf, ShapeWalked}
use Rattle.fields.specs.declared.ListFields.{ListFields}
use Rattle.fields.specs.declared.ShapeFields.{ShapeFields}
use Rattle.fields.proofs.Added.{unwrap_or-content_at, there_by, content_by}
use Rattle.embedding.proofs.Holding.{held_darts}
use Rattle.plates.specs.Plates.{first_of, when, darts, strips}
use Rattle.plates.specs.Shapes.{prices_ok}
use Rattle.plates.specs.Files.{Field, has_tag, content_of, content_at, walk_all, plate_in, limits_fit, prices_fit, plate_of, prices_fit_by}
use Rattle.plates.specs.Says.{word, angles_in, rights_in}
use Rattle.plates.specs.Read.{ShapeHeld, shape_file_fault}
use Rattle.plates.specs.declared.reading.WalkedList.{WalkedList}
use Rattle.plates.specs.declared.reading.PlateList.{PlateList}
use Rattle.plates.proofs.Contents as Contents
use Rattle.plates.proofs.Lists.{list_walked}

unwrapped : (o : Option (Bor (List ℕ))) (c : Bor (List ℕ)) → (unwrap_or o c).now ≡ unwrap_or (option_map (λ b. b.now) o) c.now
unwrapped (Some b) c = refl
unwrapped None c = refl

-- the content of a tag that may be absent
module _ (fs : List Field) (t : ℕ) (o : Option (Bor (List ℕ))) (h : option_map (λ b. b.now) o ≡ content_at t fs) where
  -- nothing in its place where it is
  or_nothing : (c : Bor (List ℕ)) → c.now ≡ [] → (unwrap_or o c).now ≡ content_of t fs
  or_nothing c e = unwrapped o c ∙ ap₂ (λ (o : Option (List ℕ)) (d : List ℕ). unwrap_or o d) h e ∙ unwrap_or-content_at t fs

  pub there_is : {q : Option (Bor (List ℕ))} → o ≡ q → is_some (option_map (λ b. b.now) q) ≡ has_tag t fs
  there_is e = there_by t fs (ap (option_map (λ b. b.now)) (sym e) ∙ h)

  pub content_is : {c : Bor (List ℕ)} → o ≡ Some c → c.now ≡ content_of t fs
  content_is e = content_by t fs (ap (option_map (λ b. b.now)) (sym e) ∙ h)

  pub no_content : o ≡ None → [] ≡ content_of t fs
  no_content e = content_by t fs (ap (option_map (λ b. b.now)) (sym e) ∙ h)

-- the remark, the limits and the prices of a list, told whether there are any
module _ {fs : List Field} {f : ListFields} (h : ListFieldsOf fs f) where
  pub contents_remark : (c : Bor (List ℕ)) → c.now ≡ [] → (unwrap_or f.remark c).now ≡ content_of 6 fs
  contents_remark = or_nothing fs 6 _ h.remark

  pub contents_limits : (c : Bor (List ℕ)) → c.now ≡ [] → (unwrap_or f.limits c).now ≡ content_of 7 fs
  contents_limits = or_nothing fs 7 _ h.limits

  pub contents_prices : (c : Bor (List ℕ)) → c.now ≡ [] → (unwrap_or f.prices c).now ≡ content_of 8 fs
  contents_prices = or_nothing fs 8 _ h.prices

  abbrev fit_by : Bool → Bool
  fit_by given = not given || eqb (length (content_of 7 fs)) (strips (plate_in fs))

  pub limits_fit_some : {l : Bor (List ℕ)} → f.limits ≡ Some l → eqb (length l.now) (length f.ends.now / 2) ≡ limits_fit fs
  limits_fit_some e = ap₂ (λ (x y : List ℕ). eqb (length x) (length y / 2)) (content_is fs 7 _ h.limits e) h.ends ∙ ap fit_by (there_is fs 7 _ h.limits e)

  pub limits_fit_none : f.limits ≡ None → true ≡ limits_fit fs
  limits_fit_none e = ap fit_by (there_is fs 7 _ h.limits e)

  abbrev priced_by : Bool → Bool
  priced_by given = prices_fit_by given (strips (plate_in fs)) (content_of 8 fs)

  module _ {l : Bor (List ℕ)} (e : f.prices ≡ Some l) where
    priced : (eqb (length l.now) (length f.ends.now / 2) && prices_ok l.now) ≡ prices_fit fs
    priced = ap₂ (λ (x y : List ℕ). eqb (length x) (length y / 2) && prices_ok x) (content_is fs 8 _ h.prices e) h.ends ∙ ap priced_by (there_is fs 8 _ h.prices e)

    pub prices_fit_enough : length l.now ≡ length f.ends.now / 2 → prices_ok l.now ≡ prices_fit fs
    prices_fit_enough n = ap (λ (b : Bool). b && prices_ok l.now) (sym (eq-eqb (length l.now) (length f.ends.now / 2) n)) ∙ priced

    pub prices_fit_other : (length l.now ≡ length f.ends.now / 2 → ⊥) → false ≡ prices_fit fs
    prices_fit_other n = ap (λ (b : Bool). b && prices_ok l.now) (sym (ne_eqb (length l.now) (length f.ends.now / 2) n)) ∙ priced

  pub prices_fit_none : f.prices ≡ None → true ≡ prices_fit fs
  prices_fit_none e = ap priced_by (there_is fs 8 _ h.prices e)

-- their lengths in a list that passed the walk
pub contents_lengths : (s : List ℕ) {f : ListFields} → (walk_all false s).number ≡ 0 → ListFieldsOf (walk_all false s).fields f → (length f.ends.now ≤ 256) × (length f.ends.now % 2 ≡ 0) × (length f.order.now ≤ 256)
contents_lengths s {f} e h =
    let laid = Contents.list_fields s e in
    (omega (arith, laid.ends_most, ap length h.ends), rw h.ends laid.ends_even, omega (arith, laid.order_most, ap length h.order))

-- the lengths of the fields of a list that passed the walk
module _ (l : WalkedList) where
  pub walked_laid : Contents.ListFields (walk_all false l.bytes.now).fields
  walked_laid = Contents.list_fields l.bytes.now l.walked

  pub walked_darts : length l.fields.ends.now ≡ darts (plate_of l.bytes.now)
  walked_darts = ap length l.contents.ends

  pub walked_few : length l.fields.ends.now ≤ 256
  walked_few = omega (arith, walked_darts, walked_laid.ends_most)

-- 17 for a shape file with more or fewer angles or right bends than the list has darts
module _ (l : WalkedList) {t : List ℕ} {g : ShapeFields} (h : ShapeWalked t (Ok g)) where
  abbrev many_as : List ℕ → Bool
  many_as x = eqb (length x) (length l.fields.ends.now)

  abbrev same_revision : Bool
  same_revision = eqb (word (content_of 1 (walk_all false l.bytes.now).fields)) (word (content_of 17 (walk_all true t).fields))

  long_wrong : false ≡ (many_as g.angles.now && many_as g.rights.now) → 17 ≡ shape_file_fault l.bytes.now t
  long_wrong q =
      let p = plate_of l.bytes.now in
      let same : (many_as g.angles.now && many_as g.rights.now) ≡ (eqb (length (angles_in t)) (darts p) && eqb (length (rights_in t)) (darts p)) =
      λ i. eqb (length (h.fields.angles i)) (walked_darts l i) && eqb (length (h.fields.rights i)) (walked_darts l i) in
      let wrong = q ∙ same in
      λ i. first_of (h.number i) (first_of (when (not (wrong i)) 17) (when (not same_revision) 18))

  pub angles_differ : (length g.angles.now ≡ length l.fields.ends.now → ⊥) → 17 ≡ shape_file_fault l.bytes.now t
  angles_differ n = long_wrong (ap (λ (b : Bool). b && many_as g.rights.now) (sym (ne_eqb _ _ n)))

  pub rights_differ : length g.angles.now ≡ length l.fields.ends.now → (length g.rights.now ≡ length l.fields.ends.now → ⊥)
      → 17 ≡ shape_file_fault l.bytes.now t
  rights_differ e n = long_wrong (sym (ne_eqb _ _ n) ∙ ap (λ (b : Bool). b && many_as g.rights.now) (sym (eq-eqb _ _ e)))

-- the plate of a list
module _ (l : PlateList) where
  abbrev s : List ℕ
  s = l.bytes.now

  pub list_laid : Contents.ListFields (walk_all false s).fields
  list_laid = Contents.list_fields s (list_walked s l.accepted)

  pub list_darts : l.plate.darts ≡ darts (plate_of s)
  list_darts = l.plate.stands.dart_count ∙ ap darts l.table

  pub list_few : l.plate.darts ≤ 256
  list_few = held_darts l.plate.stands l.plate.accepted

  pub list_even : l.plate.darts % 2 ≡ 0
  list_even = ap (λ (n : ℕ). n % 2) list_darts ∙ list_laid.ends_even

  -- counts for it, read of the same bytes
  pub held_many : {r t : List ℕ} {g : ShapeFields} → r ≡ l.bytes.now → ShapeHeld r t g
      → (length g.angles.now ≡ l.plate.darts) × (length g.rights.now ≡ l.plate.darts)
  held_many e h =
      let darts-same = ap (λ (s : List ℕ). darts (plate_of s)) e ∙ sym list_darts in
      (ap length h.fields.angles ∙ h.angles_many ∙ darts-same, ap length h.fields.rights ∙ h.rights_many ∙ darts-same)
