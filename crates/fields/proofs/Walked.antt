-- The walk as the code does it: slots and what is left of the file stand for the fields met.
-- `Going` is what holds between two fields. Assumes nothing.
use mathlib.Core.Path.{◌≡◌, refl, sym, subst, ap, ◌∙◌}
use mathlib.Core.Bool.{Bool, true, false, ◌&&◌, not}
use mathlib.Core.List.{List, []}
use Prim.Native.Nat.{ℕ, zero, suc, ◌+◌, ◌-◌, ◌≤◌, ◌<◌}
use native.Mathlib.Omega.{arith}
use Rattle.std.specs.Prelude.{Option, Some, None, Ok, Err, is_some, option_map}
use denote.Bor.{Bor}
use lib.Dec.{eqb, ltb, lit<}
use lib.ListN.{length, get_or, drop, set, replicate, length-set, length-drop, get_or-replicate}
use lib.Seq.{get_or-set_same, get_or-set_other}
use borrow.Author.Tests.{eqb-true, eqb-false, ne_eqb, eq-eqb}
use Rattle.finite.specs.Base.{pick, when}
use Rattle.refusals.specs.declared.Refusal.{Refusal}
use Rattle.refusals.specs.Numbers.{number_of}
use Rattle.fields.specs.Files.{Field, Walk, walk, tag_ok, has_tag, content_at, add_field, all_there, head_long, last_tag, fault_where, fault_by, field_at, fields_by, walk_by}
use Rattle.fields.specs.Rules.{slot_of, tag_at, is_met, front_fault, all_met}
use Rattle.fields.specs.Says.{place_from, content_in, SlotsOf, FieldsMet}
use Rattle.fields.specs.declared.Slots.{Slots}
use Rattle.refusals.proofs.Numbered.{some_number}
use Rattle.fields.proofs.Agree.{tag_from}
use Rattle.fields.proofs.Turns.{from_end, from_fault, from_met, fault_same, below_is, Passed, passed, content_size}
use Rattle.fields.proofs.Added.{end_from, end_add, last_add, at_other, place_other, at_own, place_own, there_by}

-- ---- slots
abbrev pub none_met : Slots
none_met = record { slots = replicate 8 None; at = replicate 8 0 }

none_held : (k : Bool) → SlotsOf k [] none_met
none_held k = record { slot = λ i h. ap (option_map (λ c. c.now)) (get_or-replicate 8 i None None h); place = λ i h. get_or-replicate {A = ℕ} 8 i 0 0 h }

-- a slot's content tells whether the field is there
module _ {k : Bool} {fs : List Field} {f : Slots} (h : SlotsOf k fs f) (i : ℕ) (l : i < 8) where
  met_is : is_met f.slots i ≡ has_tag (tag_at k i) fs
  met_is = mapped (get_or f.slots i None) ∙ there_by (tag_at k i) fs (h.slot i l)
    where
      mapped : (o : Option (Bor (List ℕ))) → is_some o ≡ is_some (option_map (λ c. c.now) o)
      mapped None = refl
      mapped (Some c) = refl

-- the slots tell whether a field is absent
and_one : (b : Bool) → (b && true) ≡ b
and_one true = refl
and_one false = refl

pub all_of : (k : Bool) (fs : List Field) (f : Slots) → SlotsOf k fs f → all_met k f.slots ≡ all_there k fs
all_of true fs f h = rw (met_is h 0 (lit< tt), met_is h 1 (lit< tt), met_is h 2 (lit< tt), met_is h 3 (lit< tt), and_one)
all_of false fs f h = rw (met_is h 0 (lit< tt), met_is h 1 (lit< tt), met_is h 2 (lit< tt), met_is h 3 (lit< tt), met_is h 4 (lit< tt))

-- between two fields: the fields met so far, and what is left to walk gives the file's answer
pub record Going (o k : Bool) (s r : List ℕ) (f : Slots) (low : ℕ) : Type 0 where
  pub fuel : ℕ
  pub fs : List Field
  pub enough : length r < fuel
  pub rest : walk_by o k s ≡ fields_by o fuel k fs r
  pub last : low ≡ pick o (last_tag fs) 0
  pub ends : length s ≡ end_from 0 fs + length r
  pub slots : SlotsOf k fs f
  pub long : length f.slots ≡ 8
  pub long_at : length f.at ≡ 8

zero_low : (o : Bool) → ◌≡◌ {A = ℕ} 0 (pick o 0 0)
zero_low true = refl
zero_low false = refl

pub going_start : (o k : Bool) (s : List ℕ) → Going o k s s none_met 0
going_start o k s =
    record {
      fuel = suc (length s);
      fs = [];
      enough = omega arith;
      rest = refl;
      last = zero_low o;
      ends = omega arith;
      slots = none_held k;
      long = refl;
      long_at = refl;
    }

module _ {o k : Bool} {s r : List ℕ} {f : Slots} {low : ℕ} (g : Going o k s r f low) where
  -- where the content of the field at the front of what is left starts
  abbrev place : ℕ
  place = length s - length r + 3

  -- its tag, with its slot, and the fault
  abbrev t : ℕ
  t = get_or r 0 0

  abbrev slot : ℕ
  slot = slot_of k t

  abbrev fault : ℕ
  fault = front_fault o k f.slots low r

  -- the tag's slot says whether it was met
  seen_is : tag_ok k t ≡ true → is_met f.slots slot ≡ has_tag t g.fs
  seen_is q =
      let b = tag_from k t q in
      let e : tag_at k slot ≡ t = omega arith in
      met_is g.slots slot (omega arith) ∙ ap (λ (x : ℕ). has_tag x g.fs) e

  below : ltb t low ≡ (o && ltb t (last_tag g.fs))
  below = ap (ltb t) g.last ∙ below_is o t (last_tag g.fs)

  fault_is : fault_by o k g.fs r ≡ fault
  fault_is =
      ap (λ (b : Bool). fault_where o k (has_tag t g.fs) b r) (sym below)
      ∙ sym (fault_same o k (is_met f.slots slot) (has_tag t g.fs) (ltb t low) r seen_is)

  -- the fuel that is left, a step on
  more : (l : ℕ) × (g.fuel ≡ suc l)
  more = go g.fuel refl
    where
      go : (x : ℕ) → g.fuel ≡ x → (l : ℕ) × (g.fuel ≡ suc l)
      go zero e = absurd (omega (arith, g.enough))
      go (suc l) e = (l, e)

  rest_from : (l : ℕ) → g.fuel ≡ suc l → walk_by o k s ≡ fields_by o (suc l) k g.fs r
  rest_from l e = subst (λ (x : ℕ). walk_by o k s ≡ fields_by o x k g.fs r) e g.rest

  module _ (here : 1 ≤ length r) where
    left : eqb (length r) 0 ≡ false
    left = ne_eqb (length r) 0 (omega arith)

    pub going_fault : (e : Refusal) → number_of e ≡ fault → FieldsMet o k s (Err e)
    going_fault e q =
        let (l, m) = more in
        let same : fault_by o k g.fs r ≡ number_of e = fault_is ∙ sym q in
        let some : eqb (fault_by o k g.fs r) 0 ≡ false = ne_eqb (fault_by o k g.fs r) 0 (λ z. some_number e (sym same ∙ z)) in
        ap (λ (w : Walk). w.number) (rest_from l m ∙ from_fault o l k g.fs r left some) ∙ same

    -- the field at the front passed
    module _ (ok : 0 ≡ fault) where
      p : Passed o k (is_met f.slots slot) (ltb t low) r
      p = passed o k (is_met f.slots slot) (ltb t low) r (sym ok)

      slot_below : slot < 8
      slot_below = let b = tag_from k t p.tag in omega arith

      slot_tag : tag_at k slot ≡ t
      slot_tag = let b = tag_from k t p.tag in omega arith

      new : has_tag t g.fs ≡ false
      new = sym (seen_is p.tag) ∙ p.new

      place_is : place ≡ place_from 0 t (add_field g.fs (field_at r))
      place_is = let e : place ≡ end_from 0 g.fs + 3 = omega (arith, g.ends) in e ∙ sym (place_own (field_at r) 0 g.fs new)

      places_on : (j : ℕ) → j < 8 → get_or (set f.at slot place) j 0 ≡ place_from 0 (tag_at k j) (add_field g.fs (field_at r))
      places_on j h = go (eqb j slot) refl
        where
          go : (b : Bool) → eqb j slot ≡ b → get_or (set f.at slot place) j 0 ≡ place_from 0 (tag_at k j) (add_field g.fs (field_at r))
          go true e = rw (eqb-true j slot e, get_or-set_same f.at slot place 0 (omega (arith, g.long_at, slot_below)), slot_tag) place_is
          go false e =
              let no = eqb-false j slot e in
              rw (get_or-set_other f.at slot j place 0 no)
              (g.slots.place j h ∙ sym (place_other (tag_at k j) (field_at r) (ne_eqb (tag_at k j) t (omega (arith, no, slot_tag))) 0 g.fs))

      module _ (c : Bor (List ℕ)) (content : c.now ≡ (field_at r).content) where
        abbrev on : Slots
        on = record { slots = set f.slots slot (Some c); at = set f.at slot place }

        slots_on : (j : ℕ) → j < 8 → content_in on j ≡ content_at (tag_at k j) (add_field g.fs (field_at r))
        slots_on j h = go (eqb j slot) refl
          where
            go : (b : Bool) → eqb j slot ≡ b → content_in on j ≡ content_at (tag_at k j) (add_field g.fs (field_at r))
            go true e =
                rw (eqb-true j slot e, get_or-set_same f.slots slot (Some c) None (omega (arith, g.long, slot_below)), slot_tag, content)
                (sym (at_own (field_at r) g.fs new))
            go false e =
                let no = eqb-false j slot e in
                rw (get_or-set_other f.slots slot j (Some c) None no)
                (g.slots.slot j h ∙ sym (at_other (tag_at k j) (field_at r) (ne_eqb (tag_at k j) t (omega (arith, no, slot_tag))) g.fs))

        going_on : Going o k s (drop (3 + head_long r) r) on (pick o t 0)
        going_on =
            let (l, m) = more in
            record {
              fuel = l;
              fs = add_field g.fs (field_at r);
              enough = omega (arith, g.enough, m, length-drop (3 + head_long r) r, here);
              rest = rest_from l m ∙ from_met o l k g.fs r left (eq-eqb _ 0 (fault_is ∙ sym ok));
              last = ap (λ (x : ℕ). pick o x 0) (sym (last_add g.fs (field_at r)));
              ends = omega (arith, g.ends, end_add 0 g.fs (field_at r), content_size r p.size, p.size, length-drop (3 + head_long r) r);
              slots = record { slot = slots_on; place = places_on };
              long = length-set f.slots slot (Some c) ∙ g.long;
              long_at = length-set f.at slot place ∙ g.long_at;
            }

      -- a field met: its slot, content and place, and the walk goes on behind it
      pub going_met : (i : ℕ) (c : Bor (List ℕ)) (b : List ℕ) (a x : ℕ) → i ≡ slot → c.now ≡ (field_at r).content → b ≡ drop (3 + head_long r) r
          → a ≡ place → x ≡ pick o t 0 → Going o k s b (record { slots = set f.slots i (Some c); at = set f.at i a }) x
      going_met i c b a x ei ec eb ea ex = rw (ei, eb, ea, ex) (going_on c ec)

  -- the end of the file
  pub going_done : length r ≡ 0 → FieldsMet o k s (Ok f)
  going_done done =
      let (l, m) = more in
      let w : walk_by o k s ≡ walk (when (not (all_there k g.fs)) 6) g.fs = rest_from l m ∙ from_end o l k g.fs r (eq-eqb (length r) 0 done) in
      subst (λ (v : Walk). (v.number ≡ when (not (all_there k v.fields)) 6) × SlotsOf k v.fields f) (sym w) (refl, g.slots)
