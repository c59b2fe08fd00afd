-- What the walk over a file gives.
use Rattle.std.specs.Prelude.{◌≡◌, Bool, true, false, not, List, [], ◌∷◌, ℕ, ◌+◌, ◌≤◌, ◌<◌, eqb, length, take, drop, get_or, Option, Some, None, Result, Ok, Err, IfOk, option_map}
use Rattle.finite.specs.Base.{when, word_at}
use Rattle.refusals.specs.Numbers.{number_of, fault_of}
use Rattle.refusals.specs.declared.Refusal.{Refusal}
use Rattle.fields.specs.Files.{Field, content_of, content_at, all_there, walk_by, walk_all}
use Rattle.fields.specs.Rules.{tag_at, all_met}
use Rattle.fields.specs.declared.Slots.{Slots}
use Rattle.fields.specs.declared.ListFields.{ListFields}
use Rattle.fields.specs.declared.ShapeFields.{ShapeFields}

-- the content of slot i
abbrev pub content_in : Slots → ℕ → Option (List ℕ)
content_in f i = option_map (λ c. c.now) (get_or f.slots i None)

-- where the content of tag t starts in a file whose first field stands at p; 0 where the tag is absent
abbrev pub place_from : ℕ → ℕ → List Field → ℕ
place_from p t [] = 0
place_from p t (f ∷ fs) = elim (eqb t f.tag) [ true ↦ p + 3 | false ↦ place_from (p + 3 + length f.content) t fs ]

-- the place of each slot is that of its tag, where the fields fs were met from the front of a file
abbrev pub Placed : Bool → List Field → List ℕ → Type 0
Placed is_shape fs at = (i : ℕ) → i < 8 → get_or at i 0 ≡ place_from 0 (tag_at is_shape i) fs

-- the content of tag t stands at its place in the file s and lies within it, where the fields fs were met; that of an absent tag is empty
pub record StandsAt (s : List ℕ) (fs : List Field) (t : ℕ) : Type 0 where
  pub inside : place_from 0 t fs + length (content_of t fs) ≤ length s
  pub content : take (length (content_of t fs)) (drop (place_from 0 t fs) s) ≡ content_of t fs

-- so it is of every file that a walk takes, in order or in any order
abbrev pub Stands : Type 0
Stands = (in_order is_shape : Bool) (s : List ℕ) → (walk_by in_order is_shape s).number ≡ 0 → (t : ℕ) → StandsAt s (walk_by in_order is_shape s).fields t

-- each slot holds the content of its tag, where the fields fs were met, and its place
pub record SlotsOf (is_shape : Bool) (fs : List Field) (f : Slots) : Type 0 where
  pub slot : (i : ℕ) → i < 8 → content_in f i ≡ content_at (tag_at is_shape i) fs
  pub place : Placed is_shape fs f.at

-- what the walk met, before it is asked whether a field is absent, or its refusal
abbrev pub FieldsMet : Bool → Bool → List ℕ → Result Slots Refusal → Type 0
FieldsMet in_order is_shape s (Ok f) =
    let w = walk_by in_order is_shape s in
    (w.number ≡ when (not (all_there is_shape w.fields)) 6) × SlotsOf is_shape w.fields f
FieldsMet in_order is_shape s (Err r) = (walk_by in_order is_shape s).number ≡ number_of r

-- the fields of a file, or its refusal; in_order: its tags ascend, which those of an older file need not
pub record HoldsBy (in_order is_shape : Bool) (s : List ℕ) (r : Result Slots Refusal) : Type 0 where
  pub number : fault_of r ≡ (walk_by in_order is_shape s).number
  pub slots : IfOk r (SlotsOf is_shape (walk_by in_order is_shape s).fields)

-- the fields of a plate list and of a shape file by name, each content that of its tag, and their places by slot
pub record ListFieldsOf (fs : List Field) (f : ListFields) : Type 0 where
  pub revision : f.revision.now ≡ content_of 1 fs
  pub posts : f.posts.now ≡ content_of 2 fs
  pub ends : f.ends.now ≡ content_of 3 fs
  pub order : f.order.now ≡ content_of 4 fs
  pub outer : f.outer.now ≡ content_of 5 fs
  pub remark : option_map (λ c. c.now) f.remark ≡ content_at 6 fs
  pub limits : option_map (λ c. c.now) f.limits ≡ content_at 7 fs
  pub prices : option_map (λ c. c.now) f.prices ≡ content_at 8 fs
  pub place : Placed false fs f.at

pub record ShapeFieldsOf (fs : List Field) (f : ShapeFields) : Type 0 where
  pub revision : f.revision.now ≡ content_of 17 fs
  pub total : f.total.now ≡ content_of 18 fs
  pub angles : f.angles.now ≡ content_of 19 fs
  pub rights : f.rights.now ≡ content_of 20 fs
  pub remark : option_map (λ c. c.now) f.remark ≡ content_at 21 fs
  pub sum : option_map (λ c. c.now) f.sum ≡ content_at 22 fs
  pub place : Placed true fs f.at

-- the contents that slots hold, by name, and their places
pub record ListNamed (f : Slots) (g : ListFields) : Type 0 where
  pub revision : Some g.revision ≡ get_or f.slots 0 None
  pub posts : Some g.posts ≡ get_or f.slots 1 None
  pub ends : Some g.ends ≡ get_or f.slots 2 None
  pub order : Some g.order ≡ get_or f.slots 3 None
  pub outer : Some g.outer ≡ get_or f.slots 4 None
  pub remark : g.remark ≡ get_or f.slots 5 None
  pub limits : g.limits ≡ get_or f.slots 6 None
  pub prices : g.prices ≡ get_or f.slots 7 None
  pub place : g.at ≡ f.at

pub record ShapeNamed (f : Slots) (g : ShapeFields) : Type 0 where
  pub revision : Some g.revision ≡ get_or f.slots 0 None
  pub total : Some g.total ≡ get_or f.slots 1 None
  pub angles : Some g.angles ≡ get_or f.slots 2 None
  pub rights : Some g.rights ≡ get_or f.slots 3 None
  pub remark : g.remark ≡ get_or f.slots 4 None
  pub sum : g.sum ≡ get_or f.slots 5 None
  pub place : g.at ≡ f.at

-- these, or 6 where one of them is absent
pub record ListThere (f : Slots) (r : Result ListFields Refusal) : Type 0 where
  pub number : fault_of r ≡ when (not (all_met false f.slots)) 6
  pub fields : IfOk r (ListNamed f)

pub record ShapeThere (f : Slots) (r : Result ShapeFields Refusal) : Type 0 where
  pub number : fault_of r ≡ when (not (all_met true f.slots)) 6
  pub fields : IfOk r (ShapeNamed f)

-- all of them, or 6
pub record AllThere (is_shape : Bool) (f : Slots) (r : Result Slots Refusal) : Type 0 where
  pub number : fault_of r ≡ when (not (all_met is_shape f.slots)) 6
  pub same : IfOk r (λ g. g ≡ f)

-- what the walk over a plate list and over a shape file gives
pub record ListWalked (s : List ℕ) (r : Result ListFields Refusal) : Type 0 where
  pub number : fault_of r ≡ (walk_all false s).number
  pub fields : IfOk r (ListFieldsOf (walk_all false s).fields)

pub record ShapeWalked (s : List ℕ) (r : Result ShapeFields Refusal) : Type 0 where
  pub number : fault_of r ≡ (walk_all true s).number
  pub fields : IfOk r (ShapeFieldsOf (walk_all true s).fields)

-- the first byte, 0 where there is none
abbrev pub head : List ℕ → ℕ
head c = get_or c 0 0

-- the first two bytes as a number, high byte first
abbrev pub word : List ℕ → ℕ
word c = word_at c 0
