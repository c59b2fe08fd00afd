-- The length rule of a tag, and one field met by the walk, as the code has them.
use Rattle.std.specs.Prelude.{◌≡◌, Bool, true, false, ◌&&◌, ◌||◌, not, List, ℕ, ◌+◌, ◌-◌, ◌%◌, eqb, ltb, leb, get_or, drop, Option, Some, None, Result, IfOk, is_some}
use Rattle.finite.specs.Base.{pick, when}
use Rattle.refusals.specs.Numbers.{fault_of}
use Rattle.refusals.specs.declared.Refusal.{Refusal}
use Rattle.fields.specs.Files.{is_known, tag_in, long_ok, head_long, fault_where, field_at}
use Rattle.fields.specs.declared.Rule.{Rule}
use Rattle.fields.specs.declared.Rule.TheVariants.{Exactly, EvenUpTo, UpTo}
use Rattle.fields.specs.declared.Met.{Met}

-- a tag's rule, of a plate list and of a shape file; none where it is no such tag
abbrev pub list_rule : ℕ → Option Rule
list_rule t =
    pick (eqb t 1) (Some (Exactly 2))
    (pick (eqb t 2 || eqb t 5) (Some (Exactly 1))
    (pick (eqb t 3) (Some (EvenUpTo 256))
    (pick (eqb t 4) (Some (UpTo 256))
    (pick (eqb t 6) (Some (UpTo 80))
    (pick (eqb t 7 || eqb t 8) (Some (UpTo 128)) None)))))

abbrev pub shape_rule : ℕ → Option Rule
shape_rule t =
    pick (leb 17 t && leb t 18) (Some (Exactly 2))
    (pick (leb 19 t && leb t 20) (Some (UpTo 256))
    (pick (eqb t 21) (Some (UpTo 80))
    (pick (eqb t 22) (Some (Exactly 4)) None)))

abbrev pub rule_of : Bool → ℕ → Option Rule
rule_of is_shape t = pick is_shape (shape_rule t) (list_rule t)

-- by a walk in order or in any order: none where it does not know the tag
abbrev pub rule_in : Bool → Bool → ℕ → Option Rule
rule_in in_order is_shape t = pick (is_known in_order is_shape t) (rule_of is_shape t) None

-- the refusal that a rule stands for: 2 where the tag is none of this file
abbrev pub rule_number : Option Rule → ℕ
rule_number (Some r) = 0
rule_number None = 2

-- a length that a rule allows
abbrev pub keeps : Rule → ℕ → Bool
keeps (Exactly m) n = eqb n m
keeps (EvenUpTo m) n = leb n m && eqb (n % 2) 0
keeps (UpTo m) n = leb n m

abbrev pub allowed : Option Rule → ℕ → Bool
allowed (Some r) n = keeps r n
allowed None n = false

-- the rule of a tag, with its number and the lengths that it allows
pub record RuleBy (in_order is_shape : Bool) (t : ℕ) (r : Option Rule) : Type 0 where
  pub rule : r ≡ rule_in in_order is_shape t
  pub number : rule_number r ≡ when (not (tag_in in_order is_shape t)) 2
  pub long : (n : ℕ) → tag_in in_order is_shape t ≡ true → allowed r n ≡ long_ok is_shape t n

-- of every tag of a file
abbrev pub RuleIs : Bool → ℕ → Option Rule → Type 0
RuleIs is_shape t r = RuleBy true is_shape t r

-- slots: tags 1 to 8 of a list are 0 to 7, tags 11 to 16 hexadecimal of a shape 0 to 5
abbrev pub first_tag : Bool → ℕ
first_tag is_shape = pick is_shape 17 1

abbrev pub slot_of : Bool → ℕ → ℕ
slot_of is_shape t = t - first_tag is_shape

abbrev pub tag_at : Bool → ℕ → ℕ
tag_at is_shape i = first_tag is_shape + i

-- whether a slot has a content
abbrev pub is_met : {A : Type 0} → List (Option A) → ℕ → Bool
is_met before i = is_some (get_or before i None)

-- every field but the remark, the limits, the prices and their sum has a content
abbrev pub all_met : {A : Type 0} → Bool → List (Option A) → Bool
all_met is_shape before = is_met before 0 && (is_met before 1 && (is_met before 2 && (is_met before 3 && (is_shape || is_met before 4))))

-- the fault of the field at the front of s, told the slots that were met before it and the tag that it may not be below
abbrev pub front_fault : {A : Type 0} → Bool → Bool → List (Option A) → ℕ → List ℕ → ℕ
front_fault in_order is_shape before low s =
    let t = get_or s 0 0 in
    fault_where in_order is_shape (is_met before (slot_of is_shape t)) (ltb t low) s

-- that field: its slot, its content, and what is behind it
pub record MetIs (is_shape : Bool) (s : List ℕ) (m : Met) : Type 0 where
  pub slot : m.slot ≡ slot_of is_shape (get_or s 0 0)
  pub content : m.content.now ≡ (field_at s).content
  pub rest : m.rest.now ≡ drop (3 + head_long s) s

-- refused with that fault, or met
pub record FrontIs {A : Type 0} (in_order is_shape : Bool) (before : List (Option A)) (low : ℕ) (s : List ℕ) (r : Result Met Refusal) : Type 0 where
  pub number : fault_of r ≡ front_fault in_order is_shape before low s
  pub met : IfOk r (MetIs is_shape s)
