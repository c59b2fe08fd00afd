-- A field that stands at the front of a file, as laid out, not met before and not below the previous one, is the next one that the walk meets. Assumes nothing.
use mathlib.Core.Path.{◌≡◌, refl, ap, ◌∙◌}
use mathlib.Core.Bool.{Bool, true, false, ◌&&◌}
use mathlib.Core.List.{List, ◌++◌}
use Prim.Native.Nat.{ℕ, suc, ◌+◌}
use native.Mathlib.Omega.{arith}
use lib.Dec.{ltb}
use lib.ListN.{length, drop, take, length-append}
use lib.Seq.{take_at, drop_at}
use borrow.Author.Tests.{eq-eqb, ne_eqb}
use Rattle.fields.specs.Files.{Field, tag_ok, is_known, long_ok, has_tag, add_field, last_tag, head_long, fault_by, field_at, fields_by, two, field}
use Rattle.fields.specs.Says.{word}
use Rattle.fields.proofs.Turns.{from_met, no_fault}

-- two bytes give their number back
pub word_two : (v : ℕ) → word (two v) ≡ v
word_two v = omega arith

abbrev pub met_field : ℕ → List ℕ → Field
met_field t c = record { tag = t; content = c }

module _ (t : ℕ) (c rest : List ℕ) where
  abbrev s : List ℕ
  s = field t c ++ rest

  pub head-long : head_long s ≡ length c
  head-long = omega arith

  pub whole_long : length s ≡ 3 + length c + length rest
  whole_long = omega (arith, length-append c rest)

  pub front_field : field_at s ≡ met_field t c
  front_field = ap (λ (d : List ℕ). met_field t d) (ap (λ (n : ℕ). take n (c ++ rest)) head-long ∙ take_at c rest (length c) refl)

  pub front_rest : drop (3 + head_long s) s ≡ rest
  front_rest = drop_at (field t c) rest (3 + head_long s) (omega (arith, head-long))

  module _ (o k : Bool) (fs : List Field) (known : is_known o k t ≡ true) (tag : tag_ok k t ≡ true) (new : has_tag t fs ≡ false) (above : (o && ltb t (last_tag fs)) ≡ false) (long : long_ok k t (length c) ≡ true) where
    pub front-fault : fault_by o k fs s ≡ 0
    front-fault =
        no_fault o k (has_tag t fs) (o && ltb t (last_tag fs)) s
        (record { known = known; tag = tag; new = new; above = above; long = ap (long_ok k t) head-long ∙ long; size = omega (arith, whole_long, head-long) })

    pub front_met : (l : ℕ) → fields_by o (suc l) k fs s ≡ fields_by o l k (add_field fs (met_field t c)) rest
    front_met l =
        from_met o l k fs s (ne_eqb (length s) 0 (omega (arith, whole_long))) (eq-eqb (fault_by o k fs s) 0 front-fault)
        ∙ ap (λ (f : Field). fields_by o l k (add_field fs f) (drop (3 + head_long s) s)) front_field
        ∙ ap (fields_by o l k (add_field fs (met_field t c))) front_rest
