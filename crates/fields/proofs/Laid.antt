-- The length of each field's content in a walked file is as laid out, and each tag one of the file: each step of the walk adds a field that passed refusals 2 and 4.
-- Assumes nothing.
use mathlib.Core.Path.{◌≡◌, refl, sym, ap, ◌∙◌}
use mathlib.Core.Bool.{Bool, true, false}
use mathlib.Core.List.{List, [], ◌∷◌}
use Prim.Native.Nat.{ℕ, zero, suc, ◌+◌}
use lib.Dec.{eqb}
use lib.ListN.{length, drop}
use borrow.Author.Tests.{eqb-true}
use Rattle.finite.proofs.Tests.{not_both, or_left_false, or_right_false}
use Rattle.fields.specs.Files.{Field, tag_ok, long_ok, has_tag, content_of, add_field, head_long, fault_by, field_at, fields_by, walk_by}
use Rattle.fields.proofs.Added.{has_other, content_other, content_own}
use Rattle.fields.proofs.Turns.{from_end, from_fault, from_met, passed_by, content_size}

-- P holds of the fields of a walk, if it holds of none and of each field more, met at the front of bytes of which Q holds
module _ (o k : Bool) (Q : List ℕ → Type 0) (P : List Field → Type 0) (none : P []) (rest : (n : ℕ) (s : List ℕ) → Q s → Q (drop n s))
    (more : (fs : List Field) (s : List ℕ) → Q s → P fs → fault_by o k fs s ≡ 0 → P (add_field fs (field_at s))) where
  pub every_field : (l : ℕ) (fs : List Field) (s : List ℕ) → Q s → P fs → P (fields_by o l k fs s).fields
  every_field zero fs s q h = h
  every_field (suc l) fs s q h = go (eqb (length s) 0) refl (eqb (fault_by o k fs s) 0) refl (every_field l (add_field fs (field_at s)) (drop (3 + head_long s) s) (rest (3 + head_long s) s q))
    where
      go : (a : Bool) → eqb (length s) 0 ≡ a → (b : Bool) → eqb (fault_by o k fs s) 0 ≡ b
          → (P (add_field fs (field_at s)) → P (fields_by o l k (add_field fs (field_at s)) (drop (3 + head_long s) s)).fields)
          → P (fields_by o (suc l) k fs s).fields
      go true e b g ih = rw (from_end o l k fs s e) h
      go false e false g ih = rw (from_fault o l k fs s e g) none
      go false e true g ih = rw (from_met o l k fs s e g) (ih (more fs s q h (eqb-true (fault_by o k fs s) 0 g)))

-- each field that is there has a length as laid out
abbrev pub LaidOut : Bool → List Field → Type 0
LaidOut k fs = (t : ℕ) → has_tag t fs ≡ true → long_ok k t (length (content_of t fs)) ≡ true

none_laid : (k : Bool) → LaidOut k []
none_laid k t h = absurd (not_both h refl)

module _ (o k : Bool) (fs : List Field) (s : List ℕ) (laid : LaidOut k fs) (ok : fault_by o k fs s ≡ 0) where
  abbrev f : Field
  f = field_at s

  own_long : length (content_of f.tag (add_field fs f)) ≡ head_long s
  own_long = ap length (content_own f fs (passed_by o k fs s ok).new) ∙ content_size s (passed_by o k fs s ok).size

  own_laid : long_ok k f.tag (length (content_of f.tag (add_field fs f))) ≡ true
  own_laid = ap (long_ok k f.tag) own_long ∙ (passed_by o k fs s ok).long

  more_laid : LaidOut k (add_field fs f)
  more_laid t h = go (eqb t f.tag) refl
    where
      go : (b : Bool) → eqb t f.tag ≡ b → long_ok k t (length (content_of t (add_field fs f))) ≡ true
      go true e = rw (eqb-true t f.tag e) own_laid
      go false e = rw (content_other t f e fs) (laid t (sym (has_other t f e fs) ∙ h))

pub all_laid : (o k : Bool) (s : List ℕ) → LaidOut k (walk_by o k s).fields
all_laid o k s = every_field o k (λ r. Unit {0}) (LaidOut k) (none_laid k) (λ n r h. tt) (λ fs r h laid ok. more_laid o k fs r laid ok) (suc (length s)) [] s tt (none_laid k)

-- each tag that is there is one of the file
abbrev pub TagsOk : Bool → List Field → Type 0
TagsOk k fs = (t : ℕ) → has_tag t fs ≡ true → tag_ok k t ≡ true

more_tags : (o k : Bool) (fs : List Field) (s : List ℕ) → TagsOk k fs → fault_by o k fs s ≡ 0 → TagsOk k (add_field fs (field_at s))
more_tags o k fs s tags ok t h = go (eqb t (field_at s).tag) refl
  where
    go : (b : Bool) → eqb t (field_at s).tag ≡ b → tag_ok k t ≡ true
    go true e = rw (eqb-true t (field_at s).tag e) (passed_by o k fs s ok).tag
    go false e = tags t (sym (has_other t (field_at s) e fs) ∙ h)

pub all_tags : (o k : Bool) (s : List ℕ) → TagsOk k (walk_by o k s).fields
all_tags o k s =
    every_field o k (λ r. Unit {0}) (TagsOk k) (λ t h. absurd (not_both h refl)) (λ n r h. tt) (λ fs r h tags ok. more_tags o k fs r tags ok) (suc (length s)) [] s tt (λ t h. absurd (not_both h refl))

-- an absent field has no content
pub absent_none : (t : ℕ) (gs : List Field) → has_tag t gs ≡ false → content_of t gs ≡ []
absent_none t [] h = refl
absent_none t (g ∷ gs) h =
    rw (or_left_false (eqb t g.tag) (has_tag t gs) h, content_of) (absent_none t gs (or_right_false (eqb t g.tag) (has_tag t gs) h))
