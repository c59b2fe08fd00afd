-- A text read entry by entry: the rest of the text answers for the whole, and what was read is what its entries say. Assumes nothing.
use mathlib.Core.Path.{◌≡◌, refl, sym, ap, subst, ◌∙◌}
use mathlib.Core.Bool.{Bool, true, false, ◌&&◌, ◌||◌, not}
use mathlib.Core.List.{List, [], ◌∷◌, ◌++◌, append_assoc, append-nil}
use Prim.Native.Nat.{ℕ, zero, suc, ◌<◌}
use native.Mathlib.Omega.{arith}
use lib.Dec.{eqb, ltb}
use lib.ListN.{length}
use borrow.Author.Tests.{ne_eqb}
use Rattle.std.specs.Prelude.{Option, Some, None, Result, Ok, Err}
use Rattle.refusals.specs.Numbers.{number_of}
use Rattle.refusals.specs.declared.Refusal.{Refusal}
use Rattle.refusals.specs.declared.Refusal.TheVariants.{TextForm, MixedWord, TextFaces}
use Rattle.plates.specs.Plates.{pick, first_of, when}
use Rattle.plates.specs.Text.{Entry}
use Rattle.plates.specs.Grammar.{entry_ok, entry_in, behind, form_from, entries_from, form_ok, entries_in}
use Rattle.plates.specs.Lines.{some_mixed, same_faces}
use Rattle.texts.specs.Plan.{laid}
use Rattle.texts.specs.Parses.{held, IsPlan, entry_read, TablesOf, ReadSoFar, entries_fault, ParsedBy}
use Rattle.texts.specs.declared.planning.Turn.{Turn}
use Rattle.texts.specs.declared.entries.Entry.{Entry as Held}
use Rattle.texts.specs.declared.parsing.Counted.{Counted}
use Rattle.texts.proofs.ScanLaws.{picked, unpicked, behind_shorter}
use Rattle.texts.proofs.FillLaws.{mixed_more, none_left, same_left}

-- the rest of the text t, behind the entries read so far
pub record Parsing (plan : List Entry) (t : List ℕ) (c : Counted) (left : Option (List Entry)) (mixed closed : Bool) (rest : List ℕ) : Type 0 where
  pub done : List Entry
  pub fuel : ℕ
  pub form : form_from fuel closed rest ≡ form_ok t
  pub entries : done ++ entries_from fuel rest ≡ entries_in t
  pub enough : length rest < fuel
  pub mixed_is : mixed ≡ some_mixed done
  pub filled : ReadSoFar plan done left c

pub parsing_start : (plan : List Entry) (t : List ℕ) {c : Counted} → ReadSoFar plan [] (Some plan) c → Parsing plan t c (Some plan) false true t
parsing_start plan t filled = record {
  done = [];
  fuel = suc (length t);
  form = refl;
  entries = refl;
  enough = omega arith;
  mixed_is = refl;
  filled = filled;
}

one_fuel : (k n : ℕ) → n < k → (j : ℕ) × (k ≡ suc j)
one_fuel zero n l = absurd (omega arith)
one_fuel (suc j) n l = (j, refl)

module _ {plan : List Entry} {t : List ℕ} {c : Counted} {left : Option (List Entry)} {mixed closed : Bool} {s : List ℕ} (h : Parsing plan t c left mixed closed s) where
  -- one step of the definitions
  opened : (j : ℕ) × (h.fuel ≡ suc j)
  opened = one_fuel h.fuel (length s) h.enough

  module _ (some : length s ≡ 0 → ⊥) where
    some_left : eqb (length s) 0 ≡ false
    some_left = ne_eqb (length s) 0 some

    step_form : (entry_ok s && form_from opened.0 (entry_in s).ends (behind s)) ≡ form_ok t
    step_form =
        sym (ap (λ (k : ℕ). form_from k closed s) opened.1 ∙ ap (λ (b : Bool). pick b closed (entry_ok s && form_from opened.0 (entry_in s).ends (behind s))) some_left) ∙ h.form

    step_entries : h.done ++ (entry_in s ∷ entries_from opened.0 (behind s)) ≡ entries_in t
    step_entries =
        ap (λ (x : List Entry). h.done ++ x) (sym (ap (λ (k : ℕ). entries_from k s) opened.1 ∙ ap (λ (b : Bool). pick b [] (entry_in s ∷ entries_from opened.0 (behind s))) some_left)) ∙ h.entries

    pub no_form : entry_read s ≡ None → form_ok t ≡ false
    no_form n = sym step_form ∙ ap (λ (b : Bool). b && form_from opened.0 (entry_in s).ends (behind s)) (unpicked (entry_ok s) _ n)

    module _ {e : Held} {rest : List ℕ} (read : entry_read s ≡ Some (e, rest)) where
      ok : entry_ok s ≡ true
      ok = (picked (entry_ok s) read).0

      e-is : held (entry_in s) ≡ e
      e-is = ap (λ (p : Held × List ℕ). p.0) (picked (entry_ok s) read).1

      pub rest_is : behind s ≡ rest
      rest_is = ap (λ (p : Held × List ℕ). p.1) (picked (entry_ok s) read).1

      pub rest_shorter : length rest < length s
      rest_shorter = subst (λ (l : List ℕ). length l < length s) rest_is (behind_shorter s ok)

      -- what the code takes the entry for
      pub taken : {left' : Option (List Entry)} {c' : Counted} → ((plan es : List Entry) (x : Entry) → IsPlan plan → e ≡ held x → ReadSoFar plan es left c → ReadSoFar plan (es ++ (x ∷ [])) left' c') → IsPlan plan → ReadSoFar plan (h.done ++ (entry_in s ∷ [])) left' c'
      taken more once = more plan h.done (entry_in s) once (sym e-is) h.filled

      pub parsing_more : {left' : Option (List Entry)} {c' : Counted} {both mixed' : Bool} → ReadSoFar plan (h.done ++ (entry_in s ∷ [])) left' c' → both ≡ (ltb 0 e.word.right && ltb 0 e.word.left) → mixed' ≡ (mixed || both) → Parsing plan t c' left' mixed' e.last rest
      parsing_more filled both-is mixed-is = record {
        done = h.done ++ (entry_in s ∷ []);
        fuel = opened.0;
        form = ap (λ (b : Bool). form_from opened.0 b rest) (sym (ap (λ (x : Held). x.last) e-is))
            ∙ ap (form_from opened.0 (entry_in s).ends) (sym rest_is)
            ∙ sym (ap (λ (b : Bool). b && form_from opened.0 (entry_in s).ends (behind s)) ok) ∙ step_form;
        entries = append_assoc h.done (entry_in s ∷ []) (entries_from opened.0 rest) ∙ ap (λ (x : List ℕ). h.done ++ (entry_in s ∷ entries_from opened.0 x)) (sym rest_is) ∙ step_entries;
        enough = omega (arith, h.enough, opened.1, rest_shorter);
        mixed_is = mixed-is ∙ (λ i. h.mixed_is i || both-is i) ∙ ap (λ (x : Held). some_mixed h.done || (ltb 0 x.word.right && ltb 0 x.word.left)) (sym e-is) ∙ sym (mixed_more h.done (entry_in s));
        filled = filled;
      }

  module _ (over : length s ≡ 0) where
    nothing_left : s ≡ []
    nothing_left = go s over
      where
        go : (l : List ℕ) → length l ≡ 0 → l ≡ []
        go [] e = refl
        go (x ∷ l) e = absurd (omega arith)

    end_form : form_ok t ≡ closed
    end_form = sym h.form ∙ (λ i. form_from (opened.1 i) closed (nothing_left i))

    end_entries : entries_in t ≡ h.done
    end_entries = sym h.entries ∙ (λ i. h.done ++ entries_from (opened.1 i) (nothing_left i)) ∙ append-nil h.done

    end_fault : entries_fault plan t ≡ first_of (when (not closed) 30) (first_of (when mixed 31) (when (not (none_left left)) 32))
    end_fault =
        (λ i. first_of (when (not (end_form i)) 30) (first_of (when (some_mixed (end_entries i)) 31) (when (not (same_faces (end_entries i) plan)) 32)))
        ∙ (λ i. first_of (when (not closed) 30) (first_of (when (sym h.mixed_is i) 31) (when (not ((same_left h.done plan ∙ ap none_left (sym h.filled.left_is)) i)) 32)))

    -- the answers
    refused : {r : Refusal} {k : ℕ} → number_of r ≡ k → entries_fault plan t ≡ k → ParsedBy plan t (Err r)
    refused n e = record { number = n ∙ sym e; tables = tt }

    pub not_closed : closed ≡ false → ParsedBy plan t (Err TextForm)
    not_closed n = refused refl (end_fault ∙ ap (λ (b : Bool). first_of (when (not b) 30) (first_of (when mixed 31) (when (not (none_left left)) 32))) n)

    module _ (ends : closed ≡ true) where
      past_form : entries_fault plan t ≡ first_of (when mixed 31) (when (not (none_left left)) 32)
      past_form = end_fault ∙ ap (λ (b : Bool). first_of (when (not b) 30) (first_of (when mixed 31) (when (not (none_left left)) 32))) ends

      pub some_word : mixed ≡ true → ParsedBy plan t (Err MixedWord)
      some_word m = refused refl (past_form ∙ ap (λ (b : Bool). first_of (when b 31) (when (not (none_left left)) 32)) m)

      module _ (unmixed : mixed ≡ false) where
        past_words : entries_fault plan t ≡ when (not (none_left left)) 32
        past_words = past_form ∙ ap (λ (b : Bool). first_of (when b 31) (when (not (none_left left)) 32)) unmixed

        other_faces : none_left left ≡ false → ParsedBy plan t (Err TextFaces)
        other_faces n = refused refl (past_words ∙ ap (λ (b : Bool). when (not b) 32) n)

        pub not_first : {r : Result Counted Refusal} → r ≡ Err TextFaces → left ≡ None → ParsedBy plan t r
        not_first e n = subst (ParsedBy plan t) (sym e) (other_faces (ap none_left n))

        pub some_unread : (ts : List Turn) → (length ts ≡ 0 → ⊥) → left ≡ Some (laid ts) → ParsedBy plan t (Err TextFaces)
        some_unread [] l n = absurd (l refl)
        some_unread (u ∷ ts) l n = other_faces (ap none_left n)

        pub all_read : (ts : List Turn) → length ts ≡ 0 → left ≡ Some (laid ts) → ParsedBy plan t (Ok c)
        all_read (u ∷ ts) l n = absurd (omega arith)
        all_read [] l n = record {
          number = sym (past_words ∙ ap (λ (l : Option (List Entry)). when (not (none_left l)) 32) n);
          tables = subst (λ (es : List Entry). TablesOf es c) (sym end_entries) (h.filled.tables [] n);
        }

-- a text that is not of the form
pub form_refused : {plan : List Entry} {t : List ℕ} {r : Result Counted Refusal} → r ≡ Err TextForm → form_ok t ≡ false → ParsedBy plan t r
form_refused {plan} {t} e n =
    subst (ParsedBy plan t) (sym e)
    (record {
      number = sym (ap (λ (b : Bool). first_of (when (not b) 30) (first_of (when (some_mixed (entries_in t)) 31) (when (not (same_faces (entries_in t) plan)) 32))) n);
      tables = tt;
    })
