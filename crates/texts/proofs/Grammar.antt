-- The grammar is exact: a text of this form is what its entries are written as, and written entries are read. Assumes nothing.
use mathlib.Core.Path.{◌≡◌, refl, sym, ap, ◌∙◌}
use mathlib.Core.Bool.{Bool, true, false, ◌&&◌, false≢true}
use mathlib.Core.List.{List, [], ◌∷◌, ◌++◌}
use Prim.Native.Nat.{ℕ, zero, suc, ◌≤◌, ◌<◌}
use native.Mathlib.Omega.{arith}
use lib.Dec.{eqb}
use lib.ListN.{length, length-append}
use borrow.Author.Tests.{eqb-true, ne_eqb}
use Rattle.finite.proofs.Tests.{and_left, and_right, and_both}
use Rattle.plates.specs.Plates.{pick}
use Rattle.plates.specs.Listing.{decimal}
use Rattle.plates.specs.Text.{Entry, word_text, angle_text, entry_text, text_of, entry_formed, all_formed, closed}
use Rattle.plates.specs.Grammar.{entry_ok, entry_in, behind, form_from, entries_from, entries_in, Exact}
use Rattle.texts.proofs.EntryFront.{EntryFront, entry_front}
use Rattle.texts.proofs.EntryRead.{entry-formed, entry_read}

no_bytes : (s : List ℕ) → length s ≡ 0 → s ≡ []
no_bytes [] e = refl
no_bytes (x ∷ xs) e = absurd (omega arith)

entry_some : (e : Entry) → 1 ≤ length (entry_text e)
entry_some e = omega (arith, length-append (decimal e.dart) (32 ∷ (word_text e.word ++ angle_text e.angle e.ends)))

-- what is read of s by fuel k
pub record ReadFrom (k : ℕ) (b : Bool) (s : List ℕ) : Type 0 where
  pub text : text_of (entries_from k s) ≡ s
  pub all : all_formed (entries_from k s) ≡ true
  pub end : closed b (entries_from k s) ≡ true

read_from : (k : ℕ) (b : Bool) (s : List ℕ) → form_from k b s ≡ true → ReadFrom k b s
read_from zero b s h = absurd (false≢true h)
read_from (suc k) b s h = go (eqb (length s) 0) refl h (read_from k (entry_in s).ends (behind s))
  where
    go : (t : Bool) → eqb (length s) 0 ≡ t → pick t b (entry_ok s && form_from k (entry_in s).ends (behind s)) ≡ true
        → (form_from k (entry_in s).ends (behind s) ≡ true → ReadFrom k (entry_in s).ends (behind s)) → ReadFrom (suc k) b s
    go true e g ih =
        let none : entries_from (suc k) s ≡ [] = ap (λ (t : Bool). pick t [] (entry_in s ∷ entries_from k (behind s))) e in
        record {
          text = ap text_of none ∙ sym (no_bytes s (eqb-true (length s) 0 e));
          all = ap all_formed none;
          end = ap (closed b) none ∙ g;
        }
    go false e g ih =
        let more : entries_from (suc k) s ≡ entry_in s ∷ entries_from k (behind s) = ap (λ (t : Bool). pick t [] (entry_in s ∷ entries_from k (behind s))) e in
        let ok : entry_ok s ≡ true = and_left (entry_ok s) _ g in
        let rest = ih (and_right (entry_ok s) _ g) in
        record {
          text = ap text_of more ∙ ap (λ (l : List ℕ). entry_text (entry_in s) ++ l) rest.text ∙ entry_read s ok;
          all = ap all_formed more ∙ and_both _ _ (entry-formed s ok) rest.all;
          end = ap (closed b) more ∙ rest.end;
        }

-- by any fuel above their number, entries that are written come back
pub record BackFrom (k : ℕ) (b : Bool) (es : List Entry) : Type 0 where
  pub form : form_from k b (text_of es) ≡ true
  pub read : entries_from k (text_of es) ≡ es

module _ (e : Entry) (es : List Entry) (k : ℕ) (b : Bool) (formed-e : entry_formed e ≡ true) (ih : BackFrom k e.ends es) where
  abbrev s : List ℕ
  s = text_of (e ∷ es)

  front : EntryFront e s (text_of es)
  front = entry_front e (text_of es) formed-e

  some : eqb (length s) 0 ≡ false
  some = ne_eqb (length s) 0 (λ z. omega (arith, entry_some e, length-append (entry_text e) (text_of es)))

  back_more : BackFrom (suc k) b (e ∷ es)
  back_more = record {
    form = ap (λ (t : Bool). pick t b (entry_ok s && form_from k (entry_in s).ends (behind s))) some
        ∙ and_both (entry_ok s) _ front.ok ((λ i. form_from k (front.read i).ends (front.rest i)) ∙ ih.form);
    read = ap (λ (t : Bool). pick t [] (entry_in s ∷ entries_from k (behind s))) some
        ∙ (λ i. front.read i ∷ entries_from k (front.rest i)) ∙ ap (λ (l : List Entry). e ∷ l) ih.read;
  }

back_from : (es : List Entry) (k : ℕ) (b : Bool) → length es < k → all_formed es ≡ true → closed b es ≡ true → BackFrom k b es
back_from es zero b l a c = absurd (omega arith)
back_from [] (suc k) b l a c = record { form = c; read = refl }
back_from (e ∷ es) (suc k) b l a c =
    back_more e es k b (and_left (entry_formed e) (all_formed es) a)
    (back_from es k e.ends (omega arith) (and_right (entry_formed e) (all_formed es) a) c)

text_some : (es : List Entry) → length es ≤ length (text_of es)
text_some [] = omega arith
text_some (e ∷ es) = omega (arith, entry_some e, text_some es, length-append (entry_text e) (text_of es))

pub exact : Exact
exact = record {
  read = λ t h. let r = read_from (suc (length t)) true t h in (r.text, and_both (all_formed (entries_in t)) _ r.all r.end);
  back = λ es h.
      let b = back_from es (suc (length (text_of es))) true (omega (arith, text_some es)) (and_left (all_formed es) _ h) (and_right (all_formed es) _ h) in (b.form, b.read);
}
