-- One line after another: how the replay stands so far, with the lines that are left, answers for the whole journal.
use mathlib.Core.Path.{◌≡◌, refl, sym, ap, subst, ◌∙◌}
use mathlib.Core.Bool.{Bool, true, false}
use mathlib.Core.List.{List, [], ◌∷◌}
use Prim.Native.Nat.{ℕ, zero, suc, ◌+◌, ◌≤◌, ◌<◌}
use native.Mathlib.Omega.{arith}
use borrow.Author.Tests.{le-ltb, eq-eqb, ne_eqb}
use lib.Dec.{eqb}
use lib.ListN.{length, take, drop, length-drop}
use lib.Seq.{take_at}
use Rattle.std.proofs.Common.{Option, Some, None, Result, Ok, Err}
use Rattle.finite.specs.Base.{pick, pick_t, first_of}
use Rattle.refusals.specs.Numbers.{number_of}
use Rattle.refusals.specs.declared.Refusal.{Refusal}
use Rattle.fields.specs.Writing.{over}
use Rattle.embedding.specs.Read.{place_of}
use Rattle.refusals.proofs.Numbered.{some_number}
use Rattle.plates.specs.Answers.{Listed}
use Rattle.plates.specs.Files.{list_fault, plate_of}
use Rattle.plates.specs.Listing.{Gives}
use Rattle.plates.specs.Journal.{Step, step_fault, list_after, replayed_list, EditWith, EditSays}
use Rattle.plates.proofs.Journal.{journal}
use Rattle.replaying.specs.declared.replay.Stop.{Stop}
use Rattle.replaying.specs.declared.replay.Stop.TheVariants as S
use Rattle.replaying.specs.Lines.{step_in, lines_of, step_before, steps_in}
use Rattle.replaying.specs.Replays.{Through, Refused, outcome_of, Stand, stand, going, on_fault, on_line, is_through, over_lines, Replayed}
use Rattle.replaying.proofs.Rows.{parted, lines_front}

-- the list that is left
module _ (z : Stand) (ls : List (List ℕ)) (rest : (w : Stand) → (over_lines w ls).list ≡ replayed_list w.list (steps_in ls)) where
  left_by : (t : Step) (none : Bool) (e : ℕ)
      → (pick (is_through (on_fault none e z t).outcome) (over_lines (on_fault none e z t) ls) (on_fault none e z t)).list
      ≡ pick none (replayed_list (list_after z.list t) (steps_in ls)) z.list
  left_by t true e = rest (on_fault true e z t)
  left_by t false e = refl

  left_line : (x : Option Step) → (pick (is_through (on_line z x).outcome) (over_lines (on_line z x) ls) (on_line z x)).list ≡ replayed_list z.list (step_before x (steps_in ls))
  left_line (Some t) = left_by t (eqb (step_fault (plate_of z.list) t) 0) (step_fault (plate_of z.list) t)
  left_line None = refl

list_left : (z : Stand) (ls : List (List ℕ)) → (over_lines z ls).list ≡ replayed_list z.list (steps_in ls)
list_left z [] = refl
list_left z (l ∷ ls) = left_line z ls (λ w. list_left w ls) (step_in l)

pub replayed : {s j : List ℕ} {z : Stand} → z ≡ over_lines (going s 0) (lines_of j) → Replayed s j z
replayed {s} {j} g = record { goes = g; left_list = ap (λ (w : Stand). w.list) g ∙ list_left (going s 0) (lines_of j) }

-- the replay of the list s over j, come to the list t before the lines of u
pub record Going (s j u t : List ℕ) (line : ℕ) : Type 0 where
  pub rest : over_lines (going t line) (lines_of u) ≡ over_lines (going s 0) (lines_of j)
  pub few : line + length u ≤ length j

pub going_done : {s j u t : List ℕ} {line : ℕ} → Going s j u t line → length u ≡ 0 → Replayed s j (going t line)
going_done {s} {j} {u} {t} {line} g e = replayed (by u e g.rest)
  where
    by : (u : List ℕ) → length u ≡ 0 → over_lines (going t line) (lines_of u) ≡ over_lines (going s 0) (lines_of j) → going t line ≡ over_lines (going s 0) (lines_of j)
    by [] e h = h
    by (x ∷ xs) e h = absurd (omega arith)

not_through : (e : Stop) → is_through (outcome_of (Err e)) ≡ false
not_through (S.Refused r) = refl
not_through S.NoStep = refl

line_more : (z : Stand) (x : Option Step) → (on_line z x).line ≡ z.line + 1
line_more z (Some t) = refl
line_more z None = refl

-- a line taken: n is the end of the first line of u
module _ {s j u t : List ℕ} {line : ℕ} (g : Going s j u t line) (some : 0 < length u) {n : ℕ} (n-is : n ≡ place_of 10 u) where
  opened : over_lines (going t line) (take n u ∷ lines_of (drop (suc n) u)) ≡ over_lines (going s 0) (lines_of j)
  opened =
      ap (λ (k : ℕ). over_lines (going t line) (parted k u)) n-is
      ∙ ap (over_lines (going t line)) (sym (lines_front u some)) ∙ g.rest

  turned : {t' : List ℕ} {line' : ℕ} (r : Result (Unit {0}) Stop) → stand t' line' r ≡ on_line (going t line) (step_in (take n u))
      → pick (is_through (outcome_of r)) (over_lines (stand t' line' r) (lines_of (drop (suc n) u))) (stand t' line' r) ≡ over_lines (going s 0) (lines_of j)
  turned r h = ap (λ (w : Stand). pick (is_through w.outcome) (over_lines w (lines_of (drop (suc n) u))) w) h ∙ opened

  pub going_on : {t' v : List ℕ} {line' : ℕ} (x : Unit {0}) → stand t' line' (Ok x) ≡ on_line (going t line) (step_in (take n u)) → v ≡ drop (suc n) u → Going s j v t' line'
  going_on {t' = t'} {v = v} {line' = line'} x h e =
      record {
        rest = ap (λ (w : List ℕ). over_lines (going t' line') (lines_of w)) e ∙ turned (Ok x) h;
        few = omega (arith, g.few, ap (λ (w : Stand). w.line) h, line_more (going t line) (step_in (take n u)), ap (λ (w : List ℕ). length w) e, length-drop (suc n) u);
      }

  pub going_ended : {t' : List ℕ} {line' : ℕ} (e : Stop) → stand t' line' (Err e) ≡ on_line (going t line) (step_in (take n u)) → Replayed s j (stand t' line' (Err e))
  going_ended {t'} {line'} e h =
      replayed (ap (λ (b : Bool). pick b (over_lines (stand t' line' (Err e)) (lines_of (drop (suc n) u))) (stand t' line' (Err e))) (sym (not_through e)) ∙ turned (Err e) h)

-- a step on the list s without fault: the list after it is given at the front of o
pub record GivenList (s : List ℕ) (t : Step) (o : List ℕ) (long : ℕ) : Type 0 where
  pub faultless : step_fault (plate_of s) t ≡ 0
  pub fits : long ≤ 1024
  pub list : take long o ≡ list_after s t
  pub accepted : list_fault (take long o) ≡ 0

-- what a call for a step on an accepted list leaves in 1,024 bytes
module _ (s : List ℕ) (t : Step) (none : list_fault s ≡ 0) (o o' : List ℕ) (v : Listed) (room : length o ≡ 1024) (says : EditSays s t o o' v) where
  abbrev fault : ℕ
  fault = step_fault (plate_of s) t

  told : EditWith fault s t o o' v
  told = subst (λ (k : ℕ). EditWith k s t o o' v) (ap (λ (k : ℕ). first_of k fault) none) says

  given : fault ≡ 0 → Gives (list_after s t) o o' v → (v.number ≡ 0) × (v.long ≡ length (list_after s t)) × (o' ≡ over (list_after s t) o)
  given q =
      subst
      (λ (b : Bool). pick_t b ((v.number ≡ 16) × (v.long ≡ 0) × (o' ≡ o)) ((v.number ≡ 0) × (v.long ≡ length (list_after s t)) × (o' ≡ over (list_after s t) o)))
      (le-ltb (length o) (length (list_after s t)) (omega (arith, (journal.after s t none q).longest)))

  pub number_is : v.number ≡ fault
  number_is = by fault refl told
    where
      by : (e : ℕ) → fault ≡ e → EditWith e s t o o' v → v.number ≡ e
      by zero q h = (given q h).0
      by (suc e) q h = h.0

  parts : fault ≡ 0 → (v.number ≡ 0) × (v.long ≡ length (list_after s t)) × (o' ≡ over (list_after s t) o)
  parts q = given q (subst (λ (k : ℕ). EditWith k s t o o' v) q told)

  pub given_list : v.number ≡ 0 → GivenList s t o' v.long
  given_list z =
      let q = sym number_is ∙ z in
      let p = parts q in
      let same : take v.long o' ≡ list_after s t = ap (take v.long) p.2 ∙ take_at (list_after s t) (drop (length (list_after s t)) o) v.long (sym p.1) in
      let after = journal.after s t none q in
      record {
        faultless = q;
        fits = omega (arith, p.1, after.longest);
        list = same;
        accepted = ap list_fault same ∙ after.accepted;
      }

-- how the replay stands after a line: the list s before it
module _ (s : List ℕ) (line : ℕ) where
  pub stopped : {x : Option Step} → None ≡ x → stand s (line + 1) (Err S.NoStep) ≡ on_line (going s line) x
  stopped e = ap (λ (y : Option Step). on_line (going s line) y) e

  module _ (t : Step) {x : Option Step} (x-is : Some t ≡ x) where
    abbrev e : ℕ
    e = step_fault (plate_of s) t

    pub refused : (r : Refusal) → number_of r ≡ e → stand s (line + 1) (Err (S.Refused r)) ≡ on_line (going s line) x
    refused r q =
        (λ i. record { list = s; line = line + 1; outcome = Refused (q i) })
        ∙ ap (λ (b : Bool). on_fault b e (going s line) t) (sym (ne_eqb e 0 (λ z. some_number r (q ∙ z))))
        ∙ ap (on_line (going s line)) x-is

    pub taken : {s' : List ℕ} (a : Unit {0}) → e ≡ 0 → s' ≡ list_after s t → stand s' (line + 1) (Ok a) ≡ on_line (going s line) x
    taken a q p =
        (λ i. record { list = p i; line = line + 1; outcome = Through })
        ∙ ap (λ (b : Bool). on_fault b e (going s line) t) (sym (eq-eqb e 0 q))
        ∙ ap (on_line (going s line)) x-is
