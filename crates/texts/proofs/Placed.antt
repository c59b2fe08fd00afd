-- Refusals 30, 31, 32, 20, 21 and 25 of a text, as facts and back. Assumes nothing.
use mathlib.Core.Path.{◌≡◌}
use mathlib.Core.Bool.{Bool, true, false, ◌&&◌, not}
use mathlib.Core.List.{List, []}
use Prim.Native.Nat.{ℕ, suc}
use borrow.Author.Tests.{not-false}
use Rattle.finite.proofs.Tests.{and_left, and_right, and_both, first_none, when_none}
use Rattle.plates.specs.Plates.{Plate, first_of, when, darts, faces}
use Rattle.plates.specs.Shapes.{twins_ok_from, posts_ok, faces_ok, rights_of, pair_sums, all_within}
use Rattle.plates.specs.Text.{Entry}
use Rattle.plates.specs.Grammar.{form_ok, entries_in}
use Rattle.plates.specs.Lines.{face_entries, same_faces, some_mixed, words_by, angles_by}
use Rattle.plates.specs.Texts.{placed_fault}

-- past 30, 31 and the faces of 32
pub record Told (p : Plate) (t : List ℕ) : Type 0 where
  pub form : form_ok t ≡ true
  pub unmixed : some_mixed (entries_in t) ≡ false
  pub same-faces : same_faces (entries_in t) (face_entries p [] []) ≡ true

-- past all of them
pub record Placed (p : Plate) (ls t : List ℕ) : Type 0 where
  pub told : Told p t
  pub twins-ok : twins_ok_from (darts p) 0 (words_by (darts p) 0 (entries_in t)) ≡ true
  pub posts-ok : posts_ok p.posts 0 p (angles_by (darts p) 0 (entries_in t)) ≡ true
  pub faces-ok : faces_ok p (angles_by (darts p) 0 (entries_in t)) (words_by (darts p) 0 (entries_in t)) (faces p) ≡ true
  pub limits_kept : all_within ls (pair_sums (rights_of (words_by (darts p) 0 (entries_in t)))) ≡ true

passed : (t : Bool) (n : ℕ) → when (not t) (suc n) ≡ 0 → t ≡ true
passed t n e = not-false t (when_none (not t) n e)

module _ (p : Plate) (ls t : List ℕ) where
  abbrev es : List Entry
  es = entries_in t

  abbrev ws : List (List Bool)
  ws = words_by (darts p) 0 es

  abbrev same : Bool
  same = same_faces es (face_entries p [] [])

  abbrev twins : Bool
  twins = twins_ok_from (darts p) 0 ws

  abbrev posts : Bool
  posts = posts_ok p.posts 0 p (angles_by (darts p) 0 es)

  abbrev turns : Bool
  turns = faces_ok p (angles_by (darts p) 0 es) ws (faces p)

  abbrev kept : Bool
  kept = all_within ls (pair_sums (rights_of ws))

  pub fault_placed : placed_fault p ls t ≡ 0 → Placed p ls t
  fault_placed e =
      let (e30, f30) = first_none (when (not (form_ok t)) 30) _ e in
      let (e31, f31) = first_none (when (some_mixed es) 31) _ f30 in
      let (e32, f32) = first_none (when (not (same && twins)) 32) _ f31 in
      let (e20, f20) = first_none (when (not posts) 20) _ f32 in
      let (e21, e25) = first_none (when (not turns) 21) _ f20 in
      let both = passed (same && twins) 31 e32 in
      record {
        told = record { form = passed (form_ok t) 29 e30; unmixed = when_none (some_mixed es) 30 e31; same-faces = and_left same twins both };
        twins-ok = and_right same twins both;
        posts-ok = passed posts 19 e20;
        faces-ok = passed turns 20 e21;
        limits_kept = passed kept 24 e25;
      }

  pub placed-fault : Placed p ls t → placed_fault p ls t ≡ 0
  placed-fault h = go (form_ok t) h.told.form (some_mixed es) h.told.unmixed (same && twins) (and_both same twins h.told.same-faces h.twins-ok) posts h.posts-ok turns h.faces-ok kept h.limits_kept
    where
      go : (a : Bool) → a ≡ true → (b : Bool) → b ≡ false → (c : Bool) → c ≡ true → (d : Bool) → d ≡ true → (f : Bool) → f ≡ true → (g : Bool) → g ≡ true
          → first_of (when (not a) 30) (first_of (when b 31) (first_of (when (not c) 32) (first_of (when (not d) 20) (first_of (when (not f) 21) (when (not g) 25))))) ≡ 0
      go a ea b eb c ec d ed f ef g eg = rw (ea, eb, ec, ed, ef, eg)
