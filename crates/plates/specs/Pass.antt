-- The strips of a list gone over once, as the crate embedding defines it: 9 and 11 in their sequence, the pass stopped and gone on with, and every list answered as by `list_fault`.
use Rattle.std.specs.Prelude.{◌≡◌, false, List, ℕ, ◌≤◌}
use Rattle.plates.specs.Files.{walk_all, fault_from, list_fault, plate_of}
pub use Rattle.embedding.specs.Pass.{no_strips, add_end, add_strip, go_on, state_of, stopped_after, nine_first, answer_of, strips_fault, early_fault, late_fault, pass_fault, GoneOn, Answered}

-- a list's fault, 9 and 11 answered by the pass, stopped after k strips and gone on with over the rest alone
abbrev pub list_pass : ℕ → List ℕ → ℕ
list_pass k s = fault_from (pass_fault k) (walk_all false s)

pub record OnePass : Type 0 where
  -- stopped after any strip, the pass goes on over the rest alone to the state of the whole field
  pub goes_on : (k n : ℕ) (es : List ℕ) → stopped_after k n es ≡ state_of n es
  -- and to its answer, the first of 9 and 11 that the whole field meets; a list with over 64 posts is refused before its strips are gone over
  pub in_sequence : (k : ℕ) (s : List ℕ) → (walk_all false s).number ≡ 0 → (plate_of s).posts ≤ 64 → answer_of (stopped_after k (plate_of s).posts (plate_of s).ends) ≡ strips_fault (plate_of s)
  -- so that every list, of any length, has the fault that `list_fault` gives it
  pub answered : (k : ℕ) (s : List ℕ) → list_pass k s ≡ list_fault s
