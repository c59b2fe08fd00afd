-- A replay of the lines of a journal over a plate list: how it stands after each line.
use Rattle.std.specs.Prelude.{◌≡◌, Bool, true, false, List, [], ◌∷◌, ℕ, ◌+◌, eqb, Option, Some, None, Result, Ok, Err}
use Rattle.finite.specs.Base.{pick}
use Rattle.refusals.specs.Numbers.{number_of}
use Rattle.plates.specs.Files.{plate_of}
use Rattle.plates.specs.Journal.{Step, step_fault, list_after, replayed_list}
use Rattle.replaying.specs.declared.replay.Stop.{Stop}
use Rattle.replaying.specs.declared.replay.Stop.TheVariants as S
use Rattle.replaying.specs.Lines.{step_in, lines_of, steps_in}

-- what became of a line: its step was taken, or refused with a number, or it is no step
pub data Outcome : Type 0 where
  Through : Outcome
  Refused : ℕ → Outcome
  Stopped : Outcome

-- the outcome that an answer stands for
abbrev pub outcome_of : Result (Unit {0}) Stop → Outcome
outcome_of (Ok x) = Through
outcome_of (Err (S.Refused r)) = Refused (number_of r)
outcome_of (Err S.NoStep) = Stopped

-- the list, the number of lines gone over, and what became of the last of them
pub record Stand : Type 0 where
  pub list : List ℕ
  pub line : ℕ
  pub outcome : Outcome

abbrev pub stand : List ℕ → ℕ → Result (Unit {0}) Stop → Stand
stand s n r = record { list = s; line = n; outcome = outcome_of r }

-- a list with so many lines gone over, before the next
abbrev pub going : List ℕ → ℕ → Stand
going s n = record { list = s; line = n; outcome = Through }

-- a step, told whether it has no fault, and its fault
abbrev pub on_fault : Bool → ℕ → Stand → Step → Stand
on_fault none e z t = record { list = pick none (list_after z.list t) z.list; line = z.line + 1; outcome = pick none Through (Refused e) }

abbrev pub on_step : Stand → Step → Stand
on_step z t = on_fault (eqb (step_fault (plate_of z.list) t) 0) (step_fault (plate_of z.list) t) z t

abbrev pub on_line : Stand → Option Step → Stand
on_line z (Some t) = on_step z t
on_line z None = record { list = z.list; line = z.line + 1; outcome = Stopped }

abbrev pub is_through : Outcome → Bool
is_through Through = true
is_through (Refused e) = false
is_through Stopped = false

-- line after line, up to the first that is refused or no step
abbrev pub over_lines : Stand → List (List ℕ) → Stand
over_lines z [] = z
over_lines z (l ∷ ls) = pick (is_through (on_line z (step_in l)).outcome) (over_lines (on_line z (step_in l)) ls) (on_line z (step_in l))

-- how a replay of the list s ends: its list is that of the steps up to the first line that is none
pub record Replayed (s journal : List ℕ) (z : Stand) : Type 0 where
  pub goes : z ≡ over_lines (going s 0) (lines_of journal)
  pub left_list : z.list ≡ replayed_list s (steps_in (lines_of journal))
