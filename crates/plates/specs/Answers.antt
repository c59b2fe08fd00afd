-- Answers as records of numbers, as the exported functions give them, and the record of each answer: its number, which is 0 or the refusal's, and its values.
use Rattle.std.specs.Prelude.{Bool, false, ℕ, Result, Ok, Err}
use Rattle.refusals.specs.Numbers.{number_of}
use Rattle.refusals.specs.declared.Refusal.{Refusal}
use Rattle.fields.specs.Ordering.{Ordered}
use Rattle.plates.specs.declared.encoding.Written.{Written}
use Rattle.plates.specs.declared.checking.Sound.{Sound}

-- a shape written: its refusal alone, or 0 with its length and its total bends
pub record Shaped : Type 0 where
  pub number : ℕ
  pub long : ℕ
  pub bends : ℕ

-- a shape file checked; total: its bends; fewest: the least bends or, for a list with prices, the least sum; ours: angles and right bends are those that shaping writes
pub record Verdict : Type 0 where
  pub number : ℕ
  pub total : ℕ
  pub fewest : ℕ
  pub ours : Bool

-- a text given: its refusal alone, or 0 with its length
pub record Listed : Type 0 where
  pub number : ℕ
  pub long : ℕ

abbrev pub shaped : ℕ → ℕ → ℕ → Shaped
shaped n l b = record { number = n; long = l; bends = b }

abbrev pub verdict : ℕ → ℕ → ℕ → Bool → Verdict
verdict n t f o = record { number = n; total = t; fewest = f; ours = o }

abbrev pub listed : ℕ → ℕ → Listed
listed n l = record { number = n; long = l }

abbrev pub ordered : ℕ → ℕ → Ordered
ordered n l = record { number = n; long = l }

abbrev pub shaped_of : Result Written Refusal → Shaped
shaped_of (Ok w) = shaped 0 w.long w.bends
shaped_of (Err r) = shaped (number_of r) 0 0

abbrev pub verdict_of : Result Sound Refusal → Verdict
verdict_of (Ok s) = verdict 0 s.total s.fewest s.ours
verdict_of (Err r) = verdict (number_of r) 0 0 false

abbrev pub listed_of : Result ℕ Refusal → Listed
listed_of (Ok n) = listed 0 n
listed_of (Err r) = listed (number_of r) 0
