-- The number that decimal digits stand for, up to 65,535.
use Rattle.std.specs.Prelude.{List, ℕ, leb, Option, Some, None}
use Rattle.finite.specs.Base.{pick}
use Rattle.console.specs.Decimals.{value_in}

-- a number above 65,535 is none
abbrev pub limited : Option ℕ → Option ℕ
limited None = None
limited (Some n) = pick (leb n 65535) (Some n) None

abbrev pub number_in : List ℕ → Option ℕ
number_in s = limited (value_in s)
