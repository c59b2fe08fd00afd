-- The number that decimal digits stand for, or no number.
use Rattle.std.specs.Prelude.{◌&&◌, List, [], ◌∷◌, ℕ, ◌+◌, ◌-◌, ◌*◌, min, leb, Option, Some, None}
use Rattle.std.specs.Option.{option_map}
use Rattle.finite.specs.Base.{pick}

-- digits behind those that stand for v; '0' is 48 and '9' is 57
abbrev pub go_on : ℕ → List ℕ → Option ℕ
go_on v [] = Some v
go_on v (d ∷ ds) = pick (leb 48 d && leb d 57) (go_on (10 * v + (d - 48)) ds) None

-- no digits are no number
abbrev pub value_in : List ℕ → Option ℕ
value_in [] = None
value_in (d ∷ ds) = go_on 0 (d ∷ ds)

-- a number above a limit counts as the limit
abbrev pub capped : ℕ → Option ℕ → Option ℕ
capped limit n = option_map (λ v. min v limit) n

abbrev pub decimal_in : List ℕ → Option ℕ
decimal_in s = capped 65536 (value_in s)
