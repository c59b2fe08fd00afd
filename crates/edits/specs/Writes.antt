-- The bytes of the list that is written after a step.
use Rattle.std.specs.Prelude.{false, List, [], ◌∷◌, ◌++◌, ℕ, ◌+◌, ◌<◌, length, Option, Some, None, option_map}
use denote.Bor.{Bor}
use Rattle.plates.specs.Plates.{Plate}
use Rattle.plates.specs.Files.{walk_all, field}
use Rattle.plates.specs.Ordering.{bytes_in}
use Rattle.plates.specs.Journal.{grown_fields}

-- the limits or the prices of a list that was read, where it has any
abbrev pub held : Option (Bor (List ℕ)) → Option (List ℕ)
held rates = option_map (λ c. c.now) rates

-- them with n behind them, as the field of tag t, and how long that is; nothing where there are none
abbrev pub with_more : ℕ → Option (List ℕ) → ℕ → List ℕ
with_more t None n = []
with_more t (Some c) n = field t (c ++ (n ∷ []))

abbrev pub more_long : Option (List ℕ) → ℕ
more_long None = 0
more_long (Some c) = 4 + length c

-- fewer than 128 where there are any
abbrev pub few : Option (List ℕ) → Type 0
few None = Unit
few (Some c) = length c < 128

-- the list of a plate with one strip more than the list s, with its revision, its limits and prices and the limit n and the price m of that strip
unfoldable pub grown_bytes : List ℕ → Plate → ℕ → ℕ → List ℕ
grown_bytes s p n m = bytes_in (grown_fields (walk_all false s).fields p n m)
