-- The lines of a journal, and the step that a line stands for.
use Rattle.std.specs.Prelude.{Bool, true, false, ◌&&◌, List, [], ◌∷◌, ℕ, ◌+◌, eqb, ltb, length, take, drop, Option, Some, None}
use Rattle.std.specs.Option.{option_map}
use Rattle.finite.specs.Base.{pick}
use Rattle.console.specs.Decimals.{value_in, capped}
use Rattle.embedding.specs.Read.{place_of}
use Rattle.embedding.specs.declared.journal.Step.{Step}
use Rattle.embedding.specs.declared.journal.Step.TheVariants.{Split, Hang, Join}

-- a number above 65,535 counts as 65,535
abbrev pub number_in : List ℕ → Option ℕ
number_in s = capped 65535 (value_in s)

-- the words, each with its space
-- "split "
abbrev pub split_word : List ℕ
split_word = 115 ∷ 112 ∷ 108 ∷ 105 ∷ 116 ∷ 32 ∷ []

-- "hang "
abbrev pub hang_word : List ℕ
hang_word = 104 ∷ 97 ∷ 110 ∷ 103 ∷ 32 ∷ []

-- "join "
abbrev pub join_word : List ℕ
join_word = 106 ∷ 111 ∷ 105 ∷ 110 ∷ 32 ∷ []

-- the text begins with the word
abbrev pub begins_with : List ℕ → List ℕ → Bool
begins_with [] s = true
begins_with (w ∷ ws) [] = false
begins_with (w ∷ ws) (x ∷ xs) = eqb w x && begins_with ws xs

abbrev pub join_of : Option ℕ → Option ℕ → Option Step
join_of (Some d) (Some e) = Some (Join d e)
join_of (Some d) None = None
join_of None n = None

-- two numbers with a space, byte 32, between
abbrev pub join_in : List ℕ → Option Step
join_in s = pick (ltb (place_of 32 s) (length s)) (join_of (number_in (take (place_of 32 s) s)) (number_in (drop (place_of 32 s + 1) s))) None

-- a line without its line feed: a word and its numbers, or no step
abbrev pub step_in : List ℕ → Option Step
step_in s =
    pick (begins_with split_word s) (option_map Split (number_in (drop 6 s)))
    (pick (begins_with hang_word s) (option_map Hang (number_in (drop 5 s)))
    (pick (begins_with join_word s) (join_in (drop 5 s))
    None))

-- a byte put before the first line
abbrev pub before : ℕ → List (List ℕ) → List (List ℕ)
before x [] = (x ∷ []) ∷ []
before x (l ∷ ls) = (x ∷ l) ∷ ls

-- the lines of a journal: each ends with a line feed, byte 10, or with the journal; nothing behind the last line feed is no line
abbrev pub lines_of : List ℕ → List (List ℕ)
lines_of [] = []
lines_of (x ∷ xs) = pick (eqb 10 x) ([] ∷ lines_of xs) (before x (lines_of xs))

-- the steps up to the first line that is none
abbrev pub step_before : Option Step → List Step → List Step
step_before (Some t) ts = t ∷ ts
step_before None ts = []

abbrev pub steps_in : List (List ℕ) → List Step
steps_in [] = []
steps_in (l ∷ ls) = step_before (step_in l) (steps_in ls)
