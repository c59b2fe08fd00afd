-- What a line that is a step looks like: the word, one space, the number or two numbers with one space between, and nothing else.
use Rattle.std.specs.Prelude.{◌≡◌, Bool, true, ◌&&◌, List, [], ◌∷◌, ◌++◌, ℕ, ◌≤◌, min, leb, length, Some}
use Rattle.plates.specs.Listing.{number_of}
use Rattle.plates.specs.Journal.{Step, Split, Hang, Join}
use Rattle.replaying.specs.Lines.{split_word, hang_word, join_word, step_in}

-- '0' to '9'
abbrev pub are_digits : List ℕ → Bool
are_digits [] = true
are_digits (d ∷ ds) = (leb 48 d && leb d 57) && are_digits ds

-- one or more digits that stand for n, or, where n is 65,535, for more
pub record Digits (ds : List ℕ) (n : ℕ) : Type 0 where
  pub some : 1 ≤ length ds
  pub digits : are_digits ds ≡ true
  pub number : min (number_of 0 ds) 65535 ≡ n

pub record OneNumber (word s : List ℕ) (n : ℕ) : Type 0 where
  pub ds : List ℕ
  pub text : s ≡ word ++ ds
  pub number : Digits ds n

pub record TwoNumbers (word s : List ℕ) (n k : ℕ) : Type 0 where
  pub ds : List ℕ
  pub es : List ℕ
  pub text : s ≡ word ++ (ds ++ (32 ∷ es))
  pub number : Digits ds n
  pub other : Digits es k

abbrev pub HasForm : List ℕ → Step → Type 0
HasForm s (Split n) = OneNumber split_word s n
HasForm s (Hang n) = OneNumber hang_word s n
HasForm s (Join n k) = TwoNumbers join_word s n k

-- a line is read as a step exactly when it has that step's form
pub record LinesRead : Type 0 where
  pub read : (s : List ℕ) (t : Step) → step_in s ≡ Some t → HasForm s t
  pub taken : (s : List ℕ) (t : Step) → HasForm s t → step_in s ≡ Some t
