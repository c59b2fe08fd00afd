-- Choices by a test; tests, sums and an order of lists of numbers; two bytes as a number.
use Rattle.std.specs.Prelude.{Bool, true, false, ◌&&◌, ◌||◌, not, List, [], ◌∷◌, ℕ, zero, suc, ◌+◌, ◌*◌, eqb, ltb, leb, get_or}

abbrev pub pick : {A : Type 0} → Bool → A → A → A
pick true a b = a
pick false a b = b

abbrev pub pick_t : Bool → Type 0 → Type 0 → Type 0
pick_t true a b = a
pick_t false a b = b

-- the first of two numbers that is not 0
abbrev pub first_of : ℕ → ℕ → ℕ
first_of zero b = b
first_of (suc a) b = suc a

abbrev pub when : Bool → ℕ → ℕ
when true n = n
when false n = 0

abbrev pub is_in : ℕ → List ℕ → Bool
is_in x [] = false
is_in x (y ∷ ys) = eqb x y || is_in x ys

abbrev pub all_below : ℕ → List ℕ → Bool
all_below n [] = true
all_below n (x ∷ xs) = ltb x n && all_below n xs

abbrev pub distinct : List ℕ → Bool
distinct [] = true
distinct (x ∷ xs) = not (is_in x xs) && distinct xs

abbrev pub last_of : List ℕ → ℕ
last_of [] = 0
last_of (x ∷ []) = x
last_of (x ∷ (y ∷ ys)) = last_of (y ∷ ys)

abbrev pub is_lowest : ℕ → List ℕ → Bool
is_lowest d [] = true
is_lowest d (x ∷ xs) = leb d x && is_lowest d xs

abbrev pub total : List ℕ → ℕ
total [] = 0
total (x ∷ xs) = x + total xs

-- by the first place at which two lists differ
abbrev pub smaller : List ℕ → List ℕ → Bool
smaller [] ys = false
smaller (x ∷ xs) [] = false
smaller (x ∷ xs) (y ∷ ys) = ltb x y || (eqb x y && smaller xs ys)

-- the two bytes from a place on as a number, high byte first
abbrev pub word_at : List ℕ → ℕ → ℕ
word_at s at = 256 * get_or s at 0 + get_or s (at + 1) 0
