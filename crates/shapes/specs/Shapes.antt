-- Shapes with words of bends; H1 to H4; which comes first; counts as in files.
use Rattle.std.specs.Prelude.{Bool, true, false, ◌&&◌, ◌||◌, not, List, [], ◌∷◌, ℕ, zero, suc, ◌+◌, eqb, ltb, leb, length, get_or, drop}
use Rattle.embedding.specs.Plates.{pick, when, is_in, Plate, darts, strips, twin, ends_at, degree, faces, face_of}
pub use Rattle.finite.specs.Base.{total, smaller}

-- a word of bends: true right, false left
abbrev pub rights : List Bool → ℕ
rights [] = 0
rights (true ∷ bs) = suc (rights bs)
rights (false ∷ bs) = rights bs

abbrev pub lefts : List Bool → ℕ
lefts [] = 0
lefts (true ∷ bs) = lefts bs
lefts (false ∷ bs) = suc (lefts bs)

abbrev pub turned_over : List Bool → List Bool → List Bool
turned_over [] acc = acc
turned_over (b ∷ bs) acc = turned_over bs (not b ∷ acc)

abbrev pub same_b : Bool → Bool → Bool
same_b true b = b
same_b false b = not b

abbrev pub same_word : List Bool → List Bool → Bool
same_word [] [] = true
same_word [] (y ∷ ys) = false
same_word (x ∷ xs) [] = false
same_word (x ∷ xs) (y ∷ ys) = same_b x y && same_word xs ys

-- a shape: an angle and a word for each dart
pub record Shape : Type 0 where
  pub angles : List ℕ
  pub words : List (List Bool)

abbrev pub shape : List ℕ → List (List Bool) → Shape
shape a w = record { angles = a; words = w }

abbrev pub nth_w : List (List Bool) → ℕ → List Bool
nth_w [] i = []
nth_w (w ∷ ws) zero = w
nth_w (w ∷ ws) (suc i) = nth_w ws i

abbrev pub count_w : List (List Bool) → ℕ
count_w [] = 0
count_w (w ∷ ws) = suc (count_w ws)

-- H2: the twin's word is the same reversed, right and left exchanged
abbrev pub twins_ok_from : ℕ → ℕ → List (List Bool) → Bool
twins_ok_from zero d ws = true
twins_ok_from (suc n) d ws = same_word (nth_w ws (twin d)) (turned_over (nth_w ws d) []) && twins_ok_from n (suc d) ws

abbrev pub angles_ok : List ℕ → Bool
angles_ok [] = true
angles_ok (a ∷ al) = leb 1 a && (leb a 4 && angles_ok al)

-- H4: angles of the darts ending at a post add to 4
abbrev pub angle_sum : ℕ → ℕ → Plate → ℕ → List ℕ → ℕ
angle_sum zero d p v al = 0
angle_sum (suc n) d p v al = when (eqb (ends_at p d) v) (get_or al d 0) + angle_sum n (suc d) p v al

abbrev pub posts_ok : ℕ → ℕ → Plate → List ℕ → Bool
posts_ok zero v p al = true
posts_ok (suc n) v p al = eqb (angle_sum (darts p) 0 p v al) 4 && posts_ok n (suc v) p al

-- H3: turns add to + 4 on inner faces and − 4 on the outer; a turn is right − left − angle + 2, compared without minus
abbrev pub plus_side : List ℕ → List (List Bool) → ℕ
plus_side [] ws = 0
plus_side (d ∷ ds) ws = rights (nth_w ws d) + (2 + plus_side ds ws)

abbrev pub minus_side : List ℕ → List ℕ → List (List Bool) → ℕ
minus_side [] al ws = 0
minus_side (d ∷ ds) al ws = lefts (nth_w ws d) + (get_or al d 0 + minus_side ds al ws)

abbrev pub face_ok : Plate → List ℕ → List (List Bool) → ℕ → Bool
face_ok p al ws d = let f = face_of p d in pick (is_in p.outer f) (eqb (plus_side f ws + 4) (minus_side f al ws)) (eqb (plus_side f ws) (minus_side f al ws + 4))

abbrev pub faces_ok : Plate → List ℕ → List (List Bool) → List ℕ → Bool
faces_ok p al ws [] = true
faces_ok p al ws (d ∷ ds) = face_ok p al ws d && faces_ok p al ws ds

abbrev pub meets : Plate → Shape → Bool
meets p s = eqb (length s.angles) (darts p) && (eqb (count_w s.words) (darts p) && (angles_ok s.angles && (twins_ok_from (darts p) 0 s.words && (posts_ok p.posts 0 p s.angles && faces_ok p s.angles s.words (faces p)))))

-- total bends: the right bends of all darts
abbrev pub rights_of : List (List Bool) → List ℕ
rights_of [] = []
rights_of (w ∷ ws) = rights w ∷ rights_of ws

abbrev pub bends : Shape → ℕ
bends s = total (rights_of s.words)

-- angles of 2 at the darts ending at a post
abbrev pub straights_from : ℕ → ℕ → Plate → ℕ → List ℕ → ℕ
straights_from zero d p v al = 0
straights_from (suc n) d p v al = when (eqb (ends_at p d) v) (when (eqb (get_or al d 0) 2) 1) + straights_from n (suc d) p v al

-- a post with exactly two strip ends and no angle of 2
abbrev pub is_cornered : Plate → List ℕ → ℕ → Bool
is_cornered p al v = eqb (degree p v) 2 && eqb (straights_from (darts p) 0 p v al) 0

abbrev pub cornered_from : ℕ → ℕ → Plate → List ℕ → ℕ
cornered_from zero v p al = 0
cornered_from (suc n) v p al = when (is_cornered p al v) 1 + cornered_from n (suc v) p al

abbrev pub cornered : Plate → Shape → ℕ
cornered p s = cornered_from p.posts 0 p s.angles

-- among equal totals: the fewest cornered posts, then right bends of darts in turn, then angles
abbrev pub same : List ℕ → List ℕ → Bool
same [] [] = true
same [] (y ∷ ys) = false
same (x ∷ xs) [] = false
same (x ∷ xs) (y ∷ ys) = eqb x y && same xs ys

abbrev pub comes_first : Plate → Shape → Shape → Bool
comes_first p s u = let a = rights_of s.words in let b = rights_of u.words in
    ltb (bends s) (bends u) || (eqb (bends s) (bends u) && (
    ltb (cornered p s) (cornered p u) || (eqb (cornered p s) (cornered p u) && (smaller a b || (same a b && smaller s.angles u.angles)))))

-- shapes as files have them: angles and right bends; the word of dart 2i is its right bends, then its left ones
abbrev pub some_true : ℕ → List Bool
some_true zero = []
some_true (suc n) = true ∷ some_true n

abbrev pub some_false : ℕ → List Bool
some_false zero = []
some_false (suc n) = false ∷ some_false n

abbrev pub join_b : List Bool → List Bool → List Bool
join_b [] ys = ys
join_b (x ∷ xs) ys = x ∷ join_b xs ys

abbrev pub even_word : ℕ → ℕ → List Bool
even_word r l = join_b (some_true r) (some_false l)

abbrev pub words_from : ℕ → List ℕ → List (List Bool)
words_from zero rs = []
words_from (suc i) rs = let w = even_word (get_or rs 0 0) (get_or rs 1 0) in w ∷ (turned_over w [] ∷ words_from i (drop 2 rs))

abbrev pub shape_of : Plate → List ℕ → List ℕ → Shape
shape_of p al rs = shape al (words_from (strips p) rs)
