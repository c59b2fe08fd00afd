-- Steps of the editor on a plate: post orders as a plain table, read cyclically. Strip m's darts are 2m, which is the number of darts so far, and 2m + 1.
use Rattle.std.specs.Prelude.{◌≡◌, Bool, ◌||◌, not, List, [], ◌∷◌, ◌++◌, ℕ, zero, suc, ◌+◌, ◌*◌, ◌<◌, eqb, ltb, leb, length, get_or, set}
use Rattle.embedding.specs.Plates.{pick, first_of, when, is_in, Plate, plate, darts, strips, twin, ends_at, degree, part_of, face_of}

-- the orders of n posts, one after the other
abbrev pub laid : ℕ → (ℕ → List ℕ) → List ℕ
laid zero rows = []
laid (suc n) rows = laid n rows ++ rows n

-- y just before x, where x stands
abbrev pub put_before : ℕ → ℕ → List ℕ → List ℕ
put_before x y [] = []
put_before x y (z ∷ zs) = pick (eqb x z) (y ∷ (z ∷ zs)) (z ∷ put_before x y zs)

-- y in the place of x
abbrev pub rename : ℕ → ℕ → ℕ → ℕ
rename x y z = pick (eqb x z) y z

abbrev pub renamed : ℕ → ℕ → List ℕ → List ℕ
renamed x y [] = []
renamed x y (z ∷ zs) = rename x y z ∷ renamed x y zs

-- split strip s: it ends at the new post n, and strip m runs from there to the old end, where dart 2m + 1 takes the place of 2s + 1
abbrev pub split : Plate → ℕ → Plate
split p s =
    let back = suc (2 * s) in
    plate (suc p.posts)
    (set p.ends back p.posts ++ (p.posts ∷ (get_or p.ends back 0 ∷ [])))
    (laid p.posts (λ v. renamed back (suc (darts p)) (part_of p v)) ++ (back ∷ (darts p ∷ [])))
    p.outer

-- hang at dart d: strip m to the new post n, in the corner where d ends, so that dart 2m comes after d
abbrev pub hang : Plate → ℕ → Plate
hang p d =
    plate (suc p.posts)
    (p.ends ++ (ends_at p d ∷ (p.posts ∷ [])))
    (laid p.posts (λ v. put_before (twin d) (darts p) (part_of p v)) ++ (suc (darts p) ∷ []))
    p.outer

-- join d and e: strip m from the corner of d to the corner of e, so that dart 2m comes after d and 2m + 1 after e
abbrev pub join : Plate → ℕ → ℕ → Plate
join p d e =
    plate p.posts
    (p.ends ++ (ends_at p d ∷ (ends_at p e ∷ [])))
    (laid p.posts (λ v. put_before (twin d) (darts p) (put_before (twin e) (suc (darts p)) (part_of p v))))
    p.outer

-- q holds what the table would after a split, a hanging strip, a join
pub record SplitTable (p : Plate) (s : ℕ) (q : Plate) : Type 0 where
  pub one_post : q.posts ≡ suc p.posts
  pub strip_ends : q.ends ≡ set p.ends (suc (2 * s)) p.posts ++ (p.posts ∷ (get_or p.ends (suc (2 * s)) 0 ∷ []))
  pub old_order : (v : ℕ) → v < p.posts → part_of q v ≡ renamed (suc (2 * s)) (suc (darts p)) (part_of p v)
  pub new_order : part_of q p.posts ≡ suc (2 * s) ∷ (darts p ∷ [])
  pub order_long : length q.order ≡ darts q
  pub same_outer : q.outer ≡ p.outer

pub record HangTable (p : Plate) (d : ℕ) (q : Plate) : Type 0 where
  pub one_post : q.posts ≡ suc p.posts
  pub strip_ends : q.ends ≡ p.ends ++ (ends_at p d ∷ (p.posts ∷ []))
  pub old_order : (v : ℕ) → v < p.posts → part_of q v ≡ put_before (twin d) (darts p) (part_of p v)
  pub new_order : part_of q p.posts ≡ suc (darts p) ∷ []
  pub order_long : length q.order ≡ darts q
  pub same_outer : q.outer ≡ p.outer

pub record JoinTable (p : Plate) (d e : ℕ) (q : Plate) : Type 0 where
  pub same_posts : q.posts ≡ p.posts
  pub strip_ends : q.ends ≡ p.ends ++ (ends_at p d ∷ (ends_at p e ∷ []))
  pub old_order : (v : ℕ) → v < p.posts → part_of q v ≡ put_before (twin d) (darts p) (put_before (twin e) (suc (darts p)) (part_of p v))
  pub order_long : length q.order ≡ darts q
  pub same_outer : q.outer ≡ p.outer

-- the same list read cyclically from another element on
pub record Turned (xs ys : List ℕ) : Type 0 where
  pub front : List ℕ
  pub back : List ℕ
  pub from : xs ≡ front ++ back
  pub to : ys ≡ back ++ front

-- the same table, read cyclically: where a post's order begins may differ
pub record SameTable (p q : Plate) : Type 0 where
  pub same_posts : q.posts ≡ p.posts
  pub same_ends : q.ends ≡ p.ends
  pub same_outer : q.outer ≡ p.outer
  pub orders : (v : ℕ) → v < p.posts → Turned (part_of p v) (part_of q v)

-- 36: a post more would be the 65th, a strip more the 129th
abbrev pub no_post : Plate → Bool
no_post p = leb 64 p.posts

abbrev pub no_strip : Plate → Bool
no_strip p = leb 128 (strips p)

-- the places that a join takes at the post where d ends, and at that of e: two where they are one post
abbrev pub taken : Plate → ℕ → ℕ → ℕ
taken p d e = pick (eqb (ends_at p d) (ends_at p e)) 2 1

-- 37: k places more at post v are over four
abbrev pub full : Plate → ℕ → ℕ → Bool
full p v k = ltb 4 (degree p v + k)

-- 35, 36, 37 in this order; a split takes no place at a post that is there
abbrev pub split_fault : Plate → ℕ → ℕ
split_fault p s = first_of (when (leb (strips p) s) 35) (when (no_post p || no_strip p) 36)

abbrev pub hang_fault : Plate → ℕ → ℕ
hang_fault p d = first_of (when (leb (darts p) d) 35) (first_of (when (no_post p || no_strip p) 36) (when (full p (ends_at p d) 1) 37))

-- 35 of a join: a dart that is not there, darts that are equal or of two faces
abbrev pub no_face : Plate → ℕ → ℕ → Bool
no_face p d e = leb (darts p) d || (leb (darts p) e || (eqb d e || not (is_in e (face_of p d))))

abbrev pub join_fault : Plate → ℕ → ℕ → ℕ
join_fault p d e = first_of (when (no_face p d e) 35) (first_of (when (no_strip p) 36) (when (full p (ends_at p d) (taken p d e) || full p (ends_at p e) (taken p d e)) 37))
