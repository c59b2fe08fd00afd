-- One more edge in a map of m edges: its darts are 2m and 2m + 1. `angle d` is the corner at the end of d, between d and next d.
use Rattle.std.specs.Prelude.{◌≡◌, ℕ, suc, ◌-◌, ◌*◌, ◌<◌, eqb}
use Rattle.finite.specs.Base.{pick}
use Rattle.maps.specs.Maps.{twin}

-- f, but v at n
abbrev pub put : (ℕ → ℕ) → ℕ → ℕ → ℕ → ℕ
put f n v x = pick (eqb x n) v (f x)

-- f, but v for u
abbrev pub redirect : (ℕ → ℕ) → ℕ → ℕ → ℕ → ℕ
redirect f u v x = pick (eqb (f x) u) v (f x)

-- dart t now ends at a new post: 2m goes on from there to where t ended, 2m + 1 comes back
pub record Split (next after : ℕ → ℕ) (m t : ℕ) : Type 0 where
  pub at : after t ≡ 2 * m
  pub on : (next t ≡ twin t → ⊥) → after (2 * m) ≡ next t
  pub on_back : next t ≡ twin t → after (2 * m) ≡ suc (2 * m)
  pub back : after (suc (2 * m)) ≡ twin t
  pub into : (x : ℕ) → x < 2 * m → (x ≡ t → ⊥) → next x ≡ twin t → after x ≡ suc (2 * m)
  pub other : (x : ℕ) → x < 2 * m → (x ≡ t → ⊥) → (next x ≡ twin t → ⊥) → after x ≡ next x

-- a is the corner at the new post to the right of t, 4 - a the other
pub record SplitAngles (angle after : ℕ → ℕ) (m t a : ℕ) : Type 0 where
  pub at : after t ≡ a
  pub on : after (2 * m) ≡ angle t
  pub back : after (suc (2 * m)) ≡ 4 - a
  pub other : (x : ℕ) → x < 2 * m → (x ≡ t → ⊥) → after x ≡ angle x

-- 2m goes from the corner at the end of d to a new post, and 2m + 1 comes back
pub record Hung (next after : ℕ → ℕ) (m d : ℕ) : Type 0 where
  pub at : after d ≡ 2 * m
  pub end : after (2 * m) ≡ suc (2 * m)
  pub back : after (suc (2 * m)) ≡ next d
  pub other : (x : ℕ) → x < 2 * m → (x ≡ d → ⊥) → after x ≡ next x

pub record HungAngles (angle after : ℕ → ℕ) (m d a : ℕ) : Type 0 where
  pub at : after d ≡ a
  pub end : after (2 * m) ≡ 4
  pub back : after (suc (2 * m)) ≡ angle d - a
  pub other : (x : ℕ) → x < 2 * m → (x ≡ d → ⊥) → after x ≡ angle x

-- 2m goes from the corner at the end of d to the corner at the end of e
pub record Joined (next after : ℕ → ℕ) (m d e : ℕ) : Type 0 where
  pub from : after d ≡ 2 * m
  pub to : after (2 * m) ≡ next e
  pub back_from : after e ≡ suc (2 * m)
  pub back_to : after (suc (2 * m)) ≡ next d
  pub other : (x : ℕ) → x < 2 * m → (x ≡ d → ⊥) → (x ≡ e → ⊥) → after x ≡ next x

pub record JoinedAngles (angle after : ℕ → ℕ) (m d e a b : ℕ) : Type 0 where
  pub from : after d ≡ a
  pub to : after (2 * m) ≡ angle e - b
  pub back_from : after e ≡ b
  pub back_to : after (suc (2 * m)) ≡ angle d - a
  pub other : (x : ℕ) → x < 2 * m → (x ≡ d → ⊥) → (x ≡ e → ⊥) → after x ≡ angle x

abbrev pub split_next : (ℕ → ℕ) → ℕ → ℕ → ℕ → ℕ
split_next next m t = put (put (put (redirect next (twin t) (suc (2 * m))) (2 * m) (redirect next (twin t) (suc (2 * m)) t)) (suc (2 * m)) (twin t)) t (2 * m)

abbrev pub split_angle : (ℕ → ℕ) → ℕ → ℕ → ℕ → ℕ → ℕ
split_angle angle m t a = put (put (put angle (2 * m) (angle t)) (suc (2 * m)) (4 - a)) t a

abbrev pub hang_next : (ℕ → ℕ) → ℕ → ℕ → ℕ → ℕ
hang_next next m d = put (put (put next (2 * m) (suc (2 * m))) (suc (2 * m)) (next d)) d (2 * m)

abbrev pub hang_angle : (ℕ → ℕ) → ℕ → ℕ → ℕ → ℕ → ℕ
hang_angle angle m d a = put (put (put angle (2 * m) 4) (suc (2 * m)) (angle d - a)) d a

abbrev pub join_next : (ℕ → ℕ) → ℕ → ℕ → ℕ → ℕ → ℕ
join_next next m d e = put (put (put (put next (2 * m) (next e)) (suc (2 * m)) (next d)) e (suc (2 * m))) d (2 * m)

abbrev pub join_angle : (ℕ → ℕ) → ℕ → ℕ → ℕ → ℕ → ℕ → ℕ → ℕ
join_angle angle m d e a b = put (put (put (put angle (2 * m) (angle e - b)) (suc (2 * m)) (angle d - a)) e b) d a

-- a cut: t's edge is split straight, and the corner at the end of e joined to the new post, going on straight from e and meeting t at right angles
abbrev pub cut_next : (ℕ → ℕ) → ℕ → ℕ → ℕ → ℕ → ℕ
cut_next next m e t = join_next (split_next next m t) (suc m) e t

abbrev pub cut_angle : (ℕ → ℕ) → ℕ → ℕ → ℕ → ℕ → ℕ
cut_angle angle m e t = join_angle (split_angle angle m t 2) (suc m) e t 2 1
