-- Turns laid one behind the other: a turn more is an entry more, and a face's walk lays its line. Assumes nothing.
use mathlib.Core.Path.{◌≡◌, refl, sym, ap, subst, ◌∙◌}
use mathlib.Core.Bool.{Bool, true, false}
use mathlib.Core.List.{List, [], ◌∷◌, ◌++◌, append_assoc}
use Prim.Native.Nat.{ℕ, suc, ◌+◌, ◌-◌, ◌≤◌, ◌<◌}
use native.Mathlib.Omega.{arith}
use lib.Dec.{eqb}
use lib.ListN.{length, set, drop, replicate, length-append, length-set}
use lib.Seq.{drop-drop, drop-set-lt}
use borrow.Author.Tests.{eq-eqb, ne_eqb}
use Rattle.finite.specs.Walks.{walk, orbit}
use Rattle.finite.proofs.Orbit.{stops, goes, short}
use Rattle.embedding.specs.Steps.{next_of}
use Rattle.embedding.proofs.Labelling.{opened}
use Rattle.plates.specs.Text.{Entry, entry}
use Rattle.plates.specs.Lines.{line}
use Rattle.texts.specs.Plan.{laid, no_turn, LaidIn, FaceRoom, FaceLaid}
use Rattle.texts.specs.declared.planning.Turn.{Turn}

pub laid_long : (ts : List Turn) → length (laid ts) ≡ length ts
laid_long [] = refl
laid_long (t ∷ ts) = ap suc (laid_long ts)

pub laid_append : (xs ys : List Turn) → laid (xs ++ ys) ≡ laid xs ++ laid ys
laid_append [] ys = refl
laid_append (x ∷ xs) ys = ap (λ (l : List Entry). entry x.dart [] 0 x.last ∷ l) (laid_append xs ys)

pub line_long : (ds : List ℕ) → length (line [] [] ds) ≡ length ds
line_long [] = refl
line_long (d ∷ []) = refl
line_long (d ∷ (e ∷ ds)) = ap suc (line_long (e ∷ ds))

-- the first blank place laid
pub place_more : {ts : List Turn} {count : ℕ} (t : Turn) → LaidIn ts count → count < 256 → LaidIn (set ts count t) (count + 1)
place_more {ts} {count} t h l =
    let left : 256 - count ≡ suc (256 - (count + 1)) = omega arith in
    record {
      most = omega arith;
      long = length-set ts count t ∙ h.long;
      behind = drop-set-lt (count + 1) ts count t (omega arith)
          ∙ sym (drop-drop 1 count ts)
          ∙ ap (drop 1) (h.behind ∙ ap (λ (k : ℕ). replicate k no_turn) left);
    }

-- a face's walk at dart d: its line is laid but for what is left of the walk
pub record Walking (next : List ℕ) (n start : ℕ) (q₀ q : List Turn) (d : ℕ) : Type 0 where
  pub fuel : ℕ
  pub ends : length (walk (next_of next) (suc (suc fuel)) start d) ≤ suc fuel
  pub d_below : d < n
  pub entries : laid q ++ line [] [] (walk (next_of next) (suc fuel) start d) ≡ laid q₀ ++ line [] [] (orbit (next_of next) n start)

module _ {next : List ℕ} {n start : ℕ} {q₀ : List Turn} (room : FaceRoom next n start q₀) where
  abbrev f : ℕ → ℕ
  f = next_of next

  pub walking_start : Walking next n start q₀ q₀ start
  walking_start =
      let s = short f n room.one start room.below in
      let j = opened f n start start s in
      let same : walk f (suc j.0) start start ≡ orbit f n start = ap (λ (k : ℕ). walk f k start start) (sym j.1) in
      record {
        fuel = j.0;
        ends = subst (λ (k : ℕ). length (walk f (suc k) start start) ≤ k) j.1 s;
        d_below = room.below;
        entries = ap (λ (w : List ℕ). laid q₀ ++ line [] [] w) same;
      }

  module _ {q : List Turn} {d : ℕ} (h : Walking next n start q₀ q d) where
    pub walking_room : length q < 256
    walking_room =
        let w = walk f (suc h.fuel) start d in
        omega (
          arith,
          room.enough,
          ap length h.entries,
          length-append (laid q) (line [] [] w),
          length-append (laid q₀) (line [] [] (orbit f n start)),
          laid_long q,
          laid_long q₀,
          line_long w,
          line_long (orbit f n start),
        )

    one_more : (b : Bool) → laid (q ++ (record { dart = d; last = b } ∷ [])) ≡ laid q ++ (entry d [] 0 b ∷ [])
    one_more b = laid_append q (record { dart = d; last = b } ∷ [])

    pub walking_done : (b : Bool) → b ≡ eqb (f d) start → f d ≡ start → FaceLaid next n start q₀ (q ++ (record { dart = d; last = b } ∷ []))
    walking_done b t z =
        let one : walk f (suc h.fuel) start d ≡ d ∷ [] = ap (λ (r : List ℕ). d ∷ r) (stops f h.fuel start d z) in
        let b-is : b ≡ true = t ∙ eq-eqb (f d) start z in
        one_more b
        ∙ ap (λ (c : Bool). laid q ++ (entry d [] 0 c ∷ [])) b-is
        ∙ ap (λ (w : List ℕ). laid q ++ line [] [] w) (sym one) ∙ h.entries

    pub walking_more : {w : ℕ} (b : Bool) → b ≡ eqb (f d) start → (f d ≡ start → ⊥) → w ≡ f d → Walking next n start q₀ (q ++ (record { dart = d; last = b } ∷ [])) w
    walking_more {w} b t z k =
        let left : length (walk f (suc h.fuel) start (f d)) ≤ h.fuel = omega (arith, h.ends, ap length (goes f (suc h.fuel) start d z)) in
        let j = opened f h.fuel start (f d) left in
        let k' = sym k in
        let rest : walk f (suc h.fuel) start d ≡ d ∷ walk f (suc j.0) start w =
        ap (λ (r : List ℕ). d ∷ r) (goes f h.fuel start d z) ∙ (λ i. d ∷ walk f (j.1 i) start (k' i)) in
        let b-is : b ≡ false = t ∙ ne_eqb (f d) start z in
        record {
          fuel = j.0;
          ends = subst (λ (x : ℕ). length (walk f (suc (suc j.0)) start x) ≤ suc j.0) (sym k) (subst (λ (i : ℕ). length (walk f (suc i) start (f d)) ≤ i) j.1 left);
          d_below = subst (λ (x : ℕ). x < n) (sym k) (room.one.below d h.d_below);
          entries = ap (λ (l : List Entry). l ++ line [] [] (walk f (suc j.0) start w)) (one_more b ∙ ap (λ (c : Bool). laid q ++ (entry d [] 0 c ∷ [])) b-is)
              ∙ append_assoc (laid q) (entry d [] 0 false ∷ []) (line [] [] (walk f (suc j.0) start w))
              ∙ ap (λ (x : List ℕ). laid q ++ line [] [] x) (sym rest) ∙ h.entries;
        }
