-- The nodes that have something left, as the sources of a search; and the one node that a search is for.
use mathlib.Core.Path.{◌≡◌, refl, ap, ◌∙◌}
use Rattle.std.proofs.Common.{None, Some}
use mathlib.Core.Logic.{◌⊎◌, inl, inr}
use mathlib.Core.List.{List, [], ◌∷◌}
use Prim.Native.Nat.{ℕ, zero, suc, ◌≤◌, ◌<◌}
use native.Mathlib.Nat.{le_of_suc-le-suc, not-suc-le-zero}
use native.Mathlib.Decide.{ℕ_discrete, dec_lt}
use native.Mathlib.Omega.{arith}
use borrow.Author.Tests.{le-leb}
use lib.ListN.{length, get_or, set, length-set, get_or-eq_default, replicate, length-replicate, get_or-replicate}
use lib.Seq.{get_or-set_same, get_or-set_other}
use Rattle.finite.specs.Base.{total}
use Rattle.residual.specs.Residual.{Residual, Fresh, reached, unreached}
use Rattle.residual.specs.Chains.{Lined}
use Rattle.residual.specs.Searches.{Sought}
use Rattle.residual.specs.Marks.{mark_of, marks_of, Zeros, Single, Wants}
use Rattle.residual.proofs.Chaining.{lined_more}
use Rattle.residual.proofs.Duals.{unreached_source}

pub marks_long : (left : List ℕ) → length (marks_of left) ≡ length left
marks_long [] = refl
marks_long (l ∷ left) = ap suc (marks_long left)

pub marks_at : (left : List ℕ) (v : ℕ) → v < length left → get_or (marks_of left) v 0 ≡ mark_of (get_or left v 0)
marks_at [] v h = absurd (not-suc-le-zero h)
marks_at (l ∷ left) zero h = refl
marks_at (l ∷ left) (suc v) h = marks_at left v (le_of_suc-le-suc h)

mark_two : (n : ℕ) → (mark_of n ≡ 0) ⊎ (mark_of n ≡ 255)
mark_two zero = inr refl
mark_two (suc n) = inl refl

pub mark_some : (n : ℕ) → 0 < n → mark_of n ≡ 0
mark_some zero h = absurd (not-suc-le-zero h)
mark_some (suc n) h = refl

some_mark : (n : ℕ) → mark_of n ≡ 0 → 0 < n
some_mark zero e = absurd (omega arith)
some_mark (suc n) e = omega arith

-- a source has something left, and what has something left is a source
pub source_marked : (left : List ℕ) (v : ℕ) → 0 < get_or left v 0 → get_or (marks_of left) v 0 ≡ 0
source_marked [] v h = refl
source_marked (l ∷ left) zero h = mark_some l h
source_marked (l ∷ left) (suc v) h = source_marked left v h

pub marked_source : (left : List ℕ) (v : ℕ) → v < length left → get_or (marks_of left) v 0 ≡ 0 → 0 < get_or left v 0
marked_source left v l e = some_mark (get_or left v 0) (omega (arith, marks_at left v l))

-- where something is left, some node has it
pub some_left : (left : List ℕ) → 0 < total left → (v : ℕ) × (v < length left) × (0 < get_or left v 0)
some_left [] h = absurd (not-suc-le-zero h)
some_left (zero ∷ left) h = let (v, l, p) = some_left left (omega arith) in (suc v, omega arith, p)
some_left (suc k ∷ left) h = (0, omega arith, omega arith)

two_marks : (left : List ℕ) (v : ℕ) → (get_or (marks_of left) v 0 ≡ 0) ⊎ (get_or (marks_of left) v 0 ≡ 255)
two_marks [] v = inl refl
two_marks (l ∷ left) zero = mark_two l
two_marks (l ∷ left) (suc v) = two_marks left v

pub marks_fresh : (left : List ℕ) → 0 < total left → length left ≤ 255 → Fresh (marks_of left)
marks_fresh left some few =
    let (v, l, p) = some_left left some in
    record {
      marks = two_marks left;
      some = unreached_source (marks_of left) v (omega (arith, marks_long left)) (omega (arith, source_marked left v p));
      few = omega (arith, marks_long left);
    }

pub single_fresh : (dist : List ℕ) (s : ℕ) → s < length dist → length dist ≤ 255 → Single dist s → Fresh dist
single_fresh dist s l few one = record {
  marks = λ v. elim (ℕ_discrete v s) [
    | yes e ↦ inl (ap (λ (w : ℕ). get_or dist w 0) e ∙ one.marked)
    | no n ↦ elim (dec_lt v (length dist)) [ yes h ↦ inr (one.others v h n) | no h ↦ inl (get_or-eq_default dist 0 {n = v} (omega (arith, h))) ]
  ];
  some = unreached_source dist s l (omega (arith, one.marked));
  few = few;
}

-- each node of a list that is filled with 255 is unreached
pub all_unreached : {dist : List ℕ} (n : ℕ) → dist ≡ replicate n 255 → (v : ℕ) → v < length dist → get_or dist v 0 ≡ 255
all_unreached n filled v l = rw filled (get_or-replicate {A = ℕ} n v 255 0 (omega (arith, ap (λ (d : List ℕ). length d) filled, length-replicate {A = ℕ} n 255)))

-- among nodes that are not reached one is marked as the source, and alone in the queue
unreached_all : (dist : List ℕ) → ((v : ℕ) → v < length dist → get_or dist v 0 ≡ 255) → unreached dist ≡ length dist
unreached_all [] all = refl
unreached_all (d ∷ dist) all = rw (le-leb 255 d (omega (arith, all 0 (omega arith)))) (omega (arith, unreached_all dist (λ v h. all (suc v) (omega arith))))

module _ (dist : List ℕ) (s : ℕ) (l : s < length dist) (all : (v : ℕ) → v < length dist → get_or dist v 0 ≡ 255) where
  pub only_single : Single (set dist s 0) s
  only_single = record {
    marked = get_or-set_same dist s 0 0 l;
    others = λ v h n. get_or-set_other dist s v 0 0 n ∙ all v (omega (arith, length-set dist s 0));
  }

  pub only_lined : (queue : List ℕ) → length queue ≡ length dist → Lined (set dist s 0) 1 (set queue 0 s)
  only_lined queue q = lined_more dist queue 0 s 0 none l (omega (arith, all s l)) (omega arith) (omega arith)
    where
      none : Lined dist 0 queue
      none = record {
        count_is = omega (arith, unreached_all dist all);
        nodes = λ i h. absurd (omega arith);
        places = λ u h r. absurd (omega (arith, all u h));
      }

-- among zeros the one node with a 1 is wanted
pub wants_set : {n : ℕ} {xs : List ℕ} (target : ℕ) → Zeros n xs → target < n → Wants (set xs target 1) target
wants_set {n} {xs} target z l = record {
  here = omega (arith, get_or-set_same xs target 1 0 (omega (arith, z.long)));
  only = λ v h. elim (ℕ_discrete v target) [
    | yes e ↦ e
    | no d ↦ absurd (omega (arith, get_or-set_other xs target v 1 0 d, z.zero_at v))
  ];
}

-- a search for one node reaches it where it finds a node, and else does not
module _ {r : Residual} {from : ℕ} {start wanted dist via : List ℕ} {target : ℕ} (w : Wants wanted target) where
  pub wants_found : {v : ℕ} → Sought r from start wanted dist via (Some v) → reached dist target
  wants_found s = let f = s.some in omega (arith, f.marked, ap (λ (u : ℕ). get_or dist u 0) (w.only _ f.some))

  pub wants_none : Sought r from start wanted dist via None → target < length dist → 255 ≤ get_or dist target 0
  wants_none s l = elim (dec_lt (get_or dist target 0) 255) [
    | yes in_tree ↦ absurd (omega (arith, s.none target l in_tree, w.here))
    | no d ↦ omega (arith, d)
  ]
