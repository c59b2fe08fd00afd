-- Lent lists filled from the front and by corners, and a list of two parts told by its numbers.
use mathlib.Core.Path.{◌≡◌, sym, ap, ◌∙◌}
use mathlib.Core.List.{List, map, ◌++◌}
use Prim.Native.Nat.{ℕ, suc, ◌+◌, ◌<◌}
use native.Mathlib.Omega.{arith}
use borrow.Author.Count.{below_more}
use lib.ListN.{length, get_or, set, length-set, length-append, length-map}
use Rattle.std.proofs.Math.ListN.{get_or-map}
use lib.Seq.{ext_get_or, get_or-set_same, get_or-set_other}
use Rattle.finite.specs.Tables.{Table}
use Rattle.residual.specs.declared.arcs.Arc.{Arc}
use Rattle.flow.specs.declared.nodes.Node.{Node}
use Rattle.shapes.specs.NetworkOf.{by_arc}
use Rattle.shapes.specs.Entries.{no_arc, no_node, Begun, CornersLaid}
use Rattle.shapes.proofs.Tables.{first_at, second_at, by_parts}
use Rattle.shapes.proofs.Arcs.{arc_cases, arcs_long, at_bend, at_low, at_high}

module _ {A : Type 0} {none : A} {n : ℕ} {f : ℕ → A} {k : ℕ} {xs : List A} (b : Begun none n f k xs) where
  pub begun_more : {w : A} → k < length xs → w ≡ f k → Begun none n f (k + 1) (set xs k w)
  begun_more {w} l e =
      record {
        size = length-set xs k w ∙ b.size;
        below = below_more (λ (j : ℕ). get_or (set xs k w) j none ≡ f j) k
            (λ j h. get_or-set_other xs k j w none (λ (e : j ≡ k). absurd (omega arith)) ∙ b.below j h)
            (get_or-set_same xs k w none l ∙ e);
      }

-- the two arcs of each corner, one corner after the other
module _ {m : ℕ} {g h : ℕ → Arc} {k : ℕ} {ys xs : List Arc} (c : CornersLaid m g h k ys xs) where
  before_both : (w u : Arc) (i : ℕ) → i < m + k + k → get_or (set (set xs (m + k + k) w) (m + k + k + 1) u) i no_arc ≡ get_or xs i no_arc
  before_both w u i l =
      get_or-set_other (set xs (m + k + k) w) (m + k + k + 1) i u no_arc (λ (e : i ≡ m + k + k + 1). absurd (omega arith))
      ∙ get_or-set_other xs (m + k + k) i w no_arc (λ (e : i ≡ m + k + k). absurd (omega arith))

  pub corners_more : {w u : Arc} → m + k + k + 1 < length xs → w ≡ g k → u ≡ h k → CornersLaid m g h (k + 1) ys (set (set xs (m + k + k) w) (m + k + k + 1) u)
  corners_more {w} {u} l low high =
      let zs = set (set xs (m + k + k) w) (m + k + k + 1) u in
      record {
        size = length-set (set xs (m + k + k) w) (m + k + k + 1) u ∙ length-set xs (m + k + k) w ∙ c.size;
        bend = λ d less. before_both w u d (omega arith) ∙ c.bend d less;
        first = below_more (λ (d : ℕ). get_or zs (m + d + d) no_arc ≡ g d) k (λ d less. before_both w u (m + d + d) (omega arith) ∙ c.first d less)
            (get_or-set_other (set xs (m + k + k) w) (m + k + k + 1) (m + k + k) u no_arc (λ (e : m + k + k ≡ m + k + k + 1). absurd (omega arith))
            ∙ get_or-set_same xs (m + k + k) w no_arc (omega arith) ∙ low);
        second = below_more (λ (d : ℕ). get_or zs (m + d + d + 1) no_arc ≡ h d) k (λ d less. before_both w u (m + d + d + 1) (omega arith) ∙ c.second d less)
            (get_or-set_same (set xs (m + k + k) w) (m + k + k + 1) u no_arc (omega (arith, length-set xs (m + k + k) w)) ∙ high);
      }

-- one number of each arc: the darts' arcs, then the corners'
pub arcs_laid : (field : Arc → ℕ) → field no_arc ≡ 0 → {m : ℕ} {f g h : ℕ → Arc} {ys xs : List Arc} → Begun no_arc (m + (m + m)) f m ys → CornersLaid m g h m ys xs → (f' g' h' : ℕ → ℕ)
    → ((d : ℕ) → d < m → field (f d) ≡ f' d) → ((d : ℕ) → d < m → field (g d) ≡ g' d) → ((d : ℕ) → d < m → field (h d) ≡ h' d) → map field xs ≡ by_arc m f' g' h'
arcs_laid field none {m} {f} {g} {h} {ys} {xs} b c f' g' h' bend low high =
    ext_get_or 0 (map field xs) (by_arc m f' g' h') (length-map xs field ∙ c.size ∙ b.size ∙ sym (arcs_long m f' g' h'))
    (λ i l. arc_cases (λ a. get_or (map field xs) a 0 ≡ get_or (by_arc m f' g' h') a 0) m
    (λ d n. at d ∙ ap field (c.bend d n ∙ b.below d n) ∙ bend d n ∙ sym (at_bend m f' g' h' d n))
    (λ d n. ap (λ (a : ℕ). get_or (map field xs) a 0) (first_is d) ∙ at (m + d + d) ∙ ap field (c.first d n) ∙ low d n ∙ sym (at_low m f' g' h' d n))
    (λ d n. ap (λ (a : ℕ). get_or (map field xs) a 0) (second_is d) ∙ at (m + d + d + 1) ∙ ap field (c.second d n) ∙ high d n ∙ sym (at_high m f' g' h' d n)) i (omega (arith, b.size, c.size, length-map xs field)))
  where
    at : (a : ℕ) → get_or (map field xs) a 0 ≡ field (get_or xs a no_arc)
    at a = ap (get_or (map field xs) a) (sym none) ∙ get_or-map field xs a no_arc

    first_is : (d : ℕ) → m + (d + d) ≡ m + d + d
    first_is d = omega arith

    second_is : (d : ℕ) → m + suc (d + d) ≡ m + d + d + 1
    second_is d = omega arith

-- one number of each node
pub nodes_laid : (field : Node → ℕ) → field no_node ≡ 0 → {n : ℕ} {f : ℕ → Node} {xs : List Node} → Begun no_node n f n xs → Table n (λ v. field (f v)) (map field xs)
nodes_laid field none {n} {f} {xs} b = record { size = length-map xs field ∙ b.size; at = λ v l. ap (get_or (map field xs) v) (sym none) ∙ get_or-map field xs v no_node ∙ ap field (b.below v l) }

pub parts_are : (m n : ℕ) (f : ℕ → ℕ) (xs ys zs : List ℕ) → Table (m + n) f xs → length ys ≡ m → length zs ≡ n
    → ((d : ℕ) → d < m → f d ≡ get_or ys d 0) → ((d : ℕ) → d < n → f (m + d) ≡ get_or zs d 0) → xs ≡ ys ++ zs
parts_are m n f xs ys zs t ys_long zs_long first second =
    ext_get_or 0 xs (ys ++ zs) (omega (arith, t.size, length-append ys zs))
    (λ i l. by_parts (λ (a : ℕ). get_or xs a 0 ≡ get_or (ys ++ zs) a 0) m n
    (λ d k. t.at d (omega arith) ∙ first d k ∙ sym (first_at ys zs m ys_long d k))
    (λ d k. t.at (m + d) (omega arith) ∙ second d k ∙ sym (second_at ys zs m ys_long d)) i (omega (arith, t.size)))
