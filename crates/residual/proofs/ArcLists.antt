-- The lists by arc of arcs as the code holds them.
use Rattle.std.proofs.Common.{◌≡◌, Bool, true, false, List, [], ◌∷◌, ℕ, zero, suc, ◌≤◌, ◌<◌, length, get_or, arith}
use Rattle.std.proofs.Math.ListN.{get_or-map}
use Rattle.std.proofs.lemmas.List.{length-map}
use Rattle.std.proofs.lemmas.List.{get_or-map as get_or-map_in}
use Rattle.residual.specs.declared.arcs.Arc.{Arc}
use Rattle.residual.specs.Arcs.{no_arc, lowers_of, uppers_of, costs_of, ends_of, fars_of, top_of, tops_of}

pub lower_at : (arcs : List Arc) (a : ℕ) → get_or (lowers_of arcs) a 0 ≡ (get_or arcs a no_arc).lower
lower_at arcs a = get_or-map (λ (arc : Arc). arc.lower) arcs a no_arc

pub upper_at : (arcs : List Arc) (a : ℕ) → get_or (uppers_of arcs) a 0 ≡ (get_or arcs a no_arc).upper
upper_at arcs a = get_or-map (λ (arc : Arc). arc.upper) arcs a no_arc

pub cost_at : (arcs : List Arc) (a : ℕ) → get_or (costs_of arcs) a 0 ≡ (get_or arcs a no_arc).cost
cost_at arcs a = get_or-map (λ (arc : Arc). arc.cost) arcs a no_arc

pub top_at : (most : ℕ) (arcs : List Arc) (a : ℕ) → a < length arcs → get_or (tops_of most arcs) a 0 ≡ top_of most (get_or arcs a no_arc)
top_at most arcs a l = get_or-map_in (λ (arc : Arc). top_of most arc) arcs a no_arc 0 l

-- an arc that is held takes no more, and at most 65535
pub tops_less : (most : ℕ) (arcs : List Arc) (a : ℕ) → get_or (tops_of most arcs) a 0 ≤ get_or (uppers_of arcs) a 0
tops_less most [] a = omega arith
tops_less most (arc ∷ arcs) zero = omega arith
tops_less most (arc ∷ arcs) (suc a) = tops_less most arcs a

pub tops_fit : (most : ℕ) (arcs : List Arc) (a : ℕ) → get_or (tops_of most arcs) a 0 ≤ 65535
tops_fit most [] a = omega arith
tops_fit most (arc ∷ arcs) zero = omega arith
tops_fit most (arc ∷ arcs) (suc a) = tops_fit most arcs a

pub ends_long : (on : Bool) (arcs : List Arc) → length (ends_of on arcs) ≡ length arcs
ends_long true arcs = length-map arcs (λ (arc : Arc). arc.tail)
ends_long false arcs = length-map arcs (λ (arc : Arc). arc.head)

pub fars_long : (on : Bool) (arcs : List Arc) → length (fars_of on arcs) ≡ length arcs
fars_long true arcs = ends_long false arcs
fars_long false arcs = ends_long true arcs
