-- Arcs as the code holds them, in the lists by arc that the laws speak of.
use Rattle.std.specs.Prelude.{Bool, true, false, List, map, ℕ, ◌+◌, min}
use Rattle.residual.specs.declared.arcs.Arc.{Arc}
use Rattle.residual.specs.Residual.{Residual, residual}

abbrev pub tails_of : List Arc → List ℕ
tails_of arcs = map (λ arc. arc.tail) arcs

abbrev pub heads_of : List Arc → List ℕ
heads_of arcs = map (λ arc. arc.head) arcs

abbrev pub lowers_of : List Arc → List ℕ
lowers_of arcs = map (λ arc. arc.lower) arcs

abbrev pub uppers_of : List Arc → List ℕ
uppers_of arcs = map (λ arc. arc.upper) arcs

abbrev pub costs_of : List Arc → List ℕ
costs_of arcs = map (λ arc. arc.cost) arcs

-- where a step on, or back, along each arc begins
abbrev pub ends_of : Bool → List Arc → List ℕ
ends_of true arcs = tails_of arcs
ends_of false arcs = heads_of arcs

-- where it leads
abbrev pub fars_of : Bool → List Arc → List ℕ
fars_of true arcs = heads_of arcs
fars_of false arcs = tails_of arcs

-- what stands for an arc that is not there
abbrev pub no_arc : Arc
no_arc = record { tail = 0; head = 0; lower = 0; upper = 0; cost = 0 }

-- the most units on an arc that is held to so many above its least, and to 65535; by arc
abbrev pub top_of : ℕ → Arc → ℕ
top_of most arc = min arc.upper (min (arc.lower + most) 65535)

abbrev pub tops_of : ℕ → List Arc → List ℕ
tops_of most arcs = map (λ arc. top_of most arc) arcs

-- arcs that are held to so many units above their least, with units on them and potentials of the nodes
abbrev pub residual_from : ℕ → List Arc → List ℕ → List ℕ → Residual
residual_from most arcs x pot = residual (tails_of arcs) (heads_of arcs) (lowers_of arcs) (tops_of most arcs) (costs_of arcs) x pot
