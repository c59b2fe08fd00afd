-- `set_least`: the invariant is that the arcs below a are set, and their least is added.
use Rattle.std.proofs.Common.{◌≡◌, sym, Bool, true, false, ◌<◌, length, get_or, arith}
use Rattle.std.proofs.lemmas.List.{ext_get_or, length-map}
use Rattle.residual.specs.declared.arcs.Arc.{Arc}
use Rattle.residual.specs.Arcs.{ends_of, lowers_of}
use Rattle.residual.proofs.ArcLists.{lower_at, ends_long}
use Rattle.flow.proofs.Fills.{filled_more, adding_few, adding_more, adding_all}
use Rattle.flow.proofs.start.set_least.Goals as goal
use Rattle.flow.proofs.start.set_least.Goals.{After-far_end-h}

module _ (c : After-far_end-h) where
  next : (on : Bool) → c.loop-a.a < length (ends_of on c.args.arcs.now)
  next on = omega (arith, ends_long on c.args.arcs.now)

  long : (on : Bool) → length (lowers_of c.args.arcs.now) ≡ length (ends_of on c.args.arcs.now)
  long on = omega (arith, ends_long on c.args.arcs.now, length-map c.args.arcs.now (λ (arc : Arc). arc.lower))

pub overflow_add-units : goal.overflow_add-units
overflow_add-units c =
    let p = (goal.at.overflow_add-units c).After-far_end-h in
    let l = c.loop-a in
    rw c.far_end-h.ensures (omega (arith, adding_few l.invariant.1 (long p false) (next p false) (c.requires.heads_in l.a (omega arith)), c.requires.left_bound, lower_at c.args.arcs.now l.a))

pub overflow_add-units-in-loop-a : goal.overflow_add-units-in-loop-a
overflow_add-units-in-loop-a c =
    let p = (goal.at.overflow_add-units-in-loop-a c).After-far_end-h in
    let l = c.loop-a in
    rw c.near_end-t.ensures (omega (arith, adding_few l.invariant.2 (long p true) (next p true) (c.requires.tails_in l.a (omega arith)), c.requires.lack_bound, lower_at c.args.arcs.now l.a))

pub loop-a-preserved : goal.loop-a-preserved
loop-a-preserved c =
    let p = (goal.at.loop-a-preserved c).After-far_end-h in
    let l = c.loop-a in (
      filled_more (λ u. get_or (lowers_of c.args.arcs.now) u 0) l.x l.a _ (omega arith) l.invariant.0 (sym (lower_at c.args.arcs.now l.a)),
      rw (c.far_end-h.ensures, ← lower_at c.args.arcs.now l.a) (adding_more l.invariant.1 (next p false) (c.requires.heads_in l.a (omega arith))),
      rw (c.near_end-t.ensures, ← lower_at c.args.arcs.now l.a) (adding_more l.invariant.2 (next p true) (c.requires.tails_in l.a (omega arith))),
    )

pub returns-clause-x_after : goal.returns-clause-x_after
returns-clause-x_after c =
    let arcs = c.args.arcs.now in
    ext_get_or 0 c.loop-a.x (lowers_of arcs) (omega (arith, length-map arcs (λ (arc : Arc). arc.lower))) (λ i h. c.loop-a.invariant.0 i (omega arith))

pub returns-clause-left_after : goal.returns-clause-left_after
returns-clause-left_after c = adding_all c.loop-a.invariant.1 (omega (arith, ends_long false c.args.arcs.now))

pub returns-clause-lack_after : goal.returns-clause-lack_after
returns-clause-lack_after c = adding_all c.loop-a.invariant.2 (omega (arith, ends_long true c.args.arcs.now))
