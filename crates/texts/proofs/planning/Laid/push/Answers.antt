-- `texts::planning::Laid::push` lays the first blank place.
use Rattle.std.proofs.Common.{ap, arith, length, length-take-le}
use Rattle.texts.proofs.LaidLaws.{place_more}
use Rattle.texts.proofs.planning.Laid.push.Goals as goal

pub invariant_of-self : goal.invariant_of-self
invariant_of-self c =
    let q = c.self.inside in
    let laid = c.self.invariant in
    place_more c.args.turn laid (omega (arith, c.requires, ap length c.self.view_is, length-take-le q.count q.turns (omega (arith, laid.most, laid.long))))
