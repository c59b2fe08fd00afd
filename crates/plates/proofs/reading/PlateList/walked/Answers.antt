-- `walked`: an accepted list passed the walk.
use Rattle.plates.proofs.Lists.{list_walked}
use Rattle.plates.proofs.reading.PlateList.walked.Goals as goal

pub invariant_of-result : goal.invariant_of-result
invariant_of-result c =
    let l = c.args.self.now in
    record { walked = list_walked l.bytes.now l.accepted; contents = l.contents }
