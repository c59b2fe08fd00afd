-- `write_sum`: the sum in a field of its own, or nothing.
use Rattle.std.proofs.Common.{arith, ap, length}
use Rattle.plates.proofs.Sums.{sum_put, sum_left, sum_room}
use Rattle.plates.proofs.reading.WalkedList.write_sum.Goals as goal

pub write_field-requires : goal.write_field-requires
write_field-requires c =
    let room = sum_room c.args.self.now c.in-Some.is c.args.counts.rights.now in
    (omega (arith, c.requires, room, ap length c.four_bytes.ensures), omega (arith, ap length c.four_bytes.ensures))

pub returns-in-Some : goal.returns-in-Some
returns-in-Some c = sum_put c.args.self.now c.in-Some.is c.args.counts.rights.now _ _ c.price_of.ensures c.four_bytes.ensures c.write_field.ensures

pub returns-in-None : goal.returns-in-None
returns-in-None c = sum_left c.args.self.now c.in-None.is _ _ _
