-- `write_fields` writes four fields and the sum, each where the one before it ended.
use Rattle.std.proofs.Common.{rules}
use Rattle.plates.proofs.FileRows.{file_written}
use Rattle.plates.proofs.reading.WalkedList.write_fields.Goals as goal

pub returns : goal.returns
returns c =
    file_written c.args.self.now c.args.counts c.requires.given (search rules) (search rules) c.requires.enough
    c.write_field-second.ensures c.write_field-second.auto.out c.write_field-third.ensures c.write_field-third.auto.out c.write_field-fourth.ensures c.write_field-fourth.auto.out c.write_field-fifth.ensures c.write_field-fifth.auto.out c.write_sum.ensures
