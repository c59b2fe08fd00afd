-- `main`: network k is sound, as each row of the table is.
use Rattle.std.proofs.Common.{refl}
use Rattle.networks.specs.declared.TheConstants.{NETWORKS}
use Rattle.networks.proofs.Rows.{row_sound, row_of}
use Rattle.networks.proofs.main.Goals as goal

pub run-requires : goal.run-requires
run-requires c = row_sound row_of NETWORKS refl c.loop-k.k _ c.loop-k-test.true
