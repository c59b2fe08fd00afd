-- `next_darts` meets its contract: the darts before d have theirs.
use Rattle.finite.proofs.Tables.{table_none}
use Rattle.embedding.proofs.order.Ordered.next_darts.Goals as goal

pub loop-d-init : goal.loop-d-init
loop-d-init c = table_none 256 _
