-- `stream::descs::descriptors` keeps its promise.
use Rattle.stream.proofs.Fields.{slots_is}
use Rattle.stream.proofs.descs.descriptors.Goals as goal

pub returns : goal.returns
returns c = slots_is _ _ _ _ c.table.ensures c.saturating_sub.ensures
