-- `stream::descs::descriptor` keeps its promise.
use Rattle.stream.proofs.Fields.{read-fields}
use Rattle.stream.proofs.descs.descriptor.Goals as goal

pub returns : goal.returns
returns c = read-fields _ _ _ _ _ _ _ c.number.ensures.0 c.number-2.ensures.0 c.number-3.ensures.0 c.byte.ensures c.from.ensures
