-- `stream::descs::stream` keeps its promise.
use Rattle.stream.proofs.Fields.{stream-read}
use Rattle.stream.proofs.descs.stream.Goals as goal

pub returns : goal.returns
returns c = stream-read _ _ _ _ _ _ _ c.table.ensures c.offset.ensures c.gather_stream.ensures c.descriptor.ensures
