-- `stream::inside::lay_in_stream` keeps its promise.
use Rattle.stream.proofs.Fields.{stream-laid}
use Rattle.stream.proofs.inside.lay_in_stream.Goals as goal

pub returns : goal.returns
returns c = stream-laid _ _ _ _ _ _ _ c.stream.ensures c.lay_stream.ensures
