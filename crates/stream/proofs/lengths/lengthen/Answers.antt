-- `stream::lengths::lengthen` keeps its promise.
use Rattle.stream.proofs.Sizes.{stream-longer}
use Rattle.stream.proofs.lengths.lengthen.Goals as goal

pub returns : goal.returns
returns c = let g = c.grow_for-body.ensures in stream-longer _ _ _ _ _ _ _ _ g.0 g.1 g.2 _ c.stream-t.ensures c.set_stream.ensures
