-- `stream::lengths::lengthen_table` keeps its promise.
use mathlib.Core.Path.{refl}
use Rattle.stream.proofs.Sizes.{table-longer}
use Rattle.stream.proofs.lengths.lengthen_table.Goals as goal

pub returns : goal.returns
returns c = let g = c.grow_for-body.ensures in table-longer _ _ _ _ _ _ _ _ g.0 g.1 g.2 c.table-t.ensures refl c.set_table.ensures
