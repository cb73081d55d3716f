-- `stream::inside::lay_in_table` keeps its promise.
use Rattle.stream.proofs.Fields.{table-laid}
use Rattle.stream.proofs.inside.lay_in_table.Goals as goal

pub returns : goal.returns
returns c = table-laid _ _ _ _ _ _ c.table.ensures c.lay_stream.ensures
