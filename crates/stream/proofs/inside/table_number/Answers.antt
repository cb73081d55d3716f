-- `stream::inside::table_number` keeps its promise.
use Rattle.stream.proofs.Fields.{table-num}
use Rattle.stream.proofs.inside.table_number.Goals as goal

pub returns : goal.returns
returns c = table-num _ _ _ _ _ _ c.table.ensures c.gather_stream.ensures c.number.ensures.0
