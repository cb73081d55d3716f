-- `stream::inside::put_table_number` keeps its promise.
use Rattle.stream.proofs.Fields.{number-laid}
use Rattle.stream.proofs.inside.put_table_number.Goals as goal

pub returns : goal.returns
returns c = number-laid _ _ _ _ _ _ c.put_number.ensures c.lay_in_table.ensures
