-- `stream::descs::set_table` keeps its promise.
use mathlib.Core.Path.{ap}
use Rattle.layout.specs.Streams.{table_set}
use Rattle.stream.proofs.descs.set_table.Goals as goal

pub returns : goal.returns
unfolding table_set
returns c = rw (ap (λ s. s.table) c.s.view_is) at c.put_fields.ensures
