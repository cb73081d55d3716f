-- `stream::descs::table` keeps its promise.
use mathlib.Core.Path.{ap}
use Rattle.layout.specs.Streams.{table}
use Rattle.stream.proofs.descs.table.Goals as goal

pub returns : goal.returns
unfolding table
returns c = rw (ap (λ s. s.table) c.s.view_is) at c.descriptor.ensures
