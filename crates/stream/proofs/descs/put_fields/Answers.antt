-- `stream::descs::put_fields` keeps its promise.
use mathlib.Core.Path.{ap}
use Rattle.stream.proofs.Fields.{three_fields}
use Rattle.stream.proofs.descs.put_fields.Goals as goal

pub returns : goal.returns
returns c = three_fields _ _ _ _ c.args.s _ _ _ c.args.d c.put_number.ensures c.put_number-2.ensures (rw (ap (λ s. s.size) c.s.view_is) at c.put_number-3.ensures)
