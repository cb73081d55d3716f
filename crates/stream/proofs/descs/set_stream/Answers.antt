-- `stream::descs::set_stream` keeps its promise.
use mathlib.Core.Path.{refl}
use Rattle.stream.proofs.Fields.{stream-set}
use Rattle.stream.proofs.descs.set_stream.Goals as goal

pub returns : goal.returns
returns c = stream-set _ _ _ _ c.args.s _ _ _ c.args.d _ c.offset.ensures c.put_fields.ensures refl c.lay_in_table.ensures
