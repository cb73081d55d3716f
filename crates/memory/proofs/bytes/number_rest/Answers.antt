-- `memory::bytes::number_rest` keeps its promise.
use Rattle.std.proofs.Common.{refl}
use Rattle.memory.proofs.Parts.{num_tail}
use Rattle.memory.proofs.bytes.number_rest.Goals as goal

pub returns : goal.returns
returns c = num_tail c.args.card.now c.args.at _ _ _ c.min.ensures refl c.joined.ensures
