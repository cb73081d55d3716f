-- `blocks::places::slot_at` keeps its promise.
use Rattle.std.proofs.Common.{◌∙◌, ◌+◌, ◌*◌, arith}
use Rattle.blocks.proofs.Near.{num-near}
use Rattle.blocks.proofs.places.slot_at.Goals as goal

pub returns : goal.returns
returns c = (c.number.ensures.0 ∙ num-near c.args.card.now (omega arith) (c.args.at + 4 * c.args.j) _ (omega arith) 4, c.number.ensures.1)
