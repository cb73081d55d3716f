-- `blocks::places::put_slot` keeps its promise.
use Rattle.std.proofs.Common.{◌∙◌, arith}
use Rattle.layout.specs.Blocks.{slot_place}
use Rattle.blocks.proofs.Near.{put-near}
use Rattle.blocks.proofs.places.put_slot.Goals as goal

pub returns : goal.returns
returns c = c.put_number.ensures ∙ put-near c.args.card.now (omega arith) (slot_place c.args.s c.args.b c.args.j) _ (omega arith) 4 c.args.v
