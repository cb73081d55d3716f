-- `blocks::places::index` keeps its promise.
use Rattle.std.proofs.Common.{◌∙◌, ◌+◌, ◌*◌, arith}
use Rattle.blocks.proofs.Near.{num-near}
use Rattle.blocks.proofs.places.index.Goals as goal

pub returns : goal.returns
returns c =
    let at = c.args.base + c.args.b * c.args.size + 4 * c.args.j in
    (c.number.ensures.0 ∙ num-near c.args.card.now (omega arith) at _ (omega arith) 4, c.number.ensures.1)
