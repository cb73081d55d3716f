-- `blocks::chain::take_block` keeps its promise.
use Rattle.std.proofs.Common.{ap, arith}
use Rattle.blocks.proofs.Near.{taken_is}
use Rattle.blocks.proofs.chain.take_block.Goals as goal

pub returns : goal.returns
returns c = (
  rw c.shape.ensures.0 at c.first_free-b.ensures,
  taken_is c.args.card.now c.args.s (omega arith) (rw c.shape.ensures.0 at c.first_free-b.ensures) c.next-after.ensures c.start.ensures (rw (ap (λ s. s.size) c.s.view_is) at c.clear.ensures)
      (rw (ap (λ s. s.first) c.s.view_is) at c.put_number.ensures),
)
