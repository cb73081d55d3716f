-- `blocks::chain::next` keeps its promise.
use Rattle.std.proofs.Common.{arith}
use Rattle.std.proofs.lemmas.Grind.{common_steps}
use Rattle.layout.specs.Blocks.{next}
use Rattle.blocks.proofs.chain.next.Goals as goal

pub returns : goal.returns
unfolding next
returns c = grind (arith, common_steps)
