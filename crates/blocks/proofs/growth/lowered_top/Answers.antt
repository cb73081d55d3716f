-- `blocks::growth::lowered_top` keeps its promise.
use Rattle.std.proofs.Common.{arith}
use Rattle.std.proofs.lemmas.Grind.{common_steps}
use Rattle.layout.specs.Blocks.{lowered_top}
use Rattle.blocks.proofs.growth.lowered_top.Goals as goal

pub returns-then-d2-eq0 : goal.returns-then-d2-eq0
unfolding lowered_top
returns-then-d2-eq0 c = grind (arith, common_steps)

pub returns : goal.returns
unfolding lowered_top
returns c = grind (arith, common_steps)
