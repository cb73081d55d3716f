-- `blocks::growth::root` keeps its promise.
use Rattle.std.proofs.Common.{arith}
use Rattle.std.proofs.lemmas.Grind.{common_steps}
use Rattle.layout.specs.Blocks.{rooted}
use Rattle.blocks.proofs.growth.root.Goals as goal

pub returns : goal.returns
unfolding rooted
returns c = grind (arith, common_steps)
