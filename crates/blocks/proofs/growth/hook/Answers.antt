-- `blocks::growth::hook` keeps its promise.
use Rattle.std.proofs.Common.{rules}
use Rattle.layout.specs.Blocks.{hooked}
use Rattle.blocks.proofs.growth.hook.Goals as goal

pub returns : goal.returns
unfolding hooked
returns c = search rules
