-- `blocks::reader::reader` keeps its promise.
use mathlib.Core.Path.{refl}
use native.Mathlib.Nat.{pos_of_ne-zero}
use Rattle.std.proofs.Common.{arith}
use Rattle.std.proofs.lemmas.Grind.{common_steps}
use Rattle.layout.specs.Blocks.{node}
use Rattle.blocks.proofs.Near.{fan_two}
use Rattle.blocks.proofs.Descent.{node_down}
use Rattle.blocks.proofs.reader.+reader.Goals as goal

pub returns-then-h-eq0 : goal.returns-then-h-eq0
unfolding node
returns-then-h-eq0 t c = grind (arith, common_steps)

pub returns : goal.returns
returns t c = node_down _ _ (fan_two _ c.requires.1) _ _ _ _ _ _ _ (pos_of_ne-zero c.if-h-eq0.false) c.above.ensures.0 refl c.index-below.ensures.0 c.reader.ensures
