-- `blocks::reader::node` keeps its promise.
-- `blocks::reader::node` keeps its promise.
use mathlib.Core.Path.{ap, ◌∙◌}
use Rattle.blocks.proofs.Descent.{node-plain}
use Rattle.blocks.proofs.reader.node.Goals as goal

pub returns : goal.returns
returns c = c.reader.ensures ∙ rw (ap (λ s. s.base) c.s.view_is, ap (λ s. s.size) c.s.view_is) (node-plain _ c.args.s _ _ _)
