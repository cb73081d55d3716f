-- `blocks::growth::grow` keeps its promise.
use mathlib.Core.Path.{ap, ◌∙◌}
use native.Mathlib.Omega.{arith}
use Rattle.blocks.proofs.Growing.{grown_end, grown-step}
use Rattle.blocks.proofs.growth.grow.Goals as goal

pub loop-k-preserved : goal.loop-k-preserved
loop-k-preserved c = (grown-step _ _ _ _ _ _ _ _ (omega arith) c.grow_one-t.ensures.0 c.grow_one-t.ensures.1 ∙ c.loop-k.invariant.0, rw c.fan-f.ensures.0 at c.height-h-in-loop-k.ensures.0)

pub returns : goal.returns
returns c = let last = grown_end _ _ _ _ _ (omega arith) in
    (last.0 ∙ ap (λ g. g.top) c.loop-k.invariant.0, last.1 ∙ ap (λ g. g.card) c.loop-k.invariant.0)
